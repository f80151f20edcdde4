use Rattle.std.proofs.Common.{ℕ, ◌<◌, Bool, cond, length, Err, ◌∙◌, sym, ap, subst, refl}
use Rattle.std.proofs.lemmas.Bool.{true≢false}
use Rattle.rx_tree_laws.proofs.Reached.{sound}
use Rattle.rx_rules.proofs.Common.{Tree}
use Rattle.rx_finish.specs.declared.ledger.LedgerFault.{LedgerFault}
use Rattle.rx_finish.specs.Callers.{IsBare}
use Rattle.rx_finish.specs.Calls.{EndReply}
use Rattle.rx_finish.proofs.Allowed.{Free}
use Rattle.rx_counts.specs.Stands.{StandsFor, Changed, MayLeave, in_sums, masking, ends_if}
use Rattle.rx_counts.proofs.Asking.{was_lost, unstruck, caller, keeper_some, keeper_found, keeper_known, scope_rooted, scope_kept, none_kept}
use Rattle.rx_counts.proofs.Arriving.{take_ok}
use Rattle.rx_counts.proofs.Ending.{changed_sums, may_leave, ended, end_unchanged, one_ended}
use Rattle.rx_counts.proofs.ledger.CountLedgerFinishLedger.end.Goals as goal

pub returns-in-Some : goal.returns-in-Some
returns-in-Some c = λ room T s may. subst (λ (v : LedgerFault). EndReply T c.args.who c.args.thrown (Err (v, c.args.thrown)) (StandsFor c.args.self.now room)) (sym c.lost.ensures) (was_lost c.args.self.now T c.args.who (IsBare T c.args.who) c.in-Some.blow s may (sym c.blow_there.ensures ∙ c.in-Some.is), refl, s)

pub returns-in_default-keeper_of : goal.returns-in_default-keeper_of
returns-in_default-keeper_of c = λ room T s may.
    let f : Free T c.args.who (IsBare T c.args.who) = caller c.args.self.now T c.args.who (IsBare T c.args.who) s may (sym c.blow_there.ensures ∙ c.in_default.is) in
    absurd (true≢false (sym (keeper_known T c.args.who.scope (sound s.reached) (scope_rooted T c.args.who (IsBare T c.args.who) (sound s.reached) f)) ∙ none_kept c.keeper_of.result _ c.in_default-keeper_of.is (keeper_found c.args.self.now T c.args.who.scope c.keeper_of.result _ s refl c.keeper_of.ensures)))

pub note_ends-requires : goal.note_ends-requires
note_ends-requires c =
    let T : Tree = c.requires.1 in
    let f : Free T c.args.who (IsBare T c.args.who) = caller c.args.self.now T c.args.who (IsBare T c.args.who) c.requires.2 c.requires.3 (sym c.blow_there.ensures ∙ c.in_default.is) in
    (scope_kept c.args.self.now T c.args.who (IsBare T c.args.who) c.requires.2 f).low

pub returns-in-Err : goal.returns-in-Err
returns-in-Err c = λ room T s may. (
  unstruck c.args.self.now T c.args.who (IsBare T c.args.who) s may (sym c.blow_there.ensures ∙ c.in_default.is),
  c.in-Err.ensures.refused.0,
  end_unchanged c.args.self.now _ T c.args.who s refl refl refl refl refl refl c.in-Err.ensures.refused.1,
)

pub leave-requires : goal.leave-requires
leave-requires c =
    let T : Tree = c.requires.1 in
    let f : Free T c.args.who (IsBare T c.args.who) = caller c.args.self.now T c.args.who (IsBare T c.args.who) c.requires.2 c.requires.3 (sym c.blow_there.ensures ∙ c.in_default.is) in
    let at = keeper_some c.args.self.now T c.args.who.scope c.in-Some-keeper_of.keeper _ c.requires.2 refl c.in-Some-keeper_of.ensures in
    let ok = take_ok _ T c.args.who (IsBare T c.args.who) c.args.self.now.scopes c.in-Some-keeper_of.keeper.0 (sound c.requires.2.reached) f at c.requires.2.fit.scopes in
    let noted = c.in_default-note_ends.ensures.noted in (
      subst (λ (n : ℕ). c.in-Some-keeper_of.keeper.0 < n) (sym (c.mask.ensures.len ∙ noted.len)) ok.0,
      may_leave c.args.who.place c.dropped_by-dropped.result c.in-Some-keeper_of.keeper.0 c.note_ends.new.scopes c.mask.new.scopes c.mask.ensures
          (changed_sums (MayLeave c.args.who.place) (ends_if c.eq-keeps.result c.args.thrown) c.args.who.scope.0 c.in-Some-keeper_of.keeper.0 c.args.self.now.scopes c.note_ends.new.scopes (λ r. refl) noted ok.1),
    )

pub mask-requires : goal.mask-requires
mask-requires c =
    let T : Tree = c.requires.1 in
    let f : Free T c.args.who (IsBare T c.args.who) = caller c.args.self.now T c.args.who (IsBare T c.args.who) c.requires.2 c.requires.3 (sym c.blow_there.ensures ∙ c.in_default.is) in
    let at = keeper_some c.args.self.now T c.args.who.scope c.in-Some-keeper_of.keeper _ c.requires.2 refl c.in-Some-keeper_of.ensures in
    let ok = take_ok _ T c.args.who (IsBare T c.args.who) c.args.self.now.scopes c.in-Some-keeper_of.keeper.0 (sound c.requires.2.reached) f at c.requires.2.fit.scopes in
    subst (λ (n : ℕ). c.in-Some-keeper_of.keeper.0 < n) (sym c.in_default-note_ends.ensures.noted.len) ok.0

pub returns : goal.returns
returns c = λ room T s may.
    let f : Free T c.args.who (IsBare T c.args.who) = caller c.args.self.now T c.args.who (IsBare T c.args.who) s may (sym c.blow_there.ensures ∙ c.in_default.is) in
    let at = keeper_some c.args.self.now T c.args.who.scope c.in-Some-keeper_of.keeper _ s refl c.in-Some-keeper_of.ensures in
    ended c.args.self.now _ T c.args.who c.args.thrown c.in-Some-keeper_of.keeper c.note_ends.new.scopes c.mask.new.scopes s may f at refl refl refl refl refl refl
    (subst (λ (b : Bool). Changed (ends_if b c.args.thrown) c.args.who.scope.0 c.args.self.now.scopes c.note_ends.new.scopes) c.eq-keeps.ensures c.in_default-note_ends.ensures.noted)
    (subst (λ (n : ℕ). Changed (in_sums (masking n)) c.in-Some-keeper_of.keeper.0 c.note_ends.new.scopes c.mask.new.scopes) (c.dropped_by-dropped.ensures ∙ ap (λ b. cond b 0 (length c.args.thrown)) c.eq-keeps.ensures) c.mask.ensures)
    c.leave.ensures

pub overflow_sub-self : goal.overflow_sub-self
overflow_sub-self c =
    let T : Tree = c.requires.1 in
    let f : Free T c.args.who (IsBare T c.args.who) = caller c.args.self.now T c.args.who (IsBare T c.args.who) c.requires.2 c.requires.3 (sym c.blow_there.ensures ∙ c.in_default.is) in
    (one_ended c.args.self.now T c.args.who f c.requires.2).0
