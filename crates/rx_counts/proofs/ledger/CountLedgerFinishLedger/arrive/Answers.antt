use Rattle.std.proofs.Common.{Err, ◌∙◌, sym, subst, refl, arith}
use Rattle.std.proofs.lemmas.Bool.{true≢false}
use Rattle.rx_rules.proofs.Common.{PlaceId, Tree}
use Rattle.rx_rules.specs.declared.tasks.Where.TheVariants.{At}
use Rattle.rx_tree_laws.proofs.Reached.{sound}
use Rattle.rx_finish.specs.declared.ledger.LedgerFault.{LedgerFault}
use Rattle.rx_finish.specs.Callers.{Travels}
use Rattle.rx_finish.specs.Calls.{ArriveReply, landing}
use Rattle.rx_finish.proofs.Allowed.{Free}
use Rattle.rx_counts.specs.Stands.{Changed, StandsFor, in_sums, more}
use Rattle.rx_counts.proofs.Asking.{was_lost, caller, keeper_found, keeper_some, keeper_known, scope_rooted, none_kept, wide}
use Rattle.rx_counts.proofs.Arriving.{take_ok, add_ok, arrived, one_landed}
use Rattle.rx_counts.proofs.Totalling.{few_live}
use Rattle.rx_counts.proofs.ledger.CountLedgerFinishLedger.arrive.Goals as goal

pub returns-in-Some : goal.returns-in-Some
returns-in-Some c = λ room T s may. subst (λ (v : LedgerFault). ArriveReply T c.args.who (Err v) (StandsFor c.args.self.now room)) (sym c.lost.ensures) (was_lost c.args.self.now T c.args.who Travels c.in-Some.blow s may (sym c.blow_there.ensures ∙ c.in-Some.is), s)

pub leave-requires : goal.leave-requires
leave-requires c =
    let T : Tree = c.requires.1 in
    let f : Free T c.args.who Travels = caller c.args.self.now T c.args.who Travels c.requires.2 c.requires.3 (sym c.blow_there.ensures ∙ c.in_default.is) in
    let at = keeper_some c.args.self.now T c.args.who.scope c.in-Some-keeper_of.keeper _ c.requires.2 refl c.in-Some-keeper_of.ensures in
    take_ok _ T c.args.who Travels c.args.self.now.scopes c.in-Some-keeper_of.keeper.0 (sound c.requires.2.reached) f at c.requires.2.fit.scopes

pub join-requires : goal.join-requires
join-requires c =
    let T : Tree = c.requires.1 in
    let f : Free T c.args.who Travels = caller c.args.self.now T c.args.who Travels c.requires.2 c.requires.3 (sym c.blow_there.ensures ∙ c.in_default.is) in
    let at = keeper_some c.args.self.now T c.args.who.scope c.in-Some-keeper_of.keeper _ c.requires.2 refl c.in-Some-keeper_of.ensures in
    rw c.landing_of.ensures
    (add_ok T c.args.who c.args.self.now.scopes c.leave.new.scopes c.in-Some-keeper_of.keeper.0 (sound c.requires.2.reached) (wide c.args.self.now T c.requires.2) c.requires.3.numbers.tasks f at c.leave.ensures c.requires.2.fit.scopes)

pub returns : goal.returns
returns c = λ room T s may.
    let f : Free T c.args.who Travels = caller c.args.self.now T c.args.who Travels s may (sym c.blow_there.ensures ∙ c.in_default.is) in
    let at = keeper_some c.args.self.now T c.args.who.scope c.in-Some-keeper_of.keeper _ s refl c.in-Some-keeper_of.ensures in
    arrived c.args.self.now _ T c.args.who c.leave.new.scopes c.in-Some-keeper_of.keeper.0 s may f at refl refl refl refl refl refl
    c.leave.ensures
    (subst (λ (p : PlaceId). Changed (in_sums (more (At p))) c.in-Some-keeper_of.keeper.0 c.leave.new.scopes c.join.new.scopes) c.landing_of.ensures c.join.ensures)

pub returns-in_default-keeper_of : goal.returns-in_default-keeper_of
returns-in_default-keeper_of c = λ room T s may.
    let f : Free T c.args.who Travels = caller c.args.self.now T c.args.who Travels s may (sym c.blow_there.ensures ∙ c.in_default.is) in
    absurd (true≢false (sym (keeper_known T c.args.who.scope (sound s.reached) (scope_rooted T c.args.who Travels (sound s.reached) f)) ∙ none_kept c.keeper_of.result _ c.in_default-keeper_of.is (keeper_found c.args.self.now T c.args.who.scope c.keeper_of.result _ s refl c.keeper_of.ensures)))

pub overflow_add-self : goal.overflow_add-self
overflow_add-self c = let small = (few_live c.args.self.now c.requires.1 c.requires.2 c.requires.3.numbers.tasks).0 in omega arith

pub overflow_sub-self : goal.overflow_sub-self
overflow_sub-self c =
    let T : Tree = c.requires.1 in
    let f : Free T c.args.who Travels = caller c.args.self.now T c.args.who Travels c.requires.2 c.requires.3 (sym c.blow_there.ensures ∙ c.in_default.is) in
    (one_landed c.args.self.now T c.args.who (λ y. record y { place = At (landing c.args.who.place) }) f c.requires.2 f.unstruck refl).0
