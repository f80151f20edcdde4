use Rattle.std.proofs.Common.{Err, Some, not, ◌∙◌, sym, subst, refl, ap}
use Rattle.std.proofs.lemmas.Bool.{true≢false}
use Rattle.rx_rules.proofs.Common.{PlaceId, Tree}
use Rattle.rx_rules.specs.declared.tasks.Where.{Where}
use Rattle.rx_tree_laws.proofs.Reached.{sound}
use Rattle.rx_finish.specs.declared.ledger.LedgerFault.{LedgerFault}
use Rattle.rx_finish.specs.Callers.{IsMoving}
use Rattle.rx_finish.specs.Calls.{SpawnReply}
use Rattle.rx_finish.proofs.Allowed.{Free}
use Rattle.rx_counts.specs.Stands.{StandsFor, Changed, in_sums, more}
use Rattle.rx_counts.proofs.Asking.{was_lost, caller, keeper_some, keeper_found, keeper_known, none_kept, wide}
use Rattle.rx_counts.proofs.Born.{finish_known}
use Rattle.rx_counts.specs.Inside.Totalling.{more_tasks}
use Rattle.rx_counts.proofs.Totalling.{few_live}
use Rattle.rx_counts.proofs.Spawning.{bear_ok, spawned, start, finish_rooted}
use Rattle.rx_counts.proofs.ledger.CountLedgerFinishLedger.spawn.Goals as goal

pub returns-in-Some-clause-replies : goal.returns-in-Some-clause-replies
returns-in-Some-clause-replies c = λ room T s may. subst (λ (v : LedgerFault). SpawnReply T c.args.who c.args.to (Err v) (StandsFor c.args.self.now room)) (sym c.lost.ensures) (was_lost c.args.self.now T c.args.who IsMoving c.in-Some.blow s may.asks (sym c.blow_there.ensures ∙ c.in-Some.is), s)

pub bear-requires : goal.bear-requires
bear-requires c =
    let T : Tree = c.requires.1 in
    let f : Free T c.args.who IsMoving = caller c.args.self.now T c.args.who IsMoving c.requires.2 c.requires.3.asks (sym c.blow_there.ensures ∙ c.in_default.is) in
    let at = keeper_some c.args.self.now T c.finish_of-scope.result c.in-Some-keeper_of.keeper _ c.requires.2 refl c.in-Some-keeper_of.ensures in
    rw (c.travel-place.ensures, c.place_of-from.ensures)
    (bear_ok T c.args.who c.args.to c.args.self.now.scopes c.in-Some-keeper_of.keeper.0 (Some c.finish_of-scope.result) (sound c.requires.2.reached) (wide c.args.self.now T c.requires.2) c.requires.2.has_room.few c.requires.3 f at c.requires.2.fit.scopes)

pub returns-in_default-keeper_of-clause-replies : goal.returns-in_default-keeper_of-clause-replies
returns-in_default-keeper_of-clause-replies c = λ room T s may.
    let f : Free T c.args.who IsMoving = caller c.args.self.now T c.args.who IsMoving s may.asks (sym c.blow_there.ensures ∙ c.in_default.is) in
    let fin = finish_known c.args.self.now T c.args.who IsMoving c.finish_of-scope.result s f c.finish_of-scope.ensures in
    absurd (true≢false (sym (keeper_known T c.finish_of-scope.result (sound s.reached) (finish_rooted T c.args.who c.finish_of-scope.result (sound s.reached) f fin)) ∙ none_kept c.keeper_of.result _ c.in_default-keeper_of.is (keeper_found c.args.self.now T c.finish_of-scope.result c.keeper_of.result _ s refl c.keeper_of.ensures)))

pub returns-clause-replies : goal.returns-clause-replies
returns-clause-replies c = λ room T s may.
    let f : Free T c.args.who IsMoving = caller c.args.self.now T c.args.who IsMoving s may.asks (sym c.blow_there.ensures ∙ c.in_default.is) in
    let at = keeper_some c.args.self.now T c.finish_of-scope.result c.in-Some-keeper_of.keeper _ s refl c.in-Some-keeper_of.ensures in
    let fin = finish_known c.args.self.now T c.args.who IsMoving c.finish_of-scope.result s f c.finish_of-scope.ensures in
    let cell = c.travel-place.ensures ∙ ap (λ (p : PlaceId). start p c.args.to) c.place_of-from.ensures in
    spawned c.args.self.now _ T c.args.who c.args.to _ c.finish_of-scope.result c.in-Some-keeper_of.keeper.0 _ s may f refl fin at (ap not c.lives-is_lost.ensures) refl refl refl refl refl (c.started-self.ensures ∙ ap (λ (w : Where). more_tasks (not c.lives-is_lost.result) w c.args.self.now.totals) cell) c.bear.ensures.lost
    (λ e. subst (λ (w : Where). Changed (in_sums (more w)) c.in-Some-keeper_of.keeper.0 c.args.self.now.scopes c.bear.new.scopes) cell (c.bear.ensures.joins e))

pub started-self-requires : goal.started-self-requires
started-self-requires c = few_live c.args.self.now c.requires.1 c.requires.2 c.requires.3.asks.numbers.tasks
