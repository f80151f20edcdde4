use Rattle.std.proofs.Common.{Some, Err, not, ◌∙◌, sym, subst, refl, ap, arith}
use Rattle.rx_rules.proofs.Common.{PlaceId, ScopeId, Tree}
use Rattle.rx_rules.specs.declared.tasks.Where.{Where}
use Rattle.rx_tree_laws.proofs.Reached.{sound}
use Rattle.rx_finish.specs.declared.ledger.LedgerFault.{LedgerFault}
use Rattle.rx_finish.specs.declared.ledger.LedgerFault.TheVariants.{NoMemory}
use Rattle.rx_finish.specs.Callers.{IsMoving}
use Rattle.rx_finish.specs.Calls.{CallReply}
use Rattle.rx_finish.proofs.Allowed.{Free}
use Rattle.rx_counts.specs.Stands.{StandsFor, more}
use Rattle.rx_counts.proofs.Asking.{was_lost, caller, unstruck, call_refused, same_records, wide}
use Rattle.rx_counts.proofs.Born.{finish_known}
use Rattle.rx_counts.proofs.Spawning.{start}
use Rattle.rx_counts.specs.Inside.Totalling.{more_scopes, more_tasks}
use Rattle.rx_counts.proofs.Totalling.{few_scopes, few_live}
use Rattle.rx_counts.proofs.Calling.{called_stands, call_ok}
use Rattle.rx_counts.proofs.ledger.CountLedgerFinishLedger.open_at.Goals as goal

pub returns-in-Some : goal.returns-in-Some
returns-in-Some c = λ room T s may. subst (λ (v : LedgerFault). CallReply T c.args.who c.args.to (Err v) (StandsFor c.args.self.now room)) (sym c.lost.ensures) (was_lost c.args.self.now T c.args.who IsMoving c.in-Some.blow s may.asks (sym c.blow_there.ensures ∙ c.in-Some.is), s)

pub returns-in_default-fresh : goal.returns-in_default-fresh
returns-in_default-fresh c = λ room T s may. call_refused T c.args.who c.args.to NoMemory (StandsFor c.args.self.now room) refl (unstruck c.args.self.now T c.args.who IsMoving s may.asks (sym c.blow_there.ensures ∙ c.in_default.is)) s

pub bear-requires : goal.bear-requires
bear-requires c =
    let T : Tree = c.requires.1 in
    let f : Free T c.args.who IsMoving = caller c.args.self.now T c.args.who IsMoving c.requires.2 c.requires.3.asks (sym c.blow_there.ensures ∙ c.in_default.is) in
    rw (c.travel-place.ensures, c.place_of-from.ensures)
    (call_ok T c.args.who c.args.to c.in-Ok.kept.sums (sound c.requires.2.reached) (wide c.args.self.now T c.requires.2) c.requires.2.has_room.few c.requires.3 f c.in-Ok.ensures.sums)

pub returns-in-Err : goal.returns-in-Err
returns-in-Err c = λ room T s may. call_refused T c.args.who c.args.to c.in-Err.fault _ c.in-Err.ensures.refused.0 (unstruck c.args.self.now T c.args.who IsMoving s may.asks (sym c.blow_there.ensures ∙ c.in_default.is)) (same_records c.args.self.now _ T s refl refl refl refl refl refl c.in-Err.ensures.refused.1)

pub returns : goal.returns
returns c = λ room T s may.
    let none = sym c.blow_there.ensures ∙ c.in_default.is in
    let f : Free T c.args.who IsMoving = caller c.args.self.now T c.args.who IsMoving s may.asks none in
    let fin = finish_known c.args.self.now T c.args.who IsMoving c.finish_of-finish.result s f c.finish_of-finish.ensures in
    let place = c.travel-place.ensures ∙ ap (λ (p : PlaceId). start p c.args.to) c.place_of-from.ensures in
    let new = c.in-Ok.ensures in
    called_stands c.args.self.now _ T c.args.who c.args.to _ _ _ c.in-Ok.kept.sums _ s may none f refl refl
    new.kind (new.home ∙ c.place_of-from.ensures) new.parent (fin ∙ ap (λ (v : ScopeId). Some v.0) (sym new.finish)) new.sums
    (ap not c.lives-is_lost.ensures) c.bear.ensures.lost (λ e. c.bear.ensures.joins e ∙ ap (λ (w : Where). more w c.in-Ok.kept.sums) place)
    new.body new.ends refl refl refl refl refl (c.started-self.ensures ∙ ap (λ (w : Where). more_tasks (not c.lives-is_lost.result) w (more_scopes c.args.self.now.totals)) place) c.in_default-push.ensures.pushed

pub overflow_add-self-3 : goal.overflow_add-self-3
overflow_add-self-3 c = let small = few_scopes c.args.self.now c.requires.1 c.requires.2 c.requires.3.asks.numbers.scopes in omega arith

pub started-self-requires : goal.started-self-requires
started-self-requires c = (few_live c.args.self.now c.requires.1 c.requires.2 c.requires.3.asks.numbers.tasks)
