use Rattle.std.proofs.Common.{Err, ◌∙◌, sym, subst, refl, arith}
use Rattle.rx_finish.specs.declared.ledger.LedgerFault.{LedgerFault}
use Rattle.rx_finish.specs.declared.ledger.LedgerFault.TheVariants.{NoMemory}
use Rattle.rx_finish.specs.Callers.{IsMoving}
use Rattle.rx_finish.specs.Calls.{OpenReply}
use Rattle.rx_counts.specs.Stands.{StandsFor}
use Rattle.rx_counts.proofs.Asking.{was_lost, caller, unstruck, same_records, open_refused}
use Rattle.rx_counts.proofs.Born.{opened_stands}
use Rattle.rx_counts.proofs.Totalling.{few_scopes}
use Rattle.rx_counts.proofs.ledger.CountLedgerFinishLedger.open_finish.Goals as goal

pub returns-in-Some : goal.returns-in-Some
returns-in-Some c = λ room T s may. subst (λ (v : LedgerFault). OpenReply T c.args.who (Err v) (StandsFor c.args.self.now room)) (sym c.lost.ensures) (was_lost c.args.self.now T c.args.who IsMoving c.in-Some.blow s may (sym c.blow_there.ensures ∙ c.in-Some.is), s)

pub returns-in_default-fresh : goal.returns-in_default-fresh
returns-in_default-fresh c = λ room T s may. open_refused T c.args.who NoMemory (StandsFor c.args.self.now room) refl (unstruck c.args.self.now T c.args.who IsMoving s may (sym c.blow_there.ensures ∙ c.in_default.is)) s

pub returns-in-Err : goal.returns-in-Err
returns-in-Err c = λ room T s may.
    open_refused T c.args.who c.in-Err.fault _ c.in-Err.ensures.refused.0 (unstruck c.args.self.now T c.args.who IsMoving s may (sym c.blow_there.ensures ∙ c.in_default.is)) (same_records c.args.self.now _ T s refl refl refl refl refl refl c.in-Err.ensures.refused.1)

pub returns : goal.returns
returns c = λ room T s may.
    let none = sym c.blow_there.ensures ∙ c.in_default.is in
    let new = c.in-Ok.ensures in
    opened_stands c.args.self.now _ T c.args.who _ c.in-Ok.kept s may none (caller c.args.self.now T c.args.who IsMoving s may none) refl
    new.kind (new.home ∙ c.place_of-home.ensures) new.parent new.finish new.sums new.body new.ends refl refl refl refl refl refl c.in_default-push.ensures.pushed

pub overflow_add-self-2 : goal.overflow_add-self-2
overflow_add-self-2 c = let small = few_scopes c.args.self.now c.requires.1 c.requires.2 c.requires.3.numbers.scopes in omega arith
