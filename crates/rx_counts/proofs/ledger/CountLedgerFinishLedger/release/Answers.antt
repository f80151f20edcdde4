use Rattle.std.proofs.Common.{Err, ◌∙◌, sym, subst}
use Rattle.rx_rules.proofs.Common.{Tree}
use Rattle.rx_finish.specs.declared.ledger.LedgerFault.{LedgerFault}
use Rattle.rx_finish.specs.Callers.{WaitsInside}
use Rattle.rx_finish.specs.Calls.{ReleaseReply}
use Rattle.rx_finish.proofs.Allowed.{Free}
use Rattle.rx_counts.specs.Stands.{StandsFor}
use Rattle.rx_counts.proofs.Asking.{was_lost, caller}
use Rattle.rx_counts.proofs.Readying.{last_of}
use Rattle.rx_counts.proofs.Outgoing.{released}
use Rattle.rx_counts.proofs.ledger.CountLedgerFinishLedger.release.Goals as goal

pub returns-in-Some : goal.returns-in-Some
returns-in-Some c = λ room T s may. subst (λ (v : LedgerFault). ReleaseReply T c.args.who (Err v) (StandsFor c.args.self.now room)) (sym c.lost.ensures) (was_lost c.args.self.now T c.args.who (WaitsInside T c.args.who) c.in-Some.blow s may (sym c.blow_there.ensures ∙ c.in-Some.is), s)

pub free-requires : goal.free-requires
free-requires c =
    let T : Tree = c.requires.1 in
    (c.requires.0, T, c.requires.2, last_of c.args.self.now T c.args.who c.requires.2 (caller c.args.self.now T c.args.who (WaitsInside T c.args.who) c.requires.2 c.requires.3 (sym c.blow_there.ensures ∙ c.in_default.is)))

pub returns : goal.returns
returns c = λ room T s may.
    let f : Free T c.args.who (WaitsInside T c.args.who) = caller c.args.self.now T c.args.who (WaitsInside T c.args.who) s may (sym c.blow_there.ensures ∙ c.in_default.is) in
    released T c.args.who c.free.result _ c.args.self.now s may f (c.free.ensures room T s (last_of c.args.self.now T c.args.who s f))
