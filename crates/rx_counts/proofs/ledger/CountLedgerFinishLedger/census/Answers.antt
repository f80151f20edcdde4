use Rattle.std.proofs.Common.{Err, ◌∙◌, sym, subst}
use Rattle.rx_finish.specs.declared.ledger.LedgerFault.{LedgerFault}
use Rattle.rx_finish.specs.Callers.{IsMoving}
use Rattle.rx_finish.specs.Calls.{CensusReply}
use Rattle.rx_finish.proofs.Allowed.{census_allowed}
use Rattle.rx_counts.proofs.Asking.{was_lost, unstruck}
use Rattle.rx_counts.proofs.ledger.CountLedgerFinishLedger.census.Goals as goal

pub returns-in-Some : goal.returns-in-Some
returns-in-Some c = λ room T s may. subst (λ (v : LedgerFault). CensusReply T c.args.who (Err v)) (sym c.lost.ensures) (was_lost c.args.self.now T c.args.who IsMoving c.in-Some.blow s may (sym c.blow_there.ensures ∙ c.in-Some.is))

pub returns-in-None : goal.returns-in-None
returns-in-None c = λ room T s may. census_allowed T c.args.who c.args.self.now.places s.reached may (unstruck c.args.self.now T c.args.who IsMoving s may (sym c.blow_there.ensures ∙ c.in-None.is)) s.fit.places
