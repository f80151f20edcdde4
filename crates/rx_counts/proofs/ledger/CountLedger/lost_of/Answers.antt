use Rattle.rx_counts.proofs.Counts.{lost_told, scope_missing}
use Rattle.rx_counts.proofs.ledger.CountLedger.lost_of.Goals as goal

pub returns-in-Some : goal.returns-in-Some
returns-in-Some c = λ room T s h. lost_told c.args.self.now T c.args.s c.in-Some.kept.now s h c.in-Some.ensures

pub returns-in-None : goal.returns-in-None
returns-in-None c = λ room T s h. absurd (scope_missing c.args.self.now T c.args.s s h c.in-None.ensures)
