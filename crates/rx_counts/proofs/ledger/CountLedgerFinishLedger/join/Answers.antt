use Rattle.std.proofs.Common.{refl}
use Rattle.rx_counts.proofs.Joins.{joined}
use Rattle.rx_counts.proofs.ledger.CountLedgerFinishLedger.join.Goals as goal

pub returns : goal.returns
returns c = λ room T s may. joined c.args.self.now _ T c.args._place s may refl refl refl refl refl refl refl
