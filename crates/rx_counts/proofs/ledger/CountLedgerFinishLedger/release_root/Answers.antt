use Rattle.rx_tree_laws.proofs.Reached.{sound}
use Rattle.rx_counts.proofs.Lasting.{root_last}
use Rattle.rx_counts.proofs.Outgoing.{root_released}
use Rattle.rx_counts.proofs.ledger.CountLedgerFinishLedger.release_root.Goals as goal

pub free-requires : goal.free-requires
free-requires c = (c.requires.0, c.requires.1, c.requires.2, root_last c.requires.1 (sound c.requires.2.reached) c.requires.3)

pub returns : goal.returns
returns c = λ room T s may. root_released T c.free.result _ c.args.self.now s may (c.free.ensures room T s (root_last T (sound s.reached) may))
