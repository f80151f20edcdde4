use Rattle.std.proofs.Common.{Some}
use Rattle.rx_tree_laws.proofs.Releasing.{on_meets}
use Rattle.rx_tree_laws.proofs.walk_meets_chain.Goals as goal

pub returns : goal.returns
returns c = λ T s from. on_meets s T.scopes (Some from)
