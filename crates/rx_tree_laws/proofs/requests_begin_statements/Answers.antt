use Rattle.rx_tree_laws.proofs.Beginning.{begins-so}
use Rattle.rx_tree_laws.proofs.Silent.{silent_so}
use Rattle.rx_tree_laws.proofs.requests_begin_statements.Goals as goal

pub returns : goal.returns
returns c = λ vars here t. (begins-so vars here t, silent_so vars here t)
