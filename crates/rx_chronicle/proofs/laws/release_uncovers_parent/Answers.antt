use Rattle.rx_chronicle.proofs.Uncovers.{uncovers}
use Rattle.rx_chronicle.proofs.laws.release_uncovers_parent.Goals as goal

pub returns : goal.returns
returns c = uncovers
