use Rattle.rx_tree_laws.proofs.Waiting.{openers_older}
use Rattle.rx_tree_laws.proofs.openers_are_older.Goals as goal

pub returns : goal.returns
returns c = openers_older
