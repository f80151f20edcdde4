use Rattle.rx_tree_laws.proofs.Reached.{sound}
use Rattle.rx_tree_laws.proofs.reached_is_sound.Goals as goal

pub returns : goal.returns
returns c = λ T h. sound h
