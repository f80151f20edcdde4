use Rattle.rx_tree_laws.proofs.Granting.{release_held, held-releases}
use Rattle.rx_tree_laws.proofs.waiting_tasks_release.Goals as goal

pub returns : goal.returns
returns c = λ vars here t. (release_held vars here t, held-releases vars here t)
