-- A reached tree has no more places than there can be.
use Rattle.std.proofs.Common.{◌≤◌, length}
use Rattle.rx_rules.proofs.Common.{Tree, Reached}
use Rattle.rx_tree_laws.proofs.Reached.{sound}

pub places_few : {T : Tree} → Reached T → T.places ≤ length T.dead
places_few r = (sound r).few
