use Rattle.rx_chronicle.specs.Requests.{tree_told}
use Rattle.rx_chronicle.proofs.Granting.{room, seen}
use Rattle.rx_chronicle.proofs.chronicle.Chronicle.ready.Goals as goal

pub returns : goal.returns
returns g c =
    let now = c.args.self.now in
    let k = seen c.self.view_is c.self.invariant in
    c.ready.ensures (room now) (tree_told now) k.tree c.requires
