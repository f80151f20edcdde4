use Rattle.rx_store.proofs.Holding.{all_live}
use Rattle.rx_store.proofs.blocks.Blocks.drop.Goals as goal

pub give_all-requires : goal.give_all-requires
give_all-requires c = all_live c.self.inside.heap c.self.inside.slots.items _ c.self.invariant.2.holds
