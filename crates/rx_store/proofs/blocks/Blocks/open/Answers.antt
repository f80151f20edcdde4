use Rattle.rx_rules.proofs.Common.{opening_state}
use Rattle.rx_store.proofs.Telling.{stands_open}
use Rattle.rx_store.proofs.blocks.Blocks.open.Goals as goal

pub invariant_of-result : goal.invariant_of-result
invariant_of-result c = (c.args.words, opening_state, stands_open _ _ c.args.words c.in_ok-heap.ensures.words c.in_ok-heap.ensures.none_live c.in_ok-heap.ensures.laid c.in_ok-slots.ensures)
