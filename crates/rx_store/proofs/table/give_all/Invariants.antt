use Rattle.std.proofs.Common.{◌≡◌}
use Rattle.rx_store.specs.Table.{AllLive}
use Rattle.rx_store.proofs.table.give_all.Given as goal

abbrev pub invariant-loop-slot : goal.invariant-loop-slot
invariant-loop-slot l = record { live : AllLive l.heap l.slots.items; words : l.heap.words ≡ l.initial.heap.words }

abbrev pub decreases-loop-slot : goal.decreases-loop-slot
decreases-loop-slot l = goal.left-loop-slot l
