use Rattle.std.proofs.Common.{◌≡◌, ◌≤◌, take, length, vec_capacity}
use Rattle.rx_base.proofs.lists.add_all.Given as goal

-- the faults added so far, and there is room for the others
abbrev pub invariant-loop-i : goal.invariant-loop-i
invariant-loop-i l = (l.room.items ≡ take l.i l.fn.faults) × (length l.fn.faults ≤ vec_capacity l.room)
