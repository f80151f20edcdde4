use Rattle.std.proofs.Common.{◌≡◌, ℕ, ◌<◌, length, get_or}
use Rattle.rx_base.proofs.lists.widen.Given as goal

-- the room has as many numbers as it had, and the first are those that were passed
abbrev pub invariant-loop-i : goal.invariant-loop-i
invariant-loop-i l = (length l.room ≡ 7) × ((k : ℕ) → k < l.i → get_or l.room k 0 ≡ get_or l.few k 0)
