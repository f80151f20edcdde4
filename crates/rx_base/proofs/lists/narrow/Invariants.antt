use Rattle.std.proofs.Common.{◌≡◌, ◌≤◌, take, length}
use Rattle.rx_base.proofs.lists.narrow.Given as goal

-- what is written is what was passed
abbrev pub invariant-loop-number : goal.invariant-loop-number
invariant-loop-number l = (l.len ≤ length l.few) × (take l.len l.few ≡ take l.number-index l.numbers)
