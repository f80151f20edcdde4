use Rattle.std.proofs.Common.{◌≡◌, take}
use Rattle.rx_control.proofs.path.write_base.Given as goal

-- what is written is what was passed
abbrev pub invariant-loop-number : goal.invariant-loop-number
invariant-loop-number l = take l.len l.room ≡ take l.number-index l.base
