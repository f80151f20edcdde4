use Rattle.std.proofs.Common.{◌≡◌, drop}
use Rattle.rx_trace.specs.Inside.Machine.{may_follow}
use Rattle.rx_trace.proofs.plan_lines.follows.Given as goal

-- what is left decides
abbrev pub invariant-loop-i : goal.invariant-loop-i
invariant-loop-i l = may_follow (drop l.i l.kills) l.kill ≡ may_follow l.kills l.kill
