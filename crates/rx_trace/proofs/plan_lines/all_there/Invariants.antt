use Rattle.std.proofs.Common.{◌≡◌, drop}
use Rattle.rx_trace.specs.Inside.Machine.{all_there}
use Rattle.rx_trace.proofs.plan_lines.all_there.Given as goal

-- what is left decides
abbrev pub invariant-loop-i : goal.invariant-loop-i
invariant-loop-i l = all_there l.places l.joins (drop l.i l.kills) ≡ all_there l.places l.joins l.kills
