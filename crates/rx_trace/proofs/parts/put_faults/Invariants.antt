use Rattle.std.proofs.Common.{◌≡◌, ◌++◌, drop}
use Rattle.std.specs.List.{flat_map}
use Rattle.rx_trace.specs.Fields.{fault_field}
use Rattle.rx_trace.proofs.parts.put_faults.Given as goal

-- what is written and what is left are the whole
abbrev pub invariant-loop-i : goal.invariant-loop-i
invariant-loop-i l = l.out.items ++ flat_map fault_field (drop l.i l.faults) ≡ l.fn.out.items ++ flat_map fault_field l.faults
