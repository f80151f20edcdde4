use Rattle.std.proofs.Common.{◌≡◌, ◌++◌, drop}
use Rattle.std.specs.List.{flat_map}
use Rattle.rx_trace.specs.Fields.{natural_field}
use Rattle.rx_trace.proofs.text.put_moments.Given as goal

-- what is written and what is left are the whole
abbrev pub invariant-loop-i : goal.invariant-loop-i
invariant-loop-i l = l.out.items ++ flat_map natural_field (drop l.i l.joins) ≡ l.fn.out.items ++ flat_map natural_field l.joins
