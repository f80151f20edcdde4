use Rattle.std.proofs.Common.{◌≡◌, ◌++◌, drop}
use Rattle.std.specs.List.{flat_map}
use Rattle.rx_trace.specs.Fields.{kill_field}
use Rattle.rx_trace.proofs.text.put_kill_fields.Given as goal

-- what is written and what is left are the whole
abbrev pub invariant-loop-i : goal.invariant-loop-i
invariant-loop-i l = l.out.items ++ flat_map kill_field (drop l.i l.kills) ≡ l.fn.out.items ++ flat_map kill_field l.kills
