use Rattle.std.proofs.Common.{◌≡◌, ◌++◌, drop}
use Rattle.std.specs.List.{flat_map}
use Rattle.rx_trace.specs.Fields.{path_field}
use Rattle.rx_trace.proofs.parts.put_paths.Given as goal

-- what is written and what is left are the whole
abbrev pub invariant-loop-i : goal.invariant-loop-i
invariant-loop-i l = l.out.items ++ flat_map path_field (drop l.i l.batch) ≡ l.fn.out.items ++ flat_map path_field l.batch
