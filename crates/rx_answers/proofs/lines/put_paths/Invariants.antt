use Rattle.std.proofs.Common.{◌≡◌, ◌++◌, drop}
use Rattle.std.specs.List.{flat_map}
use Rattle.rx_answers.specs.Lines.{path_line}
use Rattle.rx_answers.proofs.lines.put_paths.Given as goal

-- what is written and what is left are the whole
abbrev pub invariant-loop-i : goal.invariant-loop-i
invariant-loop-i l = l.out.items ++ flat_map path_line (drop l.i l.paths) ≡ l.fn.out.items ++ flat_map path_line l.paths
