use Rattle.std.proofs.Common.{◌≡◌, ◌++◌, drop}
use Rattle.std.specs.List.{flat_map}
use Rattle.rx_monitor.specs.Text.{line}
use Rattle.rx_monitor.proofs.text.put_lines.Given as goal

-- what is written and what is left are the whole
abbrev pub invariant-loop-i : goal.invariant-loop-i
invariant-loop-i l = l.out.items ++ flat_map line (drop l.i l.items) ≡ l.fn.out.items ++ flat_map line l.items
