use Rattle.std.proofs.Common.{◌≡◌, ◌++◌, drop}
use Rattle.rx_trace.specs.EntryLines.{entry_lines}
use Rattle.rx_trace.proofs.entry_lines.put_entries.Given as goal

-- what is written and what is left are the whole
abbrev pub invariant-loop-i : goal.invariant-loop-i
invariant-loop-i l = l.out.items ++ entry_lines l.i (drop l.i l.h.entries) ≡ l.fn.out.items ++ entry_lines 0 l.h.entries
