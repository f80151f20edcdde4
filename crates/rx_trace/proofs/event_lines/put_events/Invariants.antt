use Rattle.std.proofs.Common.{◌≡◌, ◌++◌, drop}
use Rattle.rx_trace.specs.EventLines.{event_lines}
use Rattle.rx_trace.proofs.event_lines.put_events.Given as goal

-- what is written and what is left are the whole
abbrev pub invariant-loop-i : goal.invariant-loop-i
invariant-loop-i l = l.out.items ++ event_lines l.i (drop l.i l.journal.events) ≡ l.fn.out.items ++ event_lines 0 l.journal.events
