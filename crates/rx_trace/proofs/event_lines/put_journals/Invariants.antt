use Rattle.std.proofs.Common.{◌≡◌, ◌++◌, drop, map}
use Rattle.rx_history.specs.Events.{events_of}
use Rattle.rx_trace.specs.EventLines.{journals_lines}
use Rattle.rx_trace.proofs.event_lines.put_journals.Given as goal

-- what is written and what is left are the whole
abbrev pub invariant-loop-p : goal.invariant-loop-p
invariant-loop-p l = l.out.items ++ journals_lines l.p (map (λ k. k.events) (drop l.p l.j.journals)) ≡ l.fn.out.items ++ journals_lines 0 (events_of l.j)
