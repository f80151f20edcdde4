use Rattle.std.proofs.Common.{◌≡◌, take}
use Rattle.rx_history.specs.Events.{events_of}
use Rattle.rx_verdict.specs.Marked.{no_marks}
use Rattle.rx_verdict.proofs.marks.Marks.open.Given as goal

abbrev pub invariant-loop-p : goal.invariant-loop-p
invariant-loop-p l = l.rows.items ≡ no_marks (take l.p (events_of l.journals))
