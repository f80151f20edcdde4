use Rattle.std.proofs.Common.{◌≤◌, ◌-◌}
use Rattle.rx_rules.proofs.Common.{journal_at}
use Rattle.rx_history.specs.Events.{events_of}
use Rattle.rx_verify.specs.Events.{IsFirst}
use Rattle.rx_verify.specs.Marked.{MarksUsed}
use Rattle.rx_verify.proofs.marking.mark_used.Given as goal

abbrev pub invariant-loop-at : goal.invariant-loop-at
invariant-loop-at l =
    record {
      past : l.from ≤ l.at;
      within : l.at ≤ l.seat.position;
      first : IsFirst l.seat.who.task.0 (journal_at (events_of l.journals) l.seat.home.0) l.at l.at;
      marks : MarksUsed (events_of l.journals) l.initial.marks l.marks l.seat.home.0 l.seat.who.task.0 l.from l.at l.seat.low l.last;
    }

abbrev pub decreases-loop-at : goal.decreases-loop-at
decreases-loop-at l = l.seat.position - l.at
