use Rattle.std.proofs.Common.{take}
use Rattle.rx_verdict.specs.Inside.Replayed.{Replayed}
use Rattle.rx_verdict.proofs.replay.lawful_events.Given as goal

abbrev pub invariant-loop-i : goal.invariant-loop-i
invariant-loop-i l = Replayed l.heap l.blocks l.last l.closed (take l.i l.journal.events)
