use Rattle.std.proofs.Common.{ℕ, ◌<◌}
use Rattle.rx_history.specs.Events.{events_of}
use Rattle.rx_verdict.specs.Verdicts.{IsShut}
use Rattle.rx_verdict.proofs.closes.first_unclosed.Given as goal

abbrev pub invariant-loop-p : goal.invariant-loop-p
invariant-loop-p l = (q : ℕ) → q < l.p → IsShut l.history.entries (events_of l.journals) q
