use Rattle.std.proofs.Common.{ℕ, ◌<◌, length}
use Rattle.rx_rules.proofs.Common.{journal_at}
use Rattle.rx_history.specs.Events.{events_of}
use Rattle.rx_verdict.specs.Flaws.{IsSound}
use Rattle.rx_verdict.proofs.flaws.first_flaw.Given as goal

abbrev pub invariant-loop-p : goal.invariant-loop-p
invariant-loop-p l =
    (q f : ℕ) → q < l.p → f < length (journal_at (events_of l.journals) q)
    → IsSound l.history.setup.heap l.history.entries (events_of l.journals) l.marks q f
