use Rattle.std.proofs.Common.{◌≤◌, ◌<◌, ℕ}
use Rattle.rx_verify.specs.Events.{IsOf}
use Rattle.rx_verify.proofs.table.tasks_of.Given as goal

abbrev pub invariant-loop-e : goal.invariant-loop-e
invariant-loop-e l = (l.count ≤ l.tasks) × ((t e : ℕ) → e < l.e → t < l.tasks → IsOf t l.journal.events e → t < l.count)
