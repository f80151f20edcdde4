use Rattle.std.proofs.Common.{◌<◌, ℕ, length}
use Rattle.rx_verify.specs.Events.{IsOf}
use Rattle.rx_verify.specs.Inside.Rows.{RowFrom}
use Rattle.rx_verify.proofs.table.Row.open.Given as goal

abbrev pub invariant-loop-e : goal.invariant-loop-e
invariant-loop-e l =
    ((t e : ℕ) → t < l.tasks → IsOf t l.journal.events e → t < length l.first.items)
    × RowFrom l.journal.events l.tasks l.e l.first.items l.next.items
