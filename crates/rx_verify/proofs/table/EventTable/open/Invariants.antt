use Rattle.std.proofs.Common.{◌≡◌, length}
use Rattle.rx_history.specs.Events.{events_of}
use Rattle.rx_verify.proofs.Rows.{RowsAre}
use Rattle.rx_verify.proofs.table.EventTable.open.Given as goal

abbrev pub invariant-loop-p : goal.invariant-loop-p
invariant-loop-p l = (length l.rows.items ≡ l.p) × RowsAre (events_of l.journals) l.tasks l.rows.items
