use Rattle.std.proofs.Common.{◌≡◌, ◌≤◌, None, replicate, vec_capacity}
use Rattle.rx_store.proofs.table.empty_table.Given as goal

abbrev pub invariant-loop : goal.invariant-loop
invariant-loop l = record { items : l.slots.items ≡ replicate l.counter None; room : l.words ≤ vec_capacity l.slots }
