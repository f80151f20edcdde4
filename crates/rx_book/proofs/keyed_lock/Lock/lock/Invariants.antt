use Rattle.std.proofs.Common.{◌≡◌, []}
use Rattle.rx_book.specs.Latched.{idle}
use Rattle.rx_book.proofs.keyed_lock.Lock.lock.Given as goal

abbrev pub invariant-loop : goal.invariant-loop
invariant-loop g l = (l.seat.table_id ≡ l.initial.seat.table_id) × (l.seat.me ≡ (idle l.shared.key, []))
