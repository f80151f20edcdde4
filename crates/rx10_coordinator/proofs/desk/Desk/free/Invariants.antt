use Rattle.std.proofs.Common.{ℕ, List, Option}
use Rattle.rx_finish.specs.declared.ledger.Outcome.{Outcome}
use Rattle.rx_coordinator.specs.declared.waiters.Waiter.{Waiter}
use Rattle.rx_lines.specs.Session.{Between, FreesEach, freed_lines}
use Rattle.rx_lines.specs.Inside.Telling.{Puts}
use Rattle.rx10_coordinator.specs.Inside.Logging.{IsLogged}
use Rattle.rx10_coordinator.specs.Inside.Desk.{DeskInvariant}
use Rattle.rx10_coordinator.proofs.desk.Desk.free.Given as goal

-- these were possible so far; the lines of their entries are written, and they are told
abbrev pub invariant-freed : goal.invariant-freed
invariant-freed g l =
    (p : ℕ) (b : Between) → DeskInvariant p b l.fn.self.parking
    → (xs : List (Waiter × Outcome)) × (c : Between) × FreesEach p b xs c × DeskInvariant p c l.self.parking
    × ((x : Option (List ℕ)) (h : ℕ) → IsLogged x h (g.L.Sink.written l.fn.log) (g.L.Sink.faults l.fn.log) l.fn.self.log b.entries
    → IsLogged x h (g.L.Sink.written l.log) (g.L.Sink.faults l.log) l.self.log c.entries)
    × Puts g.K.Sink.written g.K.Sink.faults l.fn.out l.fn.self.pending l.out l.self.pending (freed_lines xs)
