use Rattle.std.proofs.Common.{ℕ, List}
use Rattle.rx_rules.specs.declared.entries.Entry.{Entry}
use Rattle.rx_coordinator.specs.Parking.{Parks}
use Rattle.tests_of_ledgers.proofs.coordinator.death_frees.Given as goal

abbrev pub invariant-tasks : goal.invariant-tasks
invariant-tasks g l = (p : ℕ) × (es : List Entry) × Parks l.parking p es
