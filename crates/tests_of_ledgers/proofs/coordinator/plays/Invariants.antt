use Rattle.std.proofs.Common.{ℕ, List}
use Rattle.rx_rules.specs.declared.entries.Entry.{Entry}
use Rattle.rx_coordinator.specs.Parking.{Parks}
use Rattle.tests_of_ledgers.proofs.coordinator.plays.Given as goal

abbrev pub invariant-rows : goal.invariant-rows
invariant-rows g l = (p : ℕ) × (es : List Entry) × Parks l.parking p es
