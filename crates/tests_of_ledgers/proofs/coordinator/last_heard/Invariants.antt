use Rattle.std.proofs.Common.{ℕ, List}
use Rattle.rx_rules.specs.declared.entries.Entry.{Entry}
use Rattle.rx_coordinator.specs.Parking.{Parks}
use Rattle.tests_of_ledgers.proofs.coordinator.last_heard.Given as goal

abbrev pub invariant-asks : goal.invariant-asks
invariant-asks l = (p : ℕ) × (es : List Entry) × Parks l.parking p es
