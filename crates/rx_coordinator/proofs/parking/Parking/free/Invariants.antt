use Rattle.std.proofs.Common.{◌≡◌, ◌⊎◌, ℕ, ◌≤◌, List, Some, None}
use Rattle.rx_rules.specs.declared.entries.Entry.{Entry}
use Rattle.rx_rules.proofs.Common.{tree_of}
use Rattle.rx_coordinator.specs.declared.waiters.Waiter.{Waiter}
use Rattle.rx_coordinator.specs.Stands.{May}
use Rattle.rx_coordinator.specs.Waiters.{waiter_at, ScopeIsDue}
use Rattle.rx_coordinator.specs.Parking.{Parks, request_of}
use Rattle.rx_coordinator.proofs.parking.Parking.free.Given as goal

-- nothing but who waits has changed: nobody has come, and those who left are before all that are due
abbrev pub invariant-turns : goal.invariant-turns
invariant-turns l = record {
  on : (p : ℕ) (es : List Entry) → Parks l.fn.self p es → Parks l.self p es;
  rows : (p : ℕ) (es : List Entry) → Parks l.fn.self p es → (m : ℕ)
      → (waiter_at l.self.waiters m ≡ waiter_at l.fn.self.waiters m)
      ⊎ ((who : Waiter) × (waiter_at l.fn.self.waiters m ≡ Some who) × (May (tree_of p es) (request_of who) → ⊥)
      × (waiter_at l.self.waiters m ≡ None) × ((k : ℕ) → ScopeIsDue l.self.due k → m ≤ k));
}
