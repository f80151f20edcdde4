-- Who waits for which scope.
use Rattle.std.specs.Prelude.{◌≡◌, ℕ, ◌≤◌, Option}
use Rattle.std.specs.Ordering.{nat_cmp}
use Rattle.std.specs.BTreeMap.{get}
use Rattle.rx_coordinator.specs.declared.waiters.Waiter.{Waiter}
use Rattle.rx_coordinator.specs.declared.waiters.Waiters.{Waiters}
use Rattle.rx_coordinator.specs.declared.waiters.Due.{Due}
use Rattle.rx_coordinator.specs.declared.waiters.Due.TheVariants.{Nothing, One, From}

-- who waits for the scope of a number
abbrev pub waiter_at : Waiters → ℕ → Option Waiter
waiter_at ws q = get nat_cmp ws.rows q

-- the scope of this number is to be looked at
abbrev pub ScopeIsDue : Due → ℕ → Type 0
ScopeIsDue Nothing q = ⊥
ScopeIsDue (One s) q = q ≡ s.0
ScopeIsDue (From s) q = s.0 ≤ q
