use Rattle.std.proofs.Common.{◌≡◌, ℕ, true, List}
use Rattle.rx_rules.proofs.Common.{the_root, on_chain, tree_of}
use Rattle.rx_rules.specs.declared.entries.Entry.{Entry}
use Rattle.rx_coordinator.specs.Stands.{StandsAfter}
use Rattle.rx_coordinator.specs.Inside.Walks.{AllAbove}
use Rattle.rx_coordinator.proofs.parking.Parking.nearest.Given as goal

-- the scope leads to the root, and each one for which someone waits is above it
abbrev pub invariant-scopes : goal.invariant-scopes
invariant-scopes l =
    (p : ℕ) (es : List Entry) → StandsAfter l.self.core p es → on_chain (tree_of p es) the_root l.fn.from ≡ true → (on_chain (tree_of p es) the_root l.scope ≡ true) × AllAbove (tree_of p es) l.self.waiters l.fn.from l.scope

abbrev pub decreases-scopes : goal.decreases-scopes
decreases-scopes l = l.scope.0
