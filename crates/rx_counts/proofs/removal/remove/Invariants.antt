use Rattle.std.proofs.Common.{◌≡◌, ℕ, ◌<◌, ◌≤◌, ◌+◌, None, length, cond, Some}
use Rattle.rx_rules.proofs.Common.{ScopeId, Tree}
use Rattle.rx_tree_laws.specs.Chains.{meets}
use Rattle.rx_counts.specs.Stands.{record_at, IsShaped}
use Rattle.rx_counts.specs.Inside.Freeing.{ScopesBelow}
use Rattle.rx_counts.proofs.Stopping.{taken_below}
use Rattle.rx_counts.proofs.removal.remove.Given as goal

abbrev pub invariant-loop-i : goal.invariant-loop-i
invariant-loop-i l = record {
  len : length l.scopes ≡ length l.initial.scopes;
  below : (T : Tree) → IsShaped T l.initial.scopes → (u : ScopeId) → u.0 < l.i
      → record_at l.scopes u.0 ≡ cond (meets l.s T.scopes (Some u)) None (record_at l.initial.scopes u.0);
  above : (n : ℕ) → l.i ≤ n → record_at l.scopes n ≡ record_at l.initial.scopes n;
  left : (T : Tree) → ScopesBelow T l.s l.orphans l.initial.scopes → l.left + taken_below l.s T.scopes l.i ≡ l.orphans + 1;
}
