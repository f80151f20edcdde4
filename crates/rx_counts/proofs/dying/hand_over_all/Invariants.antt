use Rattle.std.proofs.Common.{◌≡◌, length, Bool, ℕ}
use Rattle.rx_rules.specs.declared.tasks.Scope.{Scope}
use Rattle.rx_rules.proofs.Common.{Tree}
use Rattle.rx_counts.specs.Inside.Dying.{Passing}
use Rattle.rx_counts.proofs.dying.hand_over_all.Given as goal

abbrev pub invariant-loop-i : goal.invariant-loop-i
invariant-loop-i l = record {
  len : length l.scopes ≡ length l.initial.scopes;
  passes : (size : ℕ) (T : Tree) (keeps : Scope → Bool) → Passing size T keeps l.dead l.d 0 l.initial.scopes → Passing size T keeps l.dead l.d l.i l.scopes;
}
