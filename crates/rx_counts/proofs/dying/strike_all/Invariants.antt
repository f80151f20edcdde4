use Rattle.std.proofs.Common.{◌≡◌, ℕ, ◌<◌, ◌≤◌, length}
use Rattle.rx_counts.specs.Stands.{record_at, Pairs}
use Rattle.rx_counts.specs.Inside.Dying.{StrikesRecord}
use Rattle.rx_counts.specs.Inside.Totalling.{toll_below}
use Rattle.rx_counts.proofs.dying.strike_all.Given as goal

abbrev pub invariant-loop-i : goal.invariant-loop-i
invariant-loop-i l = record {
  len : length l.scopes ≡ length l.initial.scopes;
  below : (n : ℕ) → n < l.i → Pairs (StrikesRecord l.d) (record_at l.initial.scopes n) (record_at l.scopes n);
  above : (n : ℕ) → l.i ≤ n → record_at l.scopes n ≡ record_at l.initial.scopes n;
  toll : l.toll ≡ toll_below l.d l.initial.scopes l.i;
}
