use Rattle.std.proofs.Common.{◌≡◌, length}
use Rattle.rx_objects.proofs.opening.open_words.Given as goal

abbrev pub invariant-loop-place : goal.invariant-loop-place
invariant-loop-place l = length l.words.items ≡ l._place
