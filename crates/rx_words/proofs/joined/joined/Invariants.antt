use Rattle.std.proofs.Common.{◌≡◌, ◌++◌, drop}
use Rattle.rx_words.proofs.joined.joined.Given as goal

abbrev pub invariant-loop-moment : goal.invariant-loop-moment
invariant-loop-moment l = l.list ++ drop l.moment-index l.moment-items ≡ l.moment-items
