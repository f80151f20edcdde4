use Rattle.std.proofs.Common.{◌≡◌, ◌++◌, drop}
use Rattle.rx_words.proofs.planned.planned.Given as goal

abbrev pub invariant-loop-planned : goal.invariant-loop-planned
invariant-loop-planned l = l.list ++ drop l.planned-index l.planned-items ≡ l.planned-items
