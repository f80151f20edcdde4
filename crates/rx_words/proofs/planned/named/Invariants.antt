use Rattle.std.proofs.Common.{◌≡◌, ◌++◌, drop, map}
use Rattle.rx_words.specs.Commands.{kill_in}
use Rattle.rx_words.proofs.planned.named.Given as goal

abbrev pub invariant-loop-planned : goal.invariant-loop-planned
invariant-loop-planned l = map kill_in l.fn.kills ≡ l.list.items ++ map kill_in (drop l.planned-index l.fn.kills)
