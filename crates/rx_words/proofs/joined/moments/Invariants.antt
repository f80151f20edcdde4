use Rattle.std.proofs.Common.{◌≡◌, ◌++◌, drop, map}
use Rattle.rx_words.specs.Commands.{moment_in}
use Rattle.rx_words.proofs.joined.moments.Given as goal

abbrev pub invariant-loop-join : goal.invariant-loop-join
invariant-loop-join l = map moment_in l.fn.joins ≡ l.list.items ++ map moment_in (drop l.join-index l.fn.joins)
