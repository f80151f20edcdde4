use Rattle.std.proofs.Common.{◌≡◌}
use Rattle.rx_book.specs.Passes.{word_of}
use Rattle.tests_of_runs.proofs.book.add_all.Given as goal

abbrev pub invariant-loop-i : goal.invariant-loop-i
invariant-loop-i g l = word_of l.pass ≡ l.book.word
