use Rattle.std.proofs.Common.{◌≡◌}
use Rattle.tests_of_ledgers.proofs.mail.sends.Given as goal

abbrev pub invariant-loop-k : goal.invariant-loop-k
invariant-loop-k g l = l.pass.of ≡ l.initial.pass.of
