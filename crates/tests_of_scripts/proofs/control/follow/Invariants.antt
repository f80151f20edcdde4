use Rattle.rx_rules.proofs.Common.{Term}
use Rattle.rx_control.specs.Stands.{StandsFor}
use Rattle.tests_of_scripts.proofs.control.follow.Given as goal

abbrev pub invariant-loop-next : goal.invariant-loop-next
invariant-loop-next g l = (t : Term) × StandsFor l.fn.p.script l.task t
