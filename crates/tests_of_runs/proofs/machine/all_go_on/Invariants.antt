use Rattle.rx_machine.specs.Runs.{CanRun}
use Rattle.tests_of_runs.proofs.machine.all_go_on.Given as goal

abbrev pub invariant-loop-count : goal.invariant-loop-count
invariant-loop-count g l = CanRun l.p.script l.machine
