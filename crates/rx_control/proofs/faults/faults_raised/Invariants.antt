use Rattle.std.proofs.Common.{◌≡◌, ◌++◌}
use Rattle.rx_control.proofs.Raising.{raised_from, raised_all}
use Rattle.rx_control.proofs.faults.faults_raised.Given as goal

abbrev pub invariant-loop-place : goal.invariant-loop-place
invariant-loop-place l = l.faults ++ raised_from l.lost l.place ≡ raised_all l.fn.lost
