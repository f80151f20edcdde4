use Rattle.std.proofs.Common.{◌≡◌, drop}
use Rattle.std.specs.List.{list_all}
use Rattle.rx_rules.proofs.Common.{is_dead}
use Rattle.rx_control.proofs.faults.all_dead.Given as goal

abbrev pub invariant-loop-i : goal.invariant-loop-i
invariant-loop-i l = list_all is_dead (drop l.i l.faults) ≡ list_all is_dead l.faults
