use Rattle.std.proofs.Common.{◌≡◌, [], take}
use Rattle.std.specs.List.{filter_map}
use Rattle.rx_rules.proofs.Common.{close_in}
use Rattle.rx_verdict.proofs.closes.has_close.Given as goal

abbrev pub invariant-loop-i : goal.invariant-loop-i
invariant-loop-i l = filter_map close_in (take l.i l.journal.events) ≡ []
