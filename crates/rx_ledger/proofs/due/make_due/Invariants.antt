use Rattle.std.proofs.Common.{length, ◌<◌, ◌^◌}
use Rattle.rx_chronicle.specs.Requests.{plan_told}
use Rattle.rx_ledger.specs.Inside.Doing.{MadeDue}
use Rattle.rx_ledger.proofs.due.make_due.Given as goal

abbrev pub invariant-loop-at : goal.invariant-loop-at
invariant-loop-at g l = MadeDue l.initial.chronicle l.chronicle × (length l.chronicle.entries < 2 ^ 32)

abbrev pub decreases-loop-at : goal.decreases-loop-at
decreases-loop-at g l = length (plan_told l.chronicle)
