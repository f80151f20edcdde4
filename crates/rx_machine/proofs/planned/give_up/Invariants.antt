use Rattle.rx_machine.proofs.Deaths.{DoneTo}
use Rattle.rx_machine.proofs.planned.give_up.Given as goal

abbrev pub invariant-loop-i : goal.invariant-loop-i
invariant-loop-i l = DoneTo l.place l.initial.seats.items l.seats.items l.i
