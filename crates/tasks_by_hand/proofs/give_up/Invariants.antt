use Rattle.std.proofs.Common.{length}
use Rattle.tasks_by_hand.proofs.give_up.Given as goal

abbrev pub decreases-rest : goal.decreases-rest
decreases-rest l = length l.jobs.items
