use Rattle.tasks_by_hand.specs.Jobs.{IsReady}
use Rattle.tasks_by_hand.proofs.run.Given as goal

-- the queue is ready
abbrev pub invariant-turns : goal.invariant-turns
invariant-turns g l = IsReady l.keeper l.jobs.items
