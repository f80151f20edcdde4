use Rattle.std.proofs.Common.{length}
use Rattle.rx_trace.proofs.Ends.{JoinsLeft}
use Rattle.rx_trace.proofs.plan_lines.moments.Given as goal

-- the moments so far and those of what is left are all
abbrev pub invariant-joins : goal.invariant-joins
invariant-joins l = JoinsLeft l.low l.joins l.words l.initial.words

abbrev pub decreases-joins : goal.decreases-joins
decreases-joins l = length l.words
