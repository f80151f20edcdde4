use Rattle.std.proofs.Common.{◌≡◌, length, []}
use Rattle.rx_trace.specs.Inside.Machine.{kills_of}
use Rattle.rx_trace.proofs.plan_lines.read_kills.Given as goal

-- the kills so far and those of what is left are all
abbrev pub invariant-kills : goal.invariant-kills
invariant-kills l = kills_of l.kills l.words ≡ kills_of [] l.initial.words

abbrev pub decreases-kills : goal.decreases-kills
decreases-kills l = length l.words
