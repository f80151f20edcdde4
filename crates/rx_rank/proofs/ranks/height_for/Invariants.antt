use Rattle.std.proofs.Common.{◌-◌, ◌*◌, ◌^◌, ◌<◌}
use Rattle.rx_rank.proofs.ranks.height_for.Given as goal

abbrev pub invariant-heights : goal.invariant-heights
invariant-heights l = (l.height < 32) × (2 ^ l.height < 2 * l.n)

abbrev pub decreases-heights : goal.decreases-heights
decreases-heights l = 32 - l.height
