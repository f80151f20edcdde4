use Rattle.std.proofs.Common.{◌≡◌, Some}
use Rattle.rx_rules.proofs.Common.{Tree}
use Rattle.rx_counts.specs.Keeping.{keeper, stands_home}
use Rattle.rx_counts.specs.Stands.{IsShaped}
use Rattle.rx_counts.proofs.table.keeper_of.Given as goal

abbrev pub invariant-walk : goal.invariant-walk
invariant-walk l = (T : Tree) → IsShaped T l.scopes → keeper (stands_home l.dead) T.scopes (Some l.fn.s) ≡ keeper (stands_home l.dead) T.scopes (Some l.at)

abbrev pub decreases-walk : goal.decreases-walk
decreases-walk l = l.at.0
