use Rattle.rx_rules.proofs.Common.{opening}
use Rattle.rx_counts.specs.Stands.{StandsFor}
use Rattle.rx_counts.proofs.Nested.{main_calls, called, called_stands, root_there}
use Rattle.tests_of_ledgers.proofs.counts.call.Goals as goal

pub open_at-requires : goal.open_at-requires
open_at-requires c =
    (0, opening 4, c.requires, main_calls)

pub release_root-early-requires : goal.release_root-early-requires
release_root-early-requires c =
    (0, called, called_stands c.in_ok-born.born (StandsFor c.open_at.new.self 0) (c.in_ok-born.ensures 0 (opening 4) c.requires main_calls), root_there)
