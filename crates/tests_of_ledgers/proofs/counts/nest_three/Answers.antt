use Rattle.std.proofs.Common.{lit<}
use Rattle.rx_counts.specs.Stands.{StandsFor}
use Rattle.rx_counts.specs.Inside.Nesting.{nested, two_deep}
use Rattle.rx_counts.proofs.Nested.{arrived, can_third, third_lands}
use Rattle.tests_of_ledgers.proofs.counts.nest_three.Goals as goal

pub nest_two-requires : goal.nest_two-requires
nest_two-requires c = (lit< tt, c.requires)

pub nest-requires-clause-stands : goal.nest-requires-clause-stands
nest-requires-clause-stands c = (two_deep 4, c.in_ok-nest_two.ensures, can_third)

pub arrive-requires : goal.arrive-requires
arrive-requires c = (0, nested (two_deep 4) 2, c.in_ok-nest.ensures (two_deep 4) c.in_ok-nest_two.ensures can_third, third_lands)

pub returns : goal.returns
returns c =
    let s : StandsFor c.nest.new.ledger 0 (nested (two_deep 4) 2) = c.in_ok-nest.ensures (two_deep 4) c.in_ok-nest_two.ensures can_third in
    arrived (nested (two_deep 4) 2) _ _ (StandsFor c.arrive.new.self 0) (c.arrive.ensures 0 (nested (two_deep 4) 2) s third_lands)
