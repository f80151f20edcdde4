use Rattle.rx_counts.specs.Stands.{StandsFor}
use Rattle.rx_counts.specs.Inside.Nesting.{three_deep}
use Rattle.rx_counts.proofs.Nested.{lost_last, lost_both, last_dies, then_home_dies, both_lost}
use Rattle.tests_of_ledgers.proofs.counts.lose_two.Goals as goal

pub death-requires : goal.death-requires
death-requires c = (0, three_deep, c.in_ok-nest_three.ensures, last_dies)

pub death-requires-2 : goal.death-requires-2
death-requires-2 c = (0, lost_last, c.death.ensures 0 three_deep c.in_ok-nest_three.ensures last_dies, then_home_dies)

pub told-requires : goal.told-requires
told-requires c =
    let s : StandsFor c.death.new.self 0 lost_last = c.death.ensures 0 three_deep c.in_ok-nest_three.ensures last_dies in
    (lost_both, c.death-2.ensures 0 lost_last s then_home_dies, both_lost)
