use Rattle.std.proofs.Common.{List, subst}
use Rattle.rx_rules.proofs.Common.{Fault, made_act}
use Rattle.rx_rules.specs.declared.entries.Act.TheVariants.{End}
use Rattle.rx_counts.specs.Stands.{StandsFor}
use Rattle.rx_counts.specs.Inside.Nesting.{task, three_deep}
use Rattle.rx_counts.proofs.Nested.{lost_home, home_dies, home_lost, last_ends, all_ended, heir_waits}
use Rattle.tests_of_ledgers.proofs.counts.adopt.Goals as goal

pub end-requires : goal.end-requires
end-requires c = (0, lost_home, c.death.ensures 0 three_deep c.in_ok-nest_three.ensures home_dies, last_ends)

pub release-requires : goal.release-requires
release-requires c =
    let s : StandsFor c.death.new.self 0 lost_home = c.death.ensures 0 three_deep c.in_ok-nest_three.ensures home_dies in
    (0, all_ended, subst (λ (faults : List Fault). StandsFor c.end.new.self 0 (made_act lost_home (task 3) (End faults))) c.open.ensures (c.in_default.ensures 0 lost_home s last_ends).made, heir_waits)

pub death-requires : goal.death-requires
death-requires c = (0, three_deep, c.in_ok-nest_three.ensures, home_dies)

pub told-told-requires : goal.told-told-requires
told-told-requires c = (lost_home, c.death.ensures 0 three_deep c.in_ok-nest_three.ensures home_dies, home_lost)
