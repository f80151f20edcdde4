use Rattle.rx_tree.specs.Inside.Worked.{two_deep}
use Rattle.rx_tree.proofs.Nested.{home_dies, orphaned, orphan_ends, adopted, adopter_waits, released, main_ends, ended, root_stands}
use Rattle.tests_of_ledgers.proofs.tree.dropped.Goals as goal

pub death-requires : goal.death-requires
death-requires g c = (0, two_deep, c.in_ok-nests.ensures, home_dies)

pub throws-requires : goal.throws-requires
throws-requires g c = (0, orphaned, c.death.ensures 0 two_deep c.in_ok-nests.ensures home_dies, orphan_ends)

pub release-requires : goal.release-requires
release-requires g c =
    let struck = c.death.ensures 0 two_deep c.in_ok-nests.ensures home_dies in
    (0, adopted, c.in_ok-throws.ensures 0 orphaned struck orphan_ends, adopter_waits)

pub ends-requires : goal.ends-requires
ends-requires g c =
    let struck = c.death.ensures 0 two_deep c.in_ok-nests.ensures home_dies in
    let thrown = c.in_ok-throws.ensures 0 orphaned struck orphan_ends in
    (0, released, (c.in_ok-outcome.ensures 0 adopted thrown adopter_waits).made, main_ends)

pub release_root-requires : goal.release_root-requires
release_root-requires g c =
    let struck = c.death.ensures 0 two_deep c.in_ok-nests.ensures home_dies in
    let thrown = c.in_ok-throws.ensures 0 orphaned struck orphan_ends in
    let left = (c.in_ok-outcome.ensures 0 adopted thrown adopter_waits).made in
    (0, ended, c.in_ok-ends.ensures 0 released left main_ends, root_stands)
