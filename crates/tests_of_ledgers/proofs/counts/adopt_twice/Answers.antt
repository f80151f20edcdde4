use Rattle.std.proofs.Common.{lit<}
use Rattle.rx_rules.proofs.Common.{opening}
use Rattle.rx_counts.specs.Stands.{StandsFor}
use Rattle.rx_counts.specs.Inside.Nesting.{nested, landed}
use Rattle.rx_counts.proofs.Nested.{can_first, first_lands, first_calls, asked, asked_stands, callee_lands, served, callee_nests, inner_lands, inner_ends, inner_ended, inner_dies, inner_lost, outer_dies, outer_lost, outer_waits}
use Rattle.tests_of_ledgers.proofs.counts.adopt_twice.Goals as goal

pub nest-requires-clause-stands : goal.nest-requires-clause-stands
nest-requires-clause-stands c = (opening 4, c.requires, can_first 4 (lit< tt))

pub arrive-requires : goal.arrive-requires
arrive-requires c = (0, nested (opening 4) 0, c.in_ok-nest.ensures (opening 4) c.requires (can_first 4 (lit< tt)), first_lands 4)

pub open_at-requires : goal.open_at-requires
open_at-requires c =
    let s1 : StandsFor c.nest.new.ledger 0 (nested (opening 4) 0) = c.in_ok-nest.ensures (opening 4) c.requires (can_first 4 (lit< tt)) in
    (0, landed (opening 4) 0, (c.in_ok-arrive.ensures 0 (nested (opening 4) 0) s1 (first_lands 4)).made, first_calls)

pub arrive-requires-2 : goal.arrive-requires-2
arrive-requires-2 c =
    let s1 : StandsFor c.nest.new.ledger 0 (nested (opening 4) 0) = c.in_ok-nest.ensures (opening 4) c.requires (can_first 4 (lit< tt)) in
    let s2 : StandsFor c.arrive.new.self 0 (landed (opening 4) 0) = (c.in_ok-arrive.ensures 0 (nested (opening 4) 0) s1 (first_lands 4)).made in
    (0, asked, asked_stands c.in_ok-_born._born (StandsFor c.open_at.new.self 0) (c.in_ok-_born.ensures 0 (landed (opening 4) 0) s2 first_calls), callee_lands)

pub nest-requires-2-clause-stands : goal.nest-requires-2-clause-stands
nest-requires-2-clause-stands c =
    let s1 : StandsFor c.nest.new.ledger 0 (nested (opening 4) 0) = c.in_ok-nest.ensures (opening 4) c.requires (can_first 4 (lit< tt)) in
    let s2 : StandsFor c.arrive.new.self 0 (landed (opening 4) 0) = (c.in_ok-arrive.ensures 0 (nested (opening 4) 0) s1 (first_lands 4)).made in
    let s3 : StandsFor c.open_at.new.self 0 asked = asked_stands c.in_ok-_born._born (StandsFor c.open_at.new.self 0) (c.in_ok-_born.ensures 0 (landed (opening 4) 0) s2 first_calls) in
    (served, (c.in_ok-arrive-2.ensures 0 asked s3 callee_lands).made, callee_nests)

pub arrive-requires-3 : goal.arrive-requires-3
arrive-requires-3 c =
    let s1 : StandsFor c.nest.new.ledger 0 (nested (opening 4) 0) = c.in_ok-nest.ensures (opening 4) c.requires (can_first 4 (lit< tt)) in
    let s2 : StandsFor c.arrive.new.self 0 (landed (opening 4) 0) = (c.in_ok-arrive.ensures 0 (nested (opening 4) 0) s1 (first_lands 4)).made in
    let s3 : StandsFor c.open_at.new.self 0 asked = asked_stands c.in_ok-_born._born (StandsFor c.open_at.new.self 0) (c.in_ok-_born.ensures 0 (landed (opening 4) 0) s2 first_calls) in
    let s4 : StandsFor c.arrive-2.new.self 0 served = (c.in_ok-arrive-2.ensures 0 asked s3 callee_lands).made in
    (0, nested served 2, c.in_ok-nest-2.ensures served s4 callee_nests, inner_lands)

pub end-requires : goal.end-requires
end-requires c =
    let thrown = c.in_ok-thrown.thrown in
    let s1 : StandsFor c.nest.new.ledger 0 (nested (opening 4) 0) = c.in_ok-nest.ensures (opening 4) c.requires (can_first 4 (lit< tt)) in
    let s2 : StandsFor c.arrive.new.self 0 (landed (opening 4) 0) = (c.in_ok-arrive.ensures 0 (nested (opening 4) 0) s1 (first_lands 4)).made in
    let s3 : StandsFor c.open_at.new.self 0 asked = asked_stands c.in_ok-_born._born (StandsFor c.open_at.new.self 0) (c.in_ok-_born.ensures 0 (landed (opening 4) 0) s2 first_calls) in
    let s4 : StandsFor c.arrive-2.new.self 0 served = (c.in_ok-arrive-2.ensures 0 asked s3 callee_lands).made in
    let s5 : StandsFor c.nest-2.new.ledger 0 (nested served 2) = c.in_ok-nest-2.ensures served s4 callee_nests in
    let s6 : StandsFor c.arrive-3.new.self 0 (landed served 2) = (c.in_ok-arrive-3.ensures 0 (nested served 2) s5 inner_lands).made in
    (0, landed served 2, s6, inner_ends)

pub death-requires : goal.death-requires
death-requires c =
    let thrown = c.in_ok-thrown.thrown in
    let s1 : StandsFor c.nest.new.ledger 0 (nested (opening 4) 0) = c.in_ok-nest.ensures (opening 4) c.requires (can_first 4 (lit< tt)) in
    let s2 : StandsFor c.arrive.new.self 0 (landed (opening 4) 0) = (c.in_ok-arrive.ensures 0 (nested (opening 4) 0) s1 (first_lands 4)).made in
    let s3 : StandsFor c.open_at.new.self 0 asked = asked_stands c.in_ok-_born._born (StandsFor c.open_at.new.self 0) (c.in_ok-_born.ensures 0 (landed (opening 4) 0) s2 first_calls) in
    let s4 : StandsFor c.arrive-2.new.self 0 served = (c.in_ok-arrive-2.ensures 0 asked s3 callee_lands).made in
    let s5 : StandsFor c.nest-2.new.ledger 0 (nested served 2) = c.in_ok-nest-2.ensures served s4 callee_nests in
    let s6 : StandsFor c.arrive-3.new.self 0 (landed served 2) = (c.in_ok-arrive-3.ensures 0 (nested served 2) s5 inner_lands).made in
    (0, inner_ended thrown, (c.in_default.ensures 0 (landed served 2) s6 inner_ends).made, inner_dies thrown)

pub death-requires-2 : goal.death-requires-2
death-requires-2 c =
    let thrown = c.in_ok-thrown.thrown in
    let s1 : StandsFor c.nest.new.ledger 0 (nested (opening 4) 0) = c.in_ok-nest.ensures (opening 4) c.requires (can_first 4 (lit< tt)) in
    let s2 : StandsFor c.arrive.new.self 0 (landed (opening 4) 0) = (c.in_ok-arrive.ensures 0 (nested (opening 4) 0) s1 (first_lands 4)).made in
    let s3 : StandsFor c.open_at.new.self 0 asked = asked_stands c.in_ok-_born._born (StandsFor c.open_at.new.self 0) (c.in_ok-_born.ensures 0 (landed (opening 4) 0) s2 first_calls) in
    let s4 : StandsFor c.arrive-2.new.self 0 served = (c.in_ok-arrive-2.ensures 0 asked s3 callee_lands).made in
    let s5 : StandsFor c.nest-2.new.ledger 0 (nested served 2) = c.in_ok-nest-2.ensures served s4 callee_nests in
    let s6 : StandsFor c.arrive-3.new.self 0 (landed served 2) = (c.in_ok-arrive-3.ensures 0 (nested served 2) s5 inner_lands).made in
    let s7 : StandsFor c.end.new.self 0 (inner_ended thrown) = (c.in_default.ensures 0 (landed served 2) s6 inner_ends).made in
    (0, inner_lost thrown, c.death.ensures 0 (inner_ended thrown) s7 (inner_dies thrown), outer_dies thrown)

pub release-requires : goal.release-requires
release-requires c =
    let thrown = c.in_ok-thrown.thrown in
    let s1 : StandsFor c.nest.new.ledger 0 (nested (opening 4) 0) = c.in_ok-nest.ensures (opening 4) c.requires (can_first 4 (lit< tt)) in
    let s2 : StandsFor c.arrive.new.self 0 (landed (opening 4) 0) = (c.in_ok-arrive.ensures 0 (nested (opening 4) 0) s1 (first_lands 4)).made in
    let s3 : StandsFor c.open_at.new.self 0 asked = asked_stands c.in_ok-_born._born (StandsFor c.open_at.new.self 0) (c.in_ok-_born.ensures 0 (landed (opening 4) 0) s2 first_calls) in
    let s4 : StandsFor c.arrive-2.new.self 0 served = (c.in_ok-arrive-2.ensures 0 asked s3 callee_lands).made in
    let s5 : StandsFor c.nest-2.new.ledger 0 (nested served 2) = c.in_ok-nest-2.ensures served s4 callee_nests in
    let s6 : StandsFor c.arrive-3.new.self 0 (landed served 2) = (c.in_ok-arrive-3.ensures 0 (nested served 2) s5 inner_lands).made in
    let s7 : StandsFor c.end.new.self 0 (inner_ended thrown) = (c.in_default.ensures 0 (landed served 2) s6 inner_ends).made in
    let s8 : StandsFor c.death.new.self 0 (inner_lost thrown) = c.death.ensures 0 (inner_ended thrown) s7 (inner_dies thrown) in
    (0, outer_lost thrown, c.death-2.ensures 0 (inner_lost thrown) s8 (outer_dies thrown), outer_waits thrown)
