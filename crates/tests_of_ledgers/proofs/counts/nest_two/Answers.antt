use Rattle.rx_rules.proofs.Common.{opening}
use Rattle.rx_counts.specs.Stands.{StandsFor}
use Rattle.rx_counts.specs.Inside.Nesting.{nested, landed}
use Rattle.rx_counts.proofs.Nested.{arrived, can_first, can_second, first_lands, second_lands, two_places}
use Rattle.tests_of_ledgers.proofs.counts.nest_two.Goals as goal

pub nest-requires-clause-stands : goal.nest-requires-clause-stands
nest-requires-clause-stands c = (opening c.args.places, c.requires.1, can_first c.args.places (two_places c.args.places c.requires.0))

pub arrive-requires : goal.arrive-requires
arrive-requires c = (0, nested (opening c.args.places) 0, c.in_ok-nest.ensures (opening c.args.places) c.requires.1 (can_first c.args.places (two_places c.args.places c.requires.0)), first_lands c.args.places)

pub nest-requires-2-clause-stands : goal.nest-requires-2-clause-stands
nest-requires-2-clause-stands c =
    let s1 : StandsFor c.nest.new.ledger 0 (nested (opening c.args.places) 0) = c.in_ok-nest.ensures (opening c.args.places) c.requires.1 (can_first c.args.places (two_places c.args.places c.requires.0)) in
    (landed (opening c.args.places) 0, (c.in_ok-arrive.ensures 0 (nested (opening c.args.places) 0) s1 (first_lands c.args.places)).made, can_second c.args.places c.requires.0)

pub arrive-requires-2 : goal.arrive-requires-2
arrive-requires-2 c =
    let s1 : StandsFor c.nest.new.ledger 0 (nested (opening c.args.places) 0) = c.in_ok-nest.ensures (opening c.args.places) c.requires.1 (can_first c.args.places (two_places c.args.places c.requires.0)) in
    let s2 : StandsFor c.arrive.new.self 0 (landed (opening c.args.places) 0) = (c.in_ok-arrive.ensures 0 (nested (opening c.args.places) 0) s1 (first_lands c.args.places)).made in
    (0, nested (landed (opening c.args.places) 0) 1, c.in_ok-nest-2.ensures (landed (opening c.args.places) 0) s2 (can_second c.args.places c.requires.0), second_lands c.args.places)

pub returns : goal.returns
returns c =
    let s1 : StandsFor c.nest.new.ledger 0 (nested (opening c.args.places) 0) = c.in_ok-nest.ensures (opening c.args.places) c.requires.1 (can_first c.args.places (two_places c.args.places c.requires.0)) in
    let s2 : StandsFor c.arrive.new.self 0 (landed (opening c.args.places) 0) = (c.in_ok-arrive.ensures 0 (nested (opening c.args.places) 0) s1 (first_lands c.args.places)).made in
    let s3 : StandsFor c.nest-2.new.ledger 0 (nested (landed (opening c.args.places) 0) 1) = c.in_ok-nest-2.ensures (landed (opening c.args.places) 0) s2 (can_second c.args.places c.requires.0) in
    arrived (nested (landed (opening c.args.places) 0) 1) _ _ (StandsFor c.arrive-2.new.self 0) (c.arrive-2.ensures 0 (nested (landed (opening c.args.places) 0) 1) s3 (second_lands c.args.places))
