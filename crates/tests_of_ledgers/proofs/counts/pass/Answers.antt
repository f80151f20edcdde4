use Rattle.std.proofs.Common.{List, refl, subst, lit<}
use Rattle.rx_rules.proofs.Common.{Fault, made_act, opening}
use Rattle.rx_rules.specs.declared.entries.Act.TheVariants.{End}
use Rattle.rx_counts.specs.Stands.{StandsFor}
use Rattle.rx_counts.specs.Inside.Nesting.{task, nested, landed}
use Rattle.rx_counts.proofs.Nested.{can_first, first_lands, first_ends, first_ended, main_waits}
use Rattle.tests_of_ledgers.proofs.counts.pass.Goals as goal

pub nest-requires-clause-stands : goal.nest-requires-clause-stands
nest-requires-clause-stands c =
    (opening c.args.places, c.requires.1, can_first c.args.places c.requires.0)

pub transit_of-travels-requires : goal.transit_of-travels-requires
transit_of-travels-requires c =
    let s1 : StandsFor c.nest.new.ledger 0 (nested (opening c.args.places) 0) = c.in_ok-nest.ensures (opening c.args.places) c.requires.1 (can_first c.args.places c.requires.0) in
    (0, nested (opening c.args.places) 0, s1, refl, lit< tt, lit< tt)

pub arrive-requires : goal.arrive-requires
arrive-requires c =
    let s1 : StandsFor c.nest.new.ledger 0 (nested (opening c.args.places) 0) = c.in_ok-nest.ensures (opening c.args.places) c.requires.1 (can_first c.args.places c.requires.0) in
    (0, nested (opening c.args.places) 0, s1, (first_lands c.args.places))

pub live_at-landed-requires : goal.live_at-landed-requires
live_at-landed-requires c =
    let s1 : StandsFor c.nest.new.ledger 0 (nested (opening c.args.places) 0) = c.in_ok-nest.ensures (opening c.args.places) c.requires.1 (can_first c.args.places c.requires.0) in
    let s2 : StandsFor c.arrive.new.self 0 (landed (opening c.args.places) 0) = (c.in_ok-arrive.ensures 0 (nested (opening c.args.places) 0) s1 (first_lands c.args.places)).made in
    (0, landed (opening c.args.places) 0, s2, refl, lit< tt)

pub end-requires : goal.end-requires
end-requires c =
    let s1 : StandsFor c.nest.new.ledger 0 (nested (opening c.args.places) 0) = c.in_ok-nest.ensures (opening c.args.places) c.requires.1 (can_first c.args.places c.requires.0) in
    let s2 : StandsFor c.arrive.new.self 0 (landed (opening c.args.places) 0) = (c.in_ok-arrive.ensures 0 (nested (opening c.args.places) 0) s1 (first_lands c.args.places)).made in
    (0, landed (opening c.args.places) 0, s2, (first_ends c.args.places))

pub transit_of-requires : goal.transit_of-requires
transit_of-requires c =
    let s1 : StandsFor c.nest.new.ledger 0 (nested (opening c.args.places) 0) = c.in_ok-nest.ensures (opening c.args.places) c.requires.1 (can_first c.args.places c.requires.0) in
    let s2 : StandsFor c.arrive.new.self 0 (landed (opening c.args.places) 0) = (c.in_ok-arrive.ensures 0 (nested (opening c.args.places) 0) s1 (first_lands c.args.places)).made in
    let s3 : StandsFor c.end.new.self 0 (first_ended c.args.places) = subst (λ (faults : List Fault). StandsFor c.end.new.self 0 (made_act (landed (opening c.args.places) 0) (task 1) (End faults))) c.open.ensures (c.in_default.ensures 0 (landed (opening c.args.places) 0) s2 (first_ends c.args.places)).made in
    (0, (first_ended c.args.places), s3, refl, lit< tt, lit< tt)

pub live_at-requires : goal.live_at-requires
live_at-requires c =
    let s1 : StandsFor c.nest.new.ledger 0 (nested (opening c.args.places) 0) = c.in_ok-nest.ensures (opening c.args.places) c.requires.1 (can_first c.args.places c.requires.0) in
    let s2 : StandsFor c.arrive.new.self 0 (landed (opening c.args.places) 0) = (c.in_ok-arrive.ensures 0 (nested (opening c.args.places) 0) s1 (first_lands c.args.places)).made in
    let s3 : StandsFor c.end.new.self 0 (first_ended c.args.places) = subst (λ (faults : List Fault). StandsFor c.end.new.self 0 (made_act (landed (opening c.args.places) 0) (task 1) (End faults))) c.open.ensures (c.in_default.ensures 0 (landed (opening c.args.places) 0) s2 (first_ends c.args.places)).made in
    (0, (first_ended c.args.places), s3, refl, lit< tt)

pub ready-requires : goal.ready-requires
ready-requires c =
    let s1 : StandsFor c.nest.new.ledger 0 (nested (opening c.args.places) 0) = c.in_ok-nest.ensures (opening c.args.places) c.requires.1 (can_first c.args.places c.requires.0) in
    let s2 : StandsFor c.arrive.new.self 0 (landed (opening c.args.places) 0) = (c.in_ok-arrive.ensures 0 (nested (opening c.args.places) 0) s1 (first_lands c.args.places)).made in
    let s3 : StandsFor c.end.new.self 0 (first_ended c.args.places) = subst (λ (faults : List Fault). StandsFor c.end.new.self 0 (made_act (landed (opening c.args.places) 0) (task 1) (End faults))) c.open.ensures (c.in_default.ensures 0 (landed (opening c.args.places) 0) s2 (first_ends c.args.places)).made in
    (0, (first_ended c.args.places), s3, (main_waits c.args.places))
