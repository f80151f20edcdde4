use Rattle.std.proofs.Common.{refl, sym, ◌∙◌, lit<}
use Rattle.rx_rules.specs.declared.tasks.Where.TheVariants.{At}
use Rattle.rx_rules.proofs.Common.{opening}
use Rattle.rx_counts.specs.Stands.{StandsFor}
use Rattle.rx_counts.specs.Inside.Nesting.{place, caller, nested}
use Rattle.rx_counts.proofs.Nested.{can_first, waits_early, target_dies, target_lost, still_stands}
use Rattle.tests_of_ledgers.proofs.counts.lose.Goals as goal

pub nest-requires-clause-stands : goal.nest-requires-clause-stands
nest-requires-clause-stands c =
    (opening c.args.places, c.requires.1, can_first c.args.places c.requires.0)

pub release-early-requires : goal.release-early-requires
release-early-requires c =
    let s1 : StandsFor c.nest.new.ledger 0 (nested (opening c.args.places) 0) = c.in_ok-nest.ensures (opening c.args.places) c.requires.1 (can_first c.args.places c.requires.0) in
    (0, nested (opening c.args.places) 0, s1, (waits_early c.args.places))

pub death-requires : goal.death-requires
death-requires c =
    let s1 : StandsFor c.nest.new.ledger 0 (nested (opening c.args.places) 0) = c.in_ok-nest.ensures (opening c.args.places) c.requires.1 (can_first c.args.places c.requires.0) in
    let s2 : StandsFor c.release-early.new.self 0 (nested (opening c.args.places) 0) = still_stands (nested (opening c.args.places) 0) (caller 0 1 (At (place 0))) c.release-early.result (StandsFor c.release-early.new.self 0) (c.release-early.ensures 0 (nested (opening c.args.places) 0) s1 (waits_early c.args.places)) (sym c.is_ok.ensures.value ∙ c.if-is_ok.false) in
    (0, nested (opening c.args.places) 0, s2, (target_dies c.args.places c.requires.0))

pub transit_of-requires : goal.transit_of-requires
transit_of-requires c =
    let s1 : StandsFor c.nest.new.ledger 0 (nested (opening c.args.places) 0) = c.in_ok-nest.ensures (opening c.args.places) c.requires.1 (can_first c.args.places c.requires.0) in
    let s2 : StandsFor c.release-early.new.self 0 (nested (opening c.args.places) 0) = still_stands (nested (opening c.args.places) 0) (caller 0 1 (At (place 0))) c.release-early.result (StandsFor c.release-early.new.self 0) (c.release-early.ensures 0 (nested (opening c.args.places) 0) s1 (waits_early c.args.places)) (sym c.is_ok.ensures.value ∙ c.if-is_ok.false) in
    let s3 : StandsFor c.death.new.self 0 (target_lost c.args.places) = c.death.ensures 0 (nested (opening c.args.places) 0) s2 (target_dies c.args.places c.requires.0) in
    (0, (target_lost c.args.places), s3, refl, lit< tt, lit< tt)

pub lost_of-requires : goal.lost_of-requires
lost_of-requires c =
    let s1 : StandsFor c.nest.new.ledger 0 (nested (opening c.args.places) 0) = c.in_ok-nest.ensures (opening c.args.places) c.requires.1 (can_first c.args.places c.requires.0) in
    let s2 : StandsFor c.release-early.new.self 0 (nested (opening c.args.places) 0) = still_stands (nested (opening c.args.places) 0) (caller 0 1 (At (place 0))) c.release-early.result (StandsFor c.release-early.new.self 0) (c.release-early.ensures 0 (nested (opening c.args.places) 0) s1 (waits_early c.args.places)) (sym c.is_ok.ensures.value ∙ c.if-is_ok.false) in
    let s3 : StandsFor c.death.new.self 0 (target_lost c.args.places) = c.death.ensures 0 (nested (opening c.args.places) 0) s2 (target_dies c.args.places c.requires.0) in
    (0, (target_lost c.args.places), s3, refl)

pub adopter_of-requires : goal.adopter_of-requires
adopter_of-requires c =
    let s1 : StandsFor c.nest.new.ledger 0 (nested (opening c.args.places) 0) = c.in_ok-nest.ensures (opening c.args.places) c.requires.1 (can_first c.args.places c.requires.0) in
    let s2 : StandsFor c.release-early.new.self 0 (nested (opening c.args.places) 0) = still_stands (nested (opening c.args.places) 0) (caller 0 1 (At (place 0))) c.release-early.result (StandsFor c.release-early.new.self 0) (c.release-early.ensures 0 (nested (opening c.args.places) 0) s1 (waits_early c.args.places)) (sym c.is_ok.ensures.value ∙ c.if-is_ok.false) in
    let s3 : StandsFor c.death.new.self 0 (target_lost c.args.places) = c.death.ensures 0 (nested (opening c.args.places) 0) s2 (target_dies c.args.places c.requires.0) in
    (0, (target_lost c.args.places), s3, refl)
