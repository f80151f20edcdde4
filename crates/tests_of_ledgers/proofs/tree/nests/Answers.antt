use Rattle.std.proofs.Common.{List, refl, subst, lit<}
use Rattle.rx_rules.proofs.Common.{Fault, made_act}
use Rattle.rx_rules.specs.declared.tasks.Where.TheVariants.{At, Travel}
use Rattle.rx_rules.specs.declared.entries.Act.TheVariants.{Wait}
use Rattle.rx_finish.proofs.Worked.{who, tk, sc, pl, opened_next, spawned_next}
use Rattle.rx_tree.proofs.Nested.{sent, sent_arrives, landed, landed_opens, within, within_spawns, started, started_waits, awaited, awaited_arrives, arrived}
use Rattle.tests_of_ledgers.proofs.tree.nests.Goals as goal

pub begins-requires-clause-enough : goal.begins-requires-clause-enough
begins-requires-clause-enough g c = lit< tt

pub arrive-requires : goal.arrive-requires
arrive-requires g c = (0, sent, c.in_ok-_begun.ensures, sent_arrives)

pub open_finish-requires : goal.open_finish-requires
open_finish-requires g c = (0, landed, (c.in_ok-arrive.ensures 0 sent c.in_ok-_begun.ensures sent_arrives).made, landed_opens)

pub spawn-requires : goal.spawn-requires
spawn-requires g c =
    let s4 = (c.in_ok-arrive.ensures 0 sent c.in_ok-_begun.ensures sent_arrives).made in
    let s5 : g.L.FinishLedger.stands c.open_finish.new.self 0 within = opened_next landed (who 1 1 1 (At (pl 1))) c.in_ok-_scope._scope (g.L.FinishLedger.stands c.open_finish.new.self 0) (c.in_ok-_scope.ensures 0 landed s4 landed_opens) in
    (0, within, s5, within_spawns)

pub wait-requires : goal.wait-requires
wait-requires g c =
    let s4 = (c.in_ok-arrive.ensures 0 sent c.in_ok-_begun.ensures sent_arrives).made in
    let s5 : g.L.FinishLedger.stands c.open_finish.new.self 0 within = opened_next landed (who 1 1 1 (At (pl 1))) c.in_ok-_scope._scope (g.L.FinishLedger.stands c.open_finish.new.self 0) (c.in_ok-_scope.ensures 0 landed s4 landed_opens) in
    let s6 : g.L.FinishLedger.stands c.spawn.new.self 0 started = spawned_next within (who 1 1 2 (At (pl 1))) c.in_ok-_born._born.child c.in_ok-_born._born.scope (pl 1) (pl 2) (g.L.FinishLedger.stands c.spawn.new.self 0) _ refl (c.in_ok-_born.ensures 0 within s5 within_spawns).0 in
    (0, started, s6, started_waits)

pub arrive-requires-2 : goal.arrive-requires-2
arrive-requires-2 g c =
    let s4 = (c.in_ok-arrive.ensures 0 sent c.in_ok-_begun.ensures sent_arrives).made in
    let s5 : g.L.FinishLedger.stands c.open_finish.new.self 0 within = opened_next landed (who 1 1 1 (At (pl 1))) c.in_ok-_scope._scope (g.L.FinishLedger.stands c.open_finish.new.self 0) (c.in_ok-_scope.ensures 0 landed s4 landed_opens) in
    let s6 : g.L.FinishLedger.stands c.spawn.new.self 0 started = spawned_next within (who 1 1 2 (At (pl 1))) c.in_ok-_born._born.child c.in_ok-_born._born.scope (pl 1) (pl 2) (g.L.FinishLedger.stands c.spawn.new.self 0) _ refl (c.in_ok-_born.ensures 0 within s5 within_spawns).0 in
    let s7 : g.L.FinishLedger.stands c.wait.new.self 0 awaited = subst (λ (faults : List Fault). g.L.FinishLedger.stands c.wait.new.self 0 (made_act started (tk 1) (Wait (sc 2) faults))) c.open.ensures (c.in_default.ensures 0 started s6 started_waits).made in
    (0, awaited, s7, awaited_arrives)

pub returns : goal.returns
returns g c =
    let s4 = (c.in_ok-arrive.ensures 0 sent c.in_ok-_begun.ensures sent_arrives).made in
    let s5 : g.L.FinishLedger.stands c.open_finish.new.self 0 within = opened_next landed (who 1 1 1 (At (pl 1))) c.in_ok-_scope._scope (g.L.FinishLedger.stands c.open_finish.new.self 0) (c.in_ok-_scope.ensures 0 landed s4 landed_opens) in
    let s6 : g.L.FinishLedger.stands c.spawn.new.self 0 started = spawned_next within (who 1 1 2 (At (pl 1))) c.in_ok-_born._born.child c.in_ok-_born._born.scope (pl 1) (pl 2) (g.L.FinishLedger.stands c.spawn.new.self 0) _ refl (c.in_ok-_born.ensures 0 within s5 within_spawns).0 in
    let s7 : g.L.FinishLedger.stands c.wait.new.self 0 awaited = subst (λ (faults : List Fault). g.L.FinishLedger.stands c.wait.new.self 0 (made_act started (tk 1) (Wait (sc 2) faults))) c.open.ensures (c.in_default.ensures 0 started s6 started_waits).made in
    arrived awaited (who 2 2 2 (Travel (pl 1) (pl 2))) c.arrive-2.result (g.L.FinishLedger.stands c.arrive-2.new.self 0) (c.arrive-2.ensures 0 awaited s7 awaited_arrives)
