use Rattle.std.proofs.Common.{List, [], refl, subst, lit<}
use Rattle.rx_rules.proofs.Common.{Fault, Tree, made_act, opening}
use Rattle.rx_rules.specs.declared.tasks.Where.TheVariants.{At}
use Rattle.rx_rules.specs.declared.entries.Act.TheVariants.{Open, Spawn, Wait}
use Rattle.rx_finish.specs.Callers.{MayAsk, MayAskMoving, MayAskTo, IsMoving, HasFinish}
use Rattle.rx_finish.proofs.Worked.{who, tk, sc, pl, asks, opened_next, spawned_next}
use Rattle.tests_of_ledgers.proofs.tree.begins.Goals as goal

pub open_finish-requires : goal.open_finish-requires
open_finish-requires g c =
    let T0 : Tree = opening c.args.places in
    let T1 : Tree = made_act T0 (tk 0) (Open (sc 1) (sc 0) []) in
    let T2 : Tree = made_act T1 (tk 0) (Spawn (tk 1) (sc 1) (pl 0) (pl 1) []) in
    let m0 : MayAskMoving T0 (who 0 0 0 (At (pl 0))) = asks T0 (who 0 0 0 (At (pl 0))) IsMoving _ refl refl refl refl (record { place = _; is_at = refl; moves = refl }) (lit< tt) (lit< tt) in
    (0, T0, c.requires.fresh, m0)

pub spawn-requires : goal.spawn-requires
spawn-requires g c =
    let T0 : Tree = opening c.args.places in
    let T1 : Tree = made_act T0 (tk 0) (Open (sc 1) (sc 0) []) in
    let T2 : Tree = made_act T1 (tk 0) (Spawn (tk 1) (sc 1) (pl 0) (pl 1) []) in
    let m0 : MayAskMoving T0 (who 0 0 0 (At (pl 0))) = asks T0 (who 0 0 0 (At (pl 0))) IsMoving _ refl refl refl refl (record { place = _; is_at = refl; moves = refl }) (lit< tt) (lit< tt) in
    let s1 : g.L.FinishLedger.stands c.open_finish.new.self 0 T1 = opened_next T0 (who 0 0 0 (At (pl 0))) c.in_ok-scope.scope (g.L.FinishLedger.stands c.open_finish.new.self 0) (c.in_ok-scope.ensures 0 T0 c.requires.fresh m0) in
    let m1 : MayAskTo T1 (who 0 0 1 (At (pl 0))) (pl 1) = record { asks = asks T1 (who 0 0 1 (At (pl 0))) IsMoving _ refl refl refl refl (record { place = _; is_at = refl; moves = refl }) (lit< tt) (lit< tt); target = c.requires.enough } in
    (0, T1, s1, m1)

pub wait-requires : goal.wait-requires
wait-requires g c =
    let T0 : Tree = opening c.args.places in
    let T1 : Tree = made_act T0 (tk 0) (Open (sc 1) (sc 0) []) in
    let T2 : Tree = made_act T1 (tk 0) (Spawn (tk 1) (sc 1) (pl 0) (pl 1) []) in
    let m0 : MayAskMoving T0 (who 0 0 0 (At (pl 0))) = asks T0 (who 0 0 0 (At (pl 0))) IsMoving _ refl refl refl refl (record { place = _; is_at = refl; moves = refl }) (lit< tt) (lit< tt) in
    let s1 : g.L.FinishLedger.stands c.open_finish.new.self 0 T1 = opened_next T0 (who 0 0 0 (At (pl 0))) c.in_ok-scope.scope (g.L.FinishLedger.stands c.open_finish.new.self 0) (c.in_ok-scope.ensures 0 T0 c.requires.fresh m0) in
    let m1 : MayAskTo T1 (who 0 0 1 (At (pl 0))) (pl 1) = record { asks = asks T1 (who 0 0 1 (At (pl 0))) IsMoving _ refl refl refl refl (record { place = _; is_at = refl; moves = refl }) (lit< tt) (lit< tt); target = c.requires.enough } in
    let s2 : g.L.FinishLedger.stands c.spawn.new.self 0 T2 = spawned_next T1 (who 0 0 1 (At (pl 0))) c.in_ok-born.born.child c.in_ok-born.born.scope (pl 0) (pl 1) (g.L.FinishLedger.stands c.spawn.new.self 0) _ refl (c.in_ok-born.ensures 0 T1 s1 m1).0 in
    let m2 : MayAsk T2 (who 0 0 1 (At (pl 0))) (HasFinish T2 (who 0 0 1 (At (pl 0)))) = asks T2 (who 0 0 1 (At (pl 0))) (HasFinish T2 (who 0 0 1 (At (pl 0)))) _ refl refl refl refl (record { moving = record { place = _; is_at = refl; moves = refl }; scope = _; own = refl; finish = refl }) (lit< tt) (lit< tt) in
    (0, T2, s2, m2)

pub returns : goal.returns
returns g c =
    let T0 : Tree = opening c.args.places in
    let T1 : Tree = made_act T0 (tk 0) (Open (sc 1) (sc 0) []) in
    let T2 : Tree = made_act T1 (tk 0) (Spawn (tk 1) (sc 1) (pl 0) (pl 1) []) in
    let m0 : MayAskMoving T0 (who 0 0 0 (At (pl 0))) = asks T0 (who 0 0 0 (At (pl 0))) IsMoving _ refl refl refl refl (record { place = _; is_at = refl; moves = refl }) (lit< tt) (lit< tt) in
    let s1 : g.L.FinishLedger.stands c.open_finish.new.self 0 T1 = opened_next T0 (who 0 0 0 (At (pl 0))) c.in_ok-scope.scope (g.L.FinishLedger.stands c.open_finish.new.self 0) (c.in_ok-scope.ensures 0 T0 c.requires.fresh m0) in
    let m1 : MayAskTo T1 (who 0 0 1 (At (pl 0))) (pl 1) = record { asks = asks T1 (who 0 0 1 (At (pl 0))) IsMoving _ refl refl refl refl (record { place = _; is_at = refl; moves = refl }) (lit< tt) (lit< tt); target = c.requires.enough } in
    let s2 : g.L.FinishLedger.stands c.spawn.new.self 0 T2 = spawned_next T1 (who 0 0 1 (At (pl 0))) c.in_ok-born.born.child c.in_ok-born.born.scope (pl 0) (pl 1) (g.L.FinishLedger.stands c.spawn.new.self 0) _ refl (c.in_ok-born.ensures 0 T1 s1 m1).0 in
    let m2 : MayAsk T2 (who 0 0 1 (At (pl 0))) (HasFinish T2 (who 0 0 1 (At (pl 0)))) = asks T2 (who 0 0 1 (At (pl 0))) (HasFinish T2 (who 0 0 1 (At (pl 0)))) _ refl refl refl refl (record { moving = record { place = _; is_at = refl; moves = refl }; scope = _; own = refl; finish = refl }) (lit< tt) (lit< tt) in
    subst (λ (faults : List Fault). g.L.FinishLedger.stands c.wait.new.self 0 (made_act T2 (tk 0) (Wait (sc 1) faults))) c.open.ensures (c.in_default.ensures 0 T2 s2 m2).made
