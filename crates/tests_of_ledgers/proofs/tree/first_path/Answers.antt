use Rattle.std.proofs.Common.{[], refl, lit<}
use Rattle.rx_rules.specs.declared.tasks.Where.TheVariants.{At, Travel}
use Rattle.rx_rules.specs.declared.entries.Act.TheVariants.{Open, Spawn, Arrive, Wait, End}
use Rattle.rx_rules.proofs.Common.{Tree, made_act, change_task, resumed, without, opening}
use Rattle.rx_finish.specs.Callers.{MayAsk, IsMoving, Travels, WaitsInside, IsBare}
use Rattle.rx_finish.proofs.Worked.{who, tk, sc, pl, asks}
use Rattle.tests_of_ledgers.proofs.tree.first_path.Goals as goal

pub begins-requires-clause-enough : goal.begins-requires-clause-enough
begins-requires-clause-enough g c =
    let T0 : Tree = opening 2 in
    let T1 : Tree = made_act T0 (tk 0) (Open (sc 1) (sc 0) []) in
    let T2 : Tree = made_act T1 (tk 0) (Spawn (tk 1) (sc 1) (pl 0) (pl 1) []) in
    let T3 : Tree = made_act T2 (tk 0) (Wait (sc 1) []) in
    lit< tt

pub arrive-requires : goal.arrive-requires
arrive-requires g c =
    let T0 : Tree = opening 2 in
    let T1 : Tree = made_act T0 (tk 0) (Open (sc 1) (sc 0) []) in
    let T2 : Tree = made_act T1 (tk 0) (Spawn (tk 1) (sc 1) (pl 0) (pl 1) []) in
    let T3 : Tree = made_act T2 (tk 0) (Wait (sc 1) []) in
    let s3 : g.L.FinishLedger.stands c.begins.new.ledger 0 T3 = c.in_ok-_begun.ensures in
    let m3 : MayAsk T3 (who 1 1 1 (Travel (pl 0) (pl 1))) Travels = asks T3 (who 1 1 1 (Travel (pl 0) (pl 1))) Travels _ refl refl refl refl (record { travels = refl }) (lit< tt) (lit< tt) in
    (0, T3, s3, m3)

pub print-requires : goal.print-requires
print-requires g c =
    let T0 : Tree = opening 2 in
    let T1 : Tree = made_act T0 (tk 0) (Open (sc 1) (sc 0) []) in
    let T2 : Tree = made_act T1 (tk 0) (Spawn (tk 1) (sc 1) (pl 0) (pl 1) []) in
    let T3 : Tree = made_act T2 (tk 0) (Wait (sc 1) []) in
    let s3 : g.L.FinishLedger.stands c.begins.new.ledger 0 T3 = c.in_ok-_begun.ensures in
    let m3 : MayAsk T3 (who 1 1 1 (Travel (pl 0) (pl 1))) Travels = asks T3 (who 1 1 1 (Travel (pl 0) (pl 1))) Travels _ refl refl refl refl (record { travels = refl }) (lit< tt) (lit< tt) in
    let T4 : Tree = made_act T3 (tk 1) (Arrive (pl 1)) in
    let s4 : g.L.FinishLedger.stands c.arrive.new.self 0 T4 = (c.in_ok-arrive.ensures 0 T3 s3 m3).made in
    (0, T4, s4, asks T4 (who 1 1 1 (At (pl 1))) IsMoving _ refl refl refl refl (record { place = _; is_at = refl; moves = refl }) (lit< tt) (lit< tt))

pub ends-requires : goal.ends-requires
ends-requires g c =
    let T0 : Tree = opening 2 in
    let T1 : Tree = made_act T0 (tk 0) (Open (sc 1) (sc 0) []) in
    let T2 : Tree = made_act T1 (tk 0) (Spawn (tk 1) (sc 1) (pl 0) (pl 1) []) in
    let T3 : Tree = made_act T2 (tk 0) (Wait (sc 1) []) in
    let s3 : g.L.FinishLedger.stands c.begins.new.ledger 0 T3 = c.in_ok-_begun.ensures in
    let m3 : MayAsk T3 (who 1 1 1 (Travel (pl 0) (pl 1))) Travels = asks T3 (who 1 1 1 (Travel (pl 0) (pl 1))) Travels _ refl refl refl refl (record { travels = refl }) (lit< tt) (lit< tt) in
    let T4 : Tree = made_act T3 (tk 1) (Arrive (pl 1)) in
    let s4 : g.L.FinishLedger.stands c.arrive.new.self 0 T4 = (c.in_ok-arrive.ensures 0 T3 s3 m3).made in
    let m4 : MayAsk T4 (who 1 1 1 (At (pl 1))) (IsBare T4 (who 1 1 1 (At (pl 1)))) = asks T4 (who 1 1 1 (At (pl 1))) (IsBare T4 (who 1 1 1 (At (pl 1)))) _ refl refl refl refl (record { moving = record { place = _; is_at = refl; moves = refl }; none_open = refl }) (lit< tt) (lit< tt) in
    (0, T4, s4, m4)

pub ready-ready-requires : goal.ready-ready-requires
ready-ready-requires g c =
    let T0 : Tree = opening 2 in
    let T1 : Tree = made_act T0 (tk 0) (Open (sc 1) (sc 0) []) in
    let T2 : Tree = made_act T1 (tk 0) (Spawn (tk 1) (sc 1) (pl 0) (pl 1) []) in
    let T3 : Tree = made_act T2 (tk 0) (Wait (sc 1) []) in
    let s3 : g.L.FinishLedger.stands c.begins.new.ledger 0 T3 = c.in_ok-_begun.ensures in
    let m3 : MayAsk T3 (who 1 1 1 (Travel (pl 0) (pl 1))) Travels = asks T3 (who 1 1 1 (Travel (pl 0) (pl 1))) Travels _ refl refl refl refl (record { travels = refl }) (lit< tt) (lit< tt) in
    let T4 : Tree = made_act T3 (tk 1) (Arrive (pl 1)) in
    let s4 : g.L.FinishLedger.stands c.arrive.new.self 0 T4 = (c.in_ok-arrive.ensures 0 T3 s3 m3).made in
    let m4 : MayAsk T4 (who 1 1 1 (At (pl 1))) (IsBare T4 (who 1 1 1 (At (pl 1)))) = asks T4 (who 1 1 1 (At (pl 1))) (IsBare T4 (who 1 1 1 (At (pl 1)))) _ refl refl refl refl (record { moving = record { place = _; is_at = refl; moves = refl }; none_open = refl }) (lit< tt) (lit< tt) in
    let T5 : Tree = made_act T4 (tk 1) (End []) in
    let s5 : g.L.FinishLedger.stands c.ends.new.ledger 0 T5 = c.in_ok-ends.ensures 0 T4 s4 m4 in
    let m5 : MayAsk T5 (who 0 0 1 (At (pl 0))) (WaitsInside T5 (who 0 0 1 (At (pl 0)))) = asks T5 (who 0 0 1 (At (pl 0))) (WaitsInside T5 (who 0 0 1 (At (pl 0)))) _ refl refl refl refl (record { waits = refl; scope = _; own = refl }) (lit< tt) (lit< tt) in
    (0, T5, s5, m5)

pub release-requires : goal.release-requires
release-requires g c =
    let T0 : Tree = opening 2 in
    let T1 : Tree = made_act T0 (tk 0) (Open (sc 1) (sc 0) []) in
    let T2 : Tree = made_act T1 (tk 0) (Spawn (tk 1) (sc 1) (pl 0) (pl 1) []) in
    let T3 : Tree = made_act T2 (tk 0) (Wait (sc 1) []) in
    let s3 : g.L.FinishLedger.stands c.begins.new.ledger 0 T3 = c.in_ok-_begun.ensures in
    let m3 : MayAsk T3 (who 1 1 1 (Travel (pl 0) (pl 1))) Travels = asks T3 (who 1 1 1 (Travel (pl 0) (pl 1))) Travels _ refl refl refl refl (record { travels = refl }) (lit< tt) (lit< tt) in
    let T4 : Tree = made_act T3 (tk 1) (Arrive (pl 1)) in
    let s4 : g.L.FinishLedger.stands c.arrive.new.self 0 T4 = (c.in_ok-arrive.ensures 0 T3 s3 m3).made in
    let m4 : MayAsk T4 (who 1 1 1 (At (pl 1))) (IsBare T4 (who 1 1 1 (At (pl 1)))) = asks T4 (who 1 1 1 (At (pl 1))) (IsBare T4 (who 1 1 1 (At (pl 1)))) _ refl refl refl refl (record { moving = record { place = _; is_at = refl; moves = refl }; none_open = refl }) (lit< tt) (lit< tt) in
    let T5 : Tree = made_act T4 (tk 1) (End []) in
    let s5 : g.L.FinishLedger.stands c.ends.new.ledger 0 T5 = c.in_ok-ends.ensures 0 T4 s4 m4 in
    let m5 : MayAsk T5 (who 0 0 1 (At (pl 0))) (WaitsInside T5 (who 0 0 1 (At (pl 0)))) = asks T5 (who 0 0 1 (At (pl 0))) (WaitsInside T5 (who 0 0 1 (At (pl 0)))) _ refl refl refl refl (record { waits = refl; scope = _; own = refl }) (lit< tt) (lit< tt) in
    (0, T5, s5, m5)

pub ends-requires-2 : goal.ends-requires-2
ends-requires-2 g c =
    let T0 : Tree = opening 2 in
    let T1 : Tree = made_act T0 (tk 0) (Open (sc 1) (sc 0) []) in
    let T2 : Tree = made_act T1 (tk 0) (Spawn (tk 1) (sc 1) (pl 0) (pl 1) []) in
    let T3 : Tree = made_act T2 (tk 0) (Wait (sc 1) []) in
    let s3 : g.L.FinishLedger.stands c.begins.new.ledger 0 T3 = c.in_ok-_begun.ensures in
    let m3 : MayAsk T3 (who 1 1 1 (Travel (pl 0) (pl 1))) Travels = asks T3 (who 1 1 1 (Travel (pl 0) (pl 1))) Travels _ refl refl refl refl (record { travels = refl }) (lit< tt) (lit< tt) in
    let T4 : Tree = made_act T3 (tk 1) (Arrive (pl 1)) in
    let s4 : g.L.FinishLedger.stands c.arrive.new.self 0 T4 = (c.in_ok-arrive.ensures 0 T3 s3 m3).made in
    let m4 : MayAsk T4 (who 1 1 1 (At (pl 1))) (IsBare T4 (who 1 1 1 (At (pl 1)))) = asks T4 (who 1 1 1 (At (pl 1))) (IsBare T4 (who 1 1 1 (At (pl 1)))) _ refl refl refl refl (record { moving = record { place = _; is_at = refl; moves = refl }; none_open = refl }) (lit< tt) (lit< tt) in
    let T5 : Tree = made_act T4 (tk 1) (End []) in
    let s5 : g.L.FinishLedger.stands c.ends.new.ledger 0 T5 = c.in_ok-ends.ensures 0 T4 s4 m4 in
    let m5 : MayAsk T5 (who 0 0 1 (At (pl 0))) (WaitsInside T5 (who 0 0 1 (At (pl 0)))) = asks T5 (who 0 0 1 (At (pl 0))) (WaitsInside T5 (who 0 0 1 (At (pl 0)))) _ refl refl refl refl (record { waits = refl; scope = _; own = refl }) (lit< tt) (lit< tt) in
    let T6 : Tree = change_task resumed (tk 0) (without T5 (sc 1)) in
    let s6 : g.L.FinishLedger.stands c.release.new.self 0 T6 = (c.in_ok-outcome.ensures 0 T5 s5 m5).made in
    let m6 : MayAsk T6 (who 0 0 0 (At (pl 0))) (IsBare T6 (who 0 0 0 (At (pl 0)))) = asks T6 (who 0 0 0 (At (pl 0))) (IsBare T6 (who 0 0 0 (At (pl 0)))) _ refl refl refl refl (record { moving = record { place = _; is_at = refl; moves = refl }; none_open = refl }) (lit< tt) (lit< tt) in
    (0, T6, s6, m6)

pub release_root-requires : goal.release_root-requires
release_root-requires g c =
    let T0 : Tree = opening 2 in
    let T1 : Tree = made_act T0 (tk 0) (Open (sc 1) (sc 0) []) in
    let T2 : Tree = made_act T1 (tk 0) (Spawn (tk 1) (sc 1) (pl 0) (pl 1) []) in
    let T3 : Tree = made_act T2 (tk 0) (Wait (sc 1) []) in
    let s3 : g.L.FinishLedger.stands c.begins.new.ledger 0 T3 = c.in_ok-_begun.ensures in
    let m3 : MayAsk T3 (who 1 1 1 (Travel (pl 0) (pl 1))) Travels = asks T3 (who 1 1 1 (Travel (pl 0) (pl 1))) Travels _ refl refl refl refl (record { travels = refl }) (lit< tt) (lit< tt) in
    let T4 : Tree = made_act T3 (tk 1) (Arrive (pl 1)) in
    let s4 : g.L.FinishLedger.stands c.arrive.new.self 0 T4 = (c.in_ok-arrive.ensures 0 T3 s3 m3).made in
    let m4 : MayAsk T4 (who 1 1 1 (At (pl 1))) (IsBare T4 (who 1 1 1 (At (pl 1)))) = asks T4 (who 1 1 1 (At (pl 1))) (IsBare T4 (who 1 1 1 (At (pl 1)))) _ refl refl refl refl (record { moving = record { place = _; is_at = refl; moves = refl }; none_open = refl }) (lit< tt) (lit< tt) in
    let T5 : Tree = made_act T4 (tk 1) (End []) in
    let s5 : g.L.FinishLedger.stands c.ends.new.ledger 0 T5 = c.in_ok-ends.ensures 0 T4 s4 m4 in
    let m5 : MayAsk T5 (who 0 0 1 (At (pl 0))) (WaitsInside T5 (who 0 0 1 (At (pl 0)))) = asks T5 (who 0 0 1 (At (pl 0))) (WaitsInside T5 (who 0 0 1 (At (pl 0)))) _ refl refl refl refl (record { waits = refl; scope = _; own = refl }) (lit< tt) (lit< tt) in
    let T6 : Tree = change_task resumed (tk 0) (without T5 (sc 1)) in
    let s6 : g.L.FinishLedger.stands c.release.new.self 0 T6 = (c.in_ok-outcome.ensures 0 T5 s5 m5).made in
    let m6 : MayAsk T6 (who 0 0 0 (At (pl 0))) (IsBare T6 (who 0 0 0 (At (pl 0)))) = asks T6 (who 0 0 0 (At (pl 0))) (IsBare T6 (who 0 0 0 (At (pl 0)))) _ refl refl refl refl (record { moving = record { place = _; is_at = refl; moves = refl }; none_open = refl }) (lit< tt) (lit< tt) in
    let T7 : Tree = made_act T6 (tk 0) (End []) in
    let s7 : g.L.FinishLedger.stands c.ends-2.new.ledger 0 T7 = c.in_ok-ends-2.ensures 0 T6 s6 m6 in
    (0, T7, s7, record { root = _; stands = refl })
