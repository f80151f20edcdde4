use Rattle.std.proofs.Common.{[], refl, lit<}
use Rattle.rx_rules.specs.declared.tasks.Where.TheVariants.{At, Travel}
use Rattle.rx_rules.specs.declared.entries.Act.TheVariants.{Open, Spawn, Arrive, Wait, End}
use Rattle.rx_rules.proofs.Common.{Tree, made_act, strike, opening}
use Rattle.rx_finish.specs.Callers.{MayAsk, MayAskTo, IsMoving, Travels, IsBare, MayStrike}
use Rattle.rx_finish.proofs.Worked.{who, tk, sc, pl, asks, spawned_next, none_dead}
use Rattle.tests_of_ledgers.proofs.tree.source.Goals as goal

pub begins-requires-clause-enough : goal.begins-requires-clause-enough
begins-requires-clause-enough g c =
    let T0 : Tree = opening 3 in
    let T1 : Tree = made_act T0 (tk 0) (Open (sc 1) (sc 0) []) in
    let T2 : Tree = made_act T1 (tk 0) (Spawn (tk 1) (sc 1) (pl 0) (pl 1) []) in
    let T3 : Tree = made_act T2 (tk 0) (Wait (sc 1) []) in
    lit< tt

pub arrive-requires : goal.arrive-requires
arrive-requires g c =
    let T0 : Tree = opening 3 in
    let T1 : Tree = made_act T0 (tk 0) (Open (sc 1) (sc 0) []) in
    let T2 : Tree = made_act T1 (tk 0) (Spawn (tk 1) (sc 1) (pl 0) (pl 1) []) in
    let T3 : Tree = made_act T2 (tk 0) (Wait (sc 1) []) in
    let s3 : g.L.FinishLedger.stands c.begins.new.ledger 0 T3 = c.in_ok-_begun.ensures in
    let m3 : MayAsk T3 (who 1 1 1 (Travel (pl 0) (pl 1))) Travels = asks T3 (who 1 1 1 (Travel (pl 0) (pl 1))) Travels _ refl refl refl refl (record { travels = refl }) (lit< tt) (lit< tt) in
    (0, T3, s3, m3)

pub spawn-requires : goal.spawn-requires
spawn-requires g c =
    let T0 : Tree = opening 3 in
    let T1 : Tree = made_act T0 (tk 0) (Open (sc 1) (sc 0) []) in
    let T2 : Tree = made_act T1 (tk 0) (Spawn (tk 1) (sc 1) (pl 0) (pl 1) []) in
    let T3 : Tree = made_act T2 (tk 0) (Wait (sc 1) []) in
    let s3 : g.L.FinishLedger.stands c.begins.new.ledger 0 T3 = c.in_ok-_begun.ensures in
    let m3 : MayAsk T3 (who 1 1 1 (Travel (pl 0) (pl 1))) Travels = asks T3 (who 1 1 1 (Travel (pl 0) (pl 1))) Travels _ refl refl refl refl (record { travels = refl }) (lit< tt) (lit< tt) in
    let T4 : Tree = made_act T3 (tk 1) (Arrive (pl 1)) in
    let s4 : g.L.FinishLedger.stands c.arrive.new.self 0 T4 = (c.in_ok-arrive.ensures 0 T3 s3 m3).made in
    let m4 : MayAskTo T4 (who 1 1 1 (At (pl 1))) (pl 2) = record { asks = asks T4 (who 1 1 1 (At (pl 1))) IsMoving _ refl refl refl refl (record { place = _; is_at = refl; moves = refl }) (lit< tt) (lit< tt); target = lit< tt } in
    (0, T4, s4, m4)

pub ends-requires : goal.ends-requires
ends-requires g c =
    let T0 : Tree = opening 3 in
    let T1 : Tree = made_act T0 (tk 0) (Open (sc 1) (sc 0) []) in
    let T2 : Tree = made_act T1 (tk 0) (Spawn (tk 1) (sc 1) (pl 0) (pl 1) []) in
    let T3 : Tree = made_act T2 (tk 0) (Wait (sc 1) []) in
    let s3 : g.L.FinishLedger.stands c.begins.new.ledger 0 T3 = c.in_ok-_begun.ensures in
    let m3 : MayAsk T3 (who 1 1 1 (Travel (pl 0) (pl 1))) Travels = asks T3 (who 1 1 1 (Travel (pl 0) (pl 1))) Travels _ refl refl refl refl (record { travels = refl }) (lit< tt) (lit< tt) in
    let T4 : Tree = made_act T3 (tk 1) (Arrive (pl 1)) in
    let s4 : g.L.FinishLedger.stands c.arrive.new.self 0 T4 = (c.in_ok-arrive.ensures 0 T3 s3 m3).made in
    let m4 : MayAskTo T4 (who 1 1 1 (At (pl 1))) (pl 2) = record { asks = asks T4 (who 1 1 1 (At (pl 1))) IsMoving _ refl refl refl refl (record { place = _; is_at = refl; moves = refl }) (lit< tt) (lit< tt); target = lit< tt } in
    let T5 : Tree = made_act T4 (tk 1) (Spawn (tk 2) (sc 1) (pl 1) (pl 2) []) in
    let s5 : g.L.FinishLedger.stands c.spawn.new.self 0 T5 = spawned_next T4 (who 1 1 1 (At (pl 1))) c.in_ok-_born._born.child c.in_ok-_born._born.scope (pl 1) (pl 2) (g.L.FinishLedger.stands c.spawn.new.self 0) _ refl (c.in_ok-_born.ensures 0 T4 s4 m4).0 in
    let m5 : MayAsk T5 (who 1 1 1 (At (pl 1))) (IsBare T5 (who 1 1 1 (At (pl 1)))) = asks T5 (who 1 1 1 (At (pl 1))) (IsBare T5 (who 1 1 1 (At (pl 1)))) _ refl refl refl refl (record { moving = record { place = _; is_at = refl; moves = refl }; none_open = refl }) (lit< tt) (lit< tt) in
    (0, T5, s5, m5)

pub death-requires : goal.death-requires
death-requires g c =
    let T0 : Tree = opening 3 in
    let T1 : Tree = made_act T0 (tk 0) (Open (sc 1) (sc 0) []) in
    let T2 : Tree = made_act T1 (tk 0) (Spawn (tk 1) (sc 1) (pl 0) (pl 1) []) in
    let T3 : Tree = made_act T2 (tk 0) (Wait (sc 1) []) in
    let s3 : g.L.FinishLedger.stands c.begins.new.ledger 0 T3 = c.in_ok-_begun.ensures in
    let m3 : MayAsk T3 (who 1 1 1 (Travel (pl 0) (pl 1))) Travels = asks T3 (who 1 1 1 (Travel (pl 0) (pl 1))) Travels _ refl refl refl refl (record { travels = refl }) (lit< tt) (lit< tt) in
    let T4 : Tree = made_act T3 (tk 1) (Arrive (pl 1)) in
    let s4 : g.L.FinishLedger.stands c.arrive.new.self 0 T4 = (c.in_ok-arrive.ensures 0 T3 s3 m3).made in
    let m4 : MayAskTo T4 (who 1 1 1 (At (pl 1))) (pl 2) = record { asks = asks T4 (who 1 1 1 (At (pl 1))) IsMoving _ refl refl refl refl (record { place = _; is_at = refl; moves = refl }) (lit< tt) (lit< tt); target = lit< tt } in
    let T5 : Tree = made_act T4 (tk 1) (Spawn (tk 2) (sc 1) (pl 1) (pl 2) []) in
    let s5 : g.L.FinishLedger.stands c.spawn.new.self 0 T5 = spawned_next T4 (who 1 1 1 (At (pl 1))) c.in_ok-_born._born.child c.in_ok-_born._born.scope (pl 1) (pl 2) (g.L.FinishLedger.stands c.spawn.new.self 0) _ refl (c.in_ok-_born.ensures 0 T4 s4 m4).0 in
    let m5 : MayAsk T5 (who 1 1 1 (At (pl 1))) (IsBare T5 (who 1 1 1 (At (pl 1)))) = asks T5 (who 1 1 1 (At (pl 1))) (IsBare T5 (who 1 1 1 (At (pl 1)))) _ refl refl refl refl (record { moving = record { place = _; is_at = refl; moves = refl }; none_open = refl }) (lit< tt) (lit< tt) in
    let T6 : Tree = made_act T5 (tk 1) (End []) in
    let s6 : g.L.FinishLedger.stands c.ends.new.ledger 0 T6 = c.in_ok-ends.ensures 0 T5 s5 m5 in
    let md : MayStrike T6 (pl 1) 6 = record { dies = (lit< tt, λ e. cc, refl); later = none_dead 6 16 } in
    (0, T6, s6, md)

pub arrive-requires-2 : goal.arrive-requires-2
arrive-requires-2 g c =
    let T0 : Tree = opening 3 in
    let T1 : Tree = made_act T0 (tk 0) (Open (sc 1) (sc 0) []) in
    let T2 : Tree = made_act T1 (tk 0) (Spawn (tk 1) (sc 1) (pl 0) (pl 1) []) in
    let T3 : Tree = made_act T2 (tk 0) (Wait (sc 1) []) in
    let s3 : g.L.FinishLedger.stands c.begins.new.ledger 0 T3 = c.in_ok-_begun.ensures in
    let m3 : MayAsk T3 (who 1 1 1 (Travel (pl 0) (pl 1))) Travels = asks T3 (who 1 1 1 (Travel (pl 0) (pl 1))) Travels _ refl refl refl refl (record { travels = refl }) (lit< tt) (lit< tt) in
    let T4 : Tree = made_act T3 (tk 1) (Arrive (pl 1)) in
    let s4 : g.L.FinishLedger.stands c.arrive.new.self 0 T4 = (c.in_ok-arrive.ensures 0 T3 s3 m3).made in
    let m4 : MayAskTo T4 (who 1 1 1 (At (pl 1))) (pl 2) = record { asks = asks T4 (who 1 1 1 (At (pl 1))) IsMoving _ refl refl refl refl (record { place = _; is_at = refl; moves = refl }) (lit< tt) (lit< tt); target = lit< tt } in
    let T5 : Tree = made_act T4 (tk 1) (Spawn (tk 2) (sc 1) (pl 1) (pl 2) []) in
    let s5 : g.L.FinishLedger.stands c.spawn.new.self 0 T5 = spawned_next T4 (who 1 1 1 (At (pl 1))) c.in_ok-_born._born.child c.in_ok-_born._born.scope (pl 1) (pl 2) (g.L.FinishLedger.stands c.spawn.new.self 0) _ refl (c.in_ok-_born.ensures 0 T4 s4 m4).0 in
    let m5 : MayAsk T5 (who 1 1 1 (At (pl 1))) (IsBare T5 (who 1 1 1 (At (pl 1)))) = asks T5 (who 1 1 1 (At (pl 1))) (IsBare T5 (who 1 1 1 (At (pl 1)))) _ refl refl refl refl (record { moving = record { place = _; is_at = refl; moves = refl }; none_open = refl }) (lit< tt) (lit< tt) in
    let T6 : Tree = made_act T5 (tk 1) (End []) in
    let s6 : g.L.FinishLedger.stands c.ends.new.ledger 0 T6 = c.in_ok-ends.ensures 0 T5 s5 m5 in
    let md : MayStrike T6 (pl 1) 6 = record { dies = (lit< tt, λ e. cc, refl); later = none_dead 6 16 } in
    let TD : Tree = strike (record { place = pl 1; entry = 6 }) T6 in
    let sd : g.L.FinishLedger.stands c.death.new.self 0 TD = c.death.ensures 0 T6 s6 md in
    (0, TD, sd, asks TD (who 2 1 1 (Travel (pl 1) (pl 2))) Travels _ refl refl refl refl (record { travels = refl }) (lit< tt) (lit< tt))
