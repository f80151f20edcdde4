-- The trees of a worked history, and who may ask of them.
use Rattle.std.proofs.Common.{[], ◌∷◌, pos, Result, Ok, Err, OnOk, refl, lit<, lit≤}
use Rattle.rx_rules.proofs.Common.{Thrown, Tree, made_act, strike, change_task, resumed, without, widened, opening}
use Rattle.rx_rules.specs.declared.tasks.Where.TheVariants.{At, Travel}
use Rattle.rx_rules.specs.declared.entries.Act.TheVariants.{Open, Spawn, Arrive, Wait, End}
use Rattle.rx_finish.specs.Callers.{MayAskMoving, MayAskTo, MayAskArrive, MayAskWait, MayAskRelease, MayAskEnd, IsMoving, Travels, HasFinish, WaitsInside, IsBare, HasRoot, MayStrike, MayJoin}
use Rattle.rx_finish.specs.declared.ledger.Caller.{Caller}
use Rattle.rx_finish.specs.declared.ledger.LedgerFault.{LedgerFault}
use Rattle.rx_finish.specs.declared.ledger.LedgerFault.TheVariants.{NotYet, Lost, NoMemory}
use Rattle.rx_finish.specs.Calls.{ArriveReply, landing}
use Rattle.rx_finish.proofs.Worked.{who, tk, sc, pl, asks, none_dead}
use Rattle.rx_tree.specs.Inside.Worked.{two_deep}

-- an arrival that succeeds
pub arrived : (T : Tree) (who : Caller) (res : Result Unit LedgerFault) (S : Tree → Type 0) → ArriveReply T who res S → OnOk res (S (made_act T who.task (Arrive (landing who.place))))
arrived T who (Ok u) S h = h.made
arrived T who (Err NoMemory) S h = tt
arrived T who (Err (Lost place at)) S h = tt
arrived T who (Err (NotYet place)) S h = tt

-- task 0 waits for task 1, which travels
abbrev pub sent : Tree
sent = made_act (made_act (made_act (opening 3) (tk 0) (Open (sc 1) (sc 0) [])) (tk 0) (Spawn (tk 1) (sc 1) (pl 0) (pl 1) [])) (tk 0) (Wait (sc 1) [])

pub sent_arrives : MayAskArrive sent (who 1 1 1 (Travel (pl 0) (pl 1)))
sent_arrives = asks sent (who 1 1 1 (Travel (pl 0) (pl 1))) Travels _ refl refl refl refl (record { travels = refl }) (lit< tt) (lit< tt)

abbrev pub landed : Tree
landed = made_act sent (tk 1) (Arrive (pl 1))

pub landed_opens : MayAskMoving landed (who 1 1 1 (At (pl 1)))
landed_opens = asks landed (who 1 1 1 (At (pl 1))) IsMoving _ refl refl refl refl (record { place = _; is_at = refl; moves = refl }) (lit< tt) (lit< tt)

abbrev pub within : Tree
within = made_act landed (tk 1) (Open (sc 2) (sc 1) [])

pub within_spawns : MayAskTo within (who 1 1 2 (At (pl 1))) (pl 2)
within_spawns = record { asks = asks within (who 1 1 2 (At (pl 1))) IsMoving _ refl refl refl refl (record { place = _; is_at = refl; moves = refl }) (lit< tt) (lit< tt); target = lit< tt }

abbrev pub started : Tree
started = made_act within (tk 1) (Spawn (tk 2) (sc 2) (pl 1) (pl 2) [])

pub started_waits : MayAskWait started (who 1 1 2 (At (pl 1)))
started_waits = asks started (who 1 1 2 (At (pl 1))) (HasFinish started (who 1 1 2 (At (pl 1)))) _ refl refl refl refl (record { moving = record { place = _; is_at = refl; moves = refl }; scope = _; own = refl; finish = refl }) (lit< tt) (lit< tt)

abbrev pub awaited : Tree
awaited = made_act started (tk 1) (Wait (sc 2) [])

pub awaited_arrives : MayAskArrive awaited (who 2 2 2 (Travel (pl 1) (pl 2)))
awaited_arrives = asks awaited (who 2 2 2 (Travel (pl 1) (pl 2))) Travels _ refl refl refl refl (record { travels = refl }) (lit< tt) (lit< tt)

-- Place 1 dies, and then task 2 ends.
pub home_dies : MayStrike two_deep (pl 1) 8
home_dies = record { dies = (lit< tt, λ e. cc, refl); later = none_dead 8 16 }

abbrev pub orphaned : Tree
orphaned = strike (record { place = pl 1; entry = 8 }) two_deep

pub orphan_ends : MayAskEnd orphaned (who 2 2 2 (At (pl 2)))
orphan_ends = asks orphaned (who 2 2 2 (At (pl 2))) (IsBare orphaned (who 2 2 2 (At (pl 2)))) _ refl refl refl refl (record { moving = record { place = _; is_at = refl; moves = refl }; none_open = refl }) (lit< tt) (lit< tt)

abbrev pub adopted : Tree
adopted = made_act orphaned (tk 2) (End (Thrown (pos 5) ∷ []))

pub adopter_waits : MayAskRelease adopted (who 0 0 1 (At (pl 0)))
adopter_waits = asks adopted (who 0 0 1 (At (pl 0))) (WaitsInside adopted (who 0 0 1 (At (pl 0)))) _ refl refl refl refl (record { waits = refl; scope = _; own = refl }) (lit< tt) (lit< tt)

abbrev pub released : Tree
released = change_task resumed (tk 0) (without adopted (sc 1))

pub main_ends : MayAskEnd released (who 0 0 0 (At (pl 0)))
main_ends = asks released (who 0 0 0 (At (pl 0))) (IsBare released (who 0 0 0 (At (pl 0)))) _ refl refl refl refl (record { moving = record { place = _; is_at = refl; moves = refl }; none_open = refl }) (lit< tt) (lit< tt)

abbrev pub ended : Tree
ended = made_act released (tk 0) (End [])

pub root_stands : HasRoot ended
root_stands = record { root = _; stands = refl }

-- Task 2 ends, and then place 1 dies.
pub last_ends : MayAskEnd two_deep (who 2 2 2 (At (pl 2)))
last_ends = asks two_deep (who 2 2 2 (At (pl 2))) (IsBare two_deep (who 2 2 2 (At (pl 2)))) _ refl refl refl refl (record { moving = record { place = _; is_at = refl; moves = refl }; none_open = refl }) (lit< tt) (lit< tt)

abbrev pub holding : Tree
holding = made_act two_deep (tk 2) (End (Thrown (pos 5) ∷ []))

pub holder_dies : MayStrike holding (pl 1) 9
holder_dies = record { dies = (lit< tt, λ e. cc, refl); later = none_dead 9 16 }

abbrev pub dropping : Tree
dropping = strike (record { place = pl 1; entry = 9 }) holding

pub heir_waits : MayAskRelease dropping (who 0 0 1 (At (pl 0)))
heir_waits = asks dropping (who 0 0 1 (At (pl 0))) (WaitsInside dropping (who 0 0 1 (At (pl 0)))) _ refl refl refl refl (record { waits = refl; scope = _; own = refl }) (lit< tt) (lit< tt)

-- A place joins, and dies.
pub second_joins : MayJoin (opening 1) (pl 1)
second_joins = (refl, lit≤ tt)

abbrev pub wider : Tree
wider = widened (opening 1)

pub wider_asks : MayAskMoving wider (who 0 0 0 (At (pl 0)))
wider_asks = asks wider (who 0 0 0 (At (pl 0))) IsMoving _ refl refl refl refl (record { place = _; is_at = refl; moves = refl }) (lit< tt) (lit< tt)

pub second_dies : MayStrike wider (pl 1) 3
second_dies = record { dies = (lit< tt, λ e. cc, refl); later = none_dead 3 16 }

abbrev pub fewer : Tree
fewer = strike (record { place = pl 1; entry = 3 }) wider

pub fewer_asks : MayAskMoving fewer (who 0 0 0 (At (pl 0)))
fewer_asks = asks fewer (who 0 0 0 (At (pl 0))) IsMoving _ refl refl refl refl (record { place = _; is_at = refl; moves = refl }) (lit< tt) (lit< tt)
