-- Worked runs: the numbers that the tree gives, and the conditions of the calls.
use Rattle.std.proofs.Common.{◌≡◌, ℕ, ◌<◌, ◌+◌, false, List, [], Some, None, Result, Ok, Err, OnOk, is_ok, replicate, refl, ◌∙◌, subst, lit<, lit≤, arith}
use Rattle.std.proofs.lemmas.List.Elements.{All-set}
use Rattle.rx_rules.proofs.Common.{ScopeId, Fault, Tree, governs, made_act, strike, widened, opening, IsOlder}
use Rattle.rx_rules.specs.declared.tasks.Where.TheVariants.{At, Travel}
use Rattle.rx_rules.specs.declared.entries.Act.TheVariants.{Open, At as Calls, Spawn, Arrive, End}
use Rattle.rx_finish.specs.declared.ledger.Caller.{Caller}
use Rattle.rx_finish.specs.declared.ledger.LedgerFault.{LedgerFault}
use Rattle.rx_finish.specs.declared.ledger.LedgerFault.TheVariants.{NotYet, Lost, NoMemory}
use Rattle.rx_finish.specs.declared.ledger.Born.{Born}
use Rattle.rx_finish.specs.declared.ledger.Outcome.{Outcome}
use Rattle.rx_finish.specs.Callers.{MayAskMoving, MayAskTo, MayAskArrive, MayAskEnd, MayAskRelease, MayJoin, HasRoot, MayStrike, IsMoving, Travels, HasFinish, IsBare, WaitsInside}
use Rattle.rx_finish.specs.Calls.{Did, CallReply, ArriveReply, ReleaseReply, landing}
use Rattle.rx_finish.proofs.Worked.{asks, called_next, none_dead, spawned_next}
use Rattle.rx_counts.specs.Inside.Nesting.{CanNest, HasThree, task, scope, place, caller, opens, starts, nested, landed, two_deep, three_deep}

pub opened_nest : (T : Tree) (n : ℕ) → CanNest T n → (s : ScopeId) (S : Tree → Type 0) → Did T (caller n n (At (place n))) (Open s (scope n) []) S → S (opens T n)
opened_nest T n c s S d =
    subst (λ (m : ℕ). S (made_act T (task n) (Open (scope m) (scope n) []))) (d.allowed.asks.1 ∙ c.next_scope) d.made

pub started_nest : (T : Tree) (n : ℕ) → CanNest T n → (b : Born) (S : Tree → Type 0) → Did (opens T n) (caller n (n + 1) (At (place n))) (Spawn b.child b.scope (place n) (place (n + 1)) []) S → S (starts T n)
started_nest T n c b S d =
    subst (λ (r : ScopeId). S (made_act (opens T n) (task n) (Spawn (task (n + 1)) r (place n) (place (n + 1)) []))) c.under
    (subst (λ (m : ℕ). S (made_act (opens T n) (task n) (Spawn (task m) (governs (opens T n) c.starter) (place n) (place (n + 1)) []))) c.next_task
    (spawned_next (opens T n) (caller n (n + 1) (At (place n))) b.child b.scope (place n) (place (n + 1)) S c.starter c.stands d))

-- where there are three places there are two
pub two_places : (n : ℕ) → 2 < n → 1 < n
two_places n h = omega arith

-- the conditions of the calls of the worked run

pub can_first : (n : ℕ) → 1 < n → CanNest (opening n) 0
can_first n two =
    record {
      next_task = refl;
      next_scope = refl;
      may_open = asks (opening n) (caller 0 0 (At (place 0))) IsMoving _ refl refl refl refl (record { place = _; is_at = refl; moves = refl }) (lit< tt) (lit< tt);
      starter = _;
      stands = refl;
      under = refl;
      may_start = record { asks = asks (opens (opening n) 0) (caller 0 1 (At (place 0))) IsMoving _ refl refl refl refl (record { place = _; is_at = refl; moves = refl }) (lit< tt) (lit< tt); target = two };
      may_wait = asks (starts (opening n) 0) (caller 0 1 (At (place 0))) (HasFinish (starts (opening n) 0) (caller 0 1 (At (place 0)))) _ refl refl refl refl (record { moving = record { place = _; is_at = refl; moves = refl }; scope = _; own = refl; finish = refl }) (lit< tt) (lit< tt);
    }

pub can_second : (n : ℕ) → 2 < n → CanNest (landed (opening n) 0) 1
can_second n three =
    let T : Tree = landed (opening n) 0 in
    record {
      next_task = refl;
      next_scope = refl;
      may_open = asks T (caller 1 1 (At (place 1))) IsMoving _ refl refl refl refl (record { place = _; is_at = refl; moves = refl }) (lit< tt) (lit< tt);
      starter = _;
      stands = refl;
      under = refl;
      may_start = record { asks = asks (opens T 1) (caller 1 2 (At (place 1))) IsMoving _ refl refl refl refl (record { place = _; is_at = refl; moves = refl }) (lit< tt) (lit< tt); target = three };
      may_wait = asks (starts T 1) (caller 1 2 (At (place 1))) (HasFinish (starts T 1) (caller 1 2 (At (place 1)))) _ refl refl refl refl (record { moving = record { place = _; is_at = refl; moves = refl }; scope = _; own = refl; finish = refl }) (lit< tt) (lit< tt);
    }

pub can_third : CanNest (two_deep 4) 2
can_third =
    let T : Tree = two_deep 4 in
    record {
      next_task = refl;
      next_scope = refl;
      may_open = asks T (caller 2 2 (At (place 2))) IsMoving _ refl refl refl refl (record { place = _; is_at = refl; moves = refl }) (lit< tt) (lit< tt);
      starter = _;
      stands = refl;
      under = refl;
      may_start = record { asks = asks (opens T 2) (caller 2 3 (At (place 2))) IsMoving _ refl refl refl refl (record { place = _; is_at = refl; moves = refl }) (lit< tt) (lit< tt); target = lit< tt };
      may_wait = asks (starts T 2) (caller 2 3 (At (place 2))) (HasFinish (starts T 2) (caller 2 3 (At (place 2)))) _ refl refl refl refl (record { moving = record { place = _; is_at = refl; moves = refl }; scope = _; own = refl; finish = refl }) (lit< tt) (lit< tt);
    }

pub first_lands : (n : ℕ) → MayAskArrive (nested (opening n) 0) (caller 1 1 (Travel (place 0) (place 1)))
first_lands n = asks (nested (opening n) 0) (caller 1 1 (Travel (place 0) (place 1))) Travels _ refl refl refl refl (record { travels = refl }) (lit< tt) (lit< tt)

pub second_lands : (n : ℕ) → MayAskArrive (nested (landed (opening n) 0) 1) (caller 2 2 (Travel (place 1) (place 2)))
second_lands n = asks (nested (landed (opening n) 0) 1) (caller 2 2 (Travel (place 1) (place 2))) Travels _ refl refl refl refl (record { travels = refl }) (lit< tt) (lit< tt)

pub third_lands : MayAskArrive (nested (two_deep 4) 2) (caller 3 3 (Travel (place 2) (place 3)))
third_lands = asks (nested (two_deep 4) 2) (caller 3 3 (Travel (place 2) (place 3))) Travels _ refl refl refl refl (record { travels = refl }) (lit< tt) (lit< tt)

-- deaths

abbrev pub lost_home : Tree
lost_home = strike (record { place = place 2; entry = 12 }) three_deep

pub home_dies : MayStrike three_deep (place 2) 12
home_dies = record { dies = (lit< tt, λ e. cc, refl); later = none_dead 12 16 }

pub home_lost : HasThree lost_home
home_lost = record { first = refl; second = refl; third = refl }

pub last_ends : MayAskEnd lost_home (caller 3 3 (At (place 3)))
last_ends = asks lost_home (caller 3 3 (At (place 3))) (IsBare lost_home (caller 3 3 (At (place 3)))) _ refl refl refl refl (record { moving = record { place = _; is_at = refl; moves = refl }; none_open = refl }) (lit< tt) (lit< tt)

abbrev pub all_ended : Tree
all_ended = made_act lost_home (task 3) (End [])

pub heir_waits : MayAskRelease all_ended (caller 1 2 (At (place 1)))
heir_waits = asks all_ended (caller 1 2 (At (place 1))) (WaitsInside all_ended (caller 1 2 (At (place 1)))) _ refl refl refl refl (record { waits = refl; scope = _; own = refl }) (lit< tt) (lit< tt)

abbrev pub lost_last : Tree
lost_last = strike (record { place = place 3; entry = 12 }) three_deep

pub last_dies : MayStrike three_deep (place 3) 12
last_dies = record { dies = (lit< tt, λ e. cc, refl); later = none_dead 12 16 }

abbrev pub lost_both : Tree
lost_both = strike (record { place = place 2; entry = 13 }) lost_last

pub then_home_dies : MayStrike lost_last (place 2) 13
then_home_dies = record { dies = (lit< tt, λ e. cc, refl); later = All-set (IsOlder 13) (replicate 16 None) 3 (Some 12) (lit< tt) (none_dead 13 16) }

pub both_lost : HasThree lost_both
both_lost = record { first = refl; second = refl; third = refl }

-- an arrival that is answered made its entry
pub arrived : (T : Tree) (who : Caller) (r : Result Unit LedgerFault) (S : Tree → Type 0) → ArriveReply T who r S → OnOk r (S (made_act T who.task (Arrive (landing who.place))))
arrived T who (Ok u) S d = d.made
arrived T who (Err NoMemory) S d = tt
arrived T who (Err (Lost p a)) S d = tt
arrived T who (Err (NotYet p)) S d = tt

-- the first task comes and ends

pub first_ends : (n : ℕ) → MayAskEnd (landed (opening n) 0) (caller 1 1 (At (place 1)))
first_ends n = asks (landed (opening n) 0) (caller 1 1 (At (place 1))) (IsBare (landed (opening n) 0) (caller 1 1 (At (place 1)))) _ refl refl refl refl (record { moving = record { place = _; is_at = refl; moves = refl }; none_open = refl }) (lit< tt) (lit< tt)

abbrev pub first_ended : ℕ → Tree
first_ended n = made_act (landed (opening n) 0) (task 1) (End [])

pub main_waits : (n : ℕ) → MayAskRelease (first_ended n) (caller 0 1 (At (place 0)))
main_waits n = asks (first_ended n) (caller 0 1 (At (place 0))) (WaitsInside (first_ended n) (caller 0 1 (At (place 0)))) _ refl refl refl refl (record { waits = refl; scope = _; own = refl }) (lit< tt) (lit< tt)

-- or is lost on its way

pub waits_early : (n : ℕ) → MayAskRelease (nested (opening n) 0) (caller 0 1 (At (place 0)))
waits_early n = asks (nested (opening n) 0) (caller 0 1 (At (place 0))) (WaitsInside (nested (opening n) 0) (caller 0 1 (At (place 0)))) _ refl refl refl refl (record { waits = refl; scope = _; own = refl }) (lit< tt) (lit< tt)

pub target_dies : (n : ℕ) → 1 < n → MayStrike (nested (opening n) 0) (place 1) 3
target_dies n two = record { dies = (two, λ e. cc, refl); later = none_dead 3 16 }

abbrev pub target_lost : ℕ → Tree
target_lost n = strike (record { place = place 1; entry = 3 }) (nested (opening n) 0)

-- a release that is refused leaves the ledger as it was
pub still_stands : (T : Tree) (who : Caller) (r : Result Outcome LedgerFault) (S : Tree → Type 0) → ReleaseReply T who r S → is_ok r ≡ false → S T
still_stands T who (Ok o) S h e = cc
still_stands T who (Err NoMemory) S h e = h.2
still_stands T who (Err (Lost p a)) S h e = h.1
still_stands T who (Err (NotYet p)) S h e = h.2

-- the first task is called

pub main_calls : MayAskTo (opening 4) (caller 0 0 (At (place 0))) (place 1)
main_calls = record { asks = asks (opening 4) (caller 0 0 (At (place 0))) IsMoving _ refl refl refl refl (record { place = _; is_at = refl; moves = refl }) (lit< tt) (lit< tt); target = lit< tt }

abbrev pub called : Tree
called = made_act (opening 4) (task 0) (Calls (place 0) (place 1) (scope 1) (scope 0) (task 1) [])

pub called_stands : (b : Born) (S : Tree → Type 0) → CallReply (opening 4) (caller 0 0 (At (place 0))) (place 1) (Ok b) S → S called
called_stands b S h = called_next (opening 4) (caller 0 0 (At (place 0))) b.scope b.child (place 0) (place 1) S h.0

pub root_there : HasRoot called
root_there = record { root = _; stands = refl }

-- the second task ends, under a finish whose home has died or is to die

abbrev pub middle_lost : Tree
middle_lost = strike (record { place = place 1; entry = 8 }) (two_deep 3)

pub middle_dies : MayStrike (two_deep 3) (place 1) 8
middle_dies = record { dies = (lit< tt, λ e. cc, refl); later = none_dead 8 16 }

pub ends_late : MayAskEnd middle_lost (caller 2 2 (At (place 2)))
ends_late = asks middle_lost (caller 2 2 (At (place 2))) (IsBare middle_lost (caller 2 2 (At (place 2)))) _ refl refl refl refl (record { moving = record { place = _; is_at = refl; moves = refl }; none_open = refl }) (lit< tt) (lit< tt)

abbrev pub ended_late : List Fault → Tree
ended_late thrown = made_act middle_lost (task 2) (End thrown)

pub first_waits : (thrown : List Fault) → MayAskRelease (ended_late thrown) (caller 0 1 (At (place 0)))
first_waits thrown = asks (ended_late thrown) (caller 0 1 (At (place 0))) (WaitsInside (ended_late thrown) (caller 0 1 (At (place 0)))) _ refl refl refl refl (record { waits = refl; scope = _; own = refl }) (lit< tt) (lit< tt)

pub ends_early : MayAskEnd (two_deep 3) (caller 2 2 (At (place 2)))
ends_early = asks (two_deep 3) (caller 2 2 (At (place 2))) (IsBare (two_deep 3) (caller 2 2 (At (place 2)))) _ refl refl refl refl (record { moving = record { place = _; is_at = refl; moves = refl }; none_open = refl }) (lit< tt) (lit< tt)

abbrev pub ended_early : List Fault → Tree
ended_early thrown = made_act (two_deep 3) (task 2) (End thrown)

pub dies_after : (thrown : List Fault) → MayStrike (ended_early thrown) (place 1) 9
dies_after thrown = record { dies = (lit< tt, λ e. cc, refl); later = none_dead 9 16 }

abbrev pub lost_after : List Fault → Tree
lost_after thrown = strike (record { place = place 1; entry = 9 }) (ended_early thrown)

pub still_waits : (thrown : List Fault) → MayAskRelease (lost_after thrown) (caller 0 1 (At (place 0)))
still_waits thrown = asks (lost_after thrown) (caller 0 1 (At (place 0))) (WaitsInside (lost_after thrown) (caller 0 1 (At (place 0)))) _ refl refl refl refl (record { waits = refl; scope = _; own = refl }) (lit< tt) (lit< tt)

-- two adoptions, of a finish by a call and of both by a finish

abbrev pub asked : Tree
asked = made_act (landed (opening 4) 0) (task 1) (Calls (place 1) (place 2) (scope 2) (scope 1) (task 2) [])

pub first_calls : MayAskTo (landed (opening 4) 0) (caller 1 1 (At (place 1))) (place 2)
first_calls = record { asks = asks (landed (opening 4) 0) (caller 1 1 (At (place 1))) IsMoving _ refl refl refl refl (record { place = _; is_at = refl; moves = refl }) (lit< tt) (lit< tt); target = lit< tt }

pub asked_stands : (b : Born) (S : Tree → Type 0) → CallReply (landed (opening 4) 0) (caller 1 1 (At (place 1))) (place 2) (Ok b) S → S asked
asked_stands b S h = called_next (landed (opening 4) 0) (caller 1 1 (At (place 1))) b.scope b.child (place 1) (place 2) S h.0

pub callee_lands : MayAskArrive asked (caller 2 2 (Travel (place 1) (place 2)))
callee_lands = asks asked (caller 2 2 (Travel (place 1) (place 2))) Travels _ refl refl refl refl (record { travels = refl }) (lit< tt) (lit< tt)

abbrev pub served : Tree
served = made_act asked (task 2) (Arrive (place 2))

pub callee_nests : CanNest served 2
callee_nests =
    record {
      next_task = refl;
      next_scope = refl;
      may_open = asks served (caller 2 2 (At (place 2))) IsMoving _ refl refl refl refl (record { place = _; is_at = refl; moves = refl }) (lit< tt) (lit< tt);
      starter = _;
      stands = refl;
      under = refl;
      may_start = record { asks = asks (opens served 2) (caller 2 3 (At (place 2))) IsMoving _ refl refl refl refl (record { place = _; is_at = refl; moves = refl }) (lit< tt) (lit< tt); target = lit< tt };
      may_wait = asks (starts served 2) (caller 2 3 (At (place 2))) (HasFinish (starts served 2) (caller 2 3 (At (place 2)))) _ refl refl refl refl (record { moving = record { place = _; is_at = refl; moves = refl }; scope = _; own = refl; finish = refl }) (lit< tt) (lit< tt);
    }

pub inner_lands : MayAskArrive (nested served 2) (caller 3 3 (Travel (place 2) (place 3)))
inner_lands = asks (nested served 2) (caller 3 3 (Travel (place 2) (place 3))) Travels _ refl refl refl refl (record { travels = refl }) (lit< tt) (lit< tt)

pub inner_ends : MayAskEnd (landed served 2) (caller 3 3 (At (place 3)))
inner_ends = asks (landed served 2) (caller 3 3 (At (place 3))) (IsBare (landed served 2) (caller 3 3 (At (place 3)))) _ refl refl refl refl (record { moving = record { place = _; is_at = refl; moves = refl }; none_open = refl }) (lit< tt) (lit< tt)

abbrev pub inner_ended : List Fault → Tree
inner_ended thrown = made_act (landed served 2) (task 3) (End thrown)

pub inner_dies : (thrown : List Fault) → MayStrike (inner_ended thrown) (place 2) 12
inner_dies thrown = record { dies = (lit< tt, λ e. cc, refl); later = none_dead 12 16 }

abbrev pub inner_lost : List Fault → Tree
inner_lost thrown = strike (record { place = place 2; entry = 12 }) (inner_ended thrown)

pub outer_dies : (thrown : List Fault) → MayStrike (inner_lost thrown) (place 1) 13
outer_dies thrown = record { dies = (lit< tt, λ e. cc, refl); later = All-set (IsOlder 13) (replicate 16 None) 2 (Some 12) (lit< tt) (none_dead 13 16) }

abbrev pub outer_lost : List Fault → Tree
outer_lost thrown = strike (record { place = place 1; entry = 13 }) (inner_lost thrown)

pub outer_waits : (thrown : List Fault) → MayAskRelease (outer_lost thrown) (caller 0 1 (At (place 0)))
outer_waits thrown = asks (outer_lost thrown) (caller 0 1 (At (place 0))) (WaitsInside (outer_lost thrown) (caller 0 1 (At (place 0)))) _ refl refl refl refl (record { waits = refl; scope = _; own = refl }) (lit< tt) (lit< tt)

-- a place joins

pub main_counts : MayAskMoving (opening 1) (caller 0 0 (At (place 0)))
main_counts = asks (opening 1) (caller 0 0 (At (place 0))) IsMoving _ refl refl refl refl (record { place = _; is_at = refl; moves = refl }) (lit< tt) (lit< tt)

pub next_joins : MayJoin (opening 1) (place 1)
next_joins = (refl, lit≤ tt)

pub main_counts_on : MayAskMoving (widened (opening 1)) (caller 0 0 (At (place 0)))
main_counts_on = asks (widened (opening 1)) (caller 0 0 (At (place 0))) IsMoving _ refl refl refl refl (record { place = _; is_at = refl; moves = refl }) (lit< tt) (lit< tt)
