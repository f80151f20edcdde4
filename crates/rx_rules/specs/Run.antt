-- Whole runs.
use Rattle.std.specs.Prelude.{◌≡◌, ◌≢◌, ◌⊎◌, ℕ, suc, ◌+◌, ◌<◌, ◌≤◌, cond, ◌==◌, nat_le, List, [], ◌∷◌, map, length, slice_get}
use Rattle.std.specs.Prelude.{option_to_list, Option, Some, None}
use Rattle.std.specs.List.{filter_map}
use Rattle.rx_base.specs.declared.ids.PlaceId.{PlaceId}
use Rattle.rx_base.specs.declared.ids.Kill.{Kill}
use Rattle.rx_rules.specs.declared.entries.Entry.{Entry}
use Rattle.rx_rules.specs.declared.entries.Entry.TheVariants.{Root, Death, Join}
use Rattle.rx_rules.specs.declared.events.PlaceEvent.{PlaceEvent}
use Rattle.rx_rules.specs.declared.events.PlaceEvent.TheVariants.{Done, Close}
use Rattle.rx_rules.specs.Code.{Block}
use Rattle.rx_rules.specs.Fold.{opening, AllAllowed, births}
use Rattle.rx_rules.specs.Plays.{Played, birth_of}
use Rattle.rx_rules.specs.Store.{IsStoreRun, opening_state}

-- what a run is given: places, words of a heap, the kills in ascending order, and the moments of the joins
pub record Given : Type 0 where
  pub places : ℕ
  pub heap : ℕ
  pub kills : List Kill
  pub joins : List ℕ

-- the places that are there or may join
abbrev pub in_all : Given → ℕ
in_all U = U.places + length U.joins

-- the second kill comes after the first: by moment, and by place at one moment
abbrev pub ComesAfter : Kill → Kill → Type 0
ComesAfter a b = (a.moment < b.moment) ⊎ ((a.moment ≡ b.moment) × (a.place.0 < b.place.0))

-- no kill of the list is of this place
abbrev pub Spares : PlaceId → List Kill → Type 0
Spares p [] = Unit {0}
Spares p (k ∷ ks) = (p.0 ≢ k.place.0) × Spares p ks

-- each kill comes after the one before it
abbrev pub Ascends : Kill → List Kill → Type 0
Ascends a [] = Unit {0}
Ascends a (k ∷ ks) = ComesAfter a k × Ascends k ks

-- the place of the kill is there at its moment
abbrev pub Joined : Given → Kill → Type 0
Joined U k = (i e : ℕ) → slice_get U.joins i ≡ Some e → k.place.0 ≡ U.places + i → e ≤ k.moment

-- kills of places that are there at their moments and are not 0, none twice, in ascending order
abbrev pub AreKills : Given → List Kill → Type 0
AreKills U [] = Unit {0}
AreKills U (k ∷ ks) =
    (k.place.0 < in_all U) × (k.place.0 ≢ 0) × Joined U k × Spares k.place ks × Ascends k ks × AreKills U ks

-- no moment is below the one before it
abbrev pub AreJoins : ℕ → List ℕ → Type 0
AreJoins low [] = Unit {0}
AreJoins low (e ∷ es) = (low ≤ e) × AreJoins e es

-- a proper setup
pub record Proper (U : Given) : Type 0 where
  pub some : 1 ≤ U.places
  pub few : in_all U ≤ 16
  pub words : 1 ≤ U.heap
  pub small : U.heap ≤ 4096
  pub kills : AreKills U U.kills
  pub joins : AreJoins 0 U.joins

-- Deaths and joins in one order: by moment, joins before deaths, and by place.

-- an entry that is planned for a moment
pub record Event : Type 0 where
  pub moment : ℕ
  pub entry : Entry

-- an event among others, before the first that is not earlier
abbrev pub put_in : Event → List Event → List Event
put_in e [] = e ∷ []
put_in e (x ∷ xs) = cond (nat_le e.moment x.moment) (e ∷ x ∷ xs) (x ∷ put_in e xs)

-- the deaths of the kills, and among them the joins of places p, p + 1, ..
abbrev pub events : ℕ → List ℕ → List Kill → List Event
events p [] ks = map (λ k. record { moment = k.moment; entry = Death k.place }) ks
events p (e ∷ es) ks = put_in (record { moment = e; entry = Join (record { 0 = p }) }) (events (suc p) es ks)

-- what is planned
abbrev pub plan_of : Given → List Event
plan_of U = events U.places U.joins U.kills

-- nothing is due where the history has n entries
abbrev pub NoneDue : ℕ → List Event → Type 0
NoneDue n [] = Unit {0}
NoneDue n (x ∷ xs) = n < x.moment

-- the entry is due: it is the first that is left
abbrev pub IsDue : ℕ → Entry → List Event → Type 0
IsDue n e [] = ⊥
IsDue n e (x ∷ xs) = (x.entry ≡ e) × (x.moment ≤ n)

-- what is left after the first
abbrev pub rest_of : List Event → List Event
rest_of [] = []
rest_of (x ∷ xs) = xs

-- each entry from entry n on is the death or join that is due, or stands where none is
abbrev pub PlanKept : ℕ → List Event → List Entry → Type 0
PlanKept n xs [] = Unit {0}
PlanKept n xs (Death d ∷ es) = IsDue n (Death d) xs × PlanKept (suc n) (rest_of xs) es
PlanKept n xs (Join p ∷ es) = IsDue n (Join p) xs × PlanKept (suc n) (rest_of xs) es
PlanKept n xs (e ∷ es) = NoneDue n xs × PlanKept (suc n) xs es

-- the root's release is the last entry, and no other
abbrev pub EndsWithRoot : List Entry → Type 0
EndsWithRoot [] = ⊥
EndsWithRoot (Root lost masked thrown ∷ es) = es ≡ []
EndsWithRoot (e ∷ es) = EndsWithRoot es

-- no entry releases the root
abbrev pub NoRoot : List Entry → Type 0
NoRoot [] = Unit {0}
NoRoot (Root lost masked thrown ∷ es) = ⊥
NoRoot (e ∷ es) = NoRoot es

-- Stamps.

-- the stamp of an event
abbrev pub stamp_of : PlaceEvent → ℕ
stamp_of (Done task stamp cell path) = stamp
stamp_of (Close stamp) = stamp

-- the stamps of a journal do not fall, and none is below `low`
abbrev pub NotFalling : ℕ → List PlaceEvent → Type 0
NotFalling low [] = Unit {0}
NotFalling low (e ∷ es) = (low ≤ stamp_of e) × NotFalling (stamp_of e) es

-- the number of the death of p among the entries from n on
abbrev pub death_number : ℕ → PlaceId → List Entry → Option ℕ
death_number n p [] = None
death_number n p (Death d ∷ es) = cond (d.0 == p.0) (Some n) (death_number (suc n) p es)
death_number n p (e ∷ es) = death_number (suc n) p es

-- the stamp of a close
abbrev pub close_in : PlaceEvent → Option ℕ
close_in (Close stamp) = Some stamp
close_in _ = None

-- the stamps of the closes of a journal: none, or that of the death
abbrev pub ClosesAt : Option ℕ → List PlaceEvent → Type 0
ClosesAt n j = filter_map close_in j ≡ option_to_list n

-- what the ledger can know: each entry is allowed, and the deaths and joins are those that are due
pub record Folds (U : Given) (es : List Entry) : Type 0 where
  pub some : 1 ≤ U.places
  pub few : U.places ≤ 16
  pub allowed : AllAllowed 0 (opening U.places) es
  pub plan : PlanKept 0 (plan_of U) es

-- each event is of a task of the history that was started for place p
abbrev pub AtHome : List Entry → ℕ → List PlaceEvent → Type 0
AtHome es p [] = Unit {0}
AtHome es p (Done task stamp cell path ∷ j) =
    (task.0 < 1 + births es) × ((birth_of es task.0).to.0 ≡ p) × AtHome es p j
AtHome es p (Close stamp ∷ j) = AtHome es p j

-- the store law, events of tasks of this place, stamps that do not fall, and the close at the place's death
pub record JournalOk (U : Given) (es : List Entry) (p : ℕ) (j : List PlaceEvent) : Type 0 where
  pub law : IsStoreRun U.heap opening_state j
  pub homes : AtHome es p j
  pub rising : NotFalling 0 j
  pub closed : ClosesAt (death_number 0 (record { 0 = p }) es) j

-- the same of the journals of places p, p + 1, ..
abbrev pub AllJournals : Given → List Entry → ℕ → List (List PlaceEvent) → Type 0
AllJournals U es p [] = Unit {0}
AllJournals U es p (j ∷ js) = JournalOk U es p j × AllJournals U es (suc p) js

-- a whole run: what the ledger can know, the root's release last, each task's term answered by exactly these entries and
-- events, and one lawful journal for each place
pub record IsRun (code : Block) (U : Given) (es : List Entry) (js : List (List PlaceEvent)) : Type 0 where
  pub folds : Folds U es
  pub ends : EndsWithRoot es
  pub played : Played code U.places es js
  pub one_each : length js ≡ in_all U
  pub journals : AllJournals U es 0 js
