-- What no run has, stated of the definitions: these laws show that they exclude what they must.
use Rattle.std.specs.Prelude.{◌≡◌, ◌≢◌, ℕ, suc, ◌+◌, ◌<◌, ◌≤◌, true, List, [], ◌∷◌, ◌++◌, Option, Some, None, slice_get}
use Rattle.std.specs.List.{filter_map}
use Rattle.rx_base.specs.Sets.{members}
use Rattle.rx_base.specs.declared.ids.Kill.{Kill}
use Rattle.rx_base.specs.declared.ids.PlaceId.{PlaceId}
use Rattle.rx_base.specs.declared.values.Fault.{Fault}
use Rattle.rx_rules.specs.declared.entries.Act.{Act}
use Rattle.rx_rules.specs.declared.entries.Act.TheVariants.{Open, At as Calls, Spawn, Arrive, Release, End}
use Rattle.rx_rules.specs.declared.entries.Entry.{Entry}
use Rattle.rx_rules.specs.declared.entries.Entry.TheVariants.{Step, Root}
use Rattle.rx_rules.specs.declared.events.Cell.{Cell}
use Rattle.rx_rules.specs.declared.events.PlaceEvent.{PlaceEvent}
use Rattle.rx_rules.specs.Code.{Block}
use Rattle.rx_rules.specs.Fold.{opening, wide_opening, AllAllowed, births}
use Rattle.rx_rules.specs.Plays.{birth_of, travels, moves_from, cell_of, journal_at}
use Rattle.rx_rules.specs.Run.{Given, IsRun}
use Rattle.rx_rules.specs.Examples.{p, loss_in_transit}

-- no whole run over so many places begins with these entries, whatever the script, heap, kills, journals and the rest
abbrev pub BeginsNoRun : ℕ → List Entry → Type 0
BeginsNoRun places front =
    (code : Block) (heap : ℕ) (kills : List Kill) (joins : List ℕ) (rest : List Entry) (js : List (List PlaceEvent))
    → IsRun code (record { places = places; heap = heap; kills = kills; joins = joins }) (front ++ rest) js → ⊥

-- the history of the loss in transit, whose death is entry 3, is no run where that death is due at entry 2
abbrev pub KillOneEntryLate : Type 0
KillOneEntryLate =
    (code : Block) (heap : ℕ) (js : List (List PlaceEvent)) → IsRun code (record {
      places = 2;
      heap = heap;
      kills = record { place = p 1; moment = 2 } ∷ [];
      joins = [];
    }) loss_in_transit js → ⊥

-- the entries of task t in a history: number, act and batch
abbrev pub acts_of : List Entry → ℕ → List (ℕ × Act × List (List ℕ))
acts_of es t = moves_from 0 es t

-- the events of task t in the journals: stamp, cell and path
abbrev pub events_of_task : List Entry → List (List PlaceEvent) → ℕ → List (ℕ × Cell × List ℕ)
events_of_task es js t = filter_map (cell_of t) (journal_at js (birth_of es t).to.0)

-- no stamp of the events is above n
abbrev pub UpTo : ℕ → List (ℕ × Cell × List ℕ) → Type 0
UpTo n [] = Unit {0}
UpTo n (e ∷ es) = (e.0 ≤ n) × UpTo n es

-- no stamp of the events is below n
abbrev pub FromOn : ℕ → List (ℕ × Cell × List ℕ) → Type 0
FromOn n [] = Unit {0}
FromOn n (e ∷ es) = (n ≤ e.0) × FromOn n es

-- nothing of a task stands after its end: no entry, so that it ends at most once, and no event
abbrev pub EndsLast : Type 0
EndsLast =
    (code : Block) (U : Given) (es : List Entry) (js : List (List PlaceEvent)) (t n : ℕ) (thrown : List Fault)
    (batch : List (List ℕ)) (before after : List (ℕ × Act × List (List ℕ))) → IsRun code U es js → t < 1 + births es
    → acts_of es t ≡ before ++ (n, End thrown, batch) ∷ after → (after ≡ []) × UpTo n (events_of_task es js t)

-- of a task that was started for another place the first entry is its arrival, and each event comes after that
abbrev pub ArrivesFirst : Type 0
ArrivesFirst =
    (code : Block) (U : Given) (es : List Entry) (js : List (List PlaceEvent)) (t : ℕ) (first : ℕ × Act × List (List ℕ))
    (more : List (ℕ × Act × List (List ℕ))) → IsRun code U es js → t < 1 + births es → travels (birth_of es t) ≡ true
    → acts_of es t ≡ first ∷ more → (p : PlaceId) × (first.1 ≡ Arrive p) × FromOn (suc first.0) (events_of_task es js t)

-- a task that never arrived has no events
abbrev pub NeverArrived : Type 0
NeverArrived =
    (code : Block) (U : Given) (es : List Entry) (js : List (List PlaceEvent)) (t : ℕ) → IsRun code U es js → t < 1 + births es
    → travels (birth_of es t) ≡ true → acts_of es t ≡ [] → events_of_task es js t ≡ []

-- the task that an entry brings
abbrev pub born_in : Entry → Option ℕ
born_in (Step t (Calls from to s r callee path) batch) = Some callee.0
born_in (Step t (Spawn child s from to path) batch) = Some child.0
born_in _ = None

-- the scope that an entry opens
abbrev pub opened_in : Entry → Option ℕ
opened_in (Step t (Open s r path) batch) = Some s.0
opened_in (Step t (Calls from to s r callee path) batch) = Some s.0
opened_in _ = None

-- the numbers are n, n + 1, .. in order
abbrev pub CountFrom : ℕ → List ℕ → Type 0
CountFrom n [] = Unit {0}
CountFrom n (k ∷ ks) = (k ≡ n) × CountFrom (suc n) ks

-- tasks and scopes are numbered in the order of births and openings, from 1, since task 0 and the root are there before
abbrev pub NumbersInOrder : Type 0
NumbersInOrder =
    (limit places : ℕ) (es : List Entry) → AllAllowed 0 (wide_opening limit places) es → CountFrom 1 (filter_map born_in es)
    × CountFrom 1 (filter_map opened_in es)

-- of a release that masks faults the set of lost places is not empty
abbrev pub MaskedMeansLost : Entry → Type 0
MaskedMeansLost (Step t (Release s lost masked thrown) batch) = masked ≢ 0 → members lost ≢ []
MaskedMeansLost (Root lost masked thrown) = masked ≢ 0 → members lost ≢ []
MaskedMeansLost _ = Unit {0}

-- the same of each release of a history whose entries are allowed
abbrev pub MaskedIsLost : Type 0
MaskedIsLost =
    (places : ℕ) (es : List Entry) → 1 ≤ places → places ≤ 16 → AllAllowed 0 (opening places) es →
    (i : ℕ) (e : Entry) → slice_get es i ≡ Some e → MaskedMeansLost e

-- the same whatever the limit of places
abbrev pub WideMaskedIsLost : Type 0
WideMaskedIsLost =
    (limit places : ℕ) (es : List Entry) → 1 ≤ places → places ≤ limit → AllAllowed 0 (wide_opening limit places) es →
    (i : ℕ) (e : Entry) → slice_get es i ≡ Some e → MaskedMeansLost e
