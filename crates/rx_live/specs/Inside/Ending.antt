-- What the steps of a run's opening and of its end tell.
use Rattle.std.specs.Prelude.{◌≡◌, ℕ, suc, ◌≤◌, false, List, [], ◌∷◌, map, length, Option, Some, None, All, slice_get, slice_set}
use mathlib.Core.List.{IsPrefix}
use Rattle.rx_rules.specs.declared.entries.Entry.{Entry}
use Rattle.rx_rules.specs.Code.{Block}
use Rattle.rx_rules.specs.Terms.{Empty, items, no_vars}
use Rattle.rx_syntax.specs.Shape.{Stands}
use Rattle.rx_control.specs.declared.control.Control.{Control}
use Rattle.rx_control.specs.Stands.{StandsFor}
use Rattle.rx_finish.specs.declared.ledger.Caller.{Caller}
use Rattle.rx_ledger.specs.Answering.{main_caller}
use Rattle.atomic_table.specs.Seated.{TableId}
use Rattle.rx_rules.specs.Run.{in_all, death_number}
use Rattle.rx_history.specs.Setups.{given}
use Rattle.rx_store.specs.Kept.{StoreView, ends_closed, last_stamp}
use Rattle.rx_book.specs.declared.views.Stamped.{Stamped}
use Rattle.rx_book.specs.declared.views.View.{View}
use Rattle.rx_book.specs.declared.passes.Pass.{Pass}
use Rattle.rx_book.specs.History.{items_of}
use Rattle.rx_book.specs.Passes.{view_of, word_of}
use Rattle.rx_book.specs.Named.{BookName}
use Rattle.rx_book.specs.Calls.{Met}
use Rattle.rx_ledger.specs.declared.asks.Reply.{Reply}
use Rattle.rx_ledger.specs.declared.asks.Reply.TheVariants.{RootDone}
use Rattle.rx_parts.specs.declared.items.EntryItem.{EntryItem}
use Rattle.rx_parts.specs.declared.items.EventItem.{EventItem}
use Rattle.rx_objects.specs.declared.ledger.LedgerFixed.{LedgerFixed}
use Rattle.rx_objects.specs.Ledger.{LedgerIsLegal, is_root_done}
use Rattle.rx_objects.specs.Noted.{Notes, AllNoted}
use Rattle.rx_objects.specs.Ending.{HostKnows, RootIsTold, SeesEnd, IsMet, EachEnds}
use Rattle.rx_objects.specs.Opened.{IsFirst}
use Rattle.rx_stations.specs.Stations.{PostName}
use Rattle.rx_live.specs.declared.ending.Released.{Released}
use Rattle.rx_live.specs.declared.ending.Released.TheVariants.{Done, NotYet, NoMemory}

-- an event of a place shows no death
abbrev pub none_dies : EventItem → Option ℕ
none_dies x = None

-- the host's passes are of the books of places p, p + 1, ..
abbrev pub SeatsFrom : BookName LedgerFixed → ℕ → List (Pass EventItem) → Type 0
SeatsFrom L p [] = Unit {0}
SeatsFrom L p (s ∷ ss) = (slice_get L.fixed.places p ≡ Some (word_of s)) × SeatsFrom L (suc p) ss

-- what they have seen
abbrev pub views_of : List (Pass EventItem) → List (View EventItem)
views_of seats = map view_of seats

-- place p was added in front of others: its station, the host's pass of its book, and the pass of that book's first caller
pub record ArePlacesWith (L : BookName LedgerFixed) (p : ℕ) (stations : List PostName) (seats : List (Pass EventItem))
    (stations' : List PostName) (seats' : List (Pass EventItem)) (first : Option (Pass EventItem)) : Type 0 where
  pub station : PostName
  pub of : station.place.0 ≡ p
  pub stations_are : stations' ≡ station ∷ stations
  pub seat : Pass EventItem
  pub word : slice_get L.fixed.places p ≡ Some (word_of seat)
  pub seats_are : seats' ≡ seat ∷ seats
  pub first_pass : Pass EventItem
  pub is_first : IsFirst L p first_pass
  pub first_is : first ≡ Some first_pass

-- what the host is told of its request: the root is released, or it may ask again
abbrev pub IsAnswered : LedgerFixed → View EntryItem → Released → Type 0
IsAnswered f v (Done notes) = RootIsTold f notes.items v.seen
IsAnswered f v NotYet = HostKnows v
IsAnswered f v NoMemory = Unit {0}

-- the answer to the host is told as it came
abbrev pub IsReleased : Reply → Notes → Released → Type 0
IsReleased reply notes (Done handed) = (reply ≡ RootDone) × (handed.items ≡ notes)
IsReleased reply notes NotYet = is_root_done reply ≡ false
IsReleased reply notes NoMemory = Unit {0}

-- the pass at this number has met a note with the view n, and the others are as they were
pub record MeetsAt (seats : List (Pass EventItem)) (at : ℕ) (n : View EventItem) (seats' : List (Pass EventItem)) : Type 0 where
  pub before : Pass EventItem
  pub after : Pass EventItem
  pub stood : slice_get seats at ≡ Some before
  pub word : word_of after ≡ word_of before
  pub met : Met none_dies (view_of before) n (view_of after)
  pub stands : seats' ≡ slice_set seats at after

-- the stores have so many words each
abbrev pub HaveWords : ℕ → List StoreView → Type 0
HaveWords n [] = Unit {0}
HaveWords n (s ∷ ss) = (s.words ≡ n) × HaveWords n ss

-- the same history is seen, and no fewer entries are known of
pub record StaysAt (old new : Pass EntryItem) : Type 0 where
  pub seen : (view_of new).seen ≡ (view_of old).seen
  pub reach : (view_of old).reach ≤ (view_of new).reach

-- the host's pass has seen all that this pass had seen, where there is one
abbrev pub HasSeen : Pass EntryItem → Option (Pass EntryItem) → Type 0
HasSeen host None = Unit {0}
HasSeen host (Some pass) = IsPrefix (view_of pass).seen (view_of host).seen

-- all places have ended with these stores
pub record PlacesEnded (L : BookName LedgerFixed) (v : View EntryItem) (views : List (View EventItem))
    (stores : List StoreView) : Type 0 where
  pub histories : List (List (Stamped EventItem))
  pub each : EachEnds L v.seen v.reach views 0 stores histories
  pub one_each : length histories ≡ length views
  pub words : HaveWords L.fixed.setup.heap stores

-- the run is over but for the ledger's book and the closes of the stores of dead places
pub record RunEnds (L : BookName LedgerFixed) (pass : Pass EntryItem) (stores : List StoreView) : Type 0 where
  pub sees : SeesEnd L pass
  pub notes : Notes
  pub noted : AllNoted notes (items_of (view_of pass).seen)
  pub views : List (View EventItem)
  pub met : All (IsMet views) notes
  pub ended : PlacesEnded L (view_of pass) views stores
  pub all : length views ≡ in_all (given L.fixed.setup)

-- the store is open, and none of its stamps is above the number of its place's death
abbrev pub ShutsAt : Option ℕ → StoreView → Type 0
ShutsAt None s = ends_closed s.events ≡ false
ShutsAt (Some d) s = (ends_closed s.events ≡ false) × (last_stamp s.events ≤ d)

-- so it is with the stores of places p, p + 1, ..
abbrev pub MayBeShut : List Entry → ℕ → List StoreView → Type 0
MayBeShut es p [] = Unit {0}
MayBeShut es p (s ∷ ss) = ShutsAt (death_number 0 (record { 0 = p }) es) s × MayBeShut es (suc p) ss

-- the host may ask for the root's release: it has seen a legal history, and has not been told of the release
pub record MayRelease (L : BookName LedgerFixed) (pass : Pass EntryItem) : Type 0 where
  pub word : word_of pass ≡ L.word
  pub lawful : LedgerIsLegal L.fixed (view_of pass).seen
  pub host : HostKnows (view_of pass)

-- what a run begins with: the main activity's control, ticket and pass, and the words of the books of all places
pub record IsMain (L : BookName LedgerFixed) (control : Control) (ticket : Caller) (pass : Pass EntryItem) (words : List TableId)
    : Type 0 where
  pub main : ticket ≡ main_caller
  pub word : word_of pass ≡ L.word
  pub number : (view_of pass).number ≡ []
  pub unseen : (view_of pass).seen ≡ []
  pub words_are : words ≡ L.fixed.places
  pub all : length words ≡ in_all (given L.fixed.setup)
  pub stands : (code : Block) → Stands L.fixed.program.script code → StandsFor L.fixed.program.script control (items code [] Empty)
      × (control.vars ≡ no_vars L.fixed.setup.places)
