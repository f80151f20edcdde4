-- What the ledger's history and those of the places say together.
use Rattle.std.specs.Prelude.{◌≡◌, ℕ, suc, List, [], ◌∷◌, map, length, Some, slice_get}
use Rattle.std.specs.List.{filter_map}
use mathlib.Core.List.{IsPrefix}
use Rattle.rx_rules.specs.declared.entries.Entry.{Entry}
use Rattle.rx_rules.specs.declared.events.PlaceEvent.{PlaceEvent}
use Rattle.rx_rules.specs.Code.{Block}
use Rattle.rx_rules.specs.Plays.{Played, cell_of, journal_at}
use Rattle.rx_rules.specs.Run.{Given, in_all, NotFalling, AtHome}
use Rattle.rx_parts.specs.Ledger.{LedgerItem, Actor, LegalLedger, entries_of}
use Rattle.rx_parts.specs.Places.{MadeEvent, LegalPlace, journal_of, seen_by}

-- the histories of places p, p + 1, .. are legal, and the ledger's history begins with what each has seen
abbrev pub EachPlace : Block → Given → List LedgerItem → ℕ → List (List MadeEvent) → Type 0
EachPlace code U h p [] = Unit {0}
EachPlace code U h p (k ∷ ks) = LegalPlace code U p k × IsPrefix (seen_by k) h × EachPlace code U h (suc p) ks

-- the events alone, place by place
abbrev pub journals_of : List (List MadeEvent) → List (List PlaceEvent)
journals_of ks = map journal_of ks

-- the events that a task's entries name are the first that it made at its place
abbrev pub AllNamed : List Actor → List (List PlaceEvent) → Type 0
AllNamed actors js =
    (n : ℕ) (a : Actor) → slice_get actors n ≡ Some a → IsPrefix a.named (filter_map (cell_of n) (journal_at js a.birth.to.0))

-- a legal history of the ledger and one of each place, those that may join included; the ledger's begins with all that the
-- places have seen, and the places' have all events that it names
pub record AreParts (code : Block) (U : Given) (h : List LedgerItem) (ks : List (List MadeEvent)) : Type 0 where
  pub legal : LegalLedger code U h
  pub one_each : length ks ≡ in_all U
  pub places : EachPlace code U h 0 ks
  pub named : AllNamed legal.actors (journals_of ks)

-- in the journals of places p, p + 1, .. stamps do not fall, and each event is of a task of its place
abbrev pub EachStamped : List Entry → ℕ → List (List PlaceEvent) → Type 0
EachStamped es p [] = Unit {0}
EachStamped es p (j ∷ js) = NotFalling 0 j × AtHome es p j × EachStamped es (suc p) js

-- Together they are one run of each task's term: it makes exactly its entries and its events, each event stamped above the
-- number of the entry before it that concerns the task and at most with that of the next.
abbrev pub PartsPlay : Type 0
PartsPlay = (code : Block) (U : Given) (h : List LedgerItem) (ks : List (List MadeEvent)) → AreParts code U h ks
    → Played code U.places (entries_of h) (journals_of ks) × EachStamped (entries_of h) 0 (journals_of ks)
