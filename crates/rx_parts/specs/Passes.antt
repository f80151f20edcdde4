-- What a pass may ask by what it has seen.
use Rattle.std.specs.Prelude.{◌≡◌, ℕ, ◌<◌, ◌≤◌, false, Option, Some, List, ◌++◌, length}
use mathlib.Core.List.{IsPrefix}
use Rattle.rx_base.specs.Sets.{has_bit}
use Rattle.rx_base.specs.declared.ids.PlaceId.{PlaceId}
use Rattle.rx_base.specs.declared.ids.TaskId.{TaskId}
use Rattle.rx_rules.specs.Code.{Block}
use Rattle.rx_rules.specs.Terms.{Does}
use Rattle.rx_rules.specs.Plays.{Cells}
use Rattle.rx_rules.specs.Run.{Given, death_number}
use Rattle.rx_book.specs.declared.views.Stamped.{Stamped}
use Rattle.rx_book.specs.declared.views.View.{View}
use Rattle.rx_book.specs.History.{entries_by}
use Rattle.rx_book.specs.Calls.{BeginsWithSeen, Met}
use Rattle.rx_parts.specs.Ledger.{LedgerItem, LegalLedger, entries_of}
use Rattle.rx_parts.specs.Places.{MadeEvent, LegalPlace, journal_of, seen_by}
use Rattle.rx_parts.specs.Closing.{StampedTo}
use Rattle.rx_parts.specs.Growing.{NoneBy}
use Rattle.rx_parts.specs.Calling.{EachSeated, MayCallStore}
use Rattle.rx_parts.specs.declared.items.EntryItem.{EntryItem}
use Rattle.rx_parts.specs.declared.items.EventItem.{EventItem}
use Rattle.rx_parts.specs.Deaths.{place_shown}
use Rattle.rx_parts.specs.Histories.{ledger_items, made_events, cells_in}

-- In each history of a place's book that begins with what the pass of a task has seen and has just its entries, the task's events
-- are those that the pass has seen.
abbrev pub CellsStay : Type 0
CellsStay = (place : EventItem → Option ℕ) (v : View EventItem) (k : List (Stamped EventItem)) (t : ℕ)
    → v.mine ≡ entries_by v.number v.seen → BeginsWithSeen place v k → EachSeated t v.number (made_events k)
    → cells_in t k ≡ cells_in t v.seen

-- A call of the store that a pass may make by what it has seen of its place, with g of the ledger's history: it may be made in each
-- legal history k of the place that begins with this and has just the pass's entries, with each longer legal history of the ledger
-- that begins with all that k carries and in which the task's holder has appended nothing more.
abbrev pub CallFits : Type 0
CallFits = (code : Block) (U : Given) (p : ℕ) (place : EventItem → Option ℕ) (v : View EventItem) (k : List (Stamped EventItem))
    (g more : List LedgerItem) (t : TaskId) (mark : ℕ) (path : List ℕ) (d : Does) → v.mine ≡ entries_by v.number v.seen
    → BeginsWithSeen place v k → LegalPlace code U p (made_events k)
    → (call : MayCallStore code U p (journal_of (made_events v.seen)) g v.number t mark path d)
    → LegalLedger code U (g ++ more) → IsPrefix (seen_by (made_events k)) (g ++ more) → NoneBy call.actor.holder more
    → MayCallStore code U p (journal_of (made_events k)) (g ++ more) v.number t mark path d

-- A pass met a note that knows of no death of place p, and has then seen as many entries as the note knows of; what it has seen
-- begins the whole history h. So where no stamp of the place is above the number of these entries, none is above the number of
-- the place's death.
abbrev pub ClosesFit : Type 0
ClosesFit = (v n w : View EntryItem) (h : List (Stamped EntryItem)) (p : PlaceId) (k : List MadeEvent) (d : ℕ) → p.0 < 16
    → Met (λ x. place_shown x.entry) v n w → n.reach ≤ length w.seen → IsPrefix w.seen h → has_bit n.dead p.0 ≡ false
    → StampedTo n.reach k → death_number 0 p (entries_of (ledger_items h)) ≡ Some d → StampedTo d k
