-- A place's object: which of its histories are legal, which operations fit one, and what a call does.
use Rattle.std.specs.Prelude.{◌≡◌, ℕ, ◌≤◌, max, false, List, [], ◌∷◌, ◌++◌, map, Option, Some, None, Result, length}
use mathlib.Core.List.{IsPrefix}
use Rattle.rx_base.specs.declared.ids.PlaceId.{PlaceId}
use Rattle.rx_base.specs.declared.values.Value.{Value}
use Rattle.rx_base.specs.declared.values.Fault.{Fault}
use Rattle.rx_base.specs.Sets.{has_bit}
use Rattle.rx_rules.specs.declared.events.Cell.{Cell}
use Rattle.rx_rules.specs.declared.events.PlaceEvent.{PlaceEvent}
use Rattle.rx_rules.specs.declared.events.PlaceEvent.TheVariants.{Done as Did, Close}
use Rattle.rx_rules.specs.Code.{Block}
use Rattle.rx_rules.specs.Terms.{Does}
use Rattle.rx_syntax.specs.Shape.{Stands}
use Rattle.rx_history.specs.declared.step.Next.TheVariants.{Cell as CellStep}
use Rattle.rx_history.specs.Next.{next_of}
use Rattle.rx_history.specs.Setups.{given}
use Rattle.rx_store.specs.Kept.{StoreView, ends_closed, last_stamp}
use Rattle.rx_store.specs.Asked.{CallIsTold, MayAskStore}
use Rattle.rx_book.specs.declared.views.Stamped.{Stamped}
use Rattle.rx_book.specs.declared.views.View.{View}
use Rattle.rx_book.specs.declared.passes.Pass.{Pass}
use Rattle.rx_book.specs.declared.passes.Note.{Note}
use Rattle.rx_book.specs.History.{items_of, entries_by}
use Rattle.rx_book.specs.Passes.{view_of, word_of, note_view, note_word}
use Rattle.rx_book.specs.Named.{BookName}
use Rattle.rx_parts.specs.Places.{LegalPlace}
use Rattle.rx_parts.specs.Calling.{MayCallStore}
use Rattle.rx_parts.specs.declared.items.EntryItem.{EntryItem}
use Rattle.rx_parts.specs.declared.items.EventItem.{EventItem}
use Rattle.rx_parts.specs.Deaths.{place_shown}
use Rattle.rx_parts.specs.Histories.{ledger_items, made_events}
use Rattle.rx_objects.specs.declared.trail.Trail.{Trail}
use Rattle.rx_objects.specs.declared.trail.Trail.TheVariants.{Empty, After'}
use Rattle.rx_objects.specs.declared.ledger.LedgerFixed.{LedgerFixed}
use Rattle.rx_objects.specs.declared.place.PlaceCall.{PlaceCall}
use Rattle.rx_objects.specs.declared.place.PlaceFixed.{PlaceFixed}
use Rattle.rx_objects.specs.declared.place.PlaceOp.{PlaceOp}
use Rattle.rx_objects.specs.declared.place.PlaceReply.{PlaceReply}
use Rattle.rx_objects.specs.declared.place.PlaceReply.TheVariants.{Cell as Answered, NoMemory}
use Rattle.rx_objects.specs.Ledger.{LedgerIsLegal}

-- Items.

-- the place whose death an item of the ledger's book shows
abbrev pub shown : EntryItem → Option ℕ
shown x = place_shown x.entry

-- no item of a place's book shows a death
abbrev pub unshown : EventItem → Option ℕ
unshown = λ x. None

-- an event of a task as an item that carries this history of the ledger; a close is none
abbrev pub items_at : PlaceEvent → List (Stamped EntryItem) → List EventItem
items_at (Did task stamp cell path) h = record { task = task; stamp = stamp; cell = cell; path = path; carried = h } ∷ []
items_at (Close stamp) h = []

-- the items of all calls
abbrev pub events_called : Trail PlaceCall → List EventItem
events_called Empty = []
events_called (After' p earlier c) = events_called earlier ++ items_at c.event.value (view_of c.pass.value).seen

-- the event alone
abbrev pub event_in : EventItem → PlaceEvent
event_in x = Did x.task x.stamp x.cell x.path

-- the events alone
abbrev pub events_in : List EventItem → List PlaceEvent
events_in items = map event_in items

-- what the last item carries, or else h
abbrev pub carried_from : List (Stamped EntryItem) → List EventItem → List (Stamped EntryItem)
carried_from h [] = h
carried_from h (x ∷ xs) = carried_from x.carried xs

-- the longest history of the ledger that the place has seen
abbrev pub last_carried : List EventItem → List (Stamped EntryItem)
last_carried items = carried_from [] items

-- The object.

-- what contracts see of a place's object
pub record PlaceView : Type 0 where
  pub entries : List EventItem
  pub place : PlaceId
  pub words : ℕ
  pub ledger : BookName LedgerFixed

-- a history is legal, whatever statements the script stands for
abbrev pub PlaceIsLegal : PlaceFixed → List (Stamped EventItem) → Type 0
PlaceIsLegal f log =
    (code : Block) → Stands f.ledger.fixed.program.script code
    → LegalPlace code (given f.ledger.fixed.setup) f.place.0 (made_events log)

-- after the ledger's history h the asker's task makes this call of the store next
pub record CallIsMade (code : Block) (f : PlaceFixed) (log : List (Stamped EventItem)) (h : List (Stamped EntryItem)) (caller : List ℕ)
    (op : PlaceOp) : Type 0 where
  pub does : Does
  pub asks : next_of does ≡ CellStep op.op
  pub call : MayCallStore code (given f.ledger.fixed.setup) f.place.0 (events_in (items_of log)) (ledger_items h) caller op.mark.task
      op.mark.stamp op.mark.path does

-- the ledger's history h may be what a pass with the view v has seen once it has met the place's note: it goes on from what the pass
-- had seen, nothing of what is new is by the pass's caller, and it begins with all that the place's callers had seen
pub record MayMeet (f : PlaceFixed) (log : List (Stamped EventItem)) (v : View EntryItem) (h : List (Stamped EntryItem)) : Type 0 where
  pub lawful : LedgerIsLegal f.ledger.fixed h
  pub more : IsPrefix v.seen h
  pub alone : entries_by v.number h ≡ entries_by v.number v.seen
  pub last : IsPrefix (last_carried (items_of log)) h

-- what the asker shows by its pass of the ledger's book: the task's next step, a stamp that is no more than the number of entries
-- of which the pass knows, and that it knows of no death of the place
pub record PlaceFits (f : PlaceFixed) (log : List (Stamped EventItem)) (caller : List ℕ) (op : PlaceOp) : Type 0 where
  pub word : word_of op.pass ≡ f.ledger.word
  pub lawful : LedgerIsLegal f.ledger.fixed (view_of op.pass).seen
  pub made : (code : Block) → Stands f.ledger.fixed.program.script code → (h : List (Stamped EntryItem))
      → MayMeet f log (view_of op.pass) h → CallIsMade code f log h caller op
  pub stamped : op.mark.stamp ≤ (view_of op.pass).reach
  pub alive : has_bit (view_of op.pass).dead f.place.0 ≡ false
  pub cell : MayAskStore f.place op.op

-- the pass came back: it has seen no less, nothing of what is new is by its caller, and it knows of no death of the place
pub record CameBack (f : PlaceFixed) (old new : Pass EntryItem) : Type 0 where
  pub word : word_of new ≡ word_of old
  pub number : (view_of new).number ≡ (view_of old).number
  pub splits : (view_of new).splits ≡ (view_of old).splits
  pub mine : (view_of new).mine ≡ (view_of old).mine
  pub more : IsPrefix (view_of old).seen (view_of new).seen
  pub alone : entries_by (view_of old).number (view_of new).seen ≡ entries_by (view_of old).number (view_of old).seen
  pub lawful : LedgerIsLegal f.ledger.fixed (view_of new).seen
  pub reach : (view_of old).reach ≤ (view_of new).reach
  pub alive : has_bit (view_of new).dead f.place.0 ≡ false

-- the item of an event; its stamp is the greater of the mark's and the last
abbrev pub item_told : List EventItem → PlaceOp → Cell → List (Stamped EntryItem) → EventItem
item_told before op cell h =
    record {
      task = op.mark.task;
      stamp = max op.mark.stamp (last_stamp (events_in before));
      cell = cell;
      path = op.mark.path;
      carried = h;
    }

-- the store was asked: one event was appended, which carries what the pass had seen when it had met the place's note
pub record StoreAnswers (f : PlaceFixed) (before : List EventItem) (op : PlaceOp) (answer : Result (Option Value) Fault)
    (pass : Pass EntryItem) (added : List EventItem) : Type 0 where
  pub cell : Cell
  pub told : CallIsTold f.place op.op answer cell
  pub one : added ≡ item_told before op cell (view_of pass).seen ∷ []
  pub last : IsPrefix (last_carried before) (view_of pass).seen
  pub came : CameBack f op.pass pass
  pub stamped : max op.mark.stamp (last_stamp (events_in before)) ≤ (view_of pass).reach

-- what a call does
abbrev pub PlaceDoes : PlaceFixed → List EventItem → PlaceOp → PlaceReply → List EventItem → Type 0
PlaceDoes f before op (Answered answer pass) added = StoreAnswers f before op answer pass added
PlaceDoes f before op (NoMemory pass) added = (added ≡ []) × CameBack f op.pass pass

-- what the place's note tells: no caller had seen more, no stamp is above the number of entries of which it knows, and it knows of
-- no death of the place
pub record NoteKeeps (ledger : BookName LedgerFixed) (place : PlaceId) (items : List EventItem) (n : Note EntryItem) : Type 0 where
  pub word : note_word n ≡ ledger.word
  pub lawful : LedgerIsLegal ledger.fixed (note_view n).seen
  pub last : IsPrefix (last_carried items) (note_view n).seen
  pub stamped : last_stamp (events_in items) ≤ (note_view n).reach
  pub alive : has_bit (note_view n).dead place.0 ≡ false

-- so it is where there is a note
abbrev pub NoteIsKept : BookName LedgerFixed → PlaceId → List EventItem → Option (Note EntryItem) → Type 0
NoteIsKept ledger place items None = Unit {0}
NoteIsKept ledger place items (Some n) = NoteKeeps ledger place items n

-- what a place's object keeps: its items are the events of its open store, at most 2^31
pub record PlaceKeeps (place : PlaceId) (store : StoreView) (ledger : BookName LedgerFixed) (note : Option (Note EntryItem))
    (items : List EventItem) : Type 0 where
  pub same : events_in items ≡ store.events
  pub is_open : ends_closed store.events ≡ false
  pub short : length store.events ≤ 2147483648
  pub home : store.place ≡ place
  pub noted : NoteIsKept ledger place items note

-- what a place's book leaves that was closed by a pass which had seen this: a legal history that begins so, the store, and the note
-- that it kept
pub record PlaceCloses (f : PlaceFixed) (seen : List (Stamped EventItem)) (store : StoreView)
    (note : Option (Note EntryItem)) : Type 0 where
  pub history : List (Stamped EventItem)
  pub lawful : PlaceIsLegal f history
  pub begins : IsPrefix seen history
  pub kept : PlaceKeeps f.place store f.ledger note (items_of history)
  pub words : store.words ≡ f.words
