-- From what a pass has seen to each history in which its call may be made, and from notes to what places have.
use Rattle.std.specs.Prelude.{◌≡◌, ℕ, ◌≤◌, false, List, [], ◌++◌, map, Option, Some, None, All, slice_get}
use mathlib.Core.List.{IsPrefix}
use Rattle.rx_base.specs.declared.ids.PlaceId.{PlaceId}
use Rattle.rx_base.specs.Sets.{has_bit}
use Rattle.rx_rules.specs.Code.{Block}
use Rattle.rx_rules.specs.Terms.{Does}
use Rattle.rx_rules.specs.Run.{Given}
use Rattle.rx_tree_laws.specs.Sound.{Each}
use Rattle.rx_finish.specs.declared.ledger.Caller.{Caller}
use Rattle.rx_ticket.specs.declared.tickets.AnyTicket.{AnyTicket}
use Rattle.rx_ticket.specs.declared.tickets.AnyTicket.TheVariants.{Host}
use Rattle.rx_history.specs.declared.asks.Ask.TheVariants.{Root as AskRoot}
use Rattle.rx_syntax.specs.Shape.{Stands}
use Rattle.rx_history.specs.declared.step.Next.TheVariants.{Cell as CellStep}
use Rattle.rx_history.specs.Next.{next_of}
use Rattle.rx_history.specs.Setups.{given}
use Rattle.rx_store.specs.Asked.{MayAskStore}
use Rattle.rx_book.specs.declared.views.Stamped.{Stamped}
use Rattle.rx_book.specs.declared.views.View.{View}
use Rattle.rx_book.specs.declared.passes.Note.{Note}
use Rattle.rx_book.specs.History.{items_of, entries_by}
use Rattle.rx_book.specs.Passes.{view_of, word_of, note_view}
use Rattle.rx_book.specs.Calls.{BeginsWithSeen}
use Rattle.rx_ledger.specs.Answering.{asker}
use Rattle.rx_ledger.specs.Staying.{NotOf}
use Rattle.rx_parts.specs.Ledger.{LedgerItem, Actor, LegalLedger, entries_of}
use Rattle.rx_parts.specs.Places.{MadeEvent, journal_of}
use Rattle.rx_parts.specs.Parts.{EachPlace, AllNamed, journals_of}
use Rattle.rx_parts.specs.Growing.{NoneBy}
use Rattle.rx_parts.specs.Calling.{MayCallStore}
use Rattle.rx_parts.specs.declared.items.EntryItem.{EntryItem}
use Rattle.rx_parts.specs.declared.items.EventItem.{EventItem}
use Rattle.rx_parts.specs.Histories.{event_named, ledger_items, made_events}
use Rattle.rx_objects.specs.declared.ledger.LedgerOp.{LedgerOp}
use Rattle.rx_objects.specs.declared.ledger.LedgerFixed.{LedgerFixed}
use Rattle.rx_objects.specs.declared.place.PlaceOp.{PlaceOp}
use Rattle.rx_objects.specs.declared.place.PlaceFixed.{PlaceFixed}
use Rattle.rx_objects.specs.Mentioned.{events_new, entries_in}
use Rattle.rx_objects.specs.Asking.{RequestIsMade, HostAsks, host_number}
use Rattle.rx_objects.specs.Noted.{Notes, AllNoted, NoteSuits}
use Rattle.rx_objects.specs.Ledger.{LedgerIsLegal, MayBeAsked, LedgerFits}
use Rattle.rx_objects.specs.Place.{PlaceIsLegal, PlaceFits}

-- The histories without entries are legal: that of the ledger's book where there are 1 to 16 places, and that of a place's book.
abbrev pub ObjectsOpen : Type 0
ObjectsOpen =
    ((f : LedgerFixed) → 1 ≤ f.setup.places → f.setup.places ≤ 16 → LedgerIsLegal f []) × ((f : PlaceFixed) → PlaceIsLegal f [])

-- the task of the ticket is held by the caller c
abbrev pub HoldsTicket : List Actor → List ℕ → AnyTicket → Type 0
HoldsTicket actors c ticket =
    (who : Caller) → asker ticket ≡ Some who → (a : Actor) × (slice_get actors who.task.0 ≡ Some a) × (a.holder ≡ c)

-- Where the holder of a ticket's task has appended nothing more, no new entry is of that task. So what the ticket serves before it
-- serves after.
abbrev pub OthersSpare : Type 0
OthersSpare = (code : Block) (U : Given) (g more : List LedgerItem) (c : List ℕ) (ticket : AnyTicket) → (short : LegalLedger code U g)
    → LegalLedger code U (g ++ more) → HoldsTicket short.actors c ticket → NoneBy c more → Each (NotOf ticket) (entries_of more)

-- What the asker shows of an operation of the ledger's book by a pass with the view v: by what the pass has seen its task may ask so,
-- the pass's number holds the ticket's task, the note has seen the events that the task has named so far and names now, and the host
-- alone asks for the root's release. No stamp is above the number of entries of which the pass knows.
pub record AsksLedger (code : Block) (f : LedgerFixed) (v : View EntryItem) (op : LedgerOp) : Type 0 where
  pub legal : LegalLedger code (given f.setup) (ledger_items v.seen)
  pub may : MayBeAsked f.setup.places (entries_in (items_of v.seen)) op.request
  pub holds : HoldsTicket legal.actors v.number op.request.ticket
  pub asks : RequestIsMade legal.actors v.reach v.number (map event_named (events_new op.mentions)) op.request
  pub note : NoteSuits f.places (items_of v.seen) op.request.ticket (map event_named (events_new op.mentions)) op.note
  pub host : HostAsks v.number op.request.ask

-- An operation of the ledger's book that is asked so fits each history in which the book may make the call.
abbrev pub LedgerOpFits : Type 0
LedgerOpFits = (f : LedgerFixed) (place : EntryItem → Option ℕ) (v : View EntryItem) (log : List (Stamped EntryItem)) (op : LedgerOp)
    (code : Block) → Stands f.program.script code → v.mine ≡ entries_by v.number v.seen → BeginsWithSeen place v log → LedgerIsLegal f log
    → ((other : Block) → Stands f.program.script other → AsksLedger other f v op) → LedgerFits f log v.number op

-- The host may ask for the root's release at any time, by a pass with its number. It mentions no event and brings no note.
abbrev pub HostMayAsk : Type 0
HostMayAsk = (code : Block) (f : LedgerFixed) (v : View EntryItem) (op : LedgerOp) → LegalLedger code (given f.setup) (ledger_items v.seen)
    → v.number ≡ host_number → op.request ≡ record { ticket = Host; ask = AskRoot; batch = op.request.batch; path = None }
    → op.mentions.before.value ≡ op.mentions.now.value → op.note ≡ None → AsksLedger code f v op

-- By what the asker's passes have seen its task makes this call of the store next: v is the view of its pass of the place's book. The
-- number of its pass of the ledger's book holds the task.
pub record CallIsShown (code : Block) (f : PlaceFixed) (v : View EventItem) (op : PlaceOp) : Type 0 where
  pub does : Does
  pub asks : next_of does ≡ CellStep op.op
  pub call : MayCallStore code (given f.ledger.fixed.setup) f.place.0 (journal_of (made_events v.seen))
      (ledger_items (view_of op.pass).seen) v.number op.mark.task op.mark.stamp op.mark.path does
  pub held : call.actor.holder ≡ (view_of op.pass).number

-- what the asker shows of an operation of a place's book by its passes
pub record AsksPlace (f : PlaceFixed) (v : View EventItem) (op : PlaceOp) : Type 0 where
  pub word : word_of op.pass ≡ f.ledger.word
  pub lawful : LedgerIsLegal f.ledger.fixed (view_of op.pass).seen
  pub shown : (code : Block) → Stands f.ledger.fixed.program.script code → CallIsShown code f v op
  pub stamped : op.mark.stamp ≤ (view_of op.pass).reach
  pub alive : has_bit (view_of op.pass).dead f.place.0 ≡ false
  pub cell : MayAskStore f.place op.op

-- An operation of a place's book that is asked so fits each history in which the book may make the call.
abbrev pub PlaceOpFits : Type 0
PlaceOpFits = (f : PlaceFixed) (place : EventItem → Option ℕ) (v : View EventItem) (log : List (Stamped EventItem)) (op : PlaceOp)
    → v.mine ≡ entries_by v.number v.seen → BeginsWithSeen place v log → PlaceIsLegal f log → AsksPlace f v op → PlaceFits f log v.number op

-- the note has seen a beginning of its place's history
abbrev pub HasBeginning : List (List MadeEvent) → PlaceId × Note EventItem → Type 0
HasBeginning ks n = (k : List MadeEvent) × (slice_get ks n.0.0 ≡ Some k) × IsPrefix (made_events (note_view n.1).seen) k

-- so has each note
abbrev pub NotesBegin : List (List MadeEvent) → Notes → Type 0
NotesBegin ks notes = All (HasBeginning ks) notes

-- Where the notes have all events that entries name, the places' histories have them: so these and the ledger's history are parts of
-- one run.
abbrev pub NotedAreNamed : Type 0
NotedAreNamed = (code : Block) (U : Given) (h : List (Stamped EntryItem)) (ks : List (List MadeEvent)) (notes : Notes)
    → (legal : LegalLedger code U (ledger_items h)) → EachPlace code U (ledger_items h) 0 ks → AllNoted notes (items_of h)
    → NotesBegin ks notes → AllNamed legal.actors (journals_of ks)
