-- What an activity at a place knows by its passes.
use Rattle.std.specs.Prelude.{◌≡◌, ◌+◌, ◌<◌, ◌≤◌, ◌^◌, Bool, true, false, List, [], ◌++◌, map, drop, length, reverse, Some, slice_get}
use mathlib.Core.List.{IsPrefix}
use Rattle.rx_base.specs.declared.ids.PlaceId.{PlaceId}
use Rattle.rx_base.specs.declared.ids.TaskId.{TaskId}
use Rattle.rx_rules.specs.declared.entries.Entry.{Entry}
use Rattle.rx_rules.specs.declared.tasks.Kind.{Kind}
use Rattle.rx_rules.specs.declared.tasks.Where.TheVariants.{At as Stays}
use Rattle.rx_rules.specs.Code.{Block}
use Rattle.rx_rules.specs.Fold.{tree_of}
use Rattle.rx_rules.specs.Plays.{Cells}
use Rattle.rx_rules.specs.Tree.{Tree}
use Rattle.rx_runs.specs.Segments.{Stand}
use Rattle.rx_runs.specs.SomeWords.{TermMakesSome}
use Rattle.rx_finish.specs.declared.ledger.Caller.{Caller}
use Rattle.rx_finish.specs.Callers.{MayAskMoving, MayAskRelease}
use Rattle.rx_ticket.specs.declared.tickets.AnyTicket.{AnyTicket}
use Rattle.rx_ticket.specs.declared.tickets.AnyTicket.TheVariants.{Moving, Running, Held, Host}
use Rattle.rx_syntax.specs.Shape.{Stands}
use Rattle.rx_history.specs.Setups.{given}
use Rattle.rx_control.specs.Stands.{StandsFor}
use Rattle.rx_book.specs.declared.passes.Pass.{Pass}
use Rattle.rx_book.specs.History.{items_of}
use Rattle.rx_book.specs.Passes.{view_of, word_of}
use Rattle.rx_book.specs.Named.{BookName}
use Rattle.rx_ledger.specs.Answering.{asker}
use Rattle.rx_ledger.specs.Owned.{own_told}
use Rattle.rx_tree_laws.specs.Held.{is_held, HeldInFront}
use Rattle.rx_tree_laws.specs.Spine.{Spine}
use Rattle.rx_parts.specs.Ledger.{Actor, Present, Walks, LegalLedger}
use Rattle.rx_parts.specs.declared.items.EntryItem.{EntryItem}
use Rattle.rx_parts.specs.declared.items.EventItem.{EventItem}
use Rattle.rx_parts.specs.Histories.{event_named, ledger_items, cells_in}
use Rattle.rx_objects.specs.declared.ledger.LedgerFixed.{LedgerFixed}
use Rattle.rx_objects.specs.Mentioned.{as_named}
use Rattle.rx_objects.specs.Ending.{entries_at}
use Rattle.rx_objects.specs.Ledger.{LedgerIsLegal}
use Rattle.rx_objects.specs.Place.{PlaceIsLegal, last_carried}
use Rattle.rx_activities.specs.declared.hand.Hand.{Hand}

-- the entries that a pass has seen, and the tree to which they fold
abbrev pub entries_seen : Pass EntryItem → List Entry
entries_seen p = entries_at (view_of p).seen

abbrev pub tree_seen : LedgerFixed → Pass EntryItem → Tree
tree_seen f p = tree_of f.setup.places (entries_seen p)

-- the pass is of the run's ledger, and has seen a legal history
pub record IsOfRun (L : BookName LedgerFixed) (p : Pass EntryItem) : Type 0 where
  pub word : word_of p ≡ L.word
  pub lawful : LedgerIsLegal L.fixed (view_of p).seen

-- the pass is of the book of place p; it has seen a legal history, which carries no more than was seen of the ledger's
pub record IsSeatAt (L : BookName LedgerFixed) (p : PlaceId) (seat : Pass EventItem) (pass : Pass EntryItem) : Type 0 where
  pub word : slice_get L.fixed.places p.0 ≡ Some (word_of seat)
  pub lawful : PlaceIsLegal (record { place = p; words = L.fixed.setup.heap; ledger = L }) (view_of seat).seen
  pub carried : IsPrefix (last_carried (items_of (view_of seat).seen)) (view_of pass).seen

-- the events that the activity made since its entry before
abbrev pub since : Hand → Cells
since a = map event_named (map as_named (drop (length (view_of a.told.value).mine) (view_of a.seat).mine))

-- a new pass of the book of place p, which has seen nothing
pub record IsNewSeat (L : BookName LedgerFixed) (p : PlaceId) (seat : Pass EventItem) : Type 0 where
  pub word : slice_get L.fixed.places p.0 ≡ Some (word_of seat)
  pub unseen : (view_of seat).seen ≡ []

-- the kinds of the scopes that a task has opened and not released, the outermost first
abbrev pub kinds_told : List Entry → TaskId → List Kind
kinds_told es t = reverse (map (λ s. s.1) (own_told es t))

-- the ticket is of a task that may go on, or of one that waits at a scope and may ask for its release
abbrev pub TicketServes : Tree → Bool → AnyTicket → Type 0
TicketServes T waits (Moving who) = ⊥
TicketServes T waits (Running who) = (waits ≡ false) × MayAskMoving T who
TicketServes T waits (Held who) = (waits ≡ true) × MayAskRelease T who
TicketServes T waits Host = ⊥

-- By what was seen of the ledger the task is at its place, and the passes have the numbers that hold and seat it. Its events are those
-- that its entries name, and then those made since. These lead its term to where the control stands, and no stamp is above the number
-- of entries of which the pass knows.
pub record StandsSo (code : Block) (L : BookName LedgerFixed) (a : Hand) (t : TaskId) : Type 0 where
  pub legal : LegalLedger code (given L.fixed.setup) (ledger_items (view_of a.pass).seen)
  pub actor : Actor
  pub stands : slice_get legal.actors t.0 ≡ Some actor
  pub holder : actor.holder ≡ (view_of a.pass).number
  pub seated : actor.seat ≡ (view_of a.seat).number
  pub here : actor.phase ≡ Present
  pub place : actor.birth.to ≡ a.place
  pub events : cells_in t.0 (view_of a.seat).seen ≡ actor.named ++ since a
  pub stand : Stand
  pub walks : Walks actor.birth.to actor.stand (since a) stand
  pub in_time : stand.low ≤ (view_of a.pass).reach
  pub term : StandsFor L.fixed.program.script a.control.value stand.term
  pub vars : a.control.value.vars ≡ stand.vars
  pub batch : a.batch ≡ stand.batch
  pub some : TermMakesSome stand.term
  pub known : stand.vars.places ≤ (tree_seen L.fixed a.pass).places
  -- it waits exactly where its term does, and its open scopes are those of its term
  pub held : HeldInFront stand.term
  -- a task that waits has made no event since its entry before
  pub calm : is_held stand.term ≡ true → since a ≡ []
  pub spine : Spine stand.term (kinds_told (entries_seen a.pass) t)
  pub serves : length (entries_seen a.pass) + 1 < 2 ^ 31 → TicketServes (tree_seen L.fixed a.pass) (is_held stand.term) a.ticket

-- what an activity at a place knows, whatever statements the script stands for
pub record ActivityInvariant (L : BookName LedgerFixed) (a : Hand) : Type 0 where
  pub who : Caller
  pub asks : asker a.ticket ≡ Some who
  pub is_at : who.place ≡ Stays a.place
  pub pass : IsOfRun L a.pass
  pub seat : IsSeatAt L a.place a.seat a.pass
  pub inside : a.place.0 < (tree_seen L.fixed a.pass).places
  pub older : length (view_of a.told.value).mine ≤ length (view_of a.seat).mine
  pub unmade : a.made ≡ false → since a ≡ []
  pub stands : (code : Block) → Stands L.fixed.program.script code → StandsSo code L a who.task
