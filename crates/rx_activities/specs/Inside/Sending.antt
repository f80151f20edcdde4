-- A request to the ledger, from what the activity knew before it to what it holds with the answer.
use Rattle.std.specs.Prelude.{◌≡◌, ◌≤◌, ℕ, Bool, true, false, ◌==◌, List, [], Option, Some, None}
use Rattle.rx_base.specs.declared.ids.PlaceId.{PlaceId}
use Rattle.rx_base.specs.declared.values.Fault.{Fault}
use Rattle.rx_rules.specs.declared.entries.Act.TheVariants.{Census as CensusAct}
use Rattle.rx_rules.specs.Terms.{Term, Does, Opens, Calls, Spawns, Waits, Releases, Prints, Counts, Done}
use Rattle.rx_rules.specs.Terms.{Empty, begins, child, does, granted, replaced}
use Rattle.rx_rules.specs.Plays.{vars_told}
use Rattle.rx_syntax.specs.Shape.{Shape}
use Rattle.rx_control.specs.declared.control.Control.{Control}
use Rattle.rx_history.specs.declared.step.Next.{Next}
use Rattle.rx_history.specs.declared.step.Next.TheVariants.{Local as LocalStep, Cell as CellStep, Book as BookStep, Done as EndStep}
use Rattle.rx_history.specs.declared.step.Want.TheVariants.{At as WantAt, Spawn as WantSpawn, Open, Wait, Release, Print, Census}
use Rattle.rx_control.specs.Stands.{StandsFor}
use Rattle.rx_history.specs.Next.{next_of}
use Rattle.rx_history.specs.declared.asks.Ask.{Ask}
use Rattle.rx_history.specs.declared.asks.Ask.TheVariants.{Open as AskOpen, At as AskCall, Spawn as AskSpawn, Arrive as AskArrive}
use Rattle.rx_history.specs.declared.asks.Ask.TheVariants.{Wait as AskWait, Release as AskRelease, End as AskEnd}
use Rattle.rx_history.specs.declared.asks.Ask.TheVariants.{Print as AskPrint, Root as AskRoot, Census as AskCensus}
use Rattle.rx_ticket.specs.declared.tickets.AnyTicket.{AnyTicket}
use Rattle.rx_book.specs.declared.views.View.{View}
use Rattle.rx_book.specs.declared.passes.Pass.{Pass}
use Rattle.rx_book.specs.declared.passes.Note.{Note}
use Rattle.rx_book.specs.Kept.{born}
use Rattle.rx_book.specs.Passes.{view_of, word_of, note_view, note_word, IsAsSeen}
use Rattle.rx_book.specs.Named.{BookName}
use Rattle.rx_book.specs.Calls.{Called}
use Rattle.rx_ledger.specs.declared.asks.Reply.{Reply}
use Rattle.rx_parts.specs.declared.items.EntryItem.{EntryItem}
use Rattle.rx_parts.specs.declared.items.EventItem.{EventItem}
use Rattle.rx_objects.specs.declared.ledger.LedgerFixed.{LedgerFixed}
use Rattle.rx_objects.specs.declared.ledger.LedgerOp.{LedgerOp}
use Rattle.rx_objects.specs.declared.ledger.LedgerReply.{LedgerReply}
use Rattle.rx_objects.specs.declared.mentions.Mentions.{Mentions}
use Rattle.rx_objects.specs.Ledger.{LedgerDoes, LedgerIsLegal}
use Rattle.rx_objects.specs.Place.{shown}
use Rattle.rx_activities.specs.declared.hand.Hand.{Hand}
use Rattle.rx_activities.specs.declared.replies.Child.{Child}
use Rattle.rx_activities.specs.Knowing.{ActivityInvariant}
use Rattle.rx_activities.specs.Inside.Births.{IsStarted, IsWith}

-- the step is a request to the ledger, or the end
abbrev pub IsCall : Next → Type 0
IsCall LocalStep = ⊥
IsCall (CellStep op) = ⊥
IsCall (BookStep wanted) = Unit {0}
IsCall EndStep = Unit {0}

-- the place for which the step starts a task
abbrev pub target : Next → Option PlaceId
target LocalStep = None
target (CellStep op) = None
target (BookStep Open) = None
target (BookStep (WantAt to)) = Some to
target (BookStep (WantSpawn to)) = Some to
target (BookStep Wait) = None
target (BookStep Release) = None
target (BookStep (Print value)) = None
target (BookStep Census) = None
target EndStep = None

-- what is asked is what the term does
abbrev pub SuitsStep : Does → Ask → Type 0
SuitsStep d AskOpen = d ≡ Opens
SuitsStep d (AskCall to) = d ≡ Calls to.0
SuitsStep d (AskSpawn to) = d ≡ Spawns to.0
SuitsStep d AskArrive = ⊥
SuitsStep d (AskWait thrown) = d ≡ Waits thrown
SuitsStep d AskRelease = d ≡ Releases
SuitsStep d (AskEnd thrown) = d ≡ Done thrown
SuitsStep d (AskPrint value) = d ≡ Prints value
SuitsStep d AskRoot = ⊥
SuitsStep d AskCensus = (name : ℕ) × (d ≡ Counts name)

-- the pass of the ledger's book, from which a pass may have been split
pub record PassIsLeft (old new : Pass EntryItem) : Type 0 where
  pub word : word_of new ≡ word_of old
  pub splits : ℕ
  pub view : view_of new ≡ record (view_of old) { splits = splits }

-- the same of the pass of the place's book
pub record SeatIsLeft (old new : Pass EventItem) : Type 0 where
  pub word : word_of new ≡ word_of old
  pub splits : ℕ
  pub view : view_of new ≡ record (view_of old) { splits = splits }

-- the child's pass of the place's book was split off, where it begins here
abbrev pub SeatIsNew : Bool → Pass EventItem → Option (Pass EventItem) → Type 0
SeatIsNew true seat None = ⊥
SeatIsNew true seat (Some s) = (word_of s ≡ word_of seat) × (view_of s ≡ born (view_of seat))
SeatIsNew false seat s = s ≡ None

-- what a task holds that is to be started for a place
pub record IsPrepared (shape : Shape) (control : Control) (here to : PlaceId) (pass : Pass EntryItem) (seat : Pass EventItem) (c : Child)
    : Type 0 where
  pub term : (t : Term) → StandsFor shape control t → StandsFor shape c.control.value (child t)
  pub vars : c.control.value.vars ≡ control.vars
  pub word : word_of c.pass ≡ word_of pass
  pub view : view_of c.pass ≡ born (view_of pass)
  pub seat_is : SeatIsNew (to.0 == here.0) seat c.seat

-- a child is prepared exactly where the step starts one
abbrev pub ChildFor : Shape → Control → PlaceId → Option PlaceId → Pass EntryItem → Pass EventItem → Option Child → Type 0
ChildFor shape control here None pass seat c = c ≡ None
ChildFor shape control here (Some to) pass seat None = ⊥
ChildFor shape control here (Some to) pass seat (Some c) = IsPrepared shape control here to pass seat c

abbrev pub ChildIs : Shape → Control → PlaceId → Next → Pass EntryItem → Pass EventItem → Option Child → Type 0
ChildIs shape control here next pass seat c = ChildFor shape control here (target next) pass seat c

-- a note of what the pass has seen
pub record NoteIs (seat : Pass EventItem) (n : Note EventItem) : Type 0 where
  pub word : note_word n ≡ word_of seat
  pub seen : IsAsSeen (view_of seat) (note_view n)

-- the child's passes are mentioned
abbrev pub ChildMentioned : Option Child → Mentions → Type 0
ChildMentioned None m = Unit {0}
ChildMentioned (Some c) m = (m.child.value ≡ c.pass) × ((s : Pass EventItem) → c.seat ≡ Some s → m.seat.value ≡ s)

-- what is mentioned: the pass of the place's book at the entry before and now, and the passes of a child
pub record MentionsAre (told seat : Pass EventItem) (child : Option Child) (m : Mentions) : Type 0 where
  pub before : m.before.value ≡ told
  pub now : m.now.value ≡ seat
  pub mentioned : ChildMentioned child m

-- the call of the ledger's book gave this answer
pub record IsReplied (f : LedgerFixed) (v : View EntryItem) (op : LedgerOp) (reply : Reply) (w : View EntryItem) : Type 0 where
  pub answer : LedgerReply
  pub is : answer.reply ≡ reply
  pub called : Called shown (LedgerDoes f) (LedgerIsLegal f) v op answer w

-- the control after the request was made: a wait and an end have taken its faults, and a wait grants the same as before
pub record IsReady (shape : Shape) (next : Next) (old new : Control) : Type 0 where
  pub vars : new.vars ≡ old.vars
  pub waits : next ≡ BookStep Wait → (t : Term) (here : PlaceId) → StandsFor shape old t → next ≡ next_of (does old.vars here.0 t)
      → StandsFor shape new (replaced t Empty) × ((faults : List Fault) → granted faults (replaced t Empty) ≡ granted faults t)
  pub same : (next ≡ BookStep Wait → ⊥) → (next ≡ EndStep → ⊥) → new ≡ old

-- what was sent for an activity a which knew what it has to, and what it holds with the answer
pub record WasSent (shape : Shape) (L : BookName LedgerFixed) (rest : Hand) (reply : Reply) (child : Option Child) : Type 0 where
  pub hand : Hand
  pub knows : ActivityInvariant L hand
  pub next : Next
  pub call : IsCall next
  pub does_next : (t : Term) → StandsFor shape hand.control.value t → next ≡ next_of (does hand.control.value.vars hand.place.0 t)
  pub sent : Pass EntryItem
  pub pass : PassIsLeft hand.pass sent
  pub seat : SeatIsLeft hand.seat rest.seat
  pub place : rest.place ≡ hand.place
  pub control : IsReady shape next hand.control.value rest.control.value
  pub child_is : ChildIs shape hand.control.value hand.place next hand.pass hand.seat child
  pub op : LedgerOp
  pub ticket : op.request.ticket ≡ hand.ticket
  pub batch : op.request.batch ≡ hand.batch
  pub path : (t : Term) → StandsFor shape hand.control.value t → op.request.path ≡ begins t
  pub asks : (t : Term) → StandsFor shape hand.control.value t → SuitsStep (does hand.control.value.vars hand.place.0 t) op.request.ask
  pub mentions : MentionsAre hand.told.value rest.seat child op.mentions
  pub word : word_of rest.pass ≡ word_of sent
  pub replied : IsReplied L.fixed (view_of sent) op reply (view_of rest.pass)

-- the request was granted, and raises these faults: once the control has gone on, the activity knows what it has to
pub record WasGranted (shape : Shape) (L : BookName LedgerFixed) (rest : Hand) (ticket : AnyTicket) (faults : List Fault)
    (started : Option AnyTicket) (child : Option Child) : Type 0 where
  pub term : Term
  pub stands : StandsFor shape rest.control.value term
  pub word : word_of rest.pass ≡ L.word
  pub lawful : LedgerIsLegal L.fixed (view_of rest.pass).seen
  pub goes : (c : Control) (hand : Hand) → ((t : Term) → StandsFor shape rest.control.value t → StandsFor shape c (granted faults t))
      → c.vars ≡ rest.control.value.vars → IsWith c rest.place rest.pass rest.seat ticket [] hand → ActivityInvariant L hand
  pub begins : IsStarted L rest.place rest.pass started child

-- the census was granted, and tells so many places
pub record WasCounted (shape : Shape) (L : BookName LedgerFixed) (rest : Hand) (ticket : AnyTicket) (places : ℕ) : Type 0 where
  pub term : Term
  pub here : PlaceId
  pub stands : StandsFor shape rest.control.value term
  pub asks : next_of (does rest.control.value.vars here.0 term) ≡ BookStep Census
  pub some : 1 ≤ places
  pub few : places ≤ 16
  pub known : rest.control.value.vars.places ≤ places
  pub word : word_of rest.pass ≡ L.word
  pub lawful : LedgerIsLegal L.fixed (view_of rest.pass).seen
  pub goes : (c : Control) (hand : Hand)
      → ((t : Term) (here : PlaceId) → StandsFor shape rest.control.value t
      → next_of (does rest.control.value.vars here.0 t) ≡ BookStep Census → StandsFor shape c (granted [] t))
      → ((t : Term) (here : PlaceId) (path : List ℕ) → StandsFor shape rest.control.value t
      → next_of (does rest.control.value.vars here.0 t) ≡ BookStep Census
      → c.vars ≡ vars_told (does rest.control.value.vars here.0 t) (CensusAct places path) rest.control.value.vars)
      → IsWith c rest.place rest.pass rest.seat ticket [] hand → ActivityInvariant L hand
