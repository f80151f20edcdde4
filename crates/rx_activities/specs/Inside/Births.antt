-- What a task that was started has at its beginning.
use Rattle.std.specs.Prelude.{◌≡◌, ℕ, false, List, [], Option, Some, None}
use Rattle.rx_base.specs.declared.ids.PlaceId.{PlaceId}
use Rattle.rx_control.specs.declared.control.Control.{Control}
use Rattle.rx_finish.specs.declared.ledger.Caller.{Caller}
use Rattle.rx_ticket.specs.declared.tickets.AnyTicket.{AnyTicket}
use Rattle.rx_ticket.specs.declared.tickets.AnyTicket.TheVariants.{Moving, Running, Held, Host}
use Rattle.rx_book.specs.declared.passes.Pass.{Pass}
use Rattle.rx_book.specs.Passes.{view_of, word_of, note_view}
use Rattle.rx_book.specs.declared.passes.Note.{Note}
use Rattle.rx_book.specs.Passes.{IsAsSeen}
use Rattle.rx_book.specs.Named.{BookName}
use Rattle.rx_book.specs.Calls.{Met}
use Rattle.rx_parts.specs.declared.items.EntryItem.{EntryItem}
use Rattle.rx_parts.specs.declared.items.EventItem.{EventItem}
use Rattle.rx_objects.specs.declared.ledger.LedgerFixed.{LedgerFixed}
use Rattle.rx_objects.specs.Place.{shown}
use Rattle.rx_activities.specs.declared.hand.Hand.{Hand}
use Rattle.rx_activities.specs.declared.replies.Child.{Child}
use Rattle.rx_activities.specs.Knowing.{ActivityInvariant}
use Rattle.rx_activities.specs.Starting.{TravellerInvariant}

-- the activity has these, and its entries name all its events
pub record IsWith (c : Control) (place : PlaceId) (pass : Pass EntryItem) (seat : Pass EventItem) (ticket : AnyTicket)
    (batch : List (List ℕ)) (hand : Hand) : Type 0 where
  pub control : hand.control.value ≡ c
  pub place_is : hand.place ≡ place
  pub word : word_of hand.pass ≡ word_of pass
  pub view : view_of hand.pass ≡ view_of pass
  pub seat_is : hand.seat ≡ seat
  pub ticket_is : hand.ticket ≡ ticket
  pub batch_is : hand.batch ≡ batch
  pub told : hand.told.value ≡ seat
  pub unmade : hand.made ≡ false

-- a task that starts at its starter's place has a pass of the place's book, and knows what it has to
abbrev pub StaysWith : BookName LedgerFixed → PlaceId → Caller → Control → Pass EntryItem → Option (Pass EventItem) → Type 0
StaysWith L place who c pass None = ⊥
StaysWith L place who c pass (Some seat) = (hand : Hand) → IsWith c place pass seat (Running who) [] hand → ActivityInvariant L hand

-- the same of any task that starts with these, at its starter's place or on its way
abbrev pub StartsKnowing : BookName LedgerFixed → PlaceId → AnyTicket → Control → Pass EntryItem → Option (Pass EventItem) → Type 0
StartsKnowing L place (Moving who) c pass seat = TravellerInvariant L c who pass
StartsKnowing L place (Running who) c pass seat = StaysWith L place who c pass seat
StartsKnowing L place (Held who) c pass seat = ⊥
StartsKnowing L place Host c pass seat = ⊥

-- the child's pass has met a note of its starter's pass
pub record HasMet (own pass met : Pass EntryItem) : Type 0 where
  pub word : word_of met ≡ word_of own
  pub note : Note EntryItem
  pub noted : IsAsSeen (view_of pass) (note_view note)
  pub meets : Met shown (view_of own) (note_view note) (view_of met)

-- once its pass has met a note of its starter's pass, the task that was started knows what it has to
pub record IsBorn (L : BookName LedgerFixed) (place : PlaceId) (pass : Pass EntryItem) (ticket : AnyTicket) (child : Child)
    : Type 0 where
  pub word : word_of child.pass ≡ L.word
  pub begins : (met : Pass EntryItem) → HasMet child.pass pass met → StartsKnowing L place ticket child.control.value met child.seat

abbrev pub IsStarted : BookName LedgerFixed → PlaceId → Pass EntryItem → Option AnyTicket → Option Child → Type 0
IsStarted L place pass None child = Unit {0}
IsStarted L place pass (Some ticket) None = ⊥
IsStarted L place pass (Some ticket) (Some child) = IsBorn L place pass ticket child
