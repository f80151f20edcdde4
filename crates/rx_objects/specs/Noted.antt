-- The notes that the ledger keeps: each event that an entry names stands in what a note of its place had seen.
use Rattle.std.specs.Prelude.{◌≡◌, ◌⊎◌, ℕ, cond, ◌==◌, List, [], ◌∷◌, ◌++◌, map, Option, Some, None, All, Contains, slice_get}
use Rattle.rx_base.specs.declared.ids.PlaceId.{PlaceId}
use Rattle.rx_rules.specs.declared.entries.Entry.{Entry}
use Rattle.rx_rules.specs.declared.entries.Entry.TheVariants.{Step}
use Rattle.rx_rules.specs.Entries.{place_number}
use Rattle.rx_rules.specs.Plays.{Cells}
use Rattle.rx_finish.specs.declared.ledger.Caller.{Caller}
use Rattle.rx_ticket.specs.declared.tickets.AnyTicket.{AnyTicket}
use Rattle.rx_ticket.specs.declared.tickets.AnyTicket.TheVariants.{Moving, Running, Held, Host}
use Rattle.atomic_table.specs.Seated.{TableId}
use Rattle.rx_book.specs.declared.passes.Note.{Note}
use Rattle.rx_book.specs.Passes.{note_view, note_word}
use Rattle.rx_ledger.specs.Answering.{asker}
use Rattle.rx_parts.specs.declared.items.EntryItem.{EntryItem}
use Rattle.rx_parts.specs.declared.items.EventItem.{EventItem}
use Rattle.rx_parts.specs.Histories.{event_named, cells_in}

-- notes with the places of which they are
abbrev pub Notes : Type 0
Notes = List (PlaceId × Note EventItem)

-- the events are named by task t, where the entry is of it
abbrev pub cells_at : ℕ → Entry → Cells → Cells
cells_at t (Step u act batch) cells = cond (u.0 == t) cells []
cells_at t _ cells = []

-- the events that the entries of task t name, in their order
abbrev pub cells_named : ℕ → List EntryItem → Cells
cells_named t [] = []
cells_named t (x ∷ xs) = cells_at t x.entry (map event_named x.events) ++ cells_named t xs

-- of the events of task t, this note has seen just those that the task's entries name
abbrev pub HasNamed : List EntryItem → ℕ → PlaceId × Note EventItem → Type 0
HasNamed items t n = cells_in t (note_view n.1).seen ≡ cells_named t items

-- so it is with one of the notes, where the entries of task t name events
abbrev pub IsNoted : Notes → List EntryItem → ℕ → Type 0
IsNoted notes items t =
    (cells_named t items ≡ []) ⊎ ((n : PlaceId × Note EventItem) × Contains notes n × HasNamed items t n)

-- and so with each task
abbrev pub AllNoted : Notes → List EntryItem → Type 0
AllNoted notes items = (t : ℕ) → IsNoted notes items t

-- the note is of the book of its place
abbrev pub IsOfPlace : List TableId → PlaceId × Note EventItem → Type 0
IsOfPlace places n = slice_get places n.0.0 ≡ Some (note_word n.1)

-- each note is of the book of its place
abbrev pub AreOfPlaces : List TableId → Notes → Type 0
AreOfPlaces places notes = All (IsOfPlace places) notes

-- the place at which the task is that asks, or from which it travels; 0 of the host
abbrev pub asked_place : AnyTicket → PlaceId
asked_place (Moving who) = place_number who.place
asked_place (Running who) = place_number who.place
asked_place (Held who) = place_number who.place
asked_place Host = record { 0 = 0 }

-- the notes with one more, where there is one
abbrev pub with_note : Notes → PlaceId → Option (Note EventItem) → Notes
with_note notes p None = notes
with_note notes p (Some n) = notes ++ (p, n) ∷ []

-- the note of an operation: without one the task made no event, else it is of the book of the task's place, and has seen just the
-- events that the task has named so far and names now
abbrev pub NoteSuits : List TableId → List EntryItem → AnyTicket → Cells → Option (Note EventItem) → Type 0
NoteSuits places before ticket events None = events ≡ []
NoteSuits places before ticket events (Some n) =
    IsOfPlace places (asked_place ticket, n)
    × ((who : Caller) → asker ticket ≡ Some who → cells_in who.task.0 (note_view n).seen ≡ cells_named who.task.0 before ++ events)
