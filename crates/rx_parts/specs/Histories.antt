-- Histories of books as the plain lists of which the laws of parts speak.
use Rattle.std.specs.Prelude.{ℕ, List, map}
use Rattle.std.specs.List.{filter_map}
use Rattle.rx_rules.specs.declared.events.Cell.{Cell}
use Rattle.rx_rules.specs.Plays.{Cells, cell_of}
use Rattle.rx_book.specs.declared.views.Stamped.{Stamped}
use Rattle.rx_parts.specs.Ledger.{LedgerItem}
use Rattle.rx_parts.specs.Places.{MadeEvent, journal_of}
use Rattle.rx_parts.specs.declared.items.NamedEvent.{NamedEvent}
use Rattle.rx_parts.specs.declared.items.EntryItem.{EntryItem}
use Rattle.rx_parts.specs.declared.items.EventItem.{EventItem}

-- the event as a task's entry names it
abbrev pub event_named : NamedEvent → ℕ × Cell × List ℕ
event_named e = (e.stamp, e.cell, e.path)

-- an item of the ledger's book
abbrev pub ledger_item : Stamped EntryItem → LedgerItem
ledger_item x =
    record {
      by = x.by;
      entry = x.item.entry;
      events = map event_named x.item.events;
      holder = x.item.holder;
      seat = x.item.seat;
    }

-- a history of the ledger's book
abbrev pub ledger_items : List (Stamped EntryItem) → List LedgerItem
ledger_items log = map ledger_item log

-- an item of a place's book
abbrev pub made_event : Stamped EventItem → MadeEvent
made_event x =
    record {
      by = x.by;
      task = x.item.task;
      stamp = x.item.stamp;
      cell = x.item.cell;
      path = x.item.path;
      carried = ledger_items x.item.carried;
    }

-- a history of a place's book
abbrev pub made_events : List (Stamped EventItem) → List MadeEvent
made_events log = map made_event log

-- the events of task t in it
abbrev pub cells_in : ℕ → List (Stamped EventItem) → Cells
cells_in t log = filter_map (cell_of t) (journal_of (made_events log))
