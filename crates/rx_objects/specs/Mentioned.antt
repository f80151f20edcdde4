-- The items of the ledger's book, as its calls tell them.
use Rattle.std.specs.Prelude.{List, [], ◌++◌, map, drop, length}
use Rattle.rx_rules.specs.declared.entries.Entry.{Entry}
use Rattle.rx_book.specs.declared.views.Stamped.{Stamped}
use Rattle.rx_book.specs.Passes.{view_of}
use Rattle.rx_parts.specs.declared.items.NamedEvent.{NamedEvent}
use Rattle.rx_parts.specs.declared.items.EntryItem.{EntryItem}
use Rattle.rx_parts.specs.declared.items.EventItem.{EventItem}
use Rattle.rx_objects.specs.declared.mentions.Mentions.{Mentions}
use Rattle.rx_objects.specs.declared.trail.Trail.{Trail}
use Rattle.rx_objects.specs.declared.trail.Trail.TheVariants.{Empty, After'}
use Rattle.rx_objects.specs.declared.ledger.LedgerCall.{LedgerCall}

-- an event of a place's history, as an entry names it
abbrev pub as_named : Stamped EventItem → NamedEvent
as_named x = record { stamp = x.item.stamp; cell = x.item.cell; path = x.item.path }

-- the events that the task made since its entry before
abbrev pub events_new : Mentions → List NamedEvent
events_new m = map as_named (drop (length (view_of m.before.value).mine) (view_of m.now.value).mine)

-- an entry that the operation brings about, as an item
abbrev pub item_for : Mentions → Entry → EntryItem
item_for m e =
    record {
      entry = e;
      events = events_new m;
      holder = (view_of m.child.value).number;
      seat = (view_of m.seat.value).number;
    }

-- the items of all calls: what the keeper's entries have more after each
abbrev pub items_called : Trail LedgerCall → List EntryItem
items_called Empty = []
items_called (After' p earlier c) =
    items_called earlier ++ map (item_for c.mentions) (drop (length (items_called earlier)) c.keeper.value.entries)

-- the entries alone
abbrev pub entries_in : List EntryItem → List Entry
entries_in items = map (λ (x : EntryItem). x.entry) items
