-- Whole runs keep the order of statements.
use Rattle.std.specs.Prelude.{List}
use Rattle.rx_rules.specs.declared.entries.Entry.{Entry}
use Rattle.rx_rules.specs.declared.events.PlaceEvent.{PlaceEvent}
use Rattle.rx_rules.specs.Code.{Block}
use Rattle.rx_rules.specs.Run.{Given, IsRun}
use Rattle.rx_rules.specs.Order.{InOrder, OrderKept, told}

-- the history of a whole run tells no statement before one that is before it
abbrev pub HistoryIsOrdered : Type 0
HistoryIsOrdered = (code : Block) (U : Given) (es : List Entry) (js : List (List PlaceEvent)) → IsRun code U es js → InOrder code (told es)

-- nor does a journal
abbrev pub RunIsOrdered : Type 0
RunIsOrdered = (code : Block) (U : Given) (es : List Entry) (js : List (List PlaceEvent)) → IsRun code U es js → OrderKept code es js
