-- Every whole run has parts: the definitions exclude none.
use Rattle.std.specs.Prelude.{◌≡◌, List}
use Rattle.rx_rules.specs.declared.entries.Entry.{Entry}
use Rattle.rx_rules.specs.declared.events.PlaceEvent.{PlaceEvent}
use Rattle.rx_rules.specs.Code.{Block}
use Rattle.rx_rules.specs.Run.{Given, IsRun}
use Rattle.rx_parts.specs.Ledger.{LedgerItem, entries_of}
use Rattle.rx_parts.specs.Places.{MadeEvent}
use Rattle.rx_parts.specs.Parts.{AreParts}
use Rattle.rx_parts.specs.Closing.{EachClosed}

-- a history of the ledger with its entries, and one of each place with the events of its journal, which are parts
abbrev pub RunHasParts : Type 0
RunHasParts = (code : Block) (U : Given) (es : List Entry) (js : List (List PlaceEvent)) → IsRun code U es js
    → (h : List LedgerItem) × (ks : List (List MadeEvent)) × (entries_of h ≡ es) × AreParts code U h ks × EachClosed U es 0 ks js
