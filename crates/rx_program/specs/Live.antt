-- A run of which no picks are known.
use Rattle.std.specs.Prelude.{List}
use Rattle.rx_rules.specs.declared.entries.Entry.{Entry}
use Rattle.rx_rules.specs.declared.events.PlaceEvent.{PlaceEvent}
use Rattle.rx_rules.specs.Code.{Block}
use Rattle.rx_rules.specs.Run.{Given, IsRun}
use Rattle.rx_rules.specs.Laws.{NoEarlyRelease, LossExact}
use Rattle.rx_rules.specs.Order.{OrderKept}

-- The entries and journals are a whole run of the script under a setup. Nothing is released early in it, its losses are exact, and
-- the order of statements is kept.
pub record IsLawful (code : Block) (U : Given) (entries : List Entry) (journals : List (List PlaceEvent)) : Type 0 where
  pub run : IsRun code U entries journals
  pub early : NoEarlyRelease entries
  pub exact : LossExact entries
  pub ordered : OrderKept code entries journals
