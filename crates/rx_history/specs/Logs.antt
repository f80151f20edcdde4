-- What contracts see of a history.
use Rattle.std.specs.Prelude.{ℕ, List}
use Rattle.rx_rules.specs.declared.entries.Entry.{Entry}
use Rattle.rx_history.specs.declared.setup.Setup.{Setup}

-- its setup, its entries, and for how many more there is room
pub record Log : Type 0 where
  pub setup : Setup
  pub entries : List Entry
  pub spare : ℕ
