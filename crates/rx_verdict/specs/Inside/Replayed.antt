-- How far a journal was replayed.
use Rattle.std.specs.Prelude.{◌≡◌, ℕ, Bool, List}
use Rattle.rx_rules.specs.declared.events.PlaceEvent.{PlaceEvent}
use Rattle.rx_store.specs.Kept.{state_of, last_stamp, ends_closed}
use Rattle.rx_store.specs.Table.{Table, TableStands}
use Rattle.rx_verdict.specs.Lawful.{AreLawful}

-- these events are lawful, and the blocks have done what they tell
pub record Replayed (w : ℕ) (blocks : Table) (last : ℕ) (closed : Bool) (done : List PlaceEvent) : Type 0 where
  pub lawful : AreLawful w done
  pub stands : TableStands w blocks (state_of done)
  pub last_is : last ≡ last_stamp done
  pub closed_is : closed ≡ ends_closed done
