-- The place that the value of an expression names.
use Rattle.std.specs.Prelude.{ℕ, Result, Ok, Err}
use Rattle.rx_base.specs.declared.ids.PlaceId.{PlaceId}
use Rattle.rx_base.specs.declared.values.Fault.{Fault}

-- the number of a place
abbrev pub place_in : Result PlaceId Fault → Result ℕ Fault
place_in (Ok p) = Ok p.0
place_in (Err fault) = Err fault
