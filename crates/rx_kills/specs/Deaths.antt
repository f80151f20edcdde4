-- The deaths of all places.
use Rattle.std.specs.Prelude.{◌≡◌, ℕ, ◌<◌, List, length, Option, None, slice_index_or}
use Rattle.rx_rules.specs.declared.entries.Entry.{Entry}
use Rattle.rx_rules.specs.Run.{death_number}

-- for each of 16 places the number of its death, if it dies
pub record AreDeaths (es : List Entry) (deaths : List (Option ℕ)) : Type 0 where
  pub all : length deaths ≡ 16
  pub each : (p : ℕ) → p < 16 → slice_index_or deaths p None ≡ death_number 0 (record { 0 = p }) es
