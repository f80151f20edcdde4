-- What an option makes of the number that its value spells.
use Rattle.std.specs.Prelude.{◌≡◌, ℕ, Option, Some, None}
use Rattle.rx_words.specs.declared.taking.Took.{Took}
use Rattle.rx_words.specs.declared.taking.Took.TheVariants as tooks

-- what was made of a value by the number that it spells, if it spells one, and what its option has said then: that number
abbrev pub NumberIsTaken : Took → Option ℕ → Option ℕ → Type 0
NumberIsTaken tooks.Good new (Some n) = new ≡ Some n
NumberIsTaken tooks.BadValue new None = Unit {0}
NumberIsTaken _ new _ = ⊥
