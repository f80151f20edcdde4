-- The setups that words ask for.
use Rattle.std.specs.Prelude.{ℕ, List}
use Rattle.rx_rules.specs.Run.{Proper}
use Rattle.rx_words.specs.Words.{Asked, Step, Gen, Live, asked_any}

-- what is asked for is asked for under a proper setup
abbrev pub HasProper : Asked → Type 0
HasProper (Step U source) = Proper U
HasProper (Gen size U seed) = Proper U
HasProper (Live U workers watch) = Proper U
HasProper _ = Unit {0}

-- so it is, whatever the words
abbrev pub SetupsAreProper : Type 0
SetupsAreProper = (words : List (List ℕ)) → HasProper (asked_any words)
