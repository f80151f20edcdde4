-- How long picked runs can be.
use Rattle.std.specs.Prelude.{ℕ, ◌+◌, ◌*◌, ◌≤◌, length}
use Rattle.rx_rules.specs.Code.{Block, work}
use Rattle.rx_rules.specs.Run.{Given, Proper}
use Rattle.rx_rules.specs.Picked.{Game, Turns, start_game}

-- from the opening of a proper setup at most so many turns can be made
abbrev pub TurnsBounded : Type 0
TurnsBounded = (code : Block) (U : Given) (picks : ℕ → ℕ) (n : ℕ) (G : Game) → Proper U → Turns U picks n 0 (start_game code U) G
    → n ≤ 4 * work code + 2 * U.places + 3 * length U.joins + 8

-- and their history has at most so many entries
abbrev pub EntriesBounded : Type 0
EntriesBounded = (code : Block) (U : Given) (picks : ℕ → ℕ) (n : ℕ) (G : Game) → Proper U → Turns U picks n 0 (start_game code U) G
    → length G.entries ≤ 4 * work code + U.places + 2 * length U.joins + 1
