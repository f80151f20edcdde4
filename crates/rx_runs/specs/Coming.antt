-- What holds of each game that turns have made and in which the root still stands.
use Rattle.std.specs.Prelude.{◌≡◌, ℕ, ◌+◌, ◌*◌, ◌≤◌, Bool, length}
use Rattle.rx_rules.specs.Code.{Block, work}
use Rattle.rx_rules.specs.Run.{Given, Proper, NoRoot}
use Rattle.rx_rules.specs.Picked.{Game, Turn, MadeByTurns, tree_in}
use Rattle.rx_runs.specs.Games.{GameOk}
use Rattle.rx_runs.specs.Framing.{TermsFit}

-- what turns keep, that its terms fit to the tree, and that its entries, tasks and scopes are few
pub record CameTo (code : Block) (U : Given) (G : Game) : Type 0 where
  pub ok : GameOk code U G
  pub fits : TermsFit (tree_in U G) G.players
  pub entries : length G.entries ≤ 4 * work code + U.places + 2 * length U.joins
  pub tasks : (tree_in U G).next_task ≤ 1 + length G.entries
  pub scopes : (tree_in U G).next_scope ≤ 1 + length G.entries
  pub players : length G.players ≡ (tree_in U G).next_task

-- a game that turns have made from the opening of a proper setup, whatever the picks
abbrev pub GamesCome : Type 0
GamesCome = (code : Block) (U : Given) (G : Game) → Proper U → MadeByTurns code U G → NoRoot G.entries → CameTo code U G

-- and a turn can be made, whatever the pick
abbrev pub GamesGoOn : Type 0
GamesGoOn = (code : Block) (U : Given) (G : Game) → Proper U → MadeByTurns code U G → NoRoot G.entries → (k : ℕ) → (used : Bool)
    × (G' : Game) × Turn U k G used G'
