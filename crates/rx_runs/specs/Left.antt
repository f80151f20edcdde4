-- How many steps the terms of a game that turns have made have still to make.
use Rattle.std.specs.Prelude.{◌≡◌, ℕ, ◌*◌, ◌≤◌, List, Some, slice_get}
use Rattle.rx_base.specs.declared.ids.PlaceId.{PlaceId}
use Rattle.rx_base.specs.declared.ids.TaskId.{TaskId}
use Rattle.rx_rules.specs.declared.events.PlaceEvent.{PlaceEvent}
use Rattle.rx_rules.specs.Code.{Block, work}
use Rattle.rx_rules.specs.Store.{State}
use Rattle.rx_rules.specs.Run.{Given}
use Rattle.rx_rules.specs.Picked.{Player, Game, RunsWithoutEntry, MadeByTurns}
use Rattle.rx_runs.specs.Steps.{steps}

-- in each game that turns have made from the opening, each task's term has at most three steps left for each unit of work
abbrev pub FewLeft : Type 0
FewLeft = (code : Block) (U : Given) (G : Game) → MadeByTurns code U G → (n : ℕ) (p : Player) → slice_get G.players n ≡ Some p
    → steps p.term ≤ 3 * work code

-- local steps and store calls leave no more steps than there were
abbrev pub GoingSinks : Type 0
GoingSinks = (heap n : ℕ) (t : TaskId) (here : PlaceId) (p q : Player) (S Z : State) (j k : List PlaceEvent)
    → RunsWithoutEntry heap n t here p S j q Z k → steps q.term ≤ steps p.term
