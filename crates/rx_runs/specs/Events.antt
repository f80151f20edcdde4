-- How many events the journals of a game that turns have made can have.
use Rattle.std.specs.Prelude.{◌≡◌, ℕ, ◌+◌, ◌*◌, ◌≤◌, false, List, length, Some, slice_get}
use Rattle.rx_base.specs.declared.ids.PlaceId.{PlaceId}
use Rattle.rx_base.specs.declared.ids.TaskId.{TaskId}
use Rattle.rx_rules.specs.declared.events.PlaceEvent.{PlaceEvent}
use Rattle.rx_rules.specs.Code.{Block, work}
use Rattle.rx_rules.specs.Plays.{journal_at, moves_from}
use Rattle.rx_rules.specs.Store.{State}
use Rattle.rx_rules.specs.Run.{Given, Proper}
use Rattle.rx_rules.specs.Picked.{Player, Game, RunsWithoutEntry, MadeByTurns}
use Rattle.rx_runs.specs.Steps.{steps}
use Rattle.rx_runs.specs.Ties.{has_end}

-- each event but a close costs a step, and each close is an entry; the steps that a task has left are not yet made
abbrev pub FewEvents : Type 0
FewEvents = (code : Block) (U : Given) (G : Game) → Proper U → MadeByTurns code U G → (i n : ℕ) (p : Player)
    → slice_get G.players n ≡ Some p → has_end (moves_from 0 G.entries n) ≡ false
    → length (journal_at G.journals i) + steps p.term ≤ 3 * work code + length G.entries

-- so do those of local steps and store calls
abbrev pub GoingTells : Type 0
GoingTells = (heap n : ℕ) (t : TaskId) (here : PlaceId) (p q : Player) (S Z : State) (j k : List PlaceEvent)
    → RunsWithoutEntry heap n t here p S j q Z k → length k + steps q.term ≤ length j + steps p.term
