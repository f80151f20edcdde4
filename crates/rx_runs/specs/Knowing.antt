-- How many places a task knows of.
use Rattle.std.specs.Prelude.{◌≡◌, ℕ, ◌≤◌, Bool, List, Some, slice_get}
use Rattle.rx_base.specs.declared.ids.PlaceId.{PlaceId}
use Rattle.rx_base.specs.declared.ids.TaskId.{TaskId}
use Rattle.rx_rules.specs.declared.events.PlaceEvent.{PlaceEvent}
use Rattle.rx_rules.specs.Code.{Block}
use Rattle.rx_rules.specs.Terms.{Vars, Term, Local, does}
use Rattle.rx_rules.specs.Store.{State}
use Rattle.rx_rules.specs.Run.{Given}
use Rattle.rx_rules.specs.Picked.{Player, Game, RunsWithoutEntry, Turn, MadeByTurns, tree_in}

-- no task knows of more places than there are
abbrev pub KnownAreThere : Given → Game → Type 0
KnownAreThere U G = (n : ℕ) (p : Player) → slice_get G.players n ≡ Some p → p.vars.places ≤ (tree_in U G).places

-- so it is in each game that turns have made
abbrev pub ComesKnowing : Type 0
ComesKnowing = (code : Block) (U : Given) (G : Game) → MadeByTurns code U G → KnownAreThere U G

-- a local step leaves what a task knows
abbrev pub LocalKnowing : Type 0
LocalKnowing = (vars left : Vars) (here : ℕ) (t after : Term) → does vars here t ≡ Local after left → left.places ≡ vars.places

-- local steps and store calls leave what a task knows
abbrev pub GoesKnowing : Type 0
GoesKnowing = (heap n : ℕ) (t : TaskId) (here : PlaceId) (p q : Player) (S Z : State) (j k : List PlaceEvent)
    → RunsWithoutEntry heap n t here p S j q Z k → q.vars.places ≡ p.vars.places

-- in a turn no task comes to know of fewer places, and no place that is there leaves
abbrev pub TurnKnowing : Type 0
TurnKnowing = (U : Given) (k : ℕ) (used : Bool) (G G' : Game) → KnownAreThere U G → Turn U k G used G'
    → ((tree_in U G).places ≤ (tree_in U G').places)
    × ((n : ℕ) (p q : Player) → slice_get G.players n ≡ Some p → slice_get G'.players n ≡ Some q → p.vars.places ≤ q.vars.places)
