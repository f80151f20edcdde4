-- What one step of a walk leaves.
use Rattle.std.specs.Prelude.{ℕ, ◌+◌, ◌<◌, ◌≤◌, Bool, true, false, List, Option, Some, None}
use Rattle.rx_rules.specs.declared.events.PlaceEvent.{PlaceEvent}
use Rattle.rx_rules.specs.Picked.{Player}
use Rattle.rx_rules.specs.Plays.{Cells}
use Rattle.rx_runs.specs.Steps.{steps}
use Rattle.rx_syntax.specs.Shape.{Shape}
use Rattle.rx_verdict.specs.Walks.{Halts}
use Rattle.rx_verify.specs.declared.along.Along.{Along}
use Rattle.rx_verify.specs.declared.seat.Seat.{Seat}
use Rattle.rx_verify.specs.declared.seat.Stop.{Stop}
use Rattle.rx_verify.specs.declared.table.EventTable.{EventTable}
use Rattle.rx_verify.specs.Along.{KeepsAlong}
use Rattle.rx_verify.specs.Stood.{Stood, Stops, Walked}
use Rattle.rx_verify.specs.Table.{TableIs}

-- the seat stands for a player, and the table tells of its task
abbrev pub MayWalk : Shape → List (List PlaceEvent) → EventTable → Seat → Type 0
MayWalk shape js table seat =
    (tasks : ℕ) × TableIs js tasks table × (seat.who.task.0 < tasks) × (z : Player) × (left : Cells) × Stood shape js seat z left

-- what holds for each such player
abbrev pub ForWalker : Shape → List (List PlaceEvent) → EventTable → Seat → (Player → Cells → Type 0) → Type 0
ForWalker shape js table seat P =
    (tasks : ℕ) → TableIs js tasks table → seat.who.task.0 < tasks → (z : Player) (left : Cells) → Stood shape js seat z left → P z left

-- the player has walked on to where it stops
abbrev pub AfterWalk : Shape → List (List PlaceEvent) → Seat → Seat → Along → Along → Player → Cells → Stop → Type 0
AfterWalk shape js old new was along z left stop =
    (y : Player) × (rest : Cells) × Walked shape js old new z left y rest × Stops stop new y rest × KeepsAlong was along z y

-- the player has walked on and has fewer steps left
abbrev pub GoesFurther : Shape → List (List PlaceEvent) → Seat → Seat → Along → Along → Player → Cells → Type 0
GoesFurther shape js old new was along z left =
    (y : Player) × (rest : Cells) × Walked shape js old new z left y rest × (steps y.term + 1 ≤ steps z.term) × KeepsAlong was along z y

-- the player has walked on, or is where it was and stops there
abbrev pub AfterStep : Shape → List (List PlaceEvent) → Seat → Seat → Along → Along → Player → Cells → Option Stop → Type 0
AfterStep shape js old new was along z left None = GoesFurther shape js old new was along z left
AfterStep shape js old new was along z left (Some stop) =
    Walked shape js old new z left z left × Stops stop new z left × KeepsAlong was along z z

-- the player has walked on over its next event, or that event does not answer its call
abbrev pub AfterCall : Shape → List (List PlaceEvent) → Seat → Seat → Along → Along → Player → Cells → Bool → Type 0
AfterCall shape js old new was along z left true = GoesFurther shape js old new was along z left
AfterCall shape js old new was along z left false =
    Walked shape js old new z left z left × Halts old.home z left × KeepsAlong was along z z
