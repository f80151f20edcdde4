-- What a seat holds of its task, and where a walk of it stops.
use Rattle.std.specs.Prelude.{◌≡◌, ◌≤◌, List, [], drop}
use Rattle.std.specs.List.{filter_map}
use Rattle.rx_rules.specs.declared.events.PlaceEvent.{PlaceEvent}
use Rattle.rx_rules.specs.Picked.{Player}
use Rattle.rx_rules.specs.Plays.{Cells, cell_of, journal_at}
use Rattle.rx_runs.specs.Steps.{steps}
use Rattle.rx_syntax.specs.Shape.{Shape}
use Rattle.rx_history.specs.declared.step.CellOp.{CellOp}
use Rattle.rx_history.specs.declared.step.Next.TheVariants.{Cell, Book, Done}
use Rattle.rx_history.specs.Next.{next_of}
use Rattle.rx_control.specs.Stands.{StandsFor}
use Rattle.rx_verdict.specs.Walks.{Walks, next_does, Halts}
use Rattle.rx_verify.specs.Events.{IsFirst}
use Rattle.rx_verify.specs.declared.seat.Seat.{Seat}
use Rattle.rx_verify.specs.declared.seat.Stop.{Stop}
use Rattle.rx_verify.specs.declared.seat.Stop.TheVariants.{Asks, Ends, Halts as Halted}

-- the seat stands for the player of its task, with these events of the task's place left
pub record Stood (shape : Shape) (js : List (List PlaceEvent)) (seat : Seat) (z : Player) (left : Cells) : Type 0 where
  pub term : StandsFor shape seat.control z.term
  pub vars : seat.control.vars ≡ z.vars
  pub events : filter_map (cell_of seat.who.task.0) (drop seat.position (journal_at js seat.home.0)) ≡ left
  -- its position is that of the first of these events
  pub first : IsFirst seat.who.task.0 (journal_at js seat.home.0) seat.position seat.position
  pub few : steps z.term ≤ 300000

-- where the player stops: it makes this request to the ledger, its term is done, or no event answers its store call
abbrev pub Stops : Stop → Seat → Player → Cells → Type 0
Stops (Asks want) seat y rest = next_of (next_does seat.home y) ≡ Book want
Stops Ends seat y rest = next_of (next_does seat.home y) ≡ Done
Stops Halted seat y rest = ((op : CellOp) × (next_of (next_does seat.home y) ≡ Cell op)) × Halts seat.home y rest

-- from one player to another of the same seat by a walk without entries
pub record Walked (shape : Shape) (js : List (List PlaceEvent)) (old new : Seat) (z : Player) (left : Cells) (y : Player) (rest : Cells)
    : Type 0 where
  pub who : new.who ≡ old.who
  pub home : new.home ≡ old.home
  pub low : new.low ≡ old.low
  pub stood : Stood shape js new y rest
  pub walks : Walks [] old.home z left [] y rest
  pub known : y.vars.places ≡ z.vars.places
