-- The row of each task, as the tree tells it.
use Rattle.std.specs.Prelude.{cond, Option, Some, None, is_none}
use Rattle.rx_base.specs.declared.ids.TaskId.{TaskId}
use Rattle.rx_rules.specs.declared.tasks.Task.{Task}
use Rattle.rx_rules.specs.Tree.{Tree, task_of, inner}
use Rattle.rx_coordinator.specs.declared.seats.Seat.{Seat}

-- the row of a task of the tree
abbrev pub seat_of : Tree → Task → Seat
seat_of T x =
    record { who = record { task = x.number; scope = x.under; inner = inner T x; place = x.place }; waits = x.waits }

-- of one that was found, where no death has struck it
abbrev pub seat_in : Tree → Option Task → Option Seat
seat_in T None = None
seat_in T (Some x) = cond (is_none x.struck) (Some (seat_of T x)) None

-- the row of the task of this number
abbrev pub seat_told : Tree → TaskId → Option Seat
seat_told T t = seat_in T (task_of T t)
