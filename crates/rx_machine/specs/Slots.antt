-- What the slots of a machine say of the tasks of a tree.
use Rattle.std.specs.Prelude.{◌≡◌, ℕ, Bool, false, cond, List, [], map, filter, reverse, Option, Some, None, is_none, slice_get}
use Rattle.rx_base.specs.declared.ids.PlaceId.{PlaceId}
use Rattle.rx_rules.specs.declared.tasks.Task.{Task}
use Rattle.rx_rules.specs.declared.tasks.Kind.{Kind}
use Rattle.rx_rules.specs.declared.tasks.Where.TheVariants.{At}
use Rattle.rx_rules.specs.declared.entries.Act.{Act}
use Rattle.rx_rules.specs.declared.entries.Act.TheVariants.{At as CallsAt, Spawn}
use Rattle.rx_rules.specs.declared.entries.Entry.{Entry}
use Rattle.rx_rules.specs.declared.entries.Entry.TheVariants.{Step}
use Rattle.rx_rules.specs.Tree.{Tree, task_of, inner, opened_by, the_root}
use Rattle.rx_rules.specs.Entries.{is_hit}
use Rattle.rx_rules.specs.Picked.{Player}
use Rattle.rx_syntax.specs.Shape.{Shape}
use Rattle.rx_control.specs.Stands.{StandsFor}
use Rattle.rx_control.specs.Seeds.{IsSeedOf}
use Rattle.rx_machine.specs.declared.seat.Seat.{Seat}
use Rattle.rx_machine.specs.declared.seat.Work.{Work}
use Rattle.rx_machine.specs.declared.seat.Work.TheVariants.{Seed as NotBegun, Control as Begun}
use Rattle.rx_machine.specs.declared.seat.Mover.{Mover}
use Rattle.rx_tree_laws.specs.Held.{is_held, HeldInFront}
use Rattle.rx_tree_laws.specs.Spine.{Spine}

-- the task of a seat, as the tree has it
abbrev pub row_of : Seat → Task
row_of seat = record { number = seat.who.task; under = seat.who.scope; place = seat.who.place; waits = seat.waits; struck = None }

-- the seat of a task that moves
abbrev pub seat_of : Mover → Seat
seat_of mover = record { who = mover.who; waits = mover.waits; work = Begun mover.control }

-- the seat in a slot of the list
abbrev pub seat_in : Option (Option Seat) → Option Seat
seat_in None = None
seat_in (Some o) = o

-- the seat of a number; none where the slot is empty, or where there is none
abbrev pub seat_at : List (Option Seat) → ℕ → Option Seat
seat_at seats n = seat_in (slice_get seats n)

-- the row of the main activity
abbrev pub root_row : Task
root_row = record { number = record { 0 = 0 }; under = the_root; place = At (record { 0 = 0 }); waits = false; struck = None }

-- the task, if no death has struck it
abbrev pub if_unstruck : Task → Option Task
if_unstruck x = cond (is_none x.struck) (Some x) None

-- the same of what was found
abbrev pub live_in : Option Task → Option Task
live_in None = None
live_in (Some x) = if_unstruck x

-- the unstruck task of a number
abbrev pub live_task : Tree → ℕ → Option Task
live_task T n = live_in (task_of T (record { 0 = n }))

-- the kinds of the scopes that a task opened and that stand, the newest first
abbrev pub own_kinds : Tree → ℕ → List Kind
own_kinds T n = map (λ g. g.kind) (filter (opened_by (record { 0 = n })) T.scopes)

-- the path of the statement by which an act starts a task
abbrev pub act_starts : Act → Option (List ℕ)
act_starts (Spawn child s from to path) = Some path
act_starts (CallsAt from to s r callee path) = Some path
act_starts _ = None

-- the same of an entry
abbrev pub entry_starts : Entry → Option (List ℕ)
entry_starts (Step t act batch) = act_starts act
entry_starts _ = None

-- the entry of a number starts a task by the statement with this path
abbrev pub StartsBy : List Entry → ℕ → List ℕ → Type 0
StartsBy es n x = (e : Entry) × (slice_get es n ≡ Some e) × (entry_starts e ≡ Some x)

-- the work is what the player has still to run: all of it, with the path that an entry tells, where the task has not begun
abbrev pub IsWork : Shape → List Entry → Player → Work → Type 0
IsWork shape es p (Begun control) = StandsFor shape control.value p.term × (control.value.vars ≡ p.vars)
IsWork shape es p (NotBegun entry seed) = (x : List ℕ) × StartsBy es entry x × IsSeedOf shape seed x p.term × (seed.vars ≡ p.vars)

-- the seat is that of the unstruck task of a number, and its work is what the player has still to run
pub record IsSeat (shape : Shape) (es : List Entry) (T : Tree) (n : ℕ) (p : Player) (seat : Seat) : Type 0 where
  pub row : live_task T n ≡ Some (row_of seat)
  pub inner : inner T (row_of seat) ≡ seat.who.inner
  pub work : IsWork shape es p seat.work
  -- it waits exactly where its term does, and its open scopes are those of its term
  pub waits : seat.waits ≡ is_held p.term
  pub held : HeldInFront p.term
  pub spine : Spine p.term (reverse (own_kinds T n))

-- what stands in a slot: no seat exactly where no unstruck task has the number. Between turns no statement is left to tell
abbrev pub SlotIs : Shape → List Entry → Tree → List Player → ℕ → Option Seat → Type 0
SlotIs shape es T players n None = live_task T n ≡ None
SlotIs shape es T players n (Some seat) = (p : Player) × (slice_get players n ≡ Some p) × (p.batch ≡ []) × IsSeat shape es T n p seat

-- a death at the place strikes the task of a slot
abbrev pub is_struck : PlaceId → Option Seat → Bool
is_struck d None = false
is_struck d (Some seat) = is_hit d seat.who.place

-- what it leaves in the slot
abbrev pub left_by : PlaceId → Option Seat → Option Seat
left_by d o = cond (is_struck d o) None o
