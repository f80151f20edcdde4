-- What the machine may ask of its chronicle.
use Rattle.std.proofs.Common.{List, ◌≡◌, ℕ, false, Some, None, refl, ◌∙◌, sym, subst, inl}
use Rattle.rx_rules.proofs.Common.{PlaceId, TaskId, Block, Does, Releases, does, Tree, task_of, Given, Game, Player}
use Rattle.rx_base.proofs.SameIds.{task-is}
use Rattle.rx_rules.specs.declared.tasks.Task.{Task}
use Rattle.rx_rules.specs.declared.tasks.Where.TheVariants.{At}
use Rattle.rx_finish.specs.declared.ledger.LedgerFault.{LedgerFault}
use Rattle.rx_finish.specs.declared.ledger.LedgerFault.TheVariants.{NoMemory}
use Rattle.rx_finish.specs.Callers.{MayAsk, MayAskMoving, HasNumbers, IsMoving}
use Rattle.rx_finish.specs.Calls.{IsUnstruck, blow_of}
use Rattle.rx_chronicle.specs.Requests.{tree_told, IsRefused, NoWait}
use Rattle.rx_chronicle.proofs.Granting.{memory_alone}
use Rattle.rx_syntax.specs.Shape.{Shape}
use Rattle.rx_machine.specs.declared.machine.Machine.{Machine}
use Rattle.rx_machine.specs.declared.seat.Seat.{Seat}
use Rattle.rx_machine.specs.declared.seat.Mover.{Mover}
use Rattle.rx_machine.specs.Slots.{row_of, IsSeat}
use Rattle.rx_machine.specs.Holds.{Acting}
use Rattle.rx_tree_laws.specs.Held.{is_held}
use Rattle.rx_tree_laws.proofs.Granting.{not_held}
use Rattle.rx_machine.proofs.Live.{live_stands, live_number}
use Rattle.rx_machine.proofs.Acted.{of-told, of-game}
use Rattle.rx_rules.specs.declared.entries.Entry.{Entry}

-- an id is that of its number
pub id_of : (t : TaskId) (n : ℕ) → t.0 ≡ n → t ≡ record { 0 = n }
id_of t n e = task-is t (record { 0 = n }) e

module _ {shape : Shape} {es : List Entry} {T : Tree} {n : ℕ} {q : Player} {seat : Seat} (s : IsSeat shape es T n q seat) where
  pub seat-id : seat.who.task ≡ record { 0 = n }
  seat-id = id_of seat.who.task n (live_number T n (row_of seat) s.row)

  -- the task of a seat stands in the tree
  pub seat-found : task_of T seat.who.task ≡ Some (row_of seat)
  seat-found = subst (λ (t : TaskId). task_of T t ≡ Some (row_of seat)) (sym seat-id) (live_stands T n (row_of seat) s.row).0

  -- as its caller says
  pub seat_asks : (P : Task → Type 0) → HasNumbers T → P (row_of seat) → MayAsk T seat.who P
  seat_asks P numbers may =
      record {
        caller = inl (record { task = row_of seat; stands = seat-found; says = record { under = refl; place = refl }; inner_is = s.inner; allowed = may });
        numbers = numbers;
      }

  -- no death has struck it
  pub seat_unstruck : IsUnstruck T seat.who
  seat_unstruck =
      let both = live_stands T n (row_of seat) s.row in
      subst (λ (t : TaskId). blow_of T t ≡ None) (sym seat-id) (rw (both.0, blow_of) both.1)

  -- so a request that waits for no task is refused for want of memory alone
  pub no-memory : (f : LedgerFault) → IsRefused T seat.who NoWait f → f ≡ NoMemory
  no-memory f h = memory_alone T seat.who NoWait f seat_unstruck (λ place w. w) h

  -- a task at a place that does not wait
  pub moving : (here : PlaceId) → seat.who.place ≡ At here → is_held q.term ≡ false → IsMoving (row_of seat)
  moving here at free = record { place = here; is_at = at; moves = s.waits ∙ free }

-- a task that asks for something but a release does not wait
pub asks-free : (q : Player) (here : ℕ) (d : Does) → does q.vars here q.term ≡ d → (d ≡ Releases → ⊥) → is_held q.term ≡ false
asks-free q here d is never = not_held q.vars here q.term (λ f. never (sym is ∙ f))

module _ {L : Type 0} {shape : Shape} {code : Block} {U : Given} {m : Machine L} {k i : ℕ} {here : PlaceId} {q : Player} {mover : Mover} {G : Game} (a : Acting shape code U m k i here q mover G) where
  -- it may ask the chronicle
  pub may-move : (d : Does) → does q.vars here.0 q.term ≡ d → (d ≡ Releases → ⊥) → MayAskMoving (tree_told m.chronicle) mover.who
  may-move d is never =
      let s = a.gone.seat_is in
      of-told (λ (T : Tree). MayAskMoving T mover.who) a.but.shares (seat_asks s IsMoving a.numbers (moving s here a.gone.is_at (asks-free q here.0 d is never)))

  -- which refuses it for want of memory alone, unless it has to wait
  pub memory-out : (f : LedgerFault) → IsRefused (tree_told m.chronicle) mover.who NoWait f → f ≡ NoMemory
  memory-out f h = no-memory a.gone.seat_is f (of-game (λ (T : Tree). IsRefused T mover.who NoWait f) a.but.shares h)
