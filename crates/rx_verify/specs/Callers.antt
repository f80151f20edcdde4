-- Who a task is to the ledger, and what it may ask for, also where it is struck.
use Rattle.std.specs.Prelude.{◌≡◌, ℕ, ◌+◌, ◌<◌, ◌^◌, Bool, false, List, length}
use Rattle.rx_rules.specs.declared.entries.Entry.{Entry}
use Rattle.rx_rules.specs.Fold.{tree_of}
use Rattle.rx_rules.specs.Run.{Given}
use Rattle.rx_rules.specs.Terms.{Term}
use Rattle.rx_finish.specs.Callers.{MayAskArrive}
use Rattle.rx_ledger.specs.TermAsks.{Serves, kinds_told}
use Rattle.rx_tree_laws.specs.Held.{is_held, HeldInFront}
use Rattle.rx_tree_laws.specs.Spine.{Spine}
use Rattle.rx_verdict.specs.Seats as pass
use Rattle.rx_verify.specs.declared.seat.Seat.{Seat}
use Rattle.rx_verify.specs.declared.players.Slot.{Slot}
use Rattle.rx_verify.specs.declared.players.Slot.TheVariants.{Away, Here}

-- the seat is that of task t, whose place is there, and whose term is this: it has open the scopes that the task's entries tell
pub record TermStands (U : Given) (es : List Entry) (t : ℕ) (seat : Seat) (term : Term) : Type 0 where
  pub number : seat.who.task.0 ≡ t
  pub inside : seat.home.0 < (tree_of U.places es).places
  pub held : HeldInFront term
  pub spine : Spine term (kinds_told es seat.who.task)

-- as long as numbers suffice, a task that is at its place may go on, or ask for its release where its term waits
abbrev pub MayServe : Given → List Entry → Seat → Bool → Type 0
MayServe U es seat waits = length es + 1 < 2 ^ 31 → Serves (tree_of U.places es) seat.who waits

-- and one that travels, whose term does not wait, may arrive
abbrev pub MayCome : Given → List Entry → Seat → Type 0
MayCome U es seat = length es + 1 < 2 ^ 31 → MayAskArrive (tree_of U.places es) seat.who

abbrev pub CallerIs : Given → List Entry → ℕ → Slot → pass.Seat → Type 0
CallerIs U es t (Away seat) (pass.Away start) =
    TermStands U es t seat.value start.0 × (is_held start.0 ≡ false) × MayCome U es seat.value
CallerIs U es t (Here seat) (pass.Stands z left) = TermStands U es t seat.value z.term × MayServe U es seat.value (is_held z.term)
CallerIs U es t slot seat = Unit {0}
