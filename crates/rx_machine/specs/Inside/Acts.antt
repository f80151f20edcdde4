-- How the turn of a task ends.
use Rattle.std.specs.Prelude.{◌≡◌, ℕ, List, []}
use Rattle.rx_base.specs.declared.ids.PlaceId.{PlaceId}
use Rattle.rx_rules.specs.declared.entries.Entry.{Entry}
use Rattle.rx_rules.specs.Code.{Block}
use Rattle.rx_rules.specs.Terms.{Does, does}
use Rattle.rx_rules.specs.Run.{Given}
use Rattle.rx_rules.specs.Picked.{Game, Player}
use Rattle.rx_syntax.specs.Shape.{Shape}
use Rattle.rx_machine.specs.declared.machine.Machine.{Machine}
use Rattle.rx_machine.specs.declared.seat.Seat.{Seat}
use Rattle.rx_machine.specs.declared.seat.Work.TheVariants.{Control as Begun}
use Rattle.rx_machine.specs.declared.seat.Mover.{Mover}
use Rattle.rx_machine.specs.Slots.{IsWork}
use Rattle.rx_machine.specs.Holds.{Acting}
use Rattle.rx_machine.specs.Runs.{AfterTurn}

-- the task of a seat that is to move: it has a control, and has begun no statement
pub record IsRoused (shape : Shape) (es : List Entry) (seat : Seat) (mover : Mover) : Type 0 where
  pub who : mover.who ≡ seat.who
  pub waits : mover.waits ≡ seat.waits
  pub batch : mover.batch ≡ []
  pub work : (q : Player) → IsWork shape es q seat.work → IsWork shape es q (Begun mover.control)

-- from each game in which the task acts, and what it does next is so, a turn was made
abbrev pub HasDone : {L : Type 0} → Shape → Machine L → Machine L → ℕ → PlaceId → Mover → (Does → Type 0) → Type 0
HasDone shape m m' i here mover IsNext =
    (code : Block) (U : Given) (k : ℕ) (q : Player) (G : Game) → Acting shape code U m k i here q mover G
    → IsNext (does q.vars here.0 q.term) → AfterTurn shape code U m' k G

-- the same wherever it acts
abbrev pub HasAsked : {L : Type 0} → Shape → Machine L → Machine L → ℕ → Mover → (Does → Type 0) → Type 0
HasAsked shape m m' i mover IsNext = (here : PlaceId) → HasDone shape m m' i here mover IsNext
