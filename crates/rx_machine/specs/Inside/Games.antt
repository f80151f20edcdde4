-- The games for which a machine may stand. `Some..` says that there is one, and `Each..` what holds of each.
use Rattle.std.specs.Prelude.{ℕ}
use Rattle.rx_base.specs.declared.ids.PlaceId.{PlaceId}
use Rattle.rx_base.specs.declared.ids.ScopeId.{ScopeId}
use Rattle.rx_rules.specs.declared.entries.Entry.{Entry}
use Rattle.rx_rules.specs.Code.{Block}
use Rattle.rx_rules.specs.Terms.{Does, does}
use Rattle.rx_rules.specs.Run.{Given}
use Rattle.rx_rules.specs.Picked.{Game, Player, tree_in}
use Rattle.rx_syntax.specs.Shape.{Shape}
use Rattle.rx_machine.specs.declared.machine.Machine.{Machine}
use Rattle.rx_machine.specs.declared.seat.Seat.{Seat}
use Rattle.rx_machine.specs.declared.seat.Mover.{Mover}
use Rattle.rx_machine.specs.Holds.{Acting, Landing, CanTurn}
use Rattle.rx_machine.specs.Picking.{AreEnabled}
use Rattle.rx_machine.specs.Refusals.{HasStopped, NothingMore}
use Rattle.rx_machine.specs.Runs.{ReadyForTurn, Falling, Taken, HasMoved}

-- in some game a turn can be made
abbrev pub SomeTurning : {L : Type 0} → Machine L → Type 0
SomeTurning m = (shape : Shape) × (code : Block) × (U : Given) × (G : Game) × CanTurn shape code U m G

-- so it is in each game in which a turn can be made
abbrev pub EachTurning : {L : Type 0} → Machine L → (Given → Game → Type 0) → Type 0
EachTurning m IsSo = (shape : Shape) (code : Block) (U : Given) (G : Game) → CanTurn shape code U m G → IsSo U G

-- in some game nothing planned is due
abbrev pub SomeCalm : {L : Type 0} → Shape → Machine L → Type 0
SomeCalm shape m = (code : Block) × (U : Given) × (G : Game) × ReadyForTurn shape code U m G

-- so it is in each game in which nothing planned is due
abbrev pub EachCalm : {L : Type 0} → Shape → Machine L → (Block → Given → Game → Type 0) → Type 0
EachCalm shape m IsSo = (code : Block) (U : Given) (G : Game) → ReadyForTurn shape code U m G → IsSo code U G

-- in some game the death or join is due, and it is told which tasks are enabled
abbrev pub SomeDue : {L : Type 0} → Machine L → Entry → Type 0
SomeDue m e =
    (shape : Shape) × (code : Block) × (U : Given) × (G : Game) × Falling shape code U m e G × AreEnabled (tree_in U G) m.ready.members

-- so it is, whatever the pick, in each game in which it is due and this is told
abbrev pub EachDue : {L : Type 0} → Machine L → Entry → (Shape → Block → Given → ℕ → Game → Type 0) → Type 0
EachDue m e IsSo =
    (shape : Shape) (code : Block) (U : Given) (k : ℕ) (G : Game) → Falling shape code U m e G → AreEnabled (tree_in U G) m.ready.members
    → IsSo shape code U k G

-- in some game the pick moves the task of slot i
abbrev pub SomeTaken : {L : Type 0} → Shape → Machine L → ℕ → Type 0
SomeTaken shape m i = (code : Block) × (U : Given) × (k : ℕ) × (G : Game) × Taken shape code U m k i G

-- so it is in each game in which the pick moves it
abbrev pub EachTaken : {L : Type 0} → Shape → Machine L → ℕ → (Block → Given → ℕ → Game → Type 0) → Type 0
EachTaken shape m i IsSo = (code : Block) (U : Given) (k : ℕ) (G : Game) → Taken shape code U m k i G → IsSo code U k G

-- in some game the task of the seat travels to the place
abbrev pub SomeLanding : {L : Type 0} → Machine L → ℕ → PlaceId → Seat → Type 0
SomeLanding m i to seat =
    (shape : Shape) × (code : Block) × (U : Given) × (k : ℕ) × (G : Game) × Landing shape code U m k i to seat G

-- so it is in each game in which it travels there
abbrev pub EachLanding : {L : Type 0} → Machine L → ℕ → PlaceId → Seat
    → (Shape → Block → Given → ℕ → Game → Type 0) → Type 0
EachLanding m i to seat IsSo =
    (shape : Shape) (code : Block) (U : Given) (k : ℕ) (G : Game) → Landing shape code U m k i to seat G → IsSo shape code U k G

-- in some game the task acts at the place
abbrev pub SomeActing : {L : Type 0} → Shape → Machine L → ℕ → PlaceId → Mover → Type 0
SomeActing shape m i here mover =
    (code : Block) × (U : Given) × (k : ℕ) × (q : Player) × (G : Game) × Acting shape code U m k i here q mover G

-- so it is in each game in which it acts there
abbrev pub EachActing : {L : Type 0} → Shape → Machine L → ℕ → PlaceId → Mover
    → (Block → Given → ℕ → Player → Game → Type 0) → Type 0
EachActing shape m i here mover IsSo =
    (code : Block) (U : Given) (k : ℕ) (q : Player) (G : Game) → Acting shape code U m k i here q mover G → IsSo code U k q G

-- in each game in which it acts there, the turn stopped in a machine on the way to its entry, or after it
abbrev pub EachStopped : {L : Type 0} → Shape → Machine L → Machine L → ℕ → PlaceId → Mover → Type 0
EachStopped shape m m' i here mover = EachActing shape m i here mover (λ code U k q G. HasStopped U k G m')

-- in each game in which it acts, and what it does next is so, history and stores of a machine have no more than its turn tells
abbrev pub EachMore : {L : Type 0} → Shape → Machine L → Machine L → ℕ → Mover → (Does → Type 0) → Type 0
EachMore shape m m' i mover IsNext =
    (here : PlaceId) (code : Block) (U : Given) (k : ℕ) (q : Player) (G : Game) → Acting shape code U m k i here q mover G
    → IsNext (does q.vars here.0 q.term) → NothingMore U k G m m'

-- in some game it acts there, and what it does next is so
abbrev pub SomeDoing : {L : Type 0} → Shape → Machine L → ℕ → PlaceId → Mover → (Does → Type 0) → Type 0
SomeDoing shape m i here mover IsNext =
    (code : Block) × (U : Given) × (k : ℕ) × (q : Player) × (G : Game) × Acting shape code U m k i here q mover G
    × IsNext (does q.vars here.0 q.term)

-- in some game it acts at some place, and what it does next is so
abbrev pub SomeAsking : {L : Type 0} → Shape → Machine L → ℕ → Mover → (Does → Type 0) → Type 0
SomeAsking shape m i mover IsNext = (here : PlaceId) × SomeDoing shape m i here mover IsNext

-- from some game to another the task of slot i has moved
abbrev pub SomeMoved : {L : Type 0} → Machine L → ℕ → ScopeId → ℕ → Type 0
SomeMoved m i under before =
    (shape : Shape) × (code : Block) × (U : Given) × (k : ℕ) × (G : Game) × (H : Game) × HasMoved shape code U m k i under before G H

-- wherever it has moved, a machine tells which tasks are enabled in the other
abbrev pub EachNoted : {L : Type 0} → Machine L → Machine L → ℕ → ScopeId → ℕ → Type 0
EachNoted m m' i under before =
    (shape : Shape) (code : Block) (U : Given) (k : ℕ) (G H : Game) → HasMoved shape code U m k i under before G H
    → AreEnabled (tree_in U H) m'.ready.members
