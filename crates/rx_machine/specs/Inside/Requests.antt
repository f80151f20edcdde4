-- What a task comes to that runs on to its next entry.
use Rattle.std.specs.Prelude.{◌≡◌, ℕ, ◌+◌, ◌≤◌, Option, Some, None}
use Rattle.rx_base.specs.declared.ids.PlaceId.{PlaceId}
use Rattle.rx_rules.specs.Code.{Block}
use Rattle.rx_rules.specs.Terms.{Does, Local, Makes, Gets, Puts, Forgets, does}
use Rattle.rx_rules.specs.Run.{Given}
use Rattle.rx_rules.specs.Picked.{Game, Player}
use Rattle.rx_runs.specs.Steps.{steps}
use Rattle.rx_syntax.specs.Shape.{Shape}
use Rattle.rx_history.specs.declared.step.Next.{Next}
use Rattle.rx_history.specs.Next.{next_of}
use Rattle.rx_machine.specs.declared.machine.Machine.{Machine}
use Rattle.rx_machine.specs.declared.seat.Mover.{Mover}
use Rattle.rx_machine.specs.Holds.{Acting}

-- the next step is a request to the ledger, or the end
abbrev pub AsksOrEnds : Does → Type 0
AsksOrEnds (Local left vars) = ⊥
AsksOrEnds (Makes name words) = ⊥
AsksOrEnds (Gets name target index) = ⊥
AsksOrEnds (Puts target index value) = ⊥
AsksOrEnds (Forgets target) = ⊥
AsksOrEnds _ = Unit {0}

-- what was told is the next step, which is a request or the end
abbrev pub IsRequest : Next → Does → Type 0
IsRequest next d = (next ≡ next_of d) × AsksOrEnds d

-- nothing is changed but the stores
pub record OnlyStores {L : Type 0} (m m' : Machine L) : Type 0 where
  pub chronicle : m'.chronicle ≡ m.chronicle
  pub seats : m'.seats ≡ m.seats
  pub ready : m'.ready ≡ m.ready
  pub failed : m'.failed ≡ m.failed

-- what one step leaves: the task has come further and has fewer steps left, or it has come to a request
abbrev pub AfterStep : {L : Type 0} → Shape → Block → Given → Machine L → ℕ → ℕ → PlaceId → Player → Mover
    → Game → Option Next → Type 0
AfterStep shape code U m k i here q mover G None =
    (r : Player) × Acting shape code U m k i here r mover G × (steps r.term + 1 ≤ steps q.term)
AfterStep shape code U m k i here q mover G (Some next) =
    Acting shape code U m k i here q mover G × IsRequest next (does q.vars here.0 q.term)
