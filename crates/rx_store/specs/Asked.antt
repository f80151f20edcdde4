-- What a store is asked, and what a control is told of its answer.
use Rattle.std.specs.Prelude.{◌≡◌, ℕ, ◌<◌, [], ◌∷◌, ◌++◌, Option, Some, Result}
use Rattle.rx_base.specs.declared.ids.PlaceId.{PlaceId}
use Rattle.rx_base.specs.declared.values.Value.{Value}
use Rattle.rx_base.specs.declared.values.Fault.{Fault}
use Rattle.rx_rules.specs.declared.events.Cell.{Cell}
use Rattle.rx_rules.specs.Store.{MayCell}
use Rattle.rx_rules.specs.Terms.{Does, Makes, Gets}
use Rattle.rx_rules.specs.Terms.{answer_of}
use Rattle.rx_rules.specs.Plays.{Tells}
use Rattle.rx_store.specs.Kept.{StoreView, state_of}
use Rattle.rx_store.specs.Answers.{event_told}
use Rattle.rx_store.specs.declared.calls.Mark.{Mark}
use Rattle.rx_history.specs.declared.step.CellOp.{CellOp}
use Rattle.rx_history.specs.declared.step.CellOp.TheVariants.{Make, Get, Put, Forget}
use Rattle.rx_history.specs.declared.step.Next.TheVariants.{Cell as CellStep}
use Rattle.rx_history.specs.Next.{next_of}

-- a store of this place may be asked so
abbrev pub MayAskStore : PlaceId → CellOp → Type 0
MayAskStore here (Make words) = 0 < words
MayAskStore here (Get target index) = target.home ≡ here
MayAskStore here (Put target index value) = target.home ≡ here
MayAskStore here (Forget target) = target.home ≡ here

-- the name that waits for the answer
abbrev pub Receives : Does → Option ℕ → Type 0
Receives (Makes name words) o = o ≡ Some name
Receives (Gets name target index) o = o ≡ Some name
Receives _ o = Unit {0}

-- a task that makes the call is told what the event tells
abbrev pub CallIsTold : PlaceId → CellOp → Result (Option Value) Fault → Cell → Type 0
CallIsTold here op answer cell =
    (d : Does) (o : Option ℕ) → next_of d ≡ CellStep op → Receives d o → Tells d here cell (answer_of o answer)

-- the store, which was open, has made the call and its journal has the event
pub record CallMade (old new : StoreView) (m : Mark) (op : CellOp) (answer : Result (Option Value) Fault) : Type 0 where
  pub cell : Cell
  pub law : MayCell old.words (state_of old.events) cell
  pub events : new.events ≡ old.events ++ event_told old.events m cell ∷ []
  pub place : new.place ≡ old.place
  pub words : new.words ≡ old.words
  pub told : CallIsTold old.place op answer cell
