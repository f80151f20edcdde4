-- Each `new` asks for at least one word.
use Rattle.std.specs.Prelude.{◌≡◌, ℕ, ◌<◌, List, Some, slice_get}
use Rattle.rx_base.specs.declared.ids.PlaceId.{PlaceId}
use Rattle.rx_base.specs.declared.ids.TaskId.{TaskId}
use Rattle.rx_rules.specs.declared.events.PlaceEvent.{PlaceEvent}
use Rattle.rx_rules.specs.Code.{Block, Nothing, Then, Stmt, New, Async, AtAsync, At, Finish}
use Rattle.rx_rules.specs.Code.{If, Repeat, Try}
use Rattle.rx_rules.specs.Terms.{Term, Empty, Run, Raise, Turns, Trying, Body, Held, Does, Makes}
use Rattle.rx_rules.specs.Terms.{Vars, does}
use Rattle.rx_rules.specs.Store.{State}
use Rattle.rx_rules.specs.Run.{Given}
use Rattle.rx_rules.specs.Picked.{Player, Game, RunsWithoutEntry, MadeByTurns}

-- so it is in a statement and in a block
abbrev mutual
  pub StmtMakesSome : Stmt → Type 0
  StmtMakesSome (New name words) = 0 < words
  StmtMakesSome (Async body) = MakesSome body
  StmtMakesSome (AtAsync place body) = MakesSome body
  StmtMakesSome (At place body) = MakesSome body
  StmtMakesSome (Finish body) = MakesSome body
  StmtMakesSome (If test first other) = MakesSome first × MakesSome other
  StmtMakesSome (Repeat times body) = MakesSome body
  StmtMakesSome (Try body dead_only handler) = MakesSome body × MakesSome handler
  StmtMakesSome _ = Unit {0}

  pub MakesSome : Block → Type 0
  MakesSome Nothing = Unit {0}
  MakesSome (Then first rest) = StmtMakesSome first × MakesSome rest

-- so it is in what a task has still to run
abbrev pub TermMakesSome : Term → Type 0
TermMakesSome Empty = Unit {0}
TermMakesSome (Run stmt x rest) = StmtMakesSome stmt × TermMakesSome rest
TermMakesSome (Raise faults) = Unit {0}
TermMakesSome (Turns body x k times rest) = MakesSome body × TermMakesSome rest
TermMakesSome (Trying inside dead_only handler x rest) = TermMakesSome inside × MakesSome handler × TermMakesSome rest
TermMakesSome (Body inside rest) = TermMakesSome inside × TermMakesSome rest
TermMakesSome (Held rest) = TermMakesSome rest

-- what a term does next asks for at least one word, where it makes a block
abbrev pub AsksSome : Does → Type 0
AsksSome (Makes name words) = 0 < words
AsksSome _ = Unit {0}

-- in each game that turns have made from the opening the terms are so, where the script is
abbrev pub ComesSome : Type 0
ComesSome = (code : Block) (U : Given) (G : Game) → MakesSome code → MadeByTurns code U G → (n : ℕ) (p : Player)
    → slice_get G.players n ≡ Some p → TermMakesSome p.term

-- local steps and store calls keep it, and a term that is so asks so
abbrev pub GoesSome : Type 0
GoesSome = (heap n : ℕ) (t : TaskId) (here : PlaceId) (p q : Player) (S Z : State) (j k : List PlaceEvent)
    → RunsWithoutEntry heap n t here p S j q Z k → TermMakesSome p.term → TermMakesSome q.term
    × ((vars : Vars) → AsksSome (does vars here.0 q.term))
