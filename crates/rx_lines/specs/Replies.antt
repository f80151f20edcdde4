-- The lines of replies.
use Rattle.std.specs.Prelude.{ℕ, Bool, true, false, List, [], ◌∷◌, ◌++◌, codes}
use Rattle.rx_base.specs.declared.values.Fault.{Fault}
use Rattle.rx_base.specs.declared.values.Fault.TheVariants.{Thrown}
use Rattle.rx_text.specs.Numbers.{number_text, natural_text}
use Rattle.rx_finish.specs.declared.ledger.Born.{Born}
use Rattle.rx_finish.specs.declared.ledger.Outcome.{Outcome}
use Rattle.rx_trace.specs.Parts.{part_text, lost_part, masked_part}
use Rattle.rx_coordinator.specs.declared.requests.Answer.{Answer}
use Rattle.rx_coordinator.specs.declared.requests.Answer.TheVariants.{Bad, Full, NoMemory, NotYet, Opened, Called, Spawned, Sent, Landed, Waits, Released, Ended, Died, Joined, RootDone}
use Rattle.rx_coordinator.specs.declared.waiters.Waiter.{Waiter}
use Rattle.rx_coordinator.specs.declared.waiters.Waiter.TheVariants.{Task, Root}

-- a word with a number at its end
abbrev pub numbered : List ℕ → ℕ → List ℕ
numbered word n = word ++ natural_text n

-- a fault is its number; no line tells one of another kind
abbrev pub fault_text : Fault → List ℕ
fault_text (Thrown value) = codes " " ++ number_text value
fault_text _ = codes " other"

-- what a release names
abbrev pub outcome_text : Outcome → List ℕ
outcome_text o = lost_part o.lost ++ masked_part o.masked ++ part_text (codes " thrown") fault_text o.thrown

-- the place of the task is dead
abbrev pub lost_text : Bool → List ℕ
lost_text true = codes " lost"
lost_text false = []

-- a task that was started, after the word for how
abbrev pub born_text : List ℕ → Born → List ℕ
born_text word b = word ++ numbered (codes " t") b.child.0 ++ numbered (codes " in s") b.scope.0 ++ lost_text b.lost

-- the reply to a request, without the end of its line
abbrev pub answer_text : Answer → List ℕ
answer_text Bad = codes "bad"
answer_text Full = codes "full"
answer_text NoMemory = codes "no memory"
answer_text (NotYet place) = codes "parked"
answer_text (Opened s) = numbered (codes "opened s") s.0
answer_text (Called b) = born_text (codes "called") b
answer_text (Spawned b) = born_text (codes "spawned") b
answer_text (Sent b) = born_text (codes "sent") b
answer_text Landed = codes "landed"
answer_text Waits = codes "waits"
answer_text (Released o) = codes "released" ++ outcome_text o
answer_text Ended = codes "ended"
answer_text Died = codes "died"
answer_text (Joined p) = numbered (codes "joined ") p.0
answer_text (RootDone o) = codes "released" ++ outcome_text o

-- its line
abbrev pub answer_line : Answer → List ℕ
answer_line a = answer_text a ++ 10 ∷ []

-- who waited
abbrev pub waiter_text : Waiter → List ℕ
waiter_text (Task t) = numbered (codes "freed t") t.0
waiter_text Root = codes "freed root"

-- the line of a release that has waited
abbrev pub freed_line : Waiter → Outcome → List ℕ
freed_line who o = waiter_text who ++ outcome_text o ++ 10 ∷ []
