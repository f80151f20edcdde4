-- Lists of entries that the tasks' terms make with any answers to their store calls.
use Rattle.std.specs.Prelude.{◌≡◌, ℕ, suc, ◌+◌, ◌*◌, ◌≤◌, Bool, true, false, List, [], ◌∷◌, length, slice_get, Some}
use Rattle.rx_base.specs.declared.ids.PlaceId.{PlaceId}
use Rattle.rx_base.specs.declared.values.Fault.{Fault}
use Rattle.rx_rules.specs.declared.entries.Act.{Act}
use Rattle.rx_rules.specs.declared.entries.Act.TheVariants.{Open, At as Calls, Spawn, Arrive, Wait, Release, End, Print, Census}
use Rattle.rx_rules.specs.declared.entries.Entry.{Entry}
use Rattle.rx_rules.specs.declared.events.PlaceEvent.{PlaceEvent}
use Rattle.rx_rules.specs.Code.{Block, work}
use Rattle.rx_rules.specs.Terms.{Term, Empty, Vars, no_vars, items, Answer, answered, vars_after, Does, Local, Makes, Gets, Puts}
use Rattle.rx_rules.specs.Terms.{Forgets, Done, does, granted}
use Rattle.rx_rules.specs.Fold.{births}
use Rattle.rx_rules.specs.Plays.{Starts, Moves, Fits, StartsSo, brought, vars_told, moves_from, birth_of, travels}
use Rattle.rx_rules.specs.Run.{Given, Proper, Folds, IsRun}

-- the term calls the store
abbrev pub AsksStore : Does → Type 0
AsksStore (Makes name words) = Unit {0}
AsksStore (Gets name target index) = Unit {0}
AsksStore (Puts target index value) = Unit {0}
AsksStore (Forgets target) = Unit {0}
AsksStore _ = ⊥

-- so many steps of a term at a place, and the entries that they make: local steps, answers of the store, requests, the end
pub data Works (starts : Starts) (here : PlaceId) : ℕ → Vars → Term → Moves → Type 0 where
  local : {n : ℕ} {vars left : Vars} {t after : Term} {moves : Moves} → does vars here.0 t ≡ Local after left
      → Works starts here n left after moves → Works starts here (suc n) vars t moves
  answers : {n : ℕ} {vars : Vars} {t : Term} {moves : Moves} (a : Answer) → AsksStore (does vars here.0 t)
      → Works starts here n (vars_after a vars) (answered a t) moves → Works starts here (suc n) vars t moves
  asks : {n k : ℕ} {vars : Vars} {t : Term} {moves : Moves} {act : Act} {batch : List (List ℕ)}
      → Fits here t (does vars here.0 t) act → StartsSo starts t vars act
      → Works starts here n (vars_told (does vars here.0 t) act vars) (granted (brought act) t) moves
      → Works starts here (suc n) vars t ((k, act, batch) ∷ moves)
  ends : {k : ℕ} {vars : Vars} {t : Term} {faults : List Fault} {batch : List (List ℕ)} → does vars here.0 t ≡ Done faults
      → Works starts here 1 vars t ((k, End faults, batch) ∷ [])
  stops : {vars : Vars} {t : Term} → Works starts here 0 vars t []

-- where a task travels, its arrival comes first; it is no step of the term
abbrev pub BeginsWork : Starts → PlaceId → Bool → ℕ → Vars → Term → Moves → Type 0
BeginsWork starts here false n vars t moves = Works starts here n vars t moves
BeginsWork starts here true n vars t [] = n ≡ 0
BeginsWork starts here true n vars t ((k, Arrive p, batch) ∷ moves) = Works starts here n vars t moves
BeginsWork starts here true n vars t ((k, Open s r x, batch) ∷ moves) = ⊥
BeginsWork starts here true n vars t ((k, Calls from to s r c x, batch) ∷ moves) = ⊥
BeginsWork starts here true n vars t ((k, Spawn c s from to x, batch) ∷ moves) = ⊥
BeginsWork starts here true n vars t ((k, Wait s thrown, batch) ∷ moves) = ⊥
BeginsWork starts here true n vars t ((k, Release s lost masked thrown, batch) ∷ moves) = ⊥
BeginsWork starts here true n vars t ((k, End thrown, batch) ∷ moves) = ⊥
BeginsWork starts here true n vars t ((k, Print value x, batch) ∷ moves) = ⊥
BeginsWork starts here true n vars t ((k, Census places x, batch) ∷ moves) = ⊥

-- tasks k, k + 1, .. start so, make exactly their entries, and take so many steps each
abbrev pub EachWorks : Starts → List Entry → ℕ → Starts → List ℕ → Type 0
EachWorks starts es k [] [] = Unit {0}
EachWorks starts es k (s ∷ more) (n ∷ ns) =
    BeginsWork starts (birth_of es k).to (travels (birth_of es k)) n s.1 s.0 (moves_from 0 es k)
    × EachWorks starts es (suc k) more ns
EachWorks starts es k (s ∷ more) [] = ⊥
EachWorks starts es k [] (n ∷ ns) = ⊥

-- the sum of the numbers
abbrev pub sum_of : List ℕ → ℕ
sum_of [] = 0
sum_of (n ∷ ns) = n + sum_of ns

-- the terms of all tasks make the entries in so many steps
pub record MadeIn (code : Block) (places : ℕ) (es : List Entry) (n : ℕ) : Type 0 where
  pub starts : Starts
  pub main : slice_get starts 0 ≡ Some (items code [] Empty, no_vars places)
  pub all : length starts ≡ 1 + births es
  pub counts : List ℕ
  pub each : EachWorks starts es 0 starts counts
  pub total : n ≡ sum_of counts

-- the terms make at most so many steps over all tasks
abbrev pub StepsBounded : Type 0
StepsBounded = (code : Block) (U : Given) (es : List Entry) (n : ℕ) → Folds U es → MadeIn code U.places es n → n ≤ 3 * work code + 1

-- the entries of a whole run are made so
abbrev pub RunIsMade : Type 0
RunIsMade = (code : Block) (U : Given) (es : List Entry) (js : List (List PlaceEvent)) → IsRun code U es js → (n : ℕ)
    × MadeIn code U.places es n

-- and under a proper setup the list has at most so many entries
abbrev pub MadeBounded : Type 0
MadeBounded = (code : Block) (U : Given) (es : List Entry) (n : ℕ) → Proper U → Folds U es → MadeIn code U.places es n
    → length es ≤ 4 * work code + U.places + 2 * length U.joins + 1
