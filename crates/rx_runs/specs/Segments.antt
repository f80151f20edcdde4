-- A task that goes on: what it has made since it stood at one point, and where it stands now.
use Rattle.rx_rules.specs.Terms.{Vars}
use Rattle.std.specs.Prelude.{◌≡◌, ℕ, suc, ◌≤◌, List, [], ◌∷◌, Some}
use Rattle.rx_base.specs.declared.ids.PlaceId.{PlaceId}
use Rattle.rx_rules.specs.declared.entries.Act.{Act}
use Rattle.rx_rules.specs.declared.events.Cell.{Cell}
use Rattle.rx_rules.specs.declared.entries.Entry.{Entry}
use Rattle.rx_rules.specs.declared.entries.Entry.TheVariants.{Step, Root, Death, Join}
use Rattle.rx_rules.specs.Terms.{Term, Local, does, begins, granted}
use Rattle.rx_rules.specs.Terms.{Answer, vars_after, answered}
use Rattle.rx_rules.specs.Plays.{Tells, Fits, begun, brought, vars_told, StartsSo}
use Rattle.rx_rules.specs.Run.{Event, NoneDue, IsDue, rest_of}

-- where a task stands: no stamp and no entry number of what comes is below `low`
pub record Stand : Type 0 where
  pub low : ℕ
  pub vars : Vars
  pub term : Term
  pub batch : List (List ℕ)

-- from one stand to another, with these events and moves
pub data StandGoes (starts : List (Term × Vars)) (here : PlaceId) : Stand → List (ℕ × Cell × List ℕ)
    → List (ℕ × Act × List (List ℕ)) → Stand → Type 0 where
  stays : {a : Stand} → StandGoes starts here a [] [] a
  local : {a z : Stand} {cells : List (ℕ × Cell × List ℕ)} {moves : List (ℕ × Act × List (List ℕ))} {after : Term} {left : Vars}
      → does a.vars here.0 a.term ≡ Local after left → StandGoes starts here (record {
        low = a.low;
        vars = left;
        term = after;
        batch = begun a.term a.batch;
      }) cells moves z → StandGoes starts here a cells moves z
  stores : {a z : Stand} {cells : List (ℕ × Cell × List ℕ)} {moves : List (ℕ × Act × List (List ℕ))} {stamp : ℕ} {cell : Cell}
      {x : List ℕ} (answer : Answer) → a.low ≤ stamp → Tells (does a.vars here.0 a.term) here cell answer
      → begins a.term ≡ Some x → StandGoes starts here (record {
        low = stamp;
        vars = vars_after answer a.vars;
        term = answered answer a.term;
        batch = begun a.term a.batch;
      }) cells moves z
      → StandGoes starts here a ((stamp, cell, x) ∷ cells) moves z
  asks : {a z : Stand} {cells : List (ℕ × Cell × List ℕ)} {moves : List (ℕ × Act × List (List ℕ))} {n : ℕ} {act : Act} → a.low ≤ n
      → Fits here a.term (does a.vars here.0 a.term) act → StartsSo starts a.term a.vars act
      → StandGoes starts here (record {
        low = suc n;
        vars = vars_told (does a.vars here.0 a.term) act a.vars;
        term = granted (brought act) a.term;
        batch = [];
      }) cells moves z → StandGoes starts here a cells ((n, act, a.batch) ∷ moves) z

-- what is left of the plan after the entries
abbrev pub plan_left : List Event → List Entry → List Event
plan_left xs [] = xs
plan_left xs (Death d ∷ es) = plan_left (rest_of xs) es
plan_left xs (Join p ∷ es) = plan_left (rest_of xs) es
plan_left xs (Step t act batch ∷ es) = plan_left xs es
plan_left xs (Root lost masked thrown ∷ es) = plan_left xs es

-- entry n may stand where this is left of the plan
abbrev pub InTime : ℕ → List Event → Entry → Type 0
InTime n xs (Death d) = IsDue n (Death d) xs
InTime n xs (Join p) = IsDue n (Join p) xs
InTime n xs (Step t act batch) = NoneDue n xs
InTime n xs (Root lost masked thrown) = NoneDue n xs
