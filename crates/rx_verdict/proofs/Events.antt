-- The events of a task that its term makes.
use Rattle.std.proofs.Common.{◌≡◌, ℕ, zero, suc, List, [], ◌∷◌, ap, subst}
use Rattle.rx_rules.proofs.Common.{PlaceId, Fault, Term, Vars, Answer, answered, vars_after, Local, Done, does, granted, Cells, Moves, Starts, Tells, begun, brought, vars_told}
use Rattle.rx_rules.specs.declared.entries.Act.{Act}
use Rattle.rx_rules.specs.declared.events.Cell.{Cell}
use Rattle.rx_rules.specs.Plays.{Fits}
use Rattle.rx_runs.proofs.NextSteps.{told_once, not_told_and_fits, not_local_told, not_local_fits, not_done_told, not_done_fits, not_local_done}
use Rattle.rx_verdict.specs.Makes.{MakesEvent, now, local, stores, asks, StampRule, KeepsRule}

-- What is known of an event from the term's next step.

module _ (rule : StampRule) (starts : Starts) (here : PlaceId) where
  abbrev Event : ℕ → Vars → Term → List (List ℕ) → Cells → Moves → ℕ → Type 0
  Event = MakesEvent rule starts here

  pub past_local : {q k : ℕ} {vars : Vars} {t : Term} {batch : List (List ℕ)} {cells : Cells} {moves : Moves} (left : Vars) (after : Term) → does vars here.0 t ≡ Local after left → Event q vars t batch cells moves k → Event q left after (begun t batch) cells moves k
  past_local left after e (now {vars = vars} {t = t} {cell = cell} a keeps tells b) = absurd (not_local_told (does vars here.0 t) here cell a left after e tells)
  past_local {q = q} {k = k} left after e (local {left = l} {t = t} {after = f} {batch = batch} {cells = cells} {moves = moves} g m) =
      let one : ◌≡◌ {A = Term} f after = cc (e, g) in
      let two : ◌≡◌ {A = Vars} l left = cc (e, g) in
      subst (λ (z : Vars × Term). Event q z.0 z.1 (begun t batch) cells moves k) (λ i. (two i, one i)) m
  past_local left after e (stores {vars = vars} {t = t} {cell = cell} a tells b m) = absurd (not_local_told (does vars here.0 t) here cell a left after e tells)
  past_local left after e (asks {vars = vars} {t = t} {act = act} fits so m) = absurd (not_local_fits (does vars here.0 t) here t act left after e fits)

  pub past_done : {q k : ℕ} {vars : Vars} {t : Term} {batch : List (List ℕ)} {cells : Cells} {moves : Moves} (faults : List Fault) → does vars here.0 t ≡ Done faults → Event q vars t batch cells moves k → ⊥
  past_done faults e (now {vars = vars} {t = t} {cell = cell} a keeps tells b) = not_done_told (does vars here.0 t) here cell a faults e tells
  past_done faults e (local {vars = vars} {left = left} {t = t} {after = after} g m) = not_local_done (does vars here.0 t) left after faults g e
  past_done faults e (stores {vars = vars} {t = t} {cell = cell} a tells b m) = not_done_told (does vars here.0 t) here cell a faults e tells
  past_done faults e (asks {vars = vars} {t = t} {act = act} fits so m) = not_done_fits (does vars here.0 t) here t act faults e fits

  -- the next event, and a later one
  abbrev pub AtStore : ℕ → Vars → Term → List (List ℕ) → ℕ → Cells → Moves → Answer → ℕ → Type 0
  AtStore q vars t batch stamp cells moves a zero = KeepsRule rule q stamp moves
  AtStore q vars t batch stamp cells moves a (suc k) = Event q (vars_after a vars) (answered a t) (begun t batch) cells moves k

  pub past_store : {q k : ℕ} {vars : Vars} {t : Term} {batch : List (List ℕ)} {all : Cells} {moves : Moves} (stamp : ℕ) (cell : Cell) (x : List ℕ) (cells : Cells) (a : Answer) → all ≡ (stamp, cell, x) ∷ cells → Tells (does vars here.0 t) here cell a → Event q vars t batch all moves k → AtStore q vars t batch stamp cells moves a k
  past_store {q = q} stamp cell x cells a e h (now {moves = moves} {stamp = s} {cell = c} {x = y} b keeps tells is) =
      let one : ◌≡◌ {A = ℕ × Cell × List ℕ} (s, c, y) (stamp, cell, x) = cc in
      let same : s ≡ stamp = ap (λ (v : ℕ × Cell × List ℕ). v.0) one in
      subst (λ (v : ℕ). KeepsRule rule q v moves) same keeps
  past_store stamp cell x cells a e h (local {vars = vars} {left = left} {t = t} {after = after} g m) = absurd (not_local_told (does vars here.0 t) here cell a left after g h)
  past_store {q = q} stamp cell x cells a e h (stores {k = k} {vars = vars} {t = t} {batch = batch} {cells = more} {moves = moves} {stamp = s} {cell = c} {x = y} b tells is m) =
      let one : ◌≡◌ {A = ℕ × Cell × List ℕ} (s, c, y) (stamp, cell, x) = cc in
      let tail : more ≡ cells = cc in
      let same : c ≡ cell = ap (λ (v : ℕ × Cell × List ℕ). v.1) one in
      let answer : b ≡ a = told_once (does vars here.0 t) here cell b a (subst (λ (v : Cell). Tells (does vars here.0 t) here v b) same tells) h in
      subst (λ (z : Answer × Cells). Event q (vars_after z.0 vars) (answered z.0 t) (begun t batch) z.1 moves k) (λ i. (answer i, tail i)) m
  past_store stamp cell x cells a e h (asks {vars = vars} {t = t} {act = act} fits so m) = absurd (not_told_and_fits (does vars here.0 t) here t cell a act h fits)

  pub past_ask : {q k : ℕ} {vars : Vars} {t : Term} {batch : List (List ℕ)} {cells : Cells} {all : Moves} (n : ℕ) (act : Act) (moves : Moves) → all ≡ (n, act, batch) ∷ moves → Fits here t (does vars here.0 t) act → Event q vars t batch cells all k → Event (suc n) (vars_told (does vars here.0 t) act vars) (granted (brought act) t) [] cells moves k
  past_ask n act moves e h (now {vars = vars} {t = t} {cell = cell} a keeps tells is) = absurd (not_told_and_fits (does vars here.0 t) here t cell a act tells h)
  past_ask n act moves e h (local {vars = vars} {left = left} {t = t} {after = after} g m) = absurd (not_local_fits (does vars here.0 t) here t act left after g h)
  past_ask n act moves e h (stores {vars = vars} {t = t} {cell = cell} a tells is m) = absurd (not_told_and_fits (does vars here.0 t) here t cell a act tells h)
  past_ask n act moves e h (asks {k = k} {vars = vars} {t = t} {batch = batch} {cells = cells} {moves = more} {n = j} {act = other} fits so m) =
      let one : ◌≡◌ {A = ℕ × Act × List (List ℕ)} (j, other, batch) (n, act, batch) = cc in
      let tail : more ≡ moves = cc in
      let number : j ≡ n = ap (λ (v : ℕ × Act × List (List ℕ)). v.0) one in
      let same : other ≡ act = ap (λ (v : ℕ × Act × List (List ℕ)). v.1) one in
      subst (λ (z : ℕ × Act × Moves). Event (suc z.0) (vars_told (does vars here.0 t) z.1 vars) (granted (brought z.1) t) [] cells z.2 k) (λ i. (number i, same i, tail i)) m
