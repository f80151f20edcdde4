-- The pass over the events.
use Rattle.std.proofs.Common.{◌≡◌, ℕ, suc, ◌+◌, List, [], ◌∷◌, ◌++◌, length, Some, refl, subst, arith}
use Rattle.rx_rules.proofs.Common.{PlaceId, Fault, Player, Cells, Moves, Starts, Tells, Term, Vars, Answer, Does, Done, does, begins}
use Rattle.rx_rules.specs.declared.events.Cell.{Cell}
use Rattle.rx_runs.specs.AnyAnswers.{AsksStore}
use Rattle.rx_verdict.specs.Makes as parts
use Rattle.rx_verdict.specs.Makes.{MakesEvent, StampRule, KeepsRule}
use Rattle.rx_verdict.specs.Walks as walks
use Rattle.rx_verdict.specs.Walks.{Walks, next_does, AsksLedger, Halts}
use Rattle.rx_verdict.specs.Marks.{after}
use Rattle.rx_verdict.proofs.Events.{past_local, past_done, past_store, past_ask}
use Rattle.rx_verdict.proofs.Walking.{told_asks_no_ledger, fits_asks_no_store}

-- what a player makes of its events
abbrev pub EventFrom : StampRule → Starts → PlaceId → ℕ → Player → Cells → Moves → ℕ → Type 0
EventFrom rule starts here low a cells moves k = MakesEvent rule starts here low a.vars a.term a.batch cells moves k

module _ (rule : StampRule) (starts : Starts) (here : PlaceId) where
  used : {a z : Player} {cells left : Cells} {moves : Moves} → Walks starts here a cells moves z left → ℕ
  used walks.stays = 0
  used (walks.local e w) = used w
  used (walks.stores answer tells b w) = suc (used w)
  used (walks.asks fits so w) = used w

  size : {a z : Player} {cells left : Cells} {moves : Moves} (w : Walks starts here a cells moves z left) → length cells ≡ used w + length left
  unfolding used
  size {left = left} walks.stays = (let e : length left ≡ 0 + length left = omega arith in e)
  size (walks.local e w) = size w
  size {left = left} (walks.stores {cells = cells} answer tells b w) = let s : length cells ≡ used w + length left = size w in omega (arith, s)
  size (walks.asks fits so w) = size w

  joined : {a z : Player} {cells left : Cells} {moves : Moves} (low : ℕ) (w : Walks starts here a cells moves z left) (more : Moves) (k : ℕ) → EventFrom rule starts here (after low moves) z left more k → EventFrom rule starts here low a cells (moves ++ more) (used w + k)
  unfolding used
  joined {z = z} {left = left} low walks.stays more k h = let e : k ≡ 0 + k = omega arith in subst (λ (i : ℕ). EventFrom rule starts here low z left more i) e h
  joined low (walks.local e w) more k h = parts.MakesEvent.local e (joined low w more k h)
  joined low (walks.stores {a = a} {cells = cells} {moves = moves} {stamp = stamp} {cell = cell} {x = x} answer tells b w) more k h =
      let e : suc (used w + k) ≡ suc (used w) + k = omega arith in
      subst (λ (i : ℕ). EventFrom rule starts here low a ((stamp, cell, x) ∷ cells) (moves ++ more) i) e (parts.MakesEvent.stores answer tells b (joined low w more k h))
  joined low (walks.asks {n = n} fits so w) more k h = parts.MakesEvent.asks fits so (joined (suc n) w more k h)

  parted : {a z : Player} {cells left : Cells} {moves : Moves} (low : ℕ) (w : Walks starts here a cells moves z left) (more : Moves) (k : ℕ) → EventFrom rule starts here low a cells (moves ++ more) (used w + k) → EventFrom rule starts here (after low moves) z left more k
  unfolding used
  parted {z = z} {left = left} low walks.stays more k h = let e : 0 + k ≡ k = omega arith in subst (λ (i : ℕ). EventFrom rule starts here low z left more i) e h
  parted low (walks.local {after = rest} {vars = vars} e w) more k h = parted low w more k (past_local rule starts here vars rest e h)
  parted low (walks.stores {a = a} {cells = cells} {moves = moves} {stamp = stamp} {cell = cell} {x = x} answer tells b w) more k h =
      let e : suc (used w) + k ≡ suc (used w + k) = omega arith in
      parted low w more k (past_store rule starts here stamp cell x cells answer refl tells (subst (λ (i : ℕ). EventFrom rule starts here low a ((stamp, cell, x) ∷ cells) (moves ++ more) i) e h))
  parted low (walks.asks {moves = moves} {n = n} {act = act} fits so w) more k h = parted (suc n) w more k (past_ask rule starts here n act (moves ++ more) refl fits h)

  no_halt : {low k : ℕ} {vars : Vars} {t : Term} {batch : List (List ℕ)} {cells : Cells} {moves : Moves} → MakesEvent rule starts here low vars t batch cells moves k → AsksStore (does vars here.0 t) → Halts here (record { vars = vars; term = t; batch = batch }) cells → ⊥
  no_halt (parts.now a keeps tells b) asks halts = halts a tells b
  no_halt (parts.MakesEvent.local g m) asks halts = subst (λ (d : Does). AsksStore d) g asks
  no_halt (parts.MakesEvent.stores a tells b m) asks halts = halts a tells b
  no_halt (parts.MakesEvent.asks {vars = vars} {t = t} {act = act} fits so m) asks halts = fits_asks_no_store (does vars here.0 t) here t act fits asks

  no_request : {low k : ℕ} {vars : Vars} {t : Term} {batch : List (List ℕ)} {cells : Cells} {moves : Moves} → MakesEvent rule starts here low vars t batch cells moves k → AsksLedger (does vars here.0 t) → moves ≡ [] → ⊥
  no_request (parts.now {vars = vars} {t = t} {cell = cell} a keeps tells b) asks e = told_asks_no_ledger (does vars here.0 t) here cell a tells asks
  no_request (parts.MakesEvent.local g m) asks e = subst (λ (d : Does). AsksLedger d) g asks
  no_request (parts.MakesEvent.stores {vars = vars} {t = t} {cell = cell} a tells b m) asks e = told_asks_no_ledger (does vars here.0 t) here cell a tells asks
  no_request (parts.MakesEvent.asks fits so m) asks e = let f : ⊥ = cc in f

-- where a walk has used c events, event number c + k of the task is made exactly where the player makes number k of those left
pub event_from_player : (rule : StampRule) (starts : Starts) (here : PlaceId) (low : ℕ) (a z : Player) (cells left : Cells) (moves : Moves) → Walks starts here a cells moves z left → (c : ℕ) × (length cells ≡ c + length left) × ((more : Moves) (k : ℕ) → EventFrom rule starts here (after low moves) z left more k → EventFrom rule starts here low a cells (moves ++ more) (c + k)) × ((more : Moves) (k : ℕ) → EventFrom rule starts here low a cells (moves ++ more) (c + k) → EventFrom rule starts here (after low moves) z left more k)
event_from_player rule starts here low a z cells left moves w = (used rule starts here w, size rule starts here w, λ more k h. joined rule starts here low w more k h, λ more k h. parted rule starts here low w more k h)

-- at a store call that the next event answers, that event is made exactly where its stamp keeps the rule
pub at_store : (rule : StampRule) (starts : Starts) (here : PlaceId) (low : ℕ) (z : Player) (left : Cells) (stamp : ℕ) (cell : Cell) (x : List ℕ) (more : Moves) (answer : Answer) → Tells (next_does here z) here cell answer → begins z.term ≡ Some x → (KeepsRule rule low stamp more → EventFrom rule starts here low z ((stamp, cell, x) ∷ left) more 0) × (EventFrom rule starts here low z ((stamp, cell, x) ∷ left) more 0 → KeepsRule rule low stamp more)
at_store rule starts here low z left stamp cell x more answer tells b =
    (λ h. parts.now answer h tells b, λ h. past_store rule starts here stamp cell x left answer refl tells h)

-- where the term is done, or halts at a store call, or waits for the ledger with no entry more, no event more is made
pub no_event_more : (rule : StampRule) (starts : Starts) (here : PlaceId) (low : ℕ) (z : Player) (left : Cells) (more : Moves) (k : ℕ) → EventFrom rule starts here low z left more k → ((faults : List Fault) → next_does here z ≡ Done faults → ⊥) × (AsksStore (next_does here z) → Halts here z left → ⊥) × (AsksLedger (next_does here z) → more ≡ [] → ⊥)
no_event_more rule starts here low z left more k h =
    (λ faults e. past_done rule starts here faults e h, λ asks halts. no_halt rule starts here h asks halts, λ asks e. no_request rule starts here h asks e)
