-- What a task plays, in two parts: its entries are made, and each of its events is.
use Rattle.std.proofs.Common.{◌≡◌, ℕ, zero, suc, ◌<◌, ◌≤◌, List, [], ◌∷◌, length, refl, arith}
use Rattle.rx_rules.proofs.Common.{PlaceId, Term, Vars, Cells, Moves, Starts, Plays}
use Rattle.rx_rules.specs.Plays as rules
use Rattle.rx_verdict.specs.Makes.{Makes, MakesEvent, NotPast, Between}
use Rattle.rx_verdict.specs.Makes as parts
use Rattle.rx_verdict.proofs.Events.{past_local, past_done, past_store, past_ask}

-- no stamp is below `low`, and none falls
abbrev pub Climbs : ℕ → Cells → Type 0
Climbs low [] = Unit {0}
Climbs low (c ∷ cells) = (low ≤ c.0) × Climbs c.0 cells

-- no number is below `low`, and each is above the one before
abbrev pub Rises : ℕ → Moves → Type 0
Rises low [] = Unit {0}
Rises low (m ∷ moves) = (low ≤ m.0) × Rises (suc m.0) moves

-- each of these events is made, with its stamp between the entries
abbrev pub AllMade : Starts → PlaceId → ℕ → Vars → Term → List (List ℕ) → Cells → Moves → Type 0
AllMade starts here low vars t batch cells moves = (k : ℕ) → k < length cells → MakesEvent Between starts here low vars t batch cells moves k

-- A whole play, apart: what a task plays, it makes with no event left over, and it makes each event.

pub plays_make : {starts : Starts} {here : PlaceId} {low : ℕ} {vars : Vars} {t : Term} {batch : List (List ℕ)} {cells : Cells} {moves : Moves} → Plays starts here low vars t batch cells moves → Makes starts here vars t batch cells moves []
plays_make (rules.local e p) = parts.local e (plays_make p)
plays_make (rules.stores a le tells b p) = parts.Makes.stores a tells b (plays_make p)
plays_make (rules.asks le fits so p) = parts.asks fits so (plays_make p)
plays_make (rules.ends le e) = parts.ends e
plays_make rules.stops = parts.stops

not_past_lower : (low high : ℕ) → low ≤ high → (moves : Moves) → NotPast high moves → NotPast low moves
not_past_lower low high h [] k = tt
not_past_lower low high h (m ∷ more) k = omega arith

pub plays_due : {starts : Starts} {here : PlaceId} {low : ℕ} {vars : Vars} {t : Term} {batch : List (List ℕ)} {cells : Cells} {moves : Moves} → Plays starts here low vars t batch cells moves → NotPast low moves
plays_due (rules.local e p) = plays_due p
plays_due (rules.stores {low = low} {moves = moves} {stamp = stamp} a le tells b p) = not_past_lower low stamp le moves (plays_due p)
plays_due (rules.asks le fits so p) = le
plays_due (rules.ends le e) = le
plays_due rules.stops = tt

pub plays_event : {starts : Starts} {here : PlaceId} {low : ℕ} {vars : Vars} {t : Term} {batch : List (List ℕ)} {cells : Cells} {moves : Moves} → Plays starts here low vars t batch cells moves → (q : ℕ) → q ≤ low → (k : ℕ) → k < length cells → MakesEvent Between starts here q vars t batch cells moves k
plays_event (rules.local e p) q le k l = parts.MakesEvent.local e (plays_event p q le k l)
plays_event (rules.stores {low = low} {stamp = stamp} a up tells b p) q le zero l = parts.now a (omega (arith, le, up), plays_due p) tells b
plays_event (rules.stores {low = low} {cells = cells} {stamp = stamp} a up tells b p) q le (suc k) l =
    let in_range : k < length cells = omega arith in
    parts.MakesEvent.stores a tells b (plays_event p q (omega (arith, le, up)) k in_range)
plays_event (rules.asks {n = n} up fits so p) q le k l = parts.MakesEvent.asks fits so (plays_event p (suc n) (omega arith) k l)
plays_event (rules.ends up e) q le k l = absurd (omega arith)
plays_event rules.stops q le k l = absurd (omega arith)

-- A play from its parts.

rises_due : (low : ℕ) (moves : Moves) → NotPast low moves → (q : ℕ) → Rises q moves → Rises low moves
rises_due low [] d q r = tt
rises_due low (m ∷ moves) d q r = (d, r.1)

module _ (starts : Starts) (here : PlaceId) where
  -- the events that are left where all entries are made
  finish : {q k : ℕ} {vars : Vars} {t : Term} {batch : List (List ℕ)} {cells : Cells} {moves : Moves} → MakesEvent Between starts here q vars t batch cells moves k → suc k ≡ length cells → moves ≡ [] → (low p : ℕ) → ((s : ℕ) → q ≤ s → p ≤ s → low ≤ s) → AllMade starts here q vars t batch cells moves → Climbs p cells → Plays starts here low vars t batch cells []
  finish {q = q} (parts.now {vars = vars} {t = t} {batch = batch} {cells = []} {moves = moves} {stamp = stamp} {cell = cell} {x = x} a keeps tells b) e none low p bound all climbs =
      rules.stores a (bound stamp keeps.0 climbs.0) tells b rules.stops
  finish {q = q} (parts.now {cells = c ∷ cells} a keeps tells b) e none low p bound all climbs = absurd (omega arith)
  finish {q = q} (parts.MakesEvent.local {vars = vars} {left = left} {t = t} {after = after} {batch = batch} {cells = cells} {moves = moves} g m) e none low p bound all climbs =
      rules.local g (finish m e none low p bound (λ k l. past_local Between starts here left after g (all k l)) climbs)
  finish {q = q} (parts.MakesEvent.stores {k = k} {vars = vars} {t = t} {batch = batch} {cells = cells} {moves = moves} {stamp = stamp} {cell = cell} {x = x} a tells b m) e none low p bound all climbs =
      let first = past_store Between starts here stamp cell x cells a refl tells (all 0 (omega arith)) in
      let up : q ≤ stamp = first.0 in
      let rest : suc k ≡ length cells = omega arith in
      rules.stores a (bound stamp up climbs.0) tells b
      (finish m rest none stamp stamp (λ s h g. g) (λ i l. past_store Between starts here stamp cell x cells a refl tells (all (suc i) (omega (arith, l)))) climbs.1)
  finish (parts.MakesEvent.asks {moves = moves} fits so m) e none low p bound all climbs = absurd (let f : ⊥ = cc in f)

  pub replay : {vars : Vars} {t : Term} {batch : List (List ℕ)} {cells rest : Cells} {moves : Moves} → Makes starts here vars t batch cells moves rest → (low q p : ℕ) → ((s : ℕ) → q ≤ s → p ≤ s → low ≤ s) → AllMade starts here q vars t batch cells moves → Climbs p cells → Rises low moves → Plays starts here low vars t batch cells moves
  replay (parts.Makes.local {left = left} {after = after} g m) low q p bound all climbs rises =
      rules.local g (replay m low q p bound (λ k l. past_local Between starts here left after g (all k l)) climbs rises)
  replay (parts.Makes.stores {cells = cells} {moves = moves} {stamp = stamp} {cell = cell} {x = x} a tells b m) low q p bound all climbs rises =
      let first = past_store Between starts here stamp cell x cells a refl tells (all 0 (omega arith)) in
      rules.stores a (bound stamp first.0 climbs.0) tells b
      (replay m stamp q stamp (λ s h g. g) (λ i l. past_store Between starts here stamp cell x cells a refl tells (all (suc i) (omega (arith, l)))) climbs.1 (rises_due stamp moves first.1 low rises))
  replay (parts.Makes.asks {cells = cells} {moves = moves} {n = n} {act = act} fits so m) low q p bound all climbs rises =
      rules.asks rises.0 fits so (replay m (suc n) (suc n) p (λ s h g. h) (λ k l. past_ask Between starts here n act moves refl fits (all k l)) climbs rises.1)
  replay (parts.ends {cells = []} {n = n} {faults = faults} e) low q p bound all climbs rises = rules.ends rises.0 e
  replay (parts.ends {cells = c ∷ cells} {n = n} {faults = faults} e) low q p bound all climbs rises = absurd (past_done Between starts here faults e (all 0 (omega arith)))
  replay (parts.stops {cells = []}) low q p bound all climbs rises = rules.stops
  replay (parts.stops {cells = c ∷ cells}) low q p bound all climbs rises =
      finish (all (length cells) (omega arith)) refl refl low p bound all climbs

-- where it makes the entries, whatever events are left over, and each event is made, it plays them: where numbers rise and stamps do
-- not fall
pub parts_play : (starts : Starts) (here : PlaceId) (low : ℕ) (vars : Vars) (t : Term) (batch : List (List ℕ)) (cells rest : Cells) (moves : Moves) → Makes starts here vars t batch cells moves rest → AllMade starts here low vars t batch cells moves → Climbs 0 cells → Rises low moves → Plays starts here low vars t batch cells moves
parts_play starts here low vars t batch cells rest moves m all climbs rises = replay starts here m low low 0 (λ s h g. h) all climbs rises
