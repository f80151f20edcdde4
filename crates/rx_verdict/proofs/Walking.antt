-- The pass over the entries, one task at a time.
use Rattle.std.proofs.Common.{◌≡◌, ℕ, List, [], ◌∷◌, ◌++◌, refl, ap, sym, subst, ◌∙◌, ⊎_elim}
use Rattle.rx_rules.proofs.Common.{PlaceId, Fault, Term, Vars, Answer, Does, Local, Makes as Creates, Gets, Puts, Forgets, Done, does, Player, Cells, Moves, Starts, Tells, StartsSo}
use Rattle.rx_rules.specs.declared.entries.Act.{Act}
use Rattle.rx_rules.specs.declared.entries.Act.TheVariants.{End}
use Rattle.rx_rules.specs.declared.events.Cell.{Cell}
use Rattle.rx_rules.specs.Plays.{Fits}
use Rattle.rx_runs.specs.AnyAnswers.{AsksStore}
use Rattle.rx_verdict.specs.Makes as parts
use Rattle.rx_verdict.specs.Makes.{Makes}
use Rattle.rx_verdict.specs.Walks as walks
use Rattle.rx_verdict.specs.Walks.{Walks, next_does, AsksLedger, Halts}
use Rattle.rx_runs.proofs.NextSteps.{not_done_told, not_done_fits, not_local_done}
use Rattle.rx_verdict.proofs.Once.{make_local, make_store, make_ask}

-- what a player makes
abbrev pub MakesFrom : Starts → PlaceId → Player → Cells → Moves → Cells → Type 0
MakesFrom starts here a cells moves rest = Makes starts here a.vars a.term a.batch cells moves rest

not_empty : (moves : Moves) (m : ℕ × Act × List (List ℕ)) (more : Moves) → moves ++ m ∷ more ≡ [] → ⊥
not_empty [] m more e = cc
not_empty (x ∷ moves) m more e = cc

module _ (starts : Starts) (here : PlaceId) where
  pub walk_on : {a y z : Player} {cells mid left : Cells} {moves more : Moves} → Walks starts here a cells moves y mid → Walks starts here y mid more z left → Walks starts here a cells (moves ++ more) z left
  walk_on walks.stays w = w
  walk_on (walks.local e v) w = walks.local e (walk_on v w)
  walk_on (walks.stores answer tells b v) w = walks.stores answer tells b (walk_on v w)
  walk_on (walks.asks fits so v) w = walks.asks fits so (walk_on v w)

  -- what the player makes, the walk and it make together
  pub join : {a z : Player} {cells left rest : Cells} {moves more : Moves} → Walks starts here a cells moves z left → MakesFrom starts here z left more rest → MakesFrom starts here a cells (moves ++ more) rest
  join walks.stays m = m
  join (walks.local e w) m = parts.Makes.local e (join w m)
  join (walks.stores answer tells b w) m = parts.Makes.stores answer tells b (join w m)
  join (walks.asks fits so w) m = parts.Makes.asks fits so (join w m)

-- what is made after the walk, the player makes
module _ (starts others : Starts) (here : PlaceId) where
  pub cut : {a z : Player} {cells left rest : Cells} {moves : Moves} (m : ℕ × Act × List (List ℕ)) (more : Moves) → Walks starts here a cells moves z left → MakesFrom others here a cells (moves ++ m ∷ more) rest → MakesFrom others here z left (m ∷ more) rest
  cut m more walks.stays h = h
  cut m more (walks.local {moves = moves} {after = after} {vars = vars} e w) h =
      ⊎_elim (λ (none : moves ++ m ∷ more ≡ []). absurd (not_empty moves m more none)) (λ k. cut m more w k) (make_local others here vars after e h)
  cut m more (walks.stores {cells = cells} {moves = moves} {stamp = stamp} {cell = cell} {x = x} answer tells b w) h =
      ⊎_elim (λ (none : moves ++ m ∷ more ≡ []). absurd (not_empty moves m more none)) (λ k. cut m more w k) (make_store others here stamp cell x cells answer refl tells h)
  cut m more (walks.asks {moves = moves} {n = n} {act = act} fits so w) h = cut m more w (make_ask others here n act (moves ++ m ∷ more) refl fits h).1

-- two walks, one after the other, are one
pub walks_on : (starts : Starts) (here : PlaceId) (a y z : Player) (cells mid left : Cells) (moves more : Moves) → Walks starts here a cells moves y mid → Walks starts here y mid more z left → Walks starts here a cells (moves ++ more) z left
walks_on starts here a y z cells mid left moves more v w = walk_on starts here v w

-- What the player does next.

pub told_asks_no_ledger : (d : Does) (here : PlaceId) (c : Cell) (a : Answer) → Tells d here c a → AsksLedger d → ⊥
told_asks_no_ledger (Creates name words) here c a h k = k
told_asks_no_ledger (Gets name target index) here c a h k = k
told_asks_no_ledger (Puts target index value) here c a h k = k
told_asks_no_ledger (Forgets target) here c a h k = k
told_asks_no_ledger (Local left vars) here c a h k = k
told_asks_no_ledger _ here c a h k = h

pub fits_asks_no_store : (d : Does) (here : PlaceId) (t : Term) (act : Act) → Fits here t d act → AsksStore d → ⊥
fits_asks_no_store (Creates name words) here t act h k = h
fits_asks_no_store (Gets name target index) here t act h k = h
fits_asks_no_store (Puts target index value) here t act h k = h
fits_asks_no_store (Forgets target) here t act h k = h
fits_asks_no_store (Local left vars) here t act h k = h
fits_asks_no_store (Done faults) here t act h k = h
fits_asks_no_store _ here t act h k = k

fits_no_end : (d : Does) (here : PlaceId) (t : Term) (faults : List Fault) → Fits here t d (End faults) → ⊥
fits_no_end (Creates name words) here t faults h = h
fits_no_end _ here t faults h = h

module _ (starts : Starts) (here : PlaceId) where
  at_request_only : {vars : Vars} {t : Term} {batch : List (List ℕ)} {cells rest : Cells} {all : Moves} (m : ℕ × Act × List (List ℕ)) → all ≡ m ∷ [] → AsksLedger (does vars here.0 t) → Makes starts here vars t batch cells all rest → (m.2 ≡ batch) × Fits here t (does vars here.0 t) m.1 × StartsSo starts t vars m.1
  at_request_only m e asks (parts.Makes.local {left = left} {after = after} g h) = absurd (subst (λ (d : Does). AsksLedger d) g asks)
  at_request_only m e asks (parts.Makes.stores {vars = vars} {t = t} {cell = cell} a tells b h) = absurd (told_asks_no_ledger (does vars here.0 t) here cell a tells asks)
  at_request_only m e asks (parts.Makes.asks {vars = vars} {t = t} {batch = batch} {moves = moves} {n = n} {act = act} fits so h) =
      let one : ◌≡◌ {A = ℕ × Act × List (List ℕ)} (n, act, batch) m = cc in
      let is : act ≡ m.1 = ap (λ (v : ℕ × Act × List (List ℕ)). v.1) one in
      (sym (ap (λ (v : ℕ × Act × List (List ℕ)). v.2) one), subst (λ (v : Act). Fits here t (does vars here.0 t) v) is fits, subst (λ (v : Act). StartsSo starts t vars v) is so)
  at_request_only m e asks (parts.ends {faults = faults} g) = absurd (subst (λ (d : Does). AsksLedger d) g asks)
  at_request_only m e asks parts.stops = absurd (let f : ⊥ = cc in f)

  pub at_end_only : {vars : Vars} {t : Term} {batch : List (List ℕ)} {cells rest : Cells} {all : Moves} (m : ℕ × Act × List (List ℕ)) (faults : List Fault) → all ≡ m ∷ [] → does vars here.0 t ≡ Done faults → Makes starts here vars t batch cells all rest → (m.2 ≡ batch) × (m.1 ≡ End faults)
  at_end_only m faults e done (parts.Makes.local {vars = vars} {left = left} {t = t} {after = after} g h) = absurd (not_local_done (does vars here.0 t) left after faults g done)
  at_end_only m faults e done (parts.Makes.stores {vars = vars} {t = t} {cell = cell} a tells b h) = absurd (not_done_told (does vars here.0 t) here cell a faults done tells)
  at_end_only m faults e done (parts.Makes.asks {vars = vars} {t = t} {act = act} fits so h) = absurd (not_done_fits (does vars here.0 t) here t act faults done fits)
  at_end_only m faults e done (parts.ends {batch = batch} {n = n} {faults = raised} g) =
      let one : ◌≡◌ {A = ℕ × Act × List (List ℕ)} (n, End raised, batch) m = cc in
      let same : raised ≡ faults = cc (g, done) in
      (sym (ap (λ (v : ℕ × Act × List (List ℕ)). v.2) one), sym (ap (λ (v : ℕ × Act × List (List ℕ)). v.1) one) ∙ ap End same)
  at_end_only m faults e done parts.stops = absurd (let f : ⊥ = cc in f)

  at_halt_never : {vars : Vars} {t : Term} {batch : List (List ℕ)} {cells rest : Cells} {all : Moves} (m : ℕ × Act × List (List ℕ)) → all ≡ m ∷ [] → AsksStore (does vars here.0 t) → Halts here (record { vars = vars; term = t; batch = batch }) cells → Makes starts here vars t batch cells all rest → ⊥
  at_halt_never m e asks halts (parts.Makes.local g h) = subst (λ (d : Does). AsksStore d) g asks
  at_halt_never m e asks halts (parts.Makes.stores a tells b h) = halts a tells b
  at_halt_never m e asks halts (parts.Makes.asks {vars = vars} {t = t} {act = act} fits so h) = fits_asks_no_store (does vars here.0 t) here t act fits asks
  at_halt_never m e asks halts (parts.ends g) = subst (λ (d : Does). AsksStore d) g asks
  at_halt_never m e asks halts parts.stops = let f : ⊥ = cc in f

  -- after its end a task makes no entry
  pub none_after : {vars : Vars} {t : Term} {batch : List (List ℕ)} {cells rest : Cells} {all : Moves} (n : ℕ) (faults : List Fault) (last : List (List ℕ)) (m : ℕ × Act × List (List ℕ)) (moves : Moves) → Makes starts here vars t batch cells all rest → all ≡ moves ++ (n, End faults, last) ∷ m ∷ [] → ⊥
  none_after n faults last m moves (parts.Makes.local g h) e = none_after n faults last m moves h e
  none_after n faults last m moves (parts.Makes.stores a tells b h) e = none_after n faults last m moves h e
  none_after n faults last m [] (parts.Makes.asks {vars = vars} {t = t} {batch = batch} {n = k} {act = act} fits so h) e =
      let one : ◌≡◌ {A = ℕ × Act × List (List ℕ)} (k, act, batch) (n, End faults, last) = cc in
      let is : act ≡ End faults = ap (λ (v : ℕ × Act × List (List ℕ)). v.1) one in
      fits_no_end (does vars here.0 t) here t faults (subst (λ (v : Act). Fits here t (does vars here.0 t) v) is fits)
  none_after n faults last m (x ∷ moves) (parts.Makes.asks {moves = more} fits so h) e =
      let tail : more ≡ moves ++ (n, End faults, last) ∷ m ∷ [] = cc in none_after n faults last m moves h tail
  none_after n faults last m [] (parts.ends g) e = let f : ⊥ = cc in f
  none_after n faults last m (x ∷ []) (parts.ends g) e = let f : ⊥ = cc in f
  none_after n faults last m (x ∷ y ∷ moves) (parts.ends g) e = let f : ⊥ = cc in f
  none_after n faults last m [] parts.stops e = let f : ⊥ = cc in f
  none_after n faults last m (x ∷ moves) parts.stops e = let f : ⊥ = cc in f

-- the entry is what a player that waits for the ledger asks: its act, its batch, and the start of whom it starts
abbrev pub IsAsked : Starts → PlaceId → Player → ℕ × Act × List (List ℕ) → Type 0
IsAsked starts here z m = (m.2 ≡ z.batch) × Fits here z.term (next_does here z) m.1 × StartsSo starts z.term z.vars m.1

-- at a request, the one entry is made exactly where it is what is asked
pub at_request : (starts : Starts) (here : PlaceId) (z : Player) (left : Cells) (m : ℕ × Act × List (List ℕ)) → AsksLedger (next_does here z) → (IsAsked starts here z m → MakesFrom starts here z left (m ∷ []) left) × ((rest : Cells) → MakesFrom starts here z left (m ∷ []) rest → IsAsked starts here z m)
at_request starts here z left m asks = (
  λ k. subst (λ (b : List (List ℕ)). Makes starts here z.vars z.term b left (m ∷ []) left) k.0 (subst (λ (b : List (List ℕ)). Makes starts here z.vars z.term b left ((m.0, m.1, b) ∷ []) left) refl (parts.Makes.asks k.1 k.2 parts.stops)),
  λ rest h. at_request_only starts here m refl asks h,
)

-- at an end, exactly where it is that end
pub at_end : (starts : Starts) (here : PlaceId) (z : Player) (left : Cells) (m : ℕ × Act × List (List ℕ)) (faults : List Fault) → next_does here z ≡ Done faults → ((m.2 ≡ z.batch) × (m.1 ≡ End faults) → MakesFrom starts here z left (m ∷ []) left) × ((rest : Cells) → MakesFrom starts here z left (m ∷ []) rest → (m.2 ≡ z.batch) × (m.1 ≡ End faults))
at_end starts here z left m faults done = (
  λ k. subst (λ (v : Act × List (List ℕ)). Makes starts here z.vars z.term z.batch left ((m.0, v.0, v.1) ∷ []) left) {x = (End faults, z.batch)} {y = (m.1, m.2)} (λ i. (sym k.1 i, sym k.0 i)) (parts.ends done),
  λ rest h. at_end_only starts here m faults refl done h,
)

-- where the term halts at a store call, never
pub at_halt : (starts : Starts) (here : PlaceId) (z : Player) (left rest : Cells) (m : ℕ × Act × List (List ℕ)) → AsksStore (next_does here z) → Halts here z left → MakesFrom starts here z left (m ∷ []) rest → ⊥
at_halt starts here z left rest m asks halts h = at_halt_never starts here m refl asks halts h
