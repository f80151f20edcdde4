-- The terms at the births of all tasks are one list.
use Rattle.std.proofs.Common.{◌≡◌, ◌⊎◌, ℕ, zero, suc, ◌+◌, ◌<◌, ◌≤◌, Bool, true, false, List, [], ◌∷◌, length, Option, Some, None, slice_get, refl, ap, sym, subst, ◌∙◌, arith, inl, inr, ⊎_elim}
use Rattle.std.proofs.lemmas.Bool.{cases_lt}
use Rattle.rx_rules.proofs.Common.{PlaceId, TaskId, Block, Term, Vars, Answer, answered, vars_after, Local, does, granted, child, AllAllowed, opening, births, opens, Cells, Moves, Starts, Tells, StartsSo, begun, brought, vars_told, birth_of, travels, moves_from}
use Rattle.rx_rules.specs.declared.entries.Act.{Act}
use Rattle.rx_rules.specs.declared.entries.Act.TheVariants.{Open, At as Calls, Spawn, Arrive, Wait, Release, End, Print, Census}
use Rattle.rx_rules.specs.declared.entries.Entry.{Entry}
use Rattle.rx_rules.specs.declared.events.Cell.{Cell}
use Rattle.rx_rules.specs.declared.events.PlaceEvent.{PlaceEvent}
use Rattle.rx_rules.specs.Plays.{Fits}
use Rattle.rx_tree_laws.proofs.Histories.{none_yet}
use Rattle.rx_verdict.specs.Makes.{Makes, local, stores, asks, ends, stops, Landing, Made, TaskMakes, EachMakes, cells_of}
use Rattle.rx_runs.proofs.NextSteps.{told_once, not_told_and_fits, not_local_told, not_local_fits, not_done_told, not_done_fits, not_local_done}
use Rattle.rx_verdict.proofs.Births.{Has, StartsTask, parent}
use Rattle.rx_base.proofs.Elements.{get-within}
use Rattle.std.proofs.lemmas.Option.{slice_get_past}

-- What is known of a term that makes entries, from its next step.

module _ (starts : Starts) (here : PlaceId) where
  abbrev Mk : Vars → Term → List (List ℕ) → Cells → Moves → Cells → Type 0
  Mk = Makes starts here

  pub make_local : {vars : Vars} {t : Term} {batch : List (List ℕ)} {cells rest : Cells} {moves : Moves} (left : Vars) (after : Term) → does vars here.0 t ≡ Local after left → Mk vars t batch cells moves rest → (moves ≡ []) ⊎ Mk left after (begun t batch) cells moves rest
  make_local left after e (local {left = l} {t = t} {after = f} {batch = batch} {cells = cells} {rest = rest} {moves = moves} g m) =
      let one : ◌≡◌ {A = Term} f after = cc (e, g) in
      let two : ◌≡◌ {A = Vars} l left = cc (e, g) in
      inr (subst (λ (z : Vars × Term). Mk z.0 z.1 (begun t batch) cells moves rest) (λ i. (two i, one i)) m)
  make_local left after e (stores {vars = vars} {t = t} {cell = cell} a tells b m) = absurd (not_local_told (does vars here.0 t) here cell a left after e tells)
  make_local left after e (asks {vars = vars} {t = t} {act = act} fits so m) = absurd (not_local_fits (does vars here.0 t) here t act left after e fits)
  make_local left after e (ends {vars = vars} {t = t} {faults = faults} g) = absurd (not_local_done (does vars here.0 t) left after faults e g)
  make_local left after e stops = inl refl

  pub make_store : {vars : Vars} {t : Term} {batch : List (List ℕ)} {all rest : Cells} {moves : Moves} (stamp : ℕ) (cell : Cell) (x : List ℕ) (cells : Cells) (a : Answer) → all ≡ (stamp, cell, x) ∷ cells → Tells (does vars here.0 t) here cell a → Mk vars t batch all moves rest → (moves ≡ []) ⊎ Mk (vars_after a vars) (answered a t) (begun t batch) cells moves rest
  make_store stamp cell x cells a e h (local {vars = vars} {left = left} {t = t} {after = after} g m) = absurd (not_local_told (does vars here.0 t) here cell a left after g h)
  make_store stamp cell x cells a e h (stores {vars = vars} {t = t} {batch = batch} {cells = more} {rest = rest} {moves = moves} {stamp = s} {cell = c} {x = y} b tells is m) =
      let one : ◌≡◌ {A = ℕ × Cell × List ℕ} (s, c, y) (stamp, cell, x) = cc in
      let tail : more ≡ cells = cc in
      let same : c ≡ cell = ap (λ (v : ℕ × Cell × List ℕ). v.1) one in
      let answer : b ≡ a = told_once (does vars here.0 t) here cell b a (subst (λ (v : Cell). Tells (does vars here.0 t) here v b) same tells) h in
      inr (subst (λ (z : Answer × Cells). Mk (vars_after z.0 vars) (answered z.0 t) (begun t batch) z.1 moves rest) (λ i. (answer i, tail i)) m)
  make_store stamp cell x cells a e h (asks {vars = vars} {t = t} {act = act} fits so m) = absurd (not_told_and_fits (does vars here.0 t) here t cell a act h fits)
  make_store stamp cell x cells a e h (ends {vars = vars} {t = t} {faults = faults} g) = absurd (not_done_told (does vars here.0 t) here cell a faults g h)
  make_store stamp cell x cells a e h stops = inl refl

  pub make_ask : {vars : Vars} {t : Term} {batch : List (List ℕ)} {cells rest : Cells} {all : Moves} (n : ℕ) (act : Act) (moves : Moves) → all ≡ (n, act, batch) ∷ moves → Fits here t (does vars here.0 t) act → Mk vars t batch cells all rest → StartsSo starts t vars act × Mk (vars_told (does vars here.0 t) act vars) (granted (brought act) t) [] cells moves rest
  make_ask n act moves e h (local {vars = vars} {left = left} {t = t} {after = after} g m) = absurd (not_local_fits (does vars here.0 t) here t act left after g h)
  make_ask n act moves e h (stores {vars = vars} {t = t} {cell = cell} a tells is m) = absurd (not_told_and_fits (does vars here.0 t) here t cell a act tells h)
  make_ask n act moves e h (asks {vars = vars} {t = t} {batch = batch} {cells = cells} {rest = rest} {moves = more} {n = j} {act = other} fits so m) =
      let one : ◌≡◌ {A = ℕ × Act × List (List ℕ)} (j, other, batch) (n, act, batch) = cc in
      let tail : more ≡ moves = cc in
      let same : other ≡ act = ap (λ (v : ℕ × Act × List (List ℕ)). v.1) one in
      (subst (λ (v : Act). StartsSo starts t vars v) same so, subst (λ (z : Act × Moves). Mk (vars_told (does vars here.0 t) z.0 vars) (granted (brought z.0) t) [] cells z.1 rest) (λ i. (same i, tail i)) m)
  make_ask n act moves e h (ends {vars = vars} {t = t} {faults = faults} g) = absurd (not_done_fits (does vars here.0 t) here t act faults g h)
  make_ask n act moves e h stops = absurd (let f : ⊥ = cc in f)

-- what an act that starts a task says of its start
starts_it : (starts : Starts) (t : Term) (vars : Vars) (act : Act) (c : ℕ) → StartsTask act c → StartsSo starts t vars act → slice_get starts c ≡ Some (child t, vars)
starts_it starts t vars act c s so =
    let at : slice_get starts s.0.0 ≡ Some (child t, vars) = subst (λ (o : Option TaskId). elim o as (λ _. Type 0) [ Some d ↦ slice_get starts d.0 ≡ Some (child t, vars) | None ↦ Unit {0} ]) s.1 so in
    ap (λ (i : ℕ). slice_get starts i) (sym s.2) ∙ at

no_more : (c : ℕ) (moves : Moves) → moves ≡ [] → Has c moves → ⊥
no_more c [] e h = h
no_more c (m ∷ moves) e h = let f : ⊥ = cc in f

-- two lists of starts, and a task that starts the same in both: so does each task that it starts
module _ (starts others : Starts) (here : PlaceId) (c : ℕ) where
  pub same_child : {vars : Vars} {t : Term} {batch : List (List ℕ)} {cells rest left : Cells} {moves : Moves} → Makes starts here vars t batch cells moves rest → Makes others here vars t batch cells moves left → Has c moves → slice_get starts c ≡ slice_get others c
  same_child (local {left = l} {after = after} {moves = moves} g m) k h =
      ⊎_elim (λ (e : moves ≡ []). absurd (no_more c moves e h)) (λ n. same_child m n h) (make_local others here l after g k)
  same_child (stores {cells = cells} {moves = moves} {stamp = stamp} {cell = cell} {x = x} a tells b m) k h =
      ⊎_elim (λ (e : moves ≡ []). absurd (no_more c moves e h)) (λ n. same_child m n h) (make_store others here stamp cell x cells a refl tells k)
  same_child (asks {vars = vars} {t = t} {moves = moves} {n = n} {act = act} fits so m) k h =
      let r = make_ask others here n act moves refl fits k in
      ⊎_elim (λ (s : StartsTask act c). starts_it starts t vars act c s so ∙ sym (starts_it others t vars act c s r.0)) (λ (more : Has c moves). same_child m r.1 more) h
  same_child (ends {faults = faults} e) k h = absurd (⊎_elim (λ (s : StartsTask (End faults) c). let f : ⊥ = (let e : None ≡ Some s.0 = s.1 in cc) in f) (λ (f : ⊥). f) h)
  same_child stops k h = absurd h

-- Landing, by the parts.

pub landing_map : (P Q R : ℕ → Moves → Type 0) (A B C : Type 0) → ((low : ℕ) (moves : Moves) → P low moves → Q low moves → R low moves) → (A → B → C) → (b : Bool) (low : ℕ) (moves : Moves) → Landing P A b low moves → Landing Q B b low moves → Landing R C b low moves
landing_map P Q R A B C f g false low moves h k = f low moves h k
landing_map P Q R A B C f g true low [] h k = g h k
landing_map P Q R A B C f g true low ((n, Arrive p, batch) ∷ moves) h k = (h.0, f (suc n) moves h.1 k.1)
landing_map P Q R A B C f g true low ((n, Open s r x, batch) ∷ moves) h k = absurd h
landing_map P Q R A B C f g true low ((n, Calls from to s r c x, batch) ∷ moves) h k = absurd h
landing_map P Q R A B C f g true low ((n, Spawn c s from to x, batch) ∷ moves) h k = absurd h
landing_map P Q R A B C f g true low ((n, Wait s thrown, batch) ∷ moves) h k = absurd h
landing_map P Q R A B C f g true low ((n, Release s lost masked thrown, batch) ∷ moves) h k = absurd h
landing_map P Q R A B C f g true low ((n, End thrown, batch) ∷ moves) h k = absurd h
landing_map P Q R A B C f g true low ((n, Print value x, batch) ∷ moves) h k = absurd h
landing_map P Q R A B C f g true low ((n, Census count x, batch) ∷ moves) h k = absurd h

landing_use : (c : ℕ) (X : Type 0) (b : Bool) (low : ℕ) (moves : Moves) → Landing (λ low moves. Has c moves → X) (Unit {0}) b low moves → Has c moves → X
landing_use c X false low moves k h = k h
landing_use c X true low [] k h = absurd h
landing_use c X true low ((n, Arrive p, batch) ∷ moves) k h =
    ⊎_elim (λ (s : StartsTask (Arrive p) c). absurd (let e : None ≡ Some s.0 = s.1 in let f : ⊥ = cc in f)) (λ (more : Has c moves). k.1 more) h
landing_use c X true low ((n, Open s r x, batch) ∷ moves) k h = absurd k
landing_use c X true low ((n, Calls from to s r d x, batch) ∷ moves) k h = absurd k
landing_use c X true low ((n, Spawn d s from to x, batch) ∷ moves) k h = absurd k
landing_use c X true low ((n, Wait s thrown, batch) ∷ moves) k h = absurd k
landing_use c X true low ((n, Release s lost masked thrown, batch) ∷ moves) k h = absurd k
landing_use c X true low ((n, End thrown, batch) ∷ moves) k h = absurd k
landing_use c X true low ((n, Print value x, batch) ∷ moves) k h = absurd k
landing_use c X true low ((n, Census count x, batch) ∷ moves) k h = absurd k

same_lists : {X : Type 0} (xs ys : List X) → ((i : ℕ) → slice_get xs i ≡ slice_get ys i) → xs ≡ ys
same_lists [] [] h = refl
same_lists [] (y ∷ ys) h = absurd (let e : None ≡ Some y = h 0 in let f : ⊥ = cc in f)
same_lists (x ∷ xs) [] h = absurd (let e : Some x ≡ None = h 0 in let f : ⊥ = cc in f)
same_lists (x ∷ xs) (y ∷ ys) h =
    let e : Some x ≡ Some y = h 0 in
    let one : x ≡ y = cc in
    let more : xs ≡ ys = same_lists xs ys (λ i. h (suc i)) in
    λ i. one i ∷ more i

-- the task at a position of the list
pub each_at : (starts : Starts) (es : List Entry) (js : List (List PlaceEvent)) (n : ℕ) (more : Starts) → EachMakes starts es js n more → (i : ℕ) (s : Term × Vars) → slice_get more i ≡ Some s → TaskMakes starts es js (n + i) s
each_at starts es js n [] h i s e = absurd (let f : ⊥ = cc in f)
each_at starts es js n (x ∷ more) h zero s e =
    let same : x ≡ s = cc in
    let at : n + 0 ≡ n = omega arith in
    subst (λ (z : ℕ × (Term × Vars)). TaskMakes starts es js z.0 z.1) {x = (n, x)} {y = (n + 0, s)} (λ j. (sym at j, same j)) h.0
each_at starts es js n (x ∷ more) h (suc i) s e =
    let at : suc n + i ≡ n + suc i = omega arith in
    subst (λ (z : ℕ). TaskMakes starts es js z s) at (each_at starts es js (suc n) more h.1 i s e)

-- the task of a number
pub made_at : (code : Block) (q : ℕ) (es : List Entry) (js : List (List PlaceEvent)) (starts : Starts) → Made code q es js starts → (u : ℕ) (s : Term × Vars) → slice_get starts u ≡ Some s → TaskMakes starts es js u s
made_at code q es js starts h u s e =
    let at : 0 + u ≡ u = omega arith in
    subst (λ (z : ℕ). TaskMakes starts es js z s) at (each_at starts es js 0 starts h.each u s e)

module _ (code : Block) (q : ℕ) (es : List Entry) (js : List (List PlaceEvent)) (some : 1 ≤ q) (few : q ≤ 16) (allowed : AllAllowed 0 (opening q) es) (starts others : Starts) (h : Made code q es js starts) (k : Made code q es js others) where
  starter : (u c : ℕ) → slice_get starts u ≡ slice_get others u → u < 1 + births es → Has c (moves_from 0 es u) → slice_get starts c ≡ slice_get others c
  starter u c same low has =
      let all : length starts ≡ 1 + births es = h.all in
      let s = get-within starts u (omega arith) in
      let one : TaskMakes starts es js u s.0 = made_at code q es js starts h u s.0 s.1 in
      let two : TaskMakes others es js u s.0 = made_at code q es js others k u s.0 (sym same ∙ s.1) in
      let cells : Cells = cells_of es js u in
      landing_use c (slice_get starts c ≡ slice_get others c) (travels (birth_of es u)) (birth_of es u).low (moves_from 0 es u)
      (landing_map (λ low moves. (rest : Cells) × Makes starts (birth_of es u).to s.0.1 s.0.0 [] cells moves rest) (λ low moves. (rest : Cells) × Makes others (birth_of es u).to s.0.1 s.0.0 [] cells moves rest)
      (λ low moves. Has c moves → slice_get starts c ≡ slice_get others c) (Unit {0}) (Unit {0}) (Unit {0})
      (λ low moves a b m. same_child starts others (birth_of es u).to c a.1 b.1 m) (λ a b. tt) (travels (birth_of es u)) (birth_of es u).low (moves_from 0 es u) one two) has

  agree : (n c : ℕ) → c < n → slice_get starts c ≡ slice_get others c
  agree zero c l = absurd (omega arith)
  agree (suc zero) c l =
      let z : c ≡ 0 = omega arith in ap (λ (i : ℕ). slice_get starts i) z ∙ h.main ∙ sym k.main ∙ ap (λ (i : ℕ). slice_get others i) (sym z)
  agree (suc (suc n)) c l =
      let all : length starts ≡ 1 + births es = h.all in
      let also : length others ≡ 1 + births es = k.all in
      ⊎_elim (λ (lt : c < suc n). agree (suc n) c lt)
      (λ (ge : suc n ≤ c).
      ⊎_elim
      (λ (in_range : c < 1 + births es).
      let p = parent 0 (opening q) es (opens q some few) none_yet allowed c (omega arith) in_range in
      let low : p.0 < c = p.1 in
      starter p.0 c (agree (suc n) p.0 (omega (arith, low))) (omega (arith, low)) p.2)
      (λ (past : 1 + births es ≤ c). slice_get_past starts c (omega arith) ∙ sym (slice_get_past others c (omega arith)))
      (cases_lt c (1 + births es)))
      (cases_lt c (suc n))

  -- both are one list
  pub made_once : starts ≡ others
  made_once = same_lists starts others (λ i. agree (suc i) i (omega arith))
