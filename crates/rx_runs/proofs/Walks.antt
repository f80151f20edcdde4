-- The local steps and store calls of a turn are one walk.
use Rattle.std.proofs.Common.{◌≡◌, ℕ, List, [], ◌∷◌, ◌++◌, length, slice_get, Some, refl, ap, ◌∙◌, sym, subst}
use Rattle.rx_rules.proofs.Common.{PlaceId, TaskId, Term, Vars, Answer, answered, vars_after, Does, Local, Makes, Gets, Puts, Forgets, does, Tells, begun, journal_at, State, after_cell, Given, Player, Game, RunsWithoutEntry, stays, local, stores, enabled, tree_in}
use Rattle.rx_rules.specs.declared.tasks.Where.TheVariants.{At}
use Rattle.rx_rules.specs.declared.tasks.Task.{Task}
use Rattle.rx_rules.specs.declared.entries.Act.{Act}
use Rattle.rx_rules.specs.declared.events.Cell.{Cell}
use Rattle.rx_rules.specs.declared.events.PlaceEvent.{PlaceEvent}
use Rattle.rx_rules.specs.declared.events.PlaceEvent.TheVariants.{Done as Did}
use Rattle.rx_rules.specs.Plays.{Fits}
use Rattle.rx_runs.proofs.Telling.{tell_once}

-- what a term does at the end of a turn
abbrev pub IsLast : Does → Type 0
IsLast (Local left vars) = ⊥
IsLast (Makes name words) = ⊥
IsLast (Gets name target index) = ⊥
IsLast (Puts target index value) = ⊥
IsLast (Forgets target) = ⊥
IsLast _ = Unit {0}

pub fits_last : (here : PlaceId) (t : Term) (d : Does) (act : Act) → Fits here t d act → IsLast d
fits_last here t (Local left vars) act h = h
fits_last here t (Makes name words) act h = h
fits_last here t (Gets name target index) act h = h
fits_last here t (Puts target index value) act h = h
fits_last here t (Forgets target) act h = h
fits_last here t _ act h = tt

pub tells_not : (d : Does) (here : PlaceId) (c : Cell) (a : Answer) → Tells d here c a → IsLast d → ⊥
tells_not (Makes name words) here c a h l = l
tells_not (Gets name target index) here c a h l = l
tells_not (Puts target index value) here c a h l = l
tells_not (Forgets target) here c a h l = l
tells_not _ here c a h l = h

pub goes_once : {heap n : ℕ} {t : TaskId} {here : PlaceId} {p q r : Player} {S Z W : State} {j k l : List PlaceEvent} → RunsWithoutEntry heap n t here p S j q Z k → RunsWithoutEntry heap n t here p S j r W l → IsLast (does q.vars here.0 q.term) → IsLast (does r.vars here.0 r.term) → (q ≡ r) × (Z ≡ W) × (k ≡ l)
goes_once stays stays a b = (refl, refl, refl)
goes_once stays (local {after = u} {left = v} e g) a b = absurd (subst IsLast e a)
goes_once {here = here} stays (stores cell x w tells at may g) a b = absurd (tells_not _ here cell w tells a)
goes_once (local {after = u} {left = v} e g) stays a b = absurd (subst IsLast e b)
goes_once {heap = heap} {n = n} {t = t} {here = here} {p = p} {r = r} {S = S} {W = W} {j = j} {l = l} (local {after = u} {left = v} e g) (local {after = x} {left = y} f h) a b =
    let same : Local u v ≡ Local x y = sym e ∙ f in
    let term : u ≡ x = cc in
    let vars : v ≡ y = cc in
    goes_once g
    (subst (λ (w : Vars). RunsWithoutEntry heap n t here (record { term = u; vars = w; batch = begun p.term p.batch }) S j r W l) (sym vars)
    (subst (λ (w : Term). RunsWithoutEntry heap n t here (record { term = w; vars = y; batch = begun p.term p.batch }) S j r W l) (sym term) h)) a b
goes_once {here = here} (local {after = u} {left = v} e g) (stores cell x w tells at may h) a b = absurd (subst (λ d. Tells d here cell w) e tells)
goes_once {here = here} (stores cell x w tells at may g) stays a b = absurd (tells_not _ here cell w tells b)
goes_once {here = here} (stores cell x w tells at may g) (local e h) a b = absurd (subst (λ d. Tells d here cell w) e tells)
goes_once {heap = heap} {n = n} {t = t} {here = here} {p = p} {r = r} {S = S} {W = W} {j = j} {l = l} (stores cell x w tells at may g) (stores cell2 x2 w2 tells2 at2 may2 h) a b =
    let both = tell_once heap S here (does p.vars here.0 p.term) cell cell2 w w2 tells tells2 may may2 in
    let path : x ≡ x2 = (let e : Some x ≡ Some x2 = sym at ∙ at2 in cc) in
    let one : RunsWithoutEntry heap n t here (record { term = answered w2 p.term; vars = vars_after w2 p.vars; batch = begun p.term p.batch }) (after_cell S cell) (j ++ Did t n cell x2 ∷ []) r W l =
    subst (λ (v : Cell). RunsWithoutEntry heap n t here (record { term = answered w2 p.term; vars = vars_after w2 p.vars; batch = begun p.term p.batch }) (after_cell S v) (j ++ Did t n v x2 ∷ []) r W l) (sym both.0) h in
    let two : RunsWithoutEntry heap n t here (record { term = answered w2 p.term; vars = vars_after w2 p.vars; batch = begun p.term p.batch }) (after_cell S cell) (j ++ Did t n cell x ∷ []) r W l =
    subst (λ (v : List ℕ). RunsWithoutEntry heap n t here (record { term = answered w2 p.term; vars = vars_after w2 p.vars; batch = begun p.term p.batch }) (after_cell S cell) (j ++ Did t n cell v ∷ []) r W l) (sym path) one in
    goes_once g
    (subst (λ (v : Answer). RunsWithoutEntry heap n t here (record { term = answered v p.term; vars = vars_after v p.vars; batch = begun p.term p.batch }) (after_cell S cell) (j ++ Did t n cell x ∷ []) r W l) (sym both.1) two) a b

-- the task and the walk of a turn
pub record SameWalk (x y : Task) (here there : PlaceId) (q r : Player) (Z W : State) (j k : List PlaceEvent) : Type 0 where
  pub task : x ≡ y
  pub place : here ≡ there
  pub player : q ≡ r
  pub store : Z ≡ W
  pub journal : j ≡ k

pub same_walk : (U : Given) (G : Game) (i : ℕ) (x y : Task) (here there : PlaceId) (p p2 q r : Player) (S S2 Z W : State) (j k : List PlaceEvent) → slice_get (enabled (tree_in U G)) i ≡ Some x → slice_get (enabled (tree_in U G)) i ≡ Some y → x.place ≡ At here → y.place ≡ At there → slice_get G.players x.number.0 ≡ Some p → slice_get G.players y.number.0 ≡ Some p2 → slice_get G.stores here.0 ≡ Some S → slice_get G.stores there.0 ≡ Some S2 → RunsWithoutEntry U.heap (length G.entries) x.number here p S (journal_at G.journals here.0) q Z j → RunsWithoutEntry U.heap (length G.entries) y.number there p2 S2 (journal_at G.journals there.0) r W k → IsLast (does q.vars here.0 q.term) → IsLast (does r.vars there.0 r.term) → SameWalk x y here there q r Z W j k
same_walk U G i x y here there p p2 q r S S2 Z W j k pick pick2 at at2 player player2 store store2 goes goes2 last last2 =
    let n : ℕ = length G.entries in
    let task : x ≡ y = (let e : Some x ≡ Some y = sym pick ∙ pick2 in cc) in
    let place : here ≡ there = (let e : At here ≡ At there = sym at ∙ ap (λ (v : Task). v.place) task ∙ at2 in cc) in
    let same_p : p ≡ p2 = (let e : Some p ≡ Some p2 = sym player ∙ ap (λ (v : Task). slice_get G.players v.number.0) task ∙ player2 in cc) in
    let same_s : S ≡ S2 = (let e : Some S ≡ Some S2 = sym store ∙ ap (λ (v : PlaceId). slice_get G.stores v.0) place ∙ store2 in cc) in
    let a : RunsWithoutEntry U.heap n x.number there p2 S2 (journal_at G.journals there.0) r W k = subst (λ (v : Task). RunsWithoutEntry U.heap n v.number there p2 S2 (journal_at G.journals there.0) r W k) (sym task) goes2 in
    let b : RunsWithoutEntry U.heap n x.number here p2 S2 (journal_at G.journals here.0) r W k = subst (λ (v : PlaceId). RunsWithoutEntry U.heap n x.number v p2 S2 (journal_at G.journals v.0) r W k) (sym place) a in
    let c : RunsWithoutEntry U.heap n x.number here p S2 (journal_at G.journals here.0) r W k = subst (λ (v : Player). RunsWithoutEntry U.heap n x.number here v S2 (journal_at G.journals here.0) r W k) (sym same_p) b in
    let d : RunsWithoutEntry U.heap n x.number here p S (journal_at G.journals here.0) r W k = subst (λ (v : State). RunsWithoutEntry U.heap n x.number here p v (journal_at G.journals here.0) r W k) (sym same_s) c in
    let f = goes_once goes d last (subst (λ (v : PlaceId). IsLast (does r.vars v.0 r.term)) (sym place) last2) in
    record { task = task; place = place; player = f.0; store = f.1; journal = f.2 }
