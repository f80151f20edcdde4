-- The pass over the entries.
use Rattle.std.proofs.Common.{◌≡◌, ℕ, suc, ◌+◌, ◌<◌, ◌≤◌, Bool, true, false, cond, List, [], ◌∷◌, ◌++◌, length, take, Option, Some, None, slice_get, All, refl, ap, sym, subst, ◌∙◌, arith, ⊎_elim}
use Rattle.std.specs.List.{filter_map, cons_option}
use Rattle.std.proofs.Math.Seq.{take-append_seam}
use Rattle.std.proofs.lemmas.Bool.{eq-eqb, ne_eqb, cases_eq, cases_lt}
use Rattle.std.proofs.lemmas.List.{append-nil}
use Rattle.std.proofs.lemmas.List.Sums.{sum_by-cons}
use Rattle.rx_rules.proofs.Common.{PlaceId, TaskId, Fault, Block, Term, Vars, child, Tree, Allowed, made, made_act, AllAllowed, opening, tree_of, births, births_of, Reached, IsOlder, opens, Player, acted, Cells, Moves, Starts, Birth, birth_of, moves_from, travels, started_by, cell_of, journal_at}
use Rattle.rx_rules.specs.declared.entries.Act.{Act}
use Rattle.rx_rules.specs.declared.entries.Act.TheVariants.{Open, At as Calls, Spawn, Arrive, Wait, Release, End, Print, Census}
use Rattle.rx_rules.specs.declared.entries.Entry.{Entry}
use Rattle.rx_rules.specs.declared.entries.Entry.TheVariants.{Step, Root, Death, Join}
use Rattle.rx_rules.specs.declared.events.PlaceEvent.{PlaceEvent}
use Rattle.rx_runs.specs.Games.{fresh}
use Rattle.rx_tree_laws.proofs.Births.{birth-other, births-left}
use Rattle.rx_tree_laws.proofs.Histories.{reached_now, dead-now, none_yet}
use Rattle.rx_rules.proofs.Numbers.{next-tree}
use Rattle.rx_runs.proofs.Append.{allowed-push}
use Rattle.rx_runs.proofs.Pushes.{moves-push, birth-push}
use Rattle.rx_verdict.specs.Makes as parts
use Rattle.rx_verdict.specs.Makes.{Makes, Landing, Made, TaskMakes, cells_of}
use Rattle.rx_verdict.specs.Walks as walks
use Rattle.rx_verdict.specs.Walks.{Walks}
use Rattle.rx_verdict.specs.Passes.{IsAt, IsAway, HasEnded}
use Rattle.rx_verdict.proofs.Births.{actor_below, starts, other_none, other_some}
use Rattle.rx_verdict.proofs.Once.{landing_map, made_at, made_once}
use Rattle.rx_verdict.proofs.Shown.{each_makes, made_first, get_take}
use Rattle.rx_verdict.proofs.Walking.{MakesFrom, IsAsked, join, cut, walk_on, none_after}
use Rattle.rx_base.proofs.Elements.{get-more, get-within, length-push}
use Rattle.std.proofs.lemmas.Option.{slice_get_within}

-- A longer list of starts.

abbrev pub Widens : Starts → Starts → Type 0
Widens from to = (c : ℕ) (x : Term × Vars) → slice_get from c ≡ Some x → slice_get to c ≡ Some x

so_wider : (from to : Starts) → Widens from to → (t : Term) (vars : Vars) (o : Option TaskId) → elim o as (λ _. Type 0) [ Some c ↦ slice_get from c.0 ≡ Some (child t, vars) | None ↦ Unit {0} ] → elim o as (λ _. Type 0) [ Some c ↦ slice_get to c.0 ≡ Some (child t, vars) | None ↦ Unit {0} ]
so_wider from to keeps t vars None h = h
so_wider from to keeps t vars (Some c) h = keeps c.0 (child t, vars) h

module _ (from to : Starts) (keeps : Widens from to) (here : PlaceId) where
  makes_wider : {vars : Vars} {t : Term} {batch : List (List ℕ)} {cells rest : Cells} {moves : Moves} → Makes from here vars t batch cells moves rest → Makes to here vars t batch cells moves rest
  makes_wider (parts.Makes.local e m) = parts.Makes.local e (makes_wider m)
  makes_wider (parts.Makes.stores a tells b m) = parts.Makes.stores a tells b (makes_wider m)
  makes_wider (parts.Makes.asks {vars = vars} {t = t} {act = act} fits so m) = parts.Makes.asks fits (so_wider from to keeps t vars (started_by act) so) (makes_wider m)
  makes_wider (parts.ends e) = parts.ends e
  makes_wider parts.stops = parts.stops

  pub walks_wider : {a z : Player} {cells left : Cells} {moves : Moves} → Walks from here a cells moves z left → Walks to here a cells moves z left
  walks_wider walks.stays = walks.stays
  walks_wider (walks.local e w) = walks.local e (walks_wider w)
  walks_wider (walks.stores a tells b w) = walks.stores a tells b (walks_wider w)
  walks_wider (walks.asks {a = a} {act = act} fits so w) = walks.asks fits (so_wider from to keeps a.term a.vars (started_by act) so) (walks_wider w)

task_wider : (from to : Starts) → Widens from to → (es : List Entry) (js : List (List PlaceEvent)) (u : ℕ) (s : Term × Vars) → TaskMakes from es js u s → TaskMakes to es js u s
task_wider from to keeps es js u s h =
    landing_map (λ low moves. (rest : Cells) × Makes from (birth_of es u).to s.1 s.0 [] (cells_of es js u) moves rest) (λ low moves. (rest : Cells) × Makes from (birth_of es u).to s.1 s.0 [] (cells_of es js u) moves rest)
    (λ low moves. (rest : Cells) × Makes to (birth_of es u).to s.1 s.0 [] (cells_of es js u) moves rest) (Unit {0}) (Unit {0}) (Unit {0}) (λ low moves a b. (a.0, makes_wider from to keeps (birth_of es u).to a.1)) (λ a b. tt) (travels (birth_of es u)) (birth_of es u).low (moves_from 0 es u) h h

-- the list of starts after an act: one start more where it starts a task
abbrev pub Grown : Starts → Act → Starts → Type 0
Grown starts act more = elim (started_by act) [ Some c ↦ (x : Term × Vars) × (more ≡ starts ++ x ∷ []) | None ↦ more ≡ starts ]

-- a list with one start more keeps the others
pub grown_keeps : (from : Starts) (act : Act) (to : Starts) → Grown from act to → Widens from to
grown_keeps from act to g = by_start (started_by act) g where
  by_start : (o : Option TaskId) → elim o as (λ _. Type 0) [ Some c ↦ (x : Term × Vars) × (to ≡ from ++ x ∷ []) | None ↦ to ≡ from ] → Widens from to
  by_start (Some d) h c x e = ap (λ (l : Starts). slice_get l c) h.1 ∙ get-more from (h.0 ∷ []) c x e
  by_start None h c x e = ap (λ (l : Starts). slice_get l c) h ∙ e

grown_size : (from : Starts) (t : TaskId) (act : Act) (batch : List (List ℕ)) (T : Tree) (to : Starts) → Allowed T (Step t act batch) → Grown from act to → length to ≡ length from + births_of (Step t act batch)
grown_size from t act batch T to a g =
    ⊎_elim
    (λ (s : (d : TaskId) × (started_by act ≡ Some d) × (d.0 ≡ T.next_task) × (births_of (Step t act batch) ≡ 1)).
    let h : (x : Term × Vars) × (to ≡ from ++ x ∷ []) = subst (λ (o : Option TaskId). elim o as (λ _. Type 0) [ Some c ↦ (x : Term × Vars) × (to ≡ from ++ x ∷ []) | None ↦ to ≡ from ]) s.1 g in
    let size : length to ≡ suc (length from) = ap (λ (l : Starts). length l) h.1 ∙ length-push from h.0 in
    let one : births_of (Step t act batch) ≡ 1 = s.3 in omega (arith, size, one))
    (λ (s : (started_by act ≡ None) × (births_of (Step t act batch) ≡ 0)).
    let h : to ≡ from = subst (λ (o : Option TaskId). elim o as (λ _. Type 0) [ Some c ↦ (x : Term × Vars) × (to ≡ from ++ x ∷ []) | None ↦ to ≡ from ]) s.0 g in
    let size : length to ≡ length from = ap (λ (l : Starts). length l) h in
    let none : births_of (Step t act batch) ≡ 0 = s.1 in omega (arith, size, none))
    (starts T t act batch a)

pub births_push : (es : List Entry) (e : Entry) → births (es ++ e ∷ []) ≡ births es + births_of e
births_push [] e = let one : births (e ∷ []) ≡ births_of e + births [] = sum_by-cons births_of e [] in let none : births [] ≡ 0 = refl in omega (arith, one, none)
births_push (x ∷ es) e =
    let one : births (x ∷ es ++ e ∷ []) ≡ births_of x + births (es ++ e ∷ []) = sum_by-cons births_of x (es ++ e ∷ []) in
    let two : births (x ∷ es) ≡ births_of x + births es = sum_by-cons births_of x es in
    let rest = births_push es e in
    omega (arith, one, two, rest)

-- a task that is not yet born has no entries
unmoved : (n : ℕ) (T : Tree) (es : List Entry) → Reached T → All (IsOlder n) T.dead → AllAllowed n T es → (c : ℕ) → T.next_task + births es ≤ c → moves_from n es c ≡ []
unmoved n T [] r o a c le = refl
unmoved n T (Root lost masked thrown ∷ es) r o a c le = unmoved (suc n) (made n T (Root lost masked thrown)) es (reached_now n T (Root lost masked thrown) r o a.0) (dead-now n T (Root lost masked thrown) o) a.1 c (let sum = births-left n T (Root lost masked thrown) es in omega (arith, sum))
unmoved n T (Death d ∷ es) r o a c le = unmoved (suc n) (made n T (Death d)) es (reached_now n T (Death d) r o a.0) (dead-now n T (Death d) o) a.1 c (let sum = births-left n T (Death d) es in omega (arith, sum))
unmoved n T (Join d ∷ es) r o a c le = unmoved (suc n) (made n T (Join d)) es (reached_now n T (Join d) r o a.0) (dead-now n T (Join d) o) a.1 c (let sum = births-left n T (Join d) es in omega (arith, sum))
unmoved n T (Step t act batch ∷ es) r o a c le =
    let low : t.0 < T.next_task = actor_below T t act r a.0 in
    ap (λ (b : Bool). cons_option (cond b (Some (n, act, batch)) None) (moves_from (suc n) es c)) (ne_eqb t.0 c (λ e. omega arith))
    ∙ unmoved (suc n) (made_act T t act) es (reached_now n T (Step t act batch) r o a.0) (dead-now n T (Step t act batch) o) a.1 c (let sum = births-left n T (Step t act batch) es in omega (arith, sum))

snoc_assoc : (before : Moves) (x m : ℕ × Act × List (List ℕ)) → (before ++ x ∷ []) ++ m ∷ [] ≡ before ++ x ∷ m ∷ []
snoc_assoc [] x m = refl
snoc_assoc (y ∷ before) x m = ap (λ (v : Moves). y ∷ v) (snoc_assoc before x m)

-- the one entry of a task that travels
arrival : (P : ℕ → Moves → Type 0) (low n : ℕ) (act : Act) (batch : List (List ℕ)) → Landing P (Unit {0}) true low ((n, act, batch) ∷ []) → (p : PlaceId) × (act ≡ Arrive p) × (batch ≡ [])
arrival P low n (Arrive p) batch h = (p, refl, h.0)
arrival P low n (Open s r x) batch h = absurd h
arrival P low n (Calls from to s r c x) batch h = absurd h
arrival P low n (Spawn c s from to x) batch h = absurd h
arrival P low n (Wait s thrown) batch h = absurd h
arrival P low n (Release s lost masked thrown) batch h = absurd h
arrival P low n (End thrown) batch h = absurd h
arrival P low n (Print value x) batch h = absurd h
arrival P low n (Census count x) batch h = absurd h

-- what all steps of the pass have in common: so many entries are a part of a run, and the tree allows one entry more, of task t
pub record Stage (code : Block) (places : ℕ) (es : List Entry) (js : List (List PlaceEvent)) (starts : Starts) (t : TaskId) (act : Act) (batch : List (List ℕ)) (s : Term × Vars) : Type 0 where
  pub some : 1 ≤ places
  pub few : places ≤ 16
  pub allowed : AllAllowed 0 (opening places) es
  pub made : Made code places es js starts
  pub next : Allowed (tree_of places es) (Step t act batch)
  pub start : slice_get starts t.0 ≡ Some s

module _ (code : Block) (places : ℕ) (es : List Entry) (js : List (List PlaceEvent)) (from : Starts) (t : TaskId) (act : Act) (batch : List (List ℕ)) (s : Term × Vars) (g : Stage code places es js from t act batch s) where
  abbrev more : List Entry
  more = es ++ Step t act batch ∷ []

  next : (tree_of places es).next_task ≡ 1 + births es
  next = next-tree places es

  -- who was born keeps its birth
  birth : (c : ℕ) → c < 1 + births es → birth_of more c ≡ birth_of es c
  birth c low =
      let is = next in
      birth-push 0 es (Step t act batch) c
      (birth-other (0 + length es) c t act batch
      (⊎_elim (λ (k : (d : TaskId) × (started_by act ≡ Some d) × (d.0 ≡ (tree_of places es).next_task) × (births_of (Step t act batch) ≡ 1)). other_some act c k.0 k.1 (λ e. let d = k.2 in omega (arith, is, d, e)))
      (λ (k : (started_by act ≡ None) × (births_of (Step t act batch) ≡ 0)). other_none act c k.0) (starts (tree_of places es) t act batch g.next)))

  others_moves : (u : ℕ) → (t.0 ≡ u → ⊥) → moves_from 0 more u ≡ moves_from 0 es u
  others_moves u ne =
      moves-push 0 es (Step t act batch) u
      ∙ ap (λ (b : Bool). moves_from 0 es u ++ cons_option (cond b (Some (0 + length es, act, batch)) None) []) (ne_eqb t.0 u ne) ∙ append-nil (moves_from 0 es u)

  own_moves : moves_from 0 more t.0 ≡ moves_from 0 es t.0 ++ (length es, act, batch) ∷ []
  own_moves =
      let z : 0 + length es ≡ length es = omega arith in
      moves-push 0 es (Step t act batch) t.0
      ∙ ap (λ (b : Bool). moves_from 0 es t.0 ++ cons_option (cond b (Some (0 + length es, act, batch)) None) []) (eq-eqb t.0 t.0 refl)
      ∙ ap (λ (i : ℕ). moves_from 0 es t.0 ++ (i, act, batch) ∷ []) z

  size : length from ≡ 1 + births es
  size = g.made.all

  born_t : t.0 < 1 + births es
  born_t = let l : t.0 < length from = slice_get_within from t.0 s g.start in let k = size in omega (arith, l, k)

  -- what a task makes is said of its birth and its entries alone
  abbrev Says : Starts → ℕ → Term × Vars → Birth × Moves → Type 0
  Says list u r z = Landing (λ low moves. (rest : Cells) × Makes list z.0.to r.1 r.0 [] (filter_map (cell_of u) (journal_at js z.0.to.0)) moves rest) (Unit {0}) (travels z.0) z.0.low z.1

  unborn : (list : Starts) (u : ℕ) (r : Term × Vars) (b : Birth) (y : Bool) → Landing (λ low moves. (rest : Cells) × Makes list b.to r.1 r.0 [] (filter_map (cell_of u) (journal_at js b.to.0)) moves rest) (Unit {0}) y b.low []
  unborn list u r b true = tt
  unborn list u r b false = (filter_map (cell_of u) (journal_at js b.to.0), parts.stops)

  -- where the one task makes the entry, all tasks make theirs
  pub entry_is_made : (to : Starts) → Grown from act to → TaskMakes to more js t.0 s → Made code places more js to
  entry_is_made to grown own =
      let keeps : Widens from to = grown_keeps from act to grown in
      let sum = births_push es (Step t act batch) in
      let large = grown_size from t act batch (tree_of places es) to g.next grown in
      let k = size in
      record {
        main = keeps 0 _ g.made.main;
        all = omega (arith, sum, large, k);
        each = each_makes to more js 0 to (λ i r e. let at : i ≡ 0 + i = omega arith in subst (λ (z : ℕ). TaskMakes to more js z r) at (one i r e keeps));
      }
    where
      one : (i : ℕ) (r : Term × Vars) → slice_get to i ≡ Some r → Widens from to → TaskMakes to more js i r
      one i r e keeps =
          ⊎_elim
          (λ (low : i < 1 + births es).
          let k = size in
          let old = get-within from i (omega (arith, low, k)) in
          let same : old.0 ≡ r = (let f = keeps i old.0 old.1 in cc (f, e)) in
          ⊎_elim
          (λ (mine : t.0 ≡ i).
          let st : s ≡ r = (let f = keeps t.0 s g.start in let e' : slice_get to t.0 ≡ Some r = ap (λ (z : ℕ). slice_get to z) mine ∙ e in cc (f, e')) in
          subst (λ (z : ℕ × (Term × Vars)). TaskMakes to more js z.0 z.1) {x = (t.0, s)} {y = (i, r)} (λ j. (mine j, st j)) own)
          (λ (ne : t.0 ≡ i → ⊥).
          let was : TaskMakes to es js i old.0 = task_wider from to keeps es js i old.0 (made_at code places es js from g.made i old.0 old.1) in
          subst (λ (z : Term × Vars). TaskMakes to more js i z) same
          (subst (λ (z : Birth × Moves). Says to i old.0 z) {x = (birth_of es i, moves_from 0 es i)} {y = (birth_of more i, moves_from 0 more i)} (λ j. (sym (birth i low) j, sym (others_moves i ne) j)) was))
          (cases_eq t.0 i))
          (λ (past : 1 + births es ≤ i).
          let k = born_t in
          let none : moves_from 0 more i ≡ [] = others_moves i (λ e. omega (arith, past, k, e)) ∙ unmoved 0 (opening places) es (opens places g.some g.few) none_yet g.allowed i past in
          subst (λ (m : Moves). Says to i r (birth_of more i, m)) (sym none) (unborn to i r (birth_of more i) (travels (birth_of more i))))
          (cases_lt i (1 + births es))

  -- a task that has come somewhere

  landing_join : (to : Starts) → Widens from to → (here : PlaceId) (cells : Cells) (z : Player) (left rest : Cells) (m : ℕ × Act × List (List ℕ)) → MakesFrom to here z left (m ∷ []) rest → (y : Bool) (low : ℕ) (moves : Moves) → Landing (λ low moves. Walks from here (fresh s) cells moves z left) ⊥ y low moves → Landing (λ low moves. (rest : Cells) × Makes to here s.1 s.0 [] cells moves rest) (Unit {0}) y low (moves ++ m ∷ [])
  landing_join to keeps here cells z left rest m k false low moves h = (rest, join to here (walks_wider from to keeps here h) k)
  landing_join to keeps here cells z left rest m k true low [] h = absurd h
  landing_join to keeps here cells z left rest m k true low ((n, Arrive p, b) ∷ moves) h = (h.0, (rest, join to here (walks_wider from to keeps here h.1) k))
  landing_join to keeps here cells z left rest m k true low ((n, Open q r x, b) ∷ moves) h = absurd h
  landing_join to keeps here cells z left rest m k true low ((n, Calls f g q r c x, b) ∷ moves) h = absurd h
  landing_join to keeps here cells z left rest m k true low ((n, Spawn c q f g x, b) ∷ moves) h = absurd h
  landing_join to keeps here cells z left rest m k true low ((n, Wait q thrown, b) ∷ moves) h = absurd h
  landing_join to keeps here cells z left rest m k true low ((n, Release q lost masked thrown, b) ∷ moves) h = absurd h
  landing_join to keeps here cells z left rest m k true low ((n, End thrown, b) ∷ moves) h = absurd h
  landing_join to keeps here cells z left rest m k true low ((n, Print value x, b) ∷ moves) h = absurd h
  landing_join to keeps here cells z left rest m k true low ((n, Census count x, b) ∷ moves) h = absurd h

  landing_cut : (to : Starts) (here : PlaceId) (cells : Cells) (z : Player) (left : Cells) (m : ℕ × Act × List (List ℕ)) → (y : Bool) (low : ℕ) (moves : Moves) → Landing (λ low moves. Walks from here (fresh s) cells moves z left) ⊥ y low moves → Landing (λ low moves. (rest : Cells) × Makes to here s.1 s.0 [] cells moves rest) (Unit {0}) y low (moves ++ m ∷ []) → (rest : Cells) × MakesFrom to here z left (m ∷ []) rest
  landing_cut to here cells z left m false low moves h k = (k.0, cut from to here m [] h k.1)
  landing_cut to here cells z left m true low [] h k = absurd h
  landing_cut to here cells z left m true low ((n, Arrive p, b) ∷ moves) h k = (k.1.0, cut from to here m [] h.1 k.1.1)
  landing_cut to here cells z left m true low ((n, Open q r x, b) ∷ moves) h k = absurd h
  landing_cut to here cells z left m true low ((n, Calls f g q r c x, b) ∷ moves) h k = absurd h
  landing_cut to here cells z left m true low ((n, Spawn c q f g x, b) ∷ moves) h k = absurd h
  landing_cut to here cells z left m true low ((n, Wait q thrown, b) ∷ moves) h k = absurd h
  landing_cut to here cells z left m true low ((n, Release q lost masked thrown, b) ∷ moves) h k = absurd h
  landing_cut to here cells z left m true low ((n, End thrown, b) ∷ moves) h k = absurd h
  landing_cut to here cells z left m true low ((n, Print value x, b) ∷ moves) h k = absurd h
  landing_cut to here cells z left m true low ((n, Census count x, b) ∷ moves) h k = absurd h

  -- a task that has come to the player z makes the entry where z makes it
  pub player_makes : (to : Starts) → Grown from act to → (z : Player) (left rest : Cells) → IsAt from es js t.0 s z left → MakesFrom to (birth_of es t.0).to z left ((length es, act, batch) ∷ []) rest → TaskMakes to more js t.0 s
  player_makes to grown z left rest at k =
      let b : Birth = birth_of es t.0 in
      subst (λ (v : Birth × Moves). Says to t.0 s v) {x = (birth_of es t.0, moves_from 0 es t.0 ++ (length es, act, batch) ∷ [])} {y = (birth_of more t.0, moves_from 0 more t.0)} (λ j. (sym (birth t.0 born_t) j, sym own_moves j))
      (landing_join to (grown_keeps from act to grown) b.to (cells_of es js t.0) z left rest (length es, act, batch) k (travels b) b.low (moves_from 0 es t.0) at)

  -- what this task makes, whatever the terms of all tasks
  other_task : (others : Starts) → Made code places more js others → TaskMakes others more js t.0 s
  other_task others made' =
      let whole : AllAllowed 0 (opening places) more = allowed-push 0 (opening places) es (Step t act batch) g.allowed g.next in
      let front : take (length es) more ≡ es = take-append_seam es (Step t act batch ∷ []) in
      let cutoff : Made code places es js (take (1 + births es) others) = subst (λ (v : List Entry). Made code places v js (take (1 + births v) others)) front (made_first code places more js others made' whole (length es)) in
      let same : take (1 + births es) others ≡ from = made_once code places es js g.some g.few g.allowed (take (1 + births es) others) from cutoff g.made in
      let got : slice_get (take (1 + births es) others) t.0 ≡ Some s = ap (λ (l : Starts). slice_get l t.0) same ∙ g.start in
      made_at code places more js others made' t.0 s (sym (get_take others (1 + births es) t.0 born_t) ∙ got)

  -- it, by the birth and the entries before
  other_says : (others : Starts) → Made code places more js others → Says others t.0 s (birth_of es t.0, moves_from 0 es t.0 ++ (length es, act, batch) ∷ [])
  other_says others made' =
      subst (λ (v : Birth × Moves). Says others t.0 s v) {x = (birth_of more t.0, moves_from 0 more t.0)} {y = (birth_of es t.0, moves_from 0 es t.0 ++ (length es, act, batch) ∷ [])} (λ j. (birth t.0 born_t j, own_moves j)) (other_task others made')

  -- and only there: whatever the terms of all tasks may be that make all entries with this one
  pub player_only : (others : Starts) → (z : Player) (left : Cells) → IsAt from es js t.0 s z left → Made code places more js others → (rest : Cells) × MakesFrom others (birth_of es t.0).to z left ((length es, act, batch) ∷ []) rest
  player_only others z left at made' =
      let b : Birth = birth_of es t.0 in
      landing_cut others b.to (cells_of es js t.0) z left (length es, act, batch) (travels b) b.low (moves_from 0 es t.0) at (other_says others made')

  -- The seats after the entry.

  abbrev At : Starts → ℕ → Term × Vars → Player → Cells → Birth × Moves → Type 0
  At list u r z left v = Landing (λ low moves. Walks list v.0.to (fresh r) (filter_map (cell_of u) (journal_at js v.0.to.0)) moves z left) ⊥ (travels v.0) v.0.low v.1

  -- the birth and the entries of the task that acts, and of another
  own_pair : ◌≡◌ {A = Birth × Moves} (birth_of es t.0, moves_from 0 es t.0 ++ (length es, act, batch) ∷ []) (birth_of more t.0, moves_from 0 more t.0)
  own_pair = λ j. (sym (birth t.0 born_t) j, sym own_moves j)

  other_pair : (u : ℕ) → u < 1 + births es → (t.0 ≡ u → ⊥) → ◌≡◌ {A = Birth × Moves} (birth_of es u, moves_from 0 es u) (birth_of more u, moves_from 0 more u)
  other_pair u low ne = λ j. (sym (birth u low) j, sym (others_moves u ne) j)

  landing_asked : (to : Starts) → Widens from to → (here : PlaceId) (cells : Cells) (z : Player) (left : Cells) → IsAsked to here z (length es, act, batch) → (y : Bool) (low : ℕ) (moves : Moves) → Landing (λ low moves. Walks from here (fresh s) cells moves z left) ⊥ y low moves → Landing (λ low moves. Walks to here (fresh s) cells moves (acted here z act) left) ⊥ y low (moves ++ (length es, act, batch) ∷ [])
  landing_asked to keeps here cells z left k y low moves h = go y low moves h where
    on : {moves : Moves} → Walks from here (fresh s) cells moves z left → Walks to here (fresh s) cells (moves ++ (length es, act, batch) ∷ []) (acted here z act) left
    on {moves = moves} w =
        subst (λ (b : List (List ℕ)). Walks to here (fresh s) cells (moves ++ (length es, act, b) ∷ []) (acted here z act) left) (sym k.0)
        (walk_on to here (walks_wider from to keeps here w) (walks.asks k.1 k.2 walks.stays))

    go : (y : Bool) (low : ℕ) (moves : Moves) → Landing (λ low moves. Walks from here (fresh s) cells moves z left) ⊥ y low moves → Landing (λ low moves. Walks to here (fresh s) cells moves (acted here z act) left) ⊥ y low (moves ++ (length es, act, batch) ∷ [])
    go false low moves h = on h
    go true low [] h = absurd h
    go true low ((n, Arrive p, b) ∷ moves) h = (h.0, on h.1)
    go true low ((n, Open q r x, b) ∷ moves) h = absurd h
    go true low ((n, Calls f g q r c x, b) ∷ moves) h = absurd h
    go true low ((n, Spawn c q f g x, b) ∷ moves) h = absurd h
    go true low ((n, Wait q thrown, b) ∷ moves) h = absurd h
    go true low ((n, Release q lost masked thrown, b) ∷ moves) h = absurd h
    go true low ((n, End thrown, b) ∷ moves) h = absurd h
    go true low ((n, Print value x, b) ∷ moves) h = absurd h
    go true low ((n, Census count x, b) ∷ moves) h = absurd h

  -- a player that waits for the ledger goes on after what it asked
  pub player_goes_on : (to : Starts) → Grown from act to → (z : Player) (left : Cells) → IsAt from es js t.0 s z left → IsAsked to (birth_of es t.0).to z (length es, act, batch) → IsAt to more js t.0 s (acted (birth_of es t.0).to z act) left
  player_goes_on to grown z left at k =
      let b : Birth = birth_of es t.0 in
      subst (At to t.0 s (acted (birth_of es t.0).to z act) left) own_pair
      (landing_asked to (grown_keeps from act to grown) b.to (cells_of es js t.0) z left k (travels b) b.low (moves_from 0 es t.0) at)

  abbrev Ended : Birth × Moves → Type 0
  Ended v = Landing (λ low moves. (before : Moves) × (n : ℕ) × (faults : List Fault) × (batch : List (List ℕ)) × (moves ≡ before ++ (n, End faults, batch) ∷ [])) ⊥ (travels v.0) v.0.low v.1

  landing_ended : (to : Starts) (here : PlaceId) (cells : Cells) (m : ℕ × Act × List (List ℕ)) → (y : Bool) (low : ℕ) (moves : Moves) → Landing (λ low moves. (before : Moves) × (n : ℕ) × (faults : List Fault) × (batch : List (List ℕ)) × (moves ≡ before ++ (n, End faults, batch) ∷ [])) ⊥ y low moves → Landing (λ low moves. (rest : Cells) × Makes to here s.1 s.0 [] cells moves rest) (Unit {0}) y low (moves ++ m ∷ []) → ⊥
  landing_ended to here cells m false low moves h k = none_after to here h.1 h.2 h.3 m h.0 k.1 (ap (λ (v : Moves). v ++ m ∷ []) h.4 ∙ snoc_assoc h.0 (h.1, End h.2, h.3) m)
  landing_ended to here cells m true low [] h k = h
  landing_ended to here cells m true low ((n, Arrive p, b) ∷ moves) h k = none_after to here h.1.1 h.1.2 h.1.3 m h.1.0 k.1.1 (ap (λ (v : Moves). v ++ m ∷ []) h.1.4 ∙ snoc_assoc h.1.0 (h.1.1, End h.1.2, h.1.3) m)
  landing_ended to here cells m true low ((n, Open q r x, b) ∷ moves) h k = h
  landing_ended to here cells m true low ((n, Calls f g q r c x, b) ∷ moves) h k = h
  landing_ended to here cells m true low ((n, Spawn c q f g x, b) ∷ moves) h k = h
  landing_ended to here cells m true low ((n, Wait q thrown, b) ∷ moves) h k = h
  landing_ended to here cells m true low ((n, Release q lost masked thrown, b) ∷ moves) h k = h
  landing_ended to here cells m true low ((n, End thrown, b) ∷ moves) h k = h
  landing_ended to here cells m true low ((n, Print value x, b) ∷ moves) h k = h
  landing_ended to here cells m true low ((n, Census count x, b) ∷ moves) h k = h

  -- a task that has ended makes no entry
  pub ended_never : (others : Starts) → HasEnded es t.0 → Made code places more js others → ⊥
  ended_never others h made' =
      let b : Birth = birth_of es t.0 in
      landing_ended others b.to (cells_of es js t.0) (length es, act, batch) (travels b) b.low (moves_from 0 es t.0) h (other_says others made')

  -- a task that travels makes the entry only where it is its arrival without a batch
  pub away_only : (others : Starts) → IsAway es t.0 → Made code places more js others → (p : PlaceId) × (act ≡ Arrive p) × (batch ≡ [])
  away_only others h made' =
      let b : Birth = birth_of es t.0 in
      arrival (λ low moves. (rest : Cells) × Makes others b.to s.1 s.0 [] (cells_of es js t.0) moves rest) b.low (length es) act batch
      (subst (λ (v : Bool × Moves). Landing (λ low moves. (rest : Cells) × Makes others b.to s.1 s.0 [] (cells_of es js t.0) moves rest) (Unit {0}) v.0 b.low (v.1 ++ (length es, act, batch) ∷ [])) {x = (travels b, moves_from 0 es t.0)} {y = (true, [])} (λ j. (h.0 j, h.1 j)) (other_says others made'))

  -- another task stays where it is
  pub others_stay : (to : Starts) → Grown from act to → (u : ℕ) (r : Term × Vars) (z : Player) (left : Cells) → u < 1 + births es → (t.0 ≡ u → ⊥) → (IsAway es u → IsAway more u) × (IsAt from es js u r z left → IsAt to more js u r z left) × (HasEnded es u → HasEnded more u)
  others_stay to grown u r z left low ne = (
    λ h. (ap travels (birth u low) ∙ h.0, others_moves u ne ∙ h.1),
    λ h. subst (At to u r z left) (other_pair u low ne)
        (landing_map (λ low moves. Walks from (birth_of es u).to (fresh r) (cells_of es js u) moves z left) (λ low moves. Walks from (birth_of es u).to (fresh r) (cells_of es js u) moves z left) (λ low moves. Walks to (birth_of es u).to (fresh r) (cells_of es js u) moves z left) ⊥ ⊥ ⊥
        (λ low moves a b. walks_wider from to (grown_keeps from act to grown) (birth_of es u).to a) (λ a b. a) (travels (birth_of es u)) (birth_of es u).low (moves_from 0 es u) h h),
    λ h. subst Ended (other_pair u low ne) h,
  )

  -- the newborn task has no entries
  pub newborn_none : moves_from 0 more (1 + births es) ≡ []
  newborn_none =
      let k = born_t in
      others_moves (1 + births es) (λ e. omega (arith, k, e)) ∙ unmoved 0 (opening places) es (opens places g.some g.few) none_yet g.allowed (1 + births es) (omega arith)

-- a task that travels makes its arrival, and then it has come to its start
pub away_arrives : (code : Block) (places : ℕ) (es : List Entry) (js : List (List PlaceEvent)) (from : Starts) (t : TaskId) (p : PlaceId) (s : Term × Vars) → Stage code places es js from t (Arrive p) [] s → IsAway es t.0 → TaskMakes from (es ++ Step t (Arrive p) [] ∷ []) js t.0 s × IsAt from (es ++ Step t (Arrive p) [] ∷ []) js t.0 s (fresh s) (cells_of es js t.0)
away_arrives code places es js from t p s g h =
    let b : Birth = birth_of es t.0 in
    let pair = own_pair code places es js from t (Arrive p) [] s g in
    let start : ◌≡◌ {A = Bool × Moves} (true, []) (travels b, moves_from 0 es t.0) = λ j. (sym h.0 j, sym h.1 j) in (
      subst (Says code places es js from t (Arrive p) [] s g from t.0 s) pair
          (subst (λ (v : Bool × Moves). Landing (λ low moves. (rest : Cells) × Makes from b.to s.1 s.0 [] (cells_of es js t.0) moves rest) (Unit {0}) v.0 b.low (v.1 ++ (length es, Arrive p, []) ∷ [])) start (refl, (cells_of es js t.0, parts.stops))),
      subst (At code places es js from t (Arrive p) [] s g from t.0 s (fresh s) (cells_of es js t.0)) pair
          (subst (λ (v : Bool × Moves). Landing (λ low moves. Walks from b.to (fresh s) (cells_of es js t.0) moves (fresh s) (cells_of es js t.0)) ⊥ v.0 b.low (v.1 ++ (length es, Arrive p, []) ∷ [])) start (refl, walks.stays)),
    )

landing_end : (starts : Starts) (here : PlaceId) (a z : Player) (cells left : Cells) (n : ℕ) (faults : List Fault) (batch : List (List ℕ)) (y : Bool) (low : ℕ) (moves : Moves) → Landing (λ low moves. Walks starts here a cells moves z left) ⊥ y low moves → Landing (λ low moves. (before : Moves) × (n : ℕ) × (faults : List Fault) × (batch : List (List ℕ)) × (moves ≡ before ++ (n, End faults, batch) ∷ [])) ⊥ y low (moves ++ (n, End faults, batch) ∷ [])
landing_end starts here a z cells left n faults batch false low moves h = (moves, n, faults, batch, refl)
landing_end starts here a z cells left n faults batch true low [] h = absurd h
landing_end starts here a z cells left n faults batch true low ((k, Arrive p, b) ∷ moves) h = (h.0, (moves, n, faults, batch, refl))
landing_end starts here a z cells left n faults batch true low ((k, Open q r x, b) ∷ moves) h = absurd h
landing_end starts here a z cells left n faults batch true low ((k, Calls f g q r c x, b) ∷ moves) h = absurd h
landing_end starts here a z cells left n faults batch true low ((k, Spawn c q f g x, b) ∷ moves) h = absurd h
landing_end starts here a z cells left n faults batch true low ((k, Wait q thrown, b) ∷ moves) h = absurd h
landing_end starts here a z cells left n faults batch true low ((k, Release q lost masked thrown, b) ∷ moves) h = absurd h
landing_end starts here a z cells left n faults batch true low ((k, End thrown, b) ∷ moves) h = absurd h
landing_end starts here a z cells left n faults batch true low ((k, Print value x, b) ∷ moves) h = absurd h
landing_end starts here a z cells left n faults batch true low ((k, Census count x, b) ∷ moves) h = absurd h

-- a player whose term is done has ended after its end
pub player_ends : (code : Block) (places : ℕ) (es : List Entry) (js : List (List PlaceEvent)) (from : Starts) (t : TaskId) (faults : List Fault) (batch : List (List ℕ)) (s : Term × Vars) (z : Player) (left : Cells) → Stage code places es js from t (End faults) batch s → IsAt from es js t.0 s z left → HasEnded (es ++ Step t (End faults) batch ∷ []) t.0
player_ends code places es js from t faults batch s z left g at =
    let b : Birth = birth_of es t.0 in
    subst (Ended code places es js from t (End faults) batch s g) (own_pair code places es js from t (End faults) batch s g)
    (landing_end from b.to (fresh s) z (cells_of es js t.0) left (length es) faults batch (travels b) b.low (moves_from 0 es t.0) at)
