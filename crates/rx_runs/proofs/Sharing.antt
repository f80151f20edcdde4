-- Sums over the entries of a history, by their tasks and by the tasks that they start.
use Rattle.std.proofs.Common.{◌≡◌, ℕ, zero, suc, ◌+◌, ◌<◌, ◌≤◌, true, false, cond, ◌==◌, List, [], ◌∷◌, length, slice_get, Option, Some, None, All, refl, ap, ◌∙◌, sym, arith}
use Rattle.std.specs.List.{cons_option}
use Rattle.std.proofs.lemmas.Bool.{eq-eqb, true≢false}
use Rattle.std.proofs.lemmas.List.Sums.{sum_by-cons}
use Rattle.rx_rules.proofs.Common.{TaskId, Term, Vars, Tree, made, Allowed, AllowedAct, births, births_of, AllAllowed, Reached, IsOlder, Starts, Moves, started_by, move_of, moves_from}
use Rattle.rx_rules.specs.declared.entries.Act.{Act}
use Rattle.rx_rules.specs.declared.entries.Act.TheVariants.{Open, At as Calls, Spawn, Arrive, Wait, Release, End, Print, Census}
use Rattle.rx_rules.specs.declared.entries.Entry.{Entry}
use Rattle.rx_rules.specs.declared.entries.Entry.TheVariants.{Step, Root, Death, Join}
use Rattle.rx_rules.proofs.Numbers.{next-made}
use Rattle.rx_tree_laws.proofs.Reach.{task_below}
use Rattle.rx_tree_laws.proofs.Reached.{sound}
use Rattle.rx_tree_laws.proofs.Histories.{reached_now, dead-now}

-- A number for each act.

module _ (f : Act → ℕ) where
  -- of the moves of a task
  abbrev pub of_moves : Moves → ℕ
  of_moves [] = 0
  of_moves (m ∷ ms) = f m.1 + of_moves ms

  -- of the moves of tasks k, k + 1, .., the first entry being entry n
  abbrev pub of_tasks : ℕ → List Entry → ℕ → Starts → ℕ
  of_tasks n es k [] = 0
  of_tasks n es k (s ∷ ss) = of_moves (moves_from n es k) + of_tasks n es (suc k) ss

  -- of an entry
  abbrev pub of_entry : Entry → ℕ
  of_entry (Step t act batch) = f act
  of_entry _ = 0

  -- of all entries
  abbrev pub of_entries : List Entry → ℕ
  of_entries [] = 0
  of_entries (e ∷ es) = of_entry e + of_entries es

  -- the part of an entry that is task k's
  abbrev part : ℕ → ℕ → Entry → ℕ
  part n k e = of_moves (cons_option (move_of n k e) [])

  part_cons : (n k : ℕ) (e : Entry) (ms : Moves) → of_moves (cons_option (move_of n k e) ms) ≡ part n k e + of_moves ms
  part_cons n k (Step t act batch) ms =
      elim (t.0 == k) as (λ b. of_moves (cons_option (cond b (Some (n, act, batch)) None) ms) ≡ of_moves (cons_option (cond b (Some (n, act, batch)) None) []) + of_moves ms) [
        | true ↦ omega arith
        | false ↦ omega arith
      ]
  part_cons n k _ ms = omega arith

  abbrev parts : ℕ → ℕ → Starts → Entry → ℕ
  parts n k [] e = 0
  parts n k (s ∷ ss) e = part n k e + parts n (suc k) ss e

  parts_cons : (n : ℕ) (e : Entry) (es : List Entry) (k : ℕ) (ss : Starts) → of_tasks n (e ∷ es) k ss ≡ parts n k ss e + of_tasks (suc n) es k ss
  parts_cons n e es k [] = omega arith
  parts_cons n e es k (s ∷ ss) =
      let a : of_moves (moves_from n (e ∷ es) k) ≡ part n k e + of_moves (moves_from (suc n) es k) = part_cons n k e (moves_from (suc n) es k) in
      let b : of_tasks n (e ∷ es) (suc k) ss ≡ parts n (suc k) ss e + of_tasks (suc n) es (suc k) ss = parts_cons n e es (suc k) ss in
      omega (arith, a, b)

-- the task of an entry is below n
abbrev pub OfBelow : ℕ → Entry → Type 0
OfBelow n (Step t act batch) = t.0 < n
OfBelow n _ = Unit {0}

abbrev pub AllOf : ℕ → List Entry → Type 0
AllOf n [] = Unit {0}
AllOf n (e ∷ es) = OfBelow n e × AllOf n es

module _ (f : Act → ℕ) where
  parts_hit : (n k : ℕ) (ss : Starts) (t : TaskId) (act : Act) (batch : List (List ℕ)) → k ≤ t.0 → t.0 < k + length ss → f act ≤ parts f n k ss (Step t act batch)
  parts_hit n k [] t act batch low high = absurd (omega arith)
  parts_hit n k (s ∷ ss) t act batch low high =
      (elim (t.0 == k) as (λ b. t.0 == k ≡ b → f act ≤ of_moves f (cons_option (cond b (Some (n, act, batch)) None) []) + parts f n (suc k) ss (Step t act batch)) [
        | true ↦ λ e. omega arith
        | false ↦ λ e.
            let later : suc k ≤ t.0 = above t.0 k low (λ q. true≢false (sym (eq-eqb t.0 k q) ∙ e)) in
            let rest : f act ≤ parts f n (suc k) ss (Step t act batch) = parts_hit n (suc k) ss t act batch later (omega arith) in
            omega (arith, rest)
      ]) refl
    where
      above : (a b : ℕ) → b ≤ a → (a ≡ b → ⊥) → suc b ≤ a
      above a b le ne = omega (arith, le, ne)

  entry_hit : (n : ℕ) (ss : Starts) (e : Entry) → OfBelow (length ss) e → of_entry f e ≤ parts f n 0 ss e
  entry_hit n ss (Step t act batch) low = parts_hit n 0 ss t act batch (omega arith) (omega (arith, low))
  entry_hit n ss _ low = omega arith

  -- where each entry's task is among the tasks, no entry is missed
  pub all_hit : (n : ℕ) (es : List Entry) (ss : Starts) → AllOf (length ss) es → of_entries f es ≤ of_tasks f n es 0 ss
  all_hit n [] ss h = omega arith
  all_hit n (e ∷ es) ss h =
      let a : of_entry f e ≤ parts f n 0 ss e = entry_hit n ss e h.0 in
      let b : of_entries f es ≤ of_tasks f (suc n) es 0 ss = all_hit (suc n) es ss h.1 in
      omega (arith, a, b, parts_cons f n e es 0 ss)

-- Births come in the order of the numbers.

-- what a task that is started brings, by its number
abbrev pub brings : (ℕ → ℕ) → Option TaskId → ℕ
brings g o = elim o as (λ _. ℕ) [ Some c ↦ g c.0 | None ↦ 0 ]

abbrev pub range : (ℕ → ℕ) → ℕ → ℕ → ℕ
range g m zero = 0
range g m (suc k) = g m + range g (suc m) k

pub born_in_order : (g : ℕ → ℕ) (n : ℕ) (T : Tree) (es : List Entry) → AllAllowed n T es → of_entries (λ act. brings g (started_by act)) es ≡ range g T.next_task (births es)
born_in_order g n T [] h = refl
born_in_order g n T (e ∷ es) h =
    let rest : of_entries (λ act. brings g (started_by act)) es ≡ range g (made n T e).next_task (births es) = born_in_order g (suc n) (made n T e) es h.1 in
    let next : (made n T e).next_task ≡ T.next_task + births_of e = next-made n T e in
    let count : births (e ∷ es) ≡ births_of e + births es = sum_by-cons births_of e es in
    ap (λ v. of_entry (λ act. brings g (started_by act)) e + v) (rest ∙ ap (λ v. range g v (births es)) next) ∙ one g T e (births es) h.0 ∙ sym (ap (range g T.next_task) count)
  where
    one_more : (g : ℕ → ℕ) (m k : ℕ) → g m + range g (m + 1) k ≡ range g m (1 + k)
    one_more g m k = let z : m + 1 ≡ suc m = omega arith in let y : 1 + k ≡ suc k = omega arith in ap (λ v. g m + range g v k) z ∙ sym (ap (range g m) y)

    none_more : (g : ℕ → ℕ) (m k : ℕ) → 0 + range g (m + 0) k ≡ range g m (0 + k)
    none_more g m k = let z : m + 0 ≡ m = omega arith in let y : 0 + k ≡ k = omega arith in let x : 0 + range g (m + 0) k ≡ range g (m + 0) k = omega arith in x ∙ ap (λ v. range g v k) z ∙ sym (ap (range g m) y)

    one : (g : ℕ → ℕ) (T : Tree) (e : Entry) (k : ℕ) → Allowed T e → of_entry (λ act. brings g (started_by act)) e + range g (T.next_task + births_of e) k ≡ range g T.next_task (births_of e + k)
    one g T (Step t (Open s r x) batch) k may = none_more g T.next_task k
    one g T (Step t (Calls from to s r c x) batch) k may = ap (λ v. g v + range g (T.next_task + 1) k) may.asks.3 ∙ one_more g T.next_task k
    one g T (Step t (Spawn c s from to x) batch) k may = ap (λ v. g v + range g (T.next_task + 1) k) may.asks.1 ∙ one_more g T.next_task k
    one g T (Step t (Arrive p) batch) k may = none_more g T.next_task k
    one g T (Step t (Wait s thrown) batch) k may = none_more g T.next_task k
    one g T (Step t (Release s lost masked thrown) batch) k may = none_more g T.next_task k
    one g T (Step t (End thrown) batch) k may = none_more g T.next_task k
    one g T (Step t (Print value x) batch) k may = none_more g T.next_task k
    one g T (Step t (Census places x) batch) k may = none_more g T.next_task k
    one g T (Root lost masked thrown) k may = none_more g T.next_task k
    one g T (Death d) k may = none_more g T.next_task k
    one g T (Join p) k may = none_more g T.next_task k

-- what a start brings, by the number of its task
abbrev pub weight : (Term → ℕ) → Starts → ℕ → ℕ
weight w starts i = elim (slice_get starts i) as (λ _. ℕ) [ Some s ↦ w s.0 | None ↦ 0 ]

-- the same of all starts
abbrev pub given : (Term → ℕ) → Starts → ℕ
given w [] = 0
given w (s ∷ ss) = w s.0 + given w ss

-- the starts are those of the numbers
pub given_range : (w : Term → ℕ) (starts : Starts) (m : ℕ) (ss : Starts) → ((i : ℕ) → slice_get ss i ≡ slice_get starts (m + i)) → given w ss ≡ range (weight w starts) m (length ss)
given_range w starts m [] same = refl
given_range w starts m (s ∷ ss) same =
    let z : m + 0 ≡ m = omega arith in
    let first : Some s ≡ slice_get starts m = same 0 ∙ ap (slice_get starts) z in
    let here : w s.0 ≡ weight w starts m = ap (λ (o : Option (Term × Vars)). elim o as (λ _. ℕ) [ Some v ↦ w v.0 | None ↦ 0 ]) first in
    let rest : given w ss ≡ range (weight w starts) (suc m) (length ss) = given_range w starts (suc m) ss (λ i. (let y : m + suc i ≡ suc m + i = omega arith in same (suc i) ∙ ap (slice_get starts) y)) in
    ap (λ v. v + given w ss) here ∙ ap (λ v. weight w starts m + v) rest

-- each entry's task was born
pub act_below : (T : Tree) (t : TaskId) (act : Act) → Reached T → AllowedAct T t act → t.0 < T.next_task
act_below T t (Open s p x) r may = task_below T.next_task T.tasks t may.task (sound r).tasks_fall may.stands
act_below T t (Calls from to s p c x) r may = task_below T.next_task T.tasks t may.task (sound r).tasks_fall may.stands
act_below T t (Spawn c s from to x) r may = task_below T.next_task T.tasks t may.task (sound r).tasks_fall may.stands
act_below T t (Arrive p) r may = task_below T.next_task T.tasks t may.task (sound r).tasks_fall may.stands
act_below T t (Wait s thrown) r may = task_below T.next_task T.tasks t may.task (sound r).tasks_fall may.stands
act_below T t (Release s lost masked thrown) r may = task_below T.next_task T.tasks t may.task (sound r).tasks_fall may.stands
act_below T t (End thrown) r may = task_below T.next_task T.tasks t may.task (sound r).tasks_fall may.stands
act_below T t (Print value x) r may = task_below T.next_task T.tasks t may.task (sound r).tasks_fall may.stands
act_below T t (Census places x) r may = task_below T.next_task T.tasks t may.task (sound r).tasks_fall may.stands

entry_below : (T : Tree) (e : Entry) (m : ℕ) → Reached T → Allowed T e → T.next_task ≤ m → OfBelow m e
entry_below T (Step t act batch) m r may le = let low : t.0 < T.next_task = act_below T t act r may in omega (arith, low, le)
entry_below T (Root lost masked thrown) m r may le = tt
entry_below T (Death d) m r may le = tt
entry_below T (Join p) m r may le = tt

pub all_below : (n : ℕ) (T : Tree) (es : List Entry) (m : ℕ) → Reached T → All (IsOlder n) T.dead → AllAllowed n T es → T.next_task + births es ≤ m → AllOf m es
all_below n T [] m r o h le = tt
all_below n T (e ∷ es) m r o h le =
    let next : (made n T e).next_task ≡ T.next_task + births_of e = next-made n T e in
    let count : births (e ∷ es) ≡ births_of e + births es = sum_by-cons births_of e es in
    (entry_below T e m r h.0 (omega (arith, le, count)), all_below (suc n) (made n T e) es m (reached_now n T e r o h.0) (dead-now n T e o) h.1 (omega (arith, le, count, next)))
