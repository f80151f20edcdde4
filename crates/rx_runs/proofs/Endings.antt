-- A task leaves the tree by its end, or struck at a release.
use Rattle.std.proofs.Common.{◌≡◌, ◌≢◌, ℕ, suc, ◌+◌, ◌<◌, Bool, true, false, cond, not, ◌||◌, ◌&&◌, ◌==◌, List, [], ◌∷◌, filter, map, Some, is_some, is_none, All, ◌⊎◌, refl, ap, ◌∙◌, sym, subst, arith, ⊎_elim, inl, inr}
use Rattle.std.specs.List.{list_any}
use Rattle.std.proofs.lemmas.Bool.{eqb-true, eq-eqb, ne_eqb, true≢false, or_right, not-true}
use Rattle.std.proofs.lemmas.List.Folds.{list_any-append}
use Rattle.rx_rules.proofs.Common.{TaskId, ScopeId, Fault, Tree, is_task, task_of, is_under, quiet, the_root, change_first, waiting, resumed, without, hit, born, made, made_act, after_end, Allowed, AllowedAct, births, AllAllowed, opening, fold_from, tree_of, Reached, IsOlder, opens, EndsWithRoot, has_ended}
use Rattle.rx_rules.specs.declared.tasks.Where.TheVariants.{At}
use Rattle.rx_rules.specs.declared.tasks.Task.{Task}
use Rattle.rx_rules.specs.declared.entries.Act.{Act}
use Rattle.rx_rules.specs.declared.entries.Act.TheVariants.{Open, At as Calls, Spawn, Arrive, Wait, Release, End, Print, Census}
use Rattle.rx_rules.specs.declared.entries.Entry.{Entry}
use Rattle.rx_rules.specs.declared.entries.Entry.TheVariants.{Step, Root, Death, Join}
use Rattle.rx_rules.specs.Laws.{ends_task}
use Rattle.rx_rules.proofs.Numbers.{next-tree}
use Rattle.rx_tree_laws.specs.Sound.{Each, TaskFits, Sound}
use Rattle.rx_tree_laws.proofs.Changes.{each_more}
use Rattle.rx_tree_laws.proofs.Blows.{hit_number}
use Rattle.rx_tree_laws.proofs.Reached.{sound}
use Rattle.rx_tree_laws.proofs.Histories.{reached_now, dead-now, none_yet}
use Rattle.rx_tree_laws.proofs.Releasing.{none_is_not, leaves, each_both, each_none, on_meets}
use Rattle.rx_runs.specs.Endings.{EveryoneEnds}

abbrev is_number : ℕ → Task → Bool
is_number t x = x.number.0 == t

-- the task is in the tree, or was removed by a release
abbrev Held : Tree → ℕ → Type 0
Held T t = (list_any (is_number t) T.tasks ≡ true) ⊎ (list_any (is_number t) T.gone ≡ true)

any_change : (p q : Task → Bool) (f : Task → Task) → ((x : Task) → p (f x) ≡ p x) → (xs : List Task) → list_any p (change_first q f xs) ≡ list_any p xs
any_change p q f same [] = refl
any_change p q f same (x ∷ xs) = elim (q x) as (λ b. list_any p (cond b (f x ∷ xs) (x ∷ change_first q f xs)) ≡ list_any p (x ∷ xs)) [
  | true ↦ ap (λ b. b || list_any p xs) (same x)
  | false ↦ ap (λ b. p x || b) (any_change p q f same xs)
]

any_map : (p : Task → Bool) (f : Task → Task) → ((x : Task) → p (f x) ≡ p x) → (xs : List Task) → list_any p (map f xs) ≡ list_any p xs
any_map p f same [] = refl
any_map p f same (x ∷ xs) = ap (λ b. b || list_any p (map f xs)) (same x) ∙ ap (λ b. p x || b) (any_map p f same xs)

-- a filter parts a list in two
any_parts : (p q : Task → Bool) (xs : List Task) → list_any p xs ≡ true → (list_any p (filter (λ x. not (q x)) xs) ≡ true) ⊎ (list_any p (filter q xs) ≡ true)
any_parts p q [] h = absurd (true≢false (sym h))
any_parts p q (x ∷ xs) h =
    (elim (q x) as (λ c. (list_any p (cond (not c) (x ∷ filter (λ y. not (q y)) xs) (filter (λ y. not (q y)) xs)) ≡ true) ⊎ (list_any p (cond c (x ∷ filter q xs) (filter q xs)) ≡ true)) [
      | true ↦
          (elim (p x) as (λ b. b || list_any p xs ≡ true → (list_any p (filter (λ y. not (q y)) xs) ≡ true) ⊎ (b || list_any p (filter q xs) ≡ true)) [
            | true ↦ λ k. inr refl
            | false ↦ λ k. any_parts p q xs k
          ]) h
      | false ↦
          (elim (p x) as (λ b. b || list_any p xs ≡ true → (b || list_any p (filter (λ y. not (q y)) xs) ≡ true) ⊎ (list_any p (filter q xs) ≡ true)) [
            | true ↦ λ k. inl refl
            | false ↦ λ k. any_parts p q xs k
          ]) h
    ])

-- another task stays
any_others : (t : ℕ) (u : TaskId) (xs : List Task) → u.0 ≢ t → list_any (is_number t) xs ≡ true → list_any (is_number t) (filter (λ y. not (is_task u y)) xs) ≡ true
any_others t u [] o h = absurd (true≢false (sym h))
any_others t u (x ∷ xs) o h =
    (elim (is_task u x) as (λ c. is_task u x ≡ c → list_any (is_number t) (cond (not c) (x ∷ filter (λ y. not (is_task u y)) xs) (filter (λ y. not (is_task u y)) xs)) ≡ true) [
      | true ↦ λ e.
          let num : x.number.0 ≡ u.0 = eqb-true x.number.0 u.0 e in
          let apart : is_number t x ≡ false = ne_eqb x.number.0 t (λ k. o (sym num ∙ k)) in
          any_others t u xs o (sym (ap (λ b. b || list_any (is_number t) xs) apart) ∙ h)
      | false ↦ λ e.
          (elim (is_number t x) as (λ b. b || list_any (is_number t) xs ≡ true → b || list_any (is_number t) (filter (λ y. not (is_task u y)) xs) ≡ true) [
            | true ↦ λ k. refl
            | false ↦ λ k. any_others t u xs o k
          ]) h
    ]) refl

-- a task more
held_new : (T : Tree) (x : Task) (t : ℕ) → x.number.0 ≡ T.next_task → (t < T.next_task → Held T t) → t < suc T.next_task → (list_any (is_number t) (x ∷ T.tasks) ≡ true) ⊎ (list_any (is_number t) T.gone ≡ true)
held_new T x t e held low =
    (elim (x.number.0 == t) as (λ b. x.number.0 == t ≡ b → (b || list_any (is_number t) T.tasks ≡ true) ⊎ (list_any (is_number t) T.gone ≡ true)) [
      | true ↦ λ k. inl refl
      | false ↦ λ k. held (lower (λ w. true≢false (sym (eq-eqb x.number.0 t (e ∙ sym w)) ∙ k)))
    ]) refl
  where
    lower : t ≢ T.next_task → t < T.next_task
    lower ne = omega (arith, low, ne)

held_tasks : (T V : Tree) (t : ℕ) → (list_any (is_number t) T.tasks ≡ true → list_any (is_number t) V.tasks ≡ true) → V.gone ≡ T.gone → Held T t → Held V t
held_tasks T V t f e (inl h) = inl (f h)
held_tasks T V t f e (inr h) = inr (ap (list_any (is_number t)) e ∙ h)

held_without : (T : Tree) (s : ScopeId) (t : ℕ) → Held T t → Held (without T s) t
held_without T s t (inl h) =
    ⊎_elim (λ (a : list_any (is_number t) (filter (λ x. not (leaves T s x)) T.tasks) ≡ true). inl a)
    (λ (a : list_any (is_number t) (filter (leaves T s) T.tasks) ≡ true). inr (list_any-append (is_number t) T.gone (filter (leaves T s) T.tasks) ∙ or_right (list_any (is_number t) T.gone) (list_any (is_number t) (filter (leaves T s) T.tasks)) a))
    (any_parts (is_number t) (leaves T s) T.tasks h)
held_without T s t (inr h) = inr (list_any-append (is_number t) T.gone (filter (leaves T s) T.tasks) ∙ ap (λ b. b || list_any (is_number t) (filter (leaves T s) T.tasks)) h)

-- after an entry the task is held, or the entry is its end
abbrev After : Tree → Entry → ℕ → Type 0
After V e t = Held V t ⊎ (ends_task t e ≡ true)

held_end : (T : Tree) (u : TaskId) (thrown : List Fault) (batch : List (List ℕ)) (x : Task) (t : ℕ) → task_of T u ≡ Some x → (t < T.next_task → Held T t) → t < (after_end T u thrown).next_task → After (after_end T u thrown) (Step u (End thrown) batch) t
held_end T u thrown batch x t e held low =
    let tasks : (after_end T u thrown).tasks ≡ filter (λ y. not (is_task u y)) T.tasks = rw (e, after_end) refl in
    let gone : (after_end T u thrown).gone ≡ T.gone = rw (e, after_end) refl in
    let next : (after_end T u thrown).next_task ≡ T.next_task = rw (e, after_end) refl in
    (elim (u.0 == t) as (λ b. u.0 == t ≡ b → (Held (after_end T u thrown) t) ⊎ (b ≡ true)) [
      | true ↦ λ k. inr refl
      | false ↦ λ k. inl (held_tasks T (after_end T u thrown) t (λ a. ap (list_any (is_number t)) tasks ∙ any_others t u T.tasks (λ w. true≢false (sym (eq-eqb u.0 t w) ∙ k)) a) gone (held (omega (arith, low, next))))
    ]) refl

held_act : (T : Tree) (u : TaskId) (act : Act) (batch : List (List ℕ)) (t : ℕ) → AllowedAct T u act → (t < T.next_task → Held T t) → t < (made_act T u act).next_task → After (made_act T u act) (Step u act batch) t
held_act T u (Open s r x) batch t may held low = inl (held low)
held_act T u (Calls from to s r c x) batch t may held low =
    inl (⊎_elim (λ (a : list_any (is_number t) (born T c s from to ∷ T.tasks) ≡ true). inl (any_change (is_number t) (is_task u) waiting (λ y. refl) (born T c s from to ∷ T.tasks) ∙ a)) (λ (a : list_any (is_number t) T.gone ≡ true). inr a) (held_new T (born T c s from to) t may.asks.3 held low))
held_act T u (Spawn c s from to x) batch t may held low = inl (held_new T (born T c s from to) t may.asks.1 held low)
held_act T u (Arrive p) batch t may held low =
    inl (held_tasks T (made_act T u (Arrive p)) t (λ a. any_change (is_number t) (is_task u) (λ y. record y { place = At p }) (λ y. refl) T.tasks ∙ a) refl (held low))
held_act T u (Wait s thrown) batch t may held low =
    inl (held_tasks T (made_act T u (Wait s thrown)) t (λ a. any_change (is_number t) (is_task u) waiting (λ y. refl) T.tasks ∙ a) refl (held low))
held_act T u (Release s lost masked thrown) batch t may held low =
    inl (held_tasks (without T s) (made_act T u (Release s lost masked thrown)) t (λ a. any_change (is_number t) (is_task u) resumed (λ y. refl) (without T s).tasks ∙ a) refl (held_without T s t (held low)))
held_act T u (End thrown) batch t may held low = held_end T u thrown batch may.task t may.stands held low
held_act T u (Print value x) batch t may held low = inl (held low)
held_act T u (Census places x) batch t may held low = inl (held low)

held_entry : (n : ℕ) (T : Tree) (e : Entry) (t : ℕ) → Allowed T e → (t < T.next_task → Held T t) → t < (made n T e).next_task → After (made n T e) e t
held_entry n T (Step u act batch) t may held low = held_act T u act batch t may held low
held_entry n T (Root lost masked thrown) t may held low = inl (held_without T the_root t (held low))
held_entry n T (Death d) t may held low =
    inl (held_tasks T (made n T (Death d)) t (λ a. any_map (is_number t) (hit (record { place = d; entry = n })) (λ x. ap (λ (v : TaskId). v.0 == t) (hit_number (record { place = d; entry = n }) x)) T.tasks ∙ a) refl (held low))
held_entry n T (Join p) t may held low = inl (held low)

-- along a history
held_from : (n : ℕ) (T : Tree) (es : List Entry) (t : ℕ) → AllAllowed n T es → (t < T.next_task → Held T t) → t < (fold_from n T es).next_task → (Held (fold_from n T es) t) ⊎ (has_ended es t ≡ true)
held_from n T [] t h held low = inl (held low)
held_from n T (e ∷ es) t h held low =
    (elim (ends_task t e) as (λ b. ends_task t e ≡ b → (Held (fold_from (suc n) (made n T e) es) t) ⊎ (b || has_ended es t ≡ true)) [
      | true ↦ λ k. inr refl
      | false ↦ λ k. held_from (suc n) (made n T e) es t h.1 (λ below. ⊎_elim (λ (a : Held (made n T e) t). a) (λ (a : ends_task t e ≡ true). absurd (true≢false (sym a ∙ k))) (held_entry n T e t h.0 held below)) low
    ]) refl

-- At the end no task is left.

pub all_leave : (T : Tree) (xs : List Task) → Each (λ x. leaves T the_root x ≡ true) xs → filter (λ x. not (leaves T the_root x)) xs ≡ []
all_leave T [] h = refl
all_leave T (x ∷ xs) h = ap (λ b. cond (not b) (x ∷ filter (λ y. not (leaves T the_root y)) xs) (filter (λ y. not (leaves T the_root y)) xs)) h.0 ∙ all_leave T xs h.1

pub struck_if : (u n s : Bool) → u ≡ true → u && n ≡ false → n ≡ not s → u && s ≡ true
struck_if true true true a b e = refl
struck_if true false true a b e = refl
struck_if true true false a b e = absurd (true≢false b)
struck_if true false false a b e = absurd (true≢false (sym e))
struck_if false n s a b e = absurd (true≢false (sym a))

pub root_empties : (T : Tree) → Sound T → quiet T the_root ≡ true → (without T the_root).tasks ≡ []
root_empties T h still =
    all_leave T T.tasks
    (each_more (λ x. TaskFits T.dead T.places T.scopes x × (is_under T the_root x && is_none x.struck ≡ false)) (λ x. leaves T the_root x ≡ true)
    (λ (x : Task) b. struck_if (is_under T the_root x) (is_none x.struck) (is_some x.struck) (on_meets the_root T.scopes (Some x.under) ∙ b.0.rooted) b.1 (none_is_not x.struck)) T.tasks
    (each_both (TaskFits T.dead T.places T.scopes) (λ x. is_under T the_root x && is_none x.struck ≡ false) T.tasks h.tasks (each_none (λ x. is_under T the_root x && is_none x.struck) T.tasks (not-true _ still))))

pub empty_at_end : (n : ℕ) (T : Tree) (es : List Entry) → Reached T → All (IsOlder n) T.dead → AllAllowed n T es → EndsWithRoot es → (fold_from n T es).tasks ≡ []
empty_at_end n T [] r o h e = absurd e
empty_at_end n T (Root lost masked thrown ∷ es) r o h e =
    subst (λ (fs : List Entry). (fold_from (suc n) (without T the_root) fs).tasks ≡ []) (sym e) (root_empties T (sound r) h.0.2.is_quiet)
empty_at_end n T (Step t act batch ∷ es) r o h e = empty_at_end (suc n) (made n T (Step t act batch)) es (reached_now n T (Step t act batch) r o h.0) (dead-now n T (Step t act batch) o) h.1 e
empty_at_end n T (Death d ∷ es) r o h e = empty_at_end (suc n) (made n T (Death d)) es (reached_now n T (Death d) r o h.0) (dead-now n T (Death d) o) h.1 e
empty_at_end n T (Join p ∷ es) r o h e = empty_at_end (suc n) (made n T (Join p)) es (reached_now n T (Join p) r o h.0) (dead-now n T (Join p) o) h.1 e

first_held : (places t : ℕ) → t < 1 → Held (opening places) t
first_held places t low = let e : 0 ≡ t = omega arith in inl (ap (λ b. b || false) (eq-eqb 0 t e))

pub everyone_ends : EveryoneEnds
everyone_ends code U es js t run low none =
    let f = run.folds in
    let next : (tree_of U.places es).next_task ≡ 1 + births es = next-tree U.places es in
    ⊎_elim
    (λ (held : Held (tree_of U.places es) t).
    ⊎_elim
    (λ (a : list_any (is_number t) (tree_of U.places es).tasks ≡ true). absurd (true≢false (sym a ∙ ap (list_any (is_number t)) (empty_at_end 0 (opening U.places) es (opens U.places f.some f.few) none_yet f.allowed run.ends))))
    (λ (a : list_any (is_number t) (tree_of U.places es).gone ≡ true). absurd (true≢false (sym a ∙ none)))
    held)
    (λ (ended : has_ended es t ≡ true). ended)
    (held_from 0 (opening U.places) es t f.allowed (λ w. first_held U.places t w) (omega (arith, next, low)))
