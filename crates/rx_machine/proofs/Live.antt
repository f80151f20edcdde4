-- The unstruck tasks of a tree after each kind of change.
use Rattle.std.proofs.Common.{◌≡◌, ◌≢◌, ℕ, ◌<◌, ◌≤◌, Bool, true, false, cond, not, ◌&&◌, ◌==◌, List, [], ◌∷◌, filter, map, Option, Some, None, is_none, is_some, option_map, refl, ap, ◌∙◌, sym, subst, arith}
use Rattle.std.specs.List.{find}
use Rattle.std.proofs.lemmas.Bool.{eqb-true, eq-eqb, ne_eqb}
use Rattle.rx_rules.proofs.Common.{TaskId, ScopeId, Tree, is_task, task_of, is_under, change_task, add_task, without, hit, is_hit}
use Rattle.rx_rules.specs.declared.tasks.Task.{Task}
use Rattle.rx_rules.specs.declared.tasks.Blow.{Blow}
use Rattle.rx_tree_laws.specs.Sound.{TasksFall}
use Rattle.rx_machine.specs.Slots.{live_task, live_in, if_unstruck}
use Rattle.rx_machine.proofs.Finding.{find_other, find_same, find_none, find_left, find_mapped}

-- an unstruck task stands in the tree, and no death has struck it
pub live_stands : (T : Tree) (n : ℕ) (x : Task) → live_task T n ≡ Some x → (task_of T (record { 0 = n }) ≡ Some x) × (x.struck ≡ None)
live_stands T n x h =
    elim (task_of T (record { 0 = n })) as (λ o. live_in o ≡ Some x → (o ≡ Some x) × (x.struck ≡ None)) [ Some y ↦ of_one y x | None ↦ λ a. absurd (let f : ⊥ = cc in f) ] h
  where
    of_one : (y x : Task) → if_unstruck y ≡ Some x → (Some y ≡ Some x) × (x.struck ≡ None)
    of_one y x a =
        (elim y.struck as (λ s. y.struck ≡ s → cond (is_none s) (Some y) None ≡ Some x → (Some y ≡ Some x) × (x.struck ≡ None)) [
          | Some b ↦ λ e a. cc
          | None ↦ λ e a. let same : y ≡ x = cc in (a, ap (λ (v : Task). v.struck) (sym same) ∙ e)
        ]) refl a

-- and the other way round
pub stands_live : (T : Tree) (n : ℕ) (x : Task) → task_of T (record { 0 = n }) ≡ Some x → x.struck ≡ None → live_task T n ≡ Some x
stands_live T n x h free = rw (h, free) refl

-- it has that number
pub live_number : (T : Tree) (n : ℕ) (x : Task) → live_task T n ≡ Some x → x.number.0 ≡ n
live_number T n x h = eqb-true x.number.0 n (passes (is_task (record { 0 = n })) T.tasks x (live_stands T n x h).0)
  where
    passes : (p : Task → Bool) (xs : List Task) (x : Task) → find p xs ≡ Some x → p x ≡ true
    passes p [] x h = cc
    passes p (y ∷ ys) x h =
        (elim (p y) as (λ b. p y ≡ b → cond b (Some y) (find p ys) ≡ Some x → p x ≡ true) [
          | true ↦ λ e a. let same : y ≡ x = cc in subst (λ v. p v ≡ true) same e
          | false ↦ λ e a. passes p ys x a
        ]) refl h

-- A change of one task.

abbrev pub KeepsNumber : (Task → Task) → Type 0
KeepsNumber f = (x : Task) → (f x).number ≡ x.number

other_number : (x t n : ℕ) → t ≢ n → (x == t) ≡ true → (x == n) ≡ false
other_number x t n apart e = ne_eqb x n (λ s. apart (sym (eqb-true x t e) ∙ s))

pub change-other : (T : Tree) (f : Task → Task) (t : TaskId) (n : ℕ) → KeepsNumber f → t.0 ≢ n → live_task (change_task f t T) n ≡ live_task T n
change-other T f t n keeps apart =
    ap live_in
    (find_other (is_task (record { 0 = n })) (is_task t) f T.tasks (λ x e. other_number x.number.0 t.0 n apart e) (λ x. ap (λ (v : TaskId). v.0 == n) (keeps x)))

pub change-same : (T : Tree) (f : Task → Task) (t : TaskId) (x : Task) → KeepsNumber f → live_task T t.0 ≡ Some x → (f x).struck ≡ None → live_task (change_task f t T) t.0 ≡ Some (f x)
change-same T f t x keeps h free =
    let found : find (is_task t) (change_task f t T).tasks ≡ Some (f x) = find_same (is_task t) f T.tasks x (λ y. ap (λ (v : TaskId). v.0 == t.0) (keeps y)) (live_stands T t.0 x h).0 in
    ap live_in found ∙ unstruck (f x) free
  where
    unstruck : (y : Task) → y.struck ≡ None → if_unstruck y ≡ Some y
    unstruck y free = rw free refl

-- A task more.

pub add-other : (T : Tree) (x : Task) (n : ℕ) → x.number.0 ≢ n → live_task (add_task x T) n ≡ live_task T n
add-other T x n apart = let e : (x.number.0 == n) ≡ false = ne_eqb x.number.0 n apart in rw e refl

pub add-same : (T : Tree) (x : Task) → live_task (add_task x T) x.number.0 ≡ if_unstruck x
add-same T x = let e : (x.number.0 == x.number.0) ≡ true = eq-eqb x.number.0 x.number.0 refl in rw e refl

-- A task less.

abbrev pub without_task : TaskId → Tree → Tree
without_task t T = record T { tasks = filter (λ y. not (is_task t y)) T.tasks }

pub less-other : (T : Tree) (t : TaskId) (n : ℕ) → t.0 ≢ n → live_task (without_task t T) n ≡ live_task T n
less-other T t n apart =
    ap live_in
    (find_left (is_task (record { 0 = n })) (λ y. not (is_task t y)) T.tasks (λ x e. ap not (ne_eqb x.number.0 t.0 (λ s. apart (sym s ∙ eqb-true x.number.0 n e)))))

pub less-same : (T : Tree) (t : TaskId) → live_task (without_task t T) t.0 ≡ None
less-same T t = ap live_in (find_none (is_task t) T.tasks)

-- A release takes struck tasks alone.

pub none_above : (n k : ℕ) (xs : List Task) → TasksFall k xs → k ≤ n → find (is_task (record { 0 = n })) xs ≡ None
none_above n k [] h le = refl
none_above n k (x ∷ xs) h le =
    let low : x.number.0 < k = h.0 in
    let e : (x.number.0 == n) ≡ false = ne_eqb x.number.0 n (λ s. absurd (omega (arith, s))) in rw e (none_above n x.number.0 xs h.1 (omega arith))

taken : (n k : ℕ) (r : Task → Bool) (xs : List Task) → TasksFall k xs → ((x : Task) → is_none x.struck ≡ true → r x ≡ true) → live_in (find (is_task (record { 0 = n })) (filter r xs)) ≡ live_in (find (is_task (record { 0 = n })) xs)
taken n k r [] h keeps = refl
taken n k r (x ∷ xs) h keeps =
    (elim (x.number.0 == n) as (λ b. (x.number.0 == n) ≡ b → live_in (find (is_task (record { 0 = n })) (cond (r x) (x ∷ filter r xs) (filter r xs))) ≡ live_in (cond b (Some x) (find (is_task (record { 0 = n })) xs))) [
      | true ↦ λ e.
          (elim (r x) as (λ c. r x ≡ c → live_in (find (is_task (record { 0 = n })) (cond c (x ∷ filter r xs) (filter r xs))) ≡ if_unstruck x) [
            | true ↦ λ w. rw e refl
            | false ↦ λ w.
                let same : x.number.0 ≡ n = eqb-true x.number.0 n e in
                let le : x.number.0 ≤ n = omega (arith, same) in
                taken n x.number.0 r xs h.1 keeps ∙ (ap live_in (none_above n x.number.0 xs h.1 le) ∙ sym (is_struck x w))
          ]) refl
      | false ↦ λ e.
          elim (r x) as (λ c. live_in (find (is_task (record { 0 = n })) (cond c (x ∷ filter r xs) (filter r xs))) ≡ live_in (find (is_task (record { 0 = n })) xs)) [
            | true ↦ rw e (taken n x.number.0 r xs h.1 keeps)
            | false ↦ taken n x.number.0 r xs h.1 keeps
          ]
    ]) refl
  where
    is_struck : (x : Task) → r x ≡ false → if_unstruck x ≡ None
    is_struck x w =
        (elim (is_none x.struck) as (λ b. is_none x.struck ≡ b → cond b (Some x) None ≡ None) [ true ↦ λ e. absurd (let f : true ≡ false = sym (keeps x e) ∙ w in let g : ⊥ = cc in g) | false ↦ λ e. refl ]) refl

pub release-live : (T : Tree) (s : ScopeId) (n : ℕ) → TasksFall T.next_task T.tasks → live_task (without T s) n ≡ live_task T n
release-live T s n falls = taken n T.next_task (λ x. not (is_under T s x && is_some x.struck)) T.tasks falls (λ x free. free_stays x free)
  where
    free_stays : (x : Task) → is_none x.struck ≡ true → not (is_under T s x && is_some x.struck) ≡ true
    free_stays x free =
        elim x.struck as (λ o. is_none o ≡ true → not (is_under T s x && is_some o) ≡ true) [
          | None ↦ λ e. elim (is_under T s x) as (λ b. not (b && false) ≡ true) [ true ↦ refl | false ↦ refl ]
          | Some b ↦ λ e. absurd (let f : ⊥ = cc in f)
        ] free

-- A death takes the tasks that it hits.

-- a task that a death does not hit
abbrev pub if_missed : Blow → Option Task → Option Task
if_missed b None = None
if_missed b (Some x) = cond (is_hit b.place x.place) None (Some x)

pub strike-live : (b : Blow) (xs : List Task) (n : ℕ) → live_in (find (is_task (record { 0 = n })) (map (hit b) xs)) ≡ if_missed b (live_in (find (is_task (record { 0 = n })) xs))
strike-live b xs n = ap live_in (find_mapped (is_task (record { 0 = n })) (hit b) xs (λ x. ap (λ (v : TaskId). v.0 == n) (hit-number b x))) ∙ of_found (find (is_task (record { 0 = n })) xs)
  where
    hit-number : (b : Blow) (x : Task) → (hit b x).number ≡ x.number
    hit-number b x = elim (is_none x.struck && is_hit b.place x.place) as (λ c. (cond c (record x { struck = Some b }) x).number ≡ x.number) [ true ↦ refl | false ↦ refl ]

    of_found : (o : Option Task) → live_in (option_map (hit b) o) ≡ if_missed b (live_in o)
    of_found None = refl
    of_found (Some x) = of_struck x x.struck refl
      where
        of_struck : (x : Task) (s : Option Blow) → x.struck ≡ s → if_unstruck (hit b x) ≡ if_missed b (if_unstruck x)
        of_struck x (Some c) e = let w : is_none x.struck ≡ false = ap is_none e in rw (w, w) refl
        of_struck x None e =
            let w : is_none x.struck ≡ true = ap is_none e in
            rw w (elim (is_hit b.place x.place) as (λ c. if_unstruck (cond c (record x { struck = Some b }) x) ≡ cond c None (Some x)) [ true ↦ refl | false ↦ rw w refl ])
