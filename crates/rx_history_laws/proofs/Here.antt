-- Which living tasks are at a place, and what each entry makes of that.
use Rattle.std.proofs.Common.{◌≡◌, ◌⊎◌, ℕ, Bool, true, false, cond, not, ◌&&◌, ◌==◌, List, [], ◌∷◌, map, filter, Option, Some, None, is_some, is_none, option_map, refl, ap, sym, subst, ◌∙◌, inl, inr}
use Rattle.std.specs.List.{list_any, find}
use Rattle.std.proofs.lemmas.Bool.{eqb-true, eq-eqb, ne_eqb, or_cases, or_left, or_right, and_parts, and_from, cond_both, true≢false}
use Rattle.rx_rules.proofs.Common.{PlaceId, TaskId, ScopeId, Fault, Tree, is_task, task_of, is_under, death_of, AllowedAct, made_act, born, waiting, resumed, without, change_first, hit, is_hit, strike}
use Rattle.rx_rules.specs.declared.tasks.Where.{Where}
use Rattle.rx_rules.specs.declared.tasks.Where.TheVariants.{At, Travel}
use Rattle.rx_rules.specs.declared.tasks.Blow.{Blow}
use Rattle.rx_rules.specs.declared.tasks.Task.{Task}
use Rattle.rx_rules.specs.declared.entries.Act.{Act}
use Rattle.rx_rules.specs.declared.entries.Act.TheVariants.{Open, At as Calling, Spawn, Arrive, Wait, Release, End, Print as Printed, Census as Counted}
use Rattle.rx_rules.proofs.Append.{end-tasks}
use Rattle.rx_history_laws.proofs.ToldPairs.{is_free, is_alive}

abbrev pub at_place : ℕ → Where → Bool
at_place p (At w) = w.0 == p
at_place p (Travel from to) = false

-- the row is task c, living, at place p
abbrev pub is_here : ℕ → ℕ → Task → Bool
is_here c p x = (x.number.0 == c) && (is_none x.struck && at_place p x.place)

abbrev pub stays_here : Tree → ℕ → ℕ → Bool
stays_here T c p = list_any (is_here c p) T.tasks

-- such a task is alive
pub here-alive : (T : Tree) (c p : ℕ) → stays_here T c p ≡ true → is_alive T c ≡ true
here-alive T c p = by_rows T.tasks where
  by_rows : (xs : List Task) → list_any (is_here c p) xs ≡ true → list_any (is_free c) xs ≡ true
  by_rows [] h = h
  by_rows (x ∷ xs) h =
      elim (or_cases (is_here c p x) (list_any (is_here c p) xs) h) [
        | inl a ↦
            let one = and_parts (x.number.0 == c) (is_none x.struck && at_place p x.place) a in
            or_left (is_free c x) (list_any (is_free c) xs) (and_from (x.number.0 == c) (is_none x.struck) one.0 (and_parts (is_none x.struck) (at_place p x.place) one.1).0)
        | inr b ↦ or_right (is_free c x) (list_any (is_free c) xs) (by_rows xs b)
      ]

any-change : (p : Task → Bool) (f : Task → Task) (P : Task → Bool) → ((x : Task) → p x ≡ true → P x ≡ true → P (f x) ≡ true) → (xs : List Task) → list_any P xs ≡ true → list_any P (change_first p f xs) ≡ true
any-change p f P keep [] h = h
any-change p f P keep (x ∷ xs) h =
    cond_both (p x) (f x ∷ xs) (x ∷ change_first p f xs) (λ l. list_any P l ≡ true)
    (λ e. elim (or_cases (P x) (list_any P xs) h) [
      | inl a ↦ or_left (P (f x)) (list_any P xs) (keep x e a)
      | inr b ↦ or_right (P (f x)) (list_any P xs) b
    ])
    (λ e. elim (or_cases (P x) (list_any P xs) h) [
      | inl a ↦ or_left (P x) (list_any P (change_first p f xs)) a
      | inr b ↦ or_right (P x) (list_any P (change_first p f xs)) (any-change p f P keep xs b)
    ])

any-filter : (keep P : Task → Bool) → ((x : Task) → P x ≡ true → keep x ≡ true) → (xs : List Task) → list_any P xs ≡ true → list_any P (filter keep xs) ≡ true
any-filter keep P stay [] h = h
any-filter keep P stay (x ∷ xs) h =
    elim (or_cases (P x) (list_any P xs) h) [
      | inl a ↦ rw (stay x a) (or_left (P x) (list_any P (filter keep xs)) a)
      | inr b ↦
          let rest = any-filter keep P stay xs b in
          cond_both (keep x) (x ∷ filter keep xs) (filter keep xs) (λ l. list_any P l ≡ true) (λ e. or_right (P x) (list_any P (filter keep xs)) rest) (λ e. rest)
    ]

any-map : (f : Task → Task) (P : Task → Bool) → ((x : Task) → P x ≡ true → P (f x) ≡ true) → (xs : List Task) → list_any P xs ≡ true → list_any P (map f xs) ≡ true
any-map f P keep [] h = h
any-map f P keep (x ∷ xs) h =
    elim (or_cases (P x) (list_any P xs) h) [
      | inl a ↦ or_left (P (f x)) (list_any P (map f xs)) (keep x a)
      | inr b ↦ or_right (P (f x)) (list_any P (map f xs)) (any-map f P keep xs b)
    ]

-- the row that is changed first is at the place after it
any-found : (p : Task → Bool) (f : Task → Task) (P : Task → Bool) (x : Task) → P (f x) ≡ true → (xs : List Task) → find p xs ≡ Some x → list_any P (change_first p f xs) ≡ true
any-found p f P x k [] h = cc
any-found p f P x k (y ∷ ys) h = found_step y ys (p y) refl h (any-found p f P x k ys) where
  found_step : (y : Task) (ys : List Task) (b : Bool) → p y ≡ b → find p (y ∷ ys) ≡ Some x → (find p ys ≡ Some x → list_any P (change_first p f ys) ≡ true) → list_any P (change_first p f (y ∷ ys)) ≡ true
  found_step y ys true e h on =
      let same : y ≡ x = let g : Some y ≡ Some x = rw e at h in cc in
      rw e (or_left (P (f y)) (list_any P ys) (subst (λ v. P (f v) ≡ true) (sym same) k))
  found_step y ys false e h on = rw e (or_right (P y) (list_any P (change_first p f ys)) (on (rw e at h)))

unstruck_stays : (T : Tree) (s : ScopeId) (c p : ℕ) (x : Task) → is_here c p x ≡ true → not (is_under T s x && is_some x.struck) ≡ true
unstruck_stays T s c p x h =
    let free : is_none x.struck ≡ true = (and_parts (is_none x.struck) (at_place p x.place) (and_parts (x.number.0 == c) (is_none x.struck && at_place p x.place) h).1).0 in
    by_struck (is_under T s x) x.struck free
  where
    by_struck : (y : Bool) (o : Option Blow) → is_none o ≡ true → not (y && is_some o) ≡ true
    by_struck true None e = refl
    by_struck false None e = refl
    by_struck y (Some v) e = absurd (true≢false (sym e))

-- a release takes no living task away
pub here-without : (T : Tree) (s : ScopeId) (c p : ℕ) → stays_here T c p ≡ true → stays_here (without T s) c p ≡ true
here-without T s c p = any-filter (λ x. not (is_under T s x && is_some x.struck)) (is_here c p) (unstruck_stays T s c p) T.tasks

other_row : (t : TaskId) (c p : ℕ) (x : Task) → (t.0 ≡ c → ⊥) → is_task t x ≡ true → is_here c p x ≡ true → ⊥
other_row t c p x o e h =
    o (sym (eqb-true x.number.0 t.0 e) ∙ eqb-true x.number.0 c (and_parts (x.number.0 == c) (is_none x.struck && at_place p x.place) h).0)

not_task : (t : TaskId) (c p : ℕ) (x : Task) (y : Bool) → is_task t x ≡ y → (t.0 ≡ c → ⊥) → is_here c p x ≡ true → not y ≡ true
not_task t c p x true e o h = absurd (other_row t c p x o e h)
not_task t c p x false e o h = refl

-- an act of another task, and one that is neither arrival nor end, leaves it
pub here-act : (T : Tree) (t : TaskId) (act : Act) (c p : ℕ) → AllowedAct T t act → (t.0 ≡ c → ⊥) ⊎ (((w : PlaceId) → act ≡ Arrive w → ⊥) × ((faults : List Fault) → act ≡ End faults → ⊥)) → stays_here T c p ≡ true → stays_here (made_act T t act) c p ≡ true
here-act T t (Open s r x) c p a o h = h
here-act T t (Calling from to s r d x) c p a o h =
    any-change (is_task t) waiting (is_here c p) (λ y e k. k) (born T d s from to ∷ T.tasks) (or_right (is_here c p (born T d s from to)) (list_any (is_here c p) T.tasks) h)
here-act T t (Spawn d s from to x) c p a o h = or_right (is_here c p (born T d s from to)) (list_any (is_here c p) T.tasks) h
here-act T t (Arrive w) c p a (inl o) h =
    any-change (is_task t) (λ x. record x { place = At w }) (is_here c p) (λ y e k. absurd (other_row t c p y o e k)) T.tasks h
here-act T t (Arrive w) c p a (inr o) h = absurd (o.0 w refl)
here-act T t (Wait s thrown) c p a o h = any-change (is_task t) waiting (is_here c p) (λ y e k. k) T.tasks h
here-act T t (Release s lost masked thrown) c p a o h =
    any-change (is_task t) resumed (is_here c p) (λ y e k. k) (without T s).tasks (here-without T s c p h)
here-act T t (End thrown) c p a (inl o) h =
    subst (λ xs. list_any (is_here c p) xs ≡ true) (sym (end-tasks T t thrown a.task a.stands))
    (any-filter (λ y. not (is_task t y)) (is_here c p) (λ y k. not_task t c p y (is_task t y) refl o k) T.tasks h)
here-act T t (End thrown) c p a (inr o) h = absurd (o.1 thrown refl)
here-act T t (Printed value x) c p a o h = h
here-act T t (Counted places x) c p a o h = h

-- the death of another place leaves it
pub here-death : (T : Tree) (b : Blow) (c p : ℕ) → (b.place.0 ≡ p → ⊥) → stays_here T c p ≡ true → stays_here (strike b T) c p ≡ true
here-death T b c p o = any-map (hit b) (is_here c p) unhit T.tasks where
  far : (w : Where) → at_place p w ≡ true → is_hit b.place w ≡ false
  far (At q) e = ne_eqb q.0 b.place.0 (λ k. o (sym k ∙ eqb-true q.0 p e))
  far (Travel from to) e = absurd (true≢false (sym e))

  unhit : (x : Task) → is_here c p x ≡ true → is_here c p (hit b x) ≡ true
  unhit x h =
      let at : at_place p x.place ≡ true = (and_parts (is_none x.struck) (at_place p x.place) (and_parts (x.number.0 == c) (is_none x.struck && at_place p x.place) h).1).1 in
      cond_both (is_none x.struck && is_hit b.place x.place) (record x { struck = Some b }) x (λ y. is_here c p y ≡ true)
      (λ e. absurd (true≢false (sym (and_parts (is_none x.struck) (is_hit b.place x.place) e).1 ∙ far x.place at)))
      (λ e. h)

-- a task that arrives at the place is there
pub here-lands : (T : Tree) (t : TaskId) (w : PlaceId) (x : Task) → task_of T t ≡ Some x → x.number.0 ≡ t.0 → x.struck ≡ None → stays_here (made_act T t (Arrive w)) t.0 w.0 ≡ true
here-lands T t w x stands number free =
    any-found (is_task t) (λ x. record x { place = At w }) (is_here t.0 w.0) x
    (and_from (x.number.0 == t.0) (is_none x.struck && (w.0 == w.0)) (eq-eqb x.number.0 t.0 number) (and_from (is_none x.struck) (w.0 == w.0) (ap is_none free) (eq-eqb w.0 w.0 refl)))
    T.tasks stands

-- a task that is born for the place where its starter is, and that lives, is there
born_here : (T : Tree) (d : TaskId) (s : ScopeId) (from to : PlaceId) → (from.0 == to.0) ≡ true → death_of T to ≡ None → is_here d.0 to.0 (born T d s from to) ≡ true
born_here T d s from to e dead =
    let at : at_place to.0 (cond (from.0 == to.0) (At to) (Travel from to)) ≡ true = rw e (eq-eqb to.0 to.0 refl) in
    let free : is_none {T = Blow} (option_map (λ n. record { place = to; entry = n }) (death_of T to)) ≡ true = ap (λ (o : Option ℕ). is_none {T = Blow} (option_map (λ n. record { place = to; entry = n }) o)) dead in
    and_from (d.0 == d.0) (is_none (born T d s from to).struck && at_place to.0 (born T d s from to).place) (eq-eqb d.0 d.0 refl) (and_from (is_none (born T d s from to).struck) (at_place to.0 (born T d s from to).place) free at)

pub here-called : (T : Tree) (t : TaskId) (s r : ScopeId) (d : TaskId) (from to : PlaceId) (x : List ℕ) → (from.0 == to.0) ≡ true → death_of T to ≡ None → stays_here (made_act T t (Calling from to s r d x)) d.0 to.0 ≡ true
here-called T t s r d from to x e dead =
    any-change (is_task t) waiting (is_here d.0 to.0) (λ y i k. k) (born T d s from to ∷ T.tasks) (or_left (is_here d.0 to.0 (born T d s from to)) (list_any (is_here d.0 to.0) T.tasks) (born_here T d s from to e dead))

pub here-spawned : (T : Tree) (t : TaskId) (d : TaskId) (s : ScopeId) (from to : PlaceId) (x : List ℕ) → (from.0 == to.0) ≡ true → death_of T to ≡ None → stays_here (made_act T t (Spawn d s from to x)) d.0 to.0 ≡ true
here-spawned T t d s from to x e dead =
    or_left (is_here d.0 to.0 (born T d s from to)) (list_any (is_here d.0 to.0) T.tasks) (born_here T d s from to e dead)
