-- Rows of living tasks, the scopes that they hang under, and their chains.
use Rattle.std.proofs.Common.{◌≡◌, ◌⊎◌, ℕ, ◌<◌, Bool, true, false, cond, ◌&&◌, ◌||◌, ◌==◌, List, [], ◌∷◌, ◌++◌, filter, Some, is_none, refl, ap, sym, subst, ◌∙◌, arith, inl, inr}
use Rattle.std.specs.List.{list_any, find}
use Rattle.std.proofs.lemmas.Bool.{eqb-true, eq-eqb, ne_eqb, or_parts, or_cases, or_left, or_right, or_from, and_parts, not-true, true≢false}
use Rattle.std.proofs.lemmas.List.Folds.{list_any-append}
use Rattle.rx_rules.proofs.Common.{TaskId, ScopeId, PlaceId, Tree, is_task, task_of, is_under, quiet, TaskBirth, is_on, walk, links, born_so_far, is_born}
use Rattle.rx_rules.specs.declared.tasks.Where.TheVariants.{Travel}
use Rattle.rx_rules.specs.declared.tasks.Task.{Task}
use Rattle.rx_rules.specs.declared.entries.Entry.{Entry}
use Rattle.rx_rules.proofs.Lookups.{number-of}
use Rattle.rx_history_laws.proofs.Lines.{Bone, bones, nums, line, has-below, on_chain-line}
use Rattle.rx_history_laws.proofs.Aligned.{Facts, facts, IsWhere, has_moved, IsRow, Aligned, none, out, row, BirthsOk}
use Rattle.rx_history_laws.proofs.Ties.{Tied}
use Rattle.rx_history_laws.proofs.Owners.{top}
use Rattle.rx_history_laws.proofs.ToldPairs.{is_free, is_alive}

-- the scope that task c was born under
abbrev pub under_in : List TaskBirth → ℕ → ℕ
under_in [] c = 0
under_in (b ∷ bs) c = cond (b.task == c) b.under (under_in bs c)

-- the place that task c was born for
abbrev pub to_in : List TaskBirth → ℕ → ℕ
to_in [] c = 0
to_in (b ∷ bs) c = cond (b.task == c) b.to (to_in bs c)

abbrev pub In : Task → List Task → Type 0
In x [] = ⊥
In x (y ∷ ys) = (x ≡ y) ⊎ In x ys

find-in : (p : Task → Bool) (xs : List Task) (x : Task) → find p xs ≡ Some x → In x xs
find-in p [] x h = cc
find-in p (y ∷ ys) x h = in_step y ys (p y) refl (find-in p ys x) h where
  in_step : (y : Task) (ys : List Task) (b : Bool) → p y ≡ b → (find p ys ≡ Some x → In x ys) → find p (y ∷ ys) ≡ Some x → In x (y ∷ ys)
  in_step y ys true e on h = let k : Some y ≡ Some x = rw e at h in inl (let same : y ≡ x = cc in sym same)
  in_step y ys false e on h = inr (on (rw e at h))

any-in : (p : Task → Bool) (xs : List Task) → list_any p xs ≡ true → (x : Task) × In x xs × (p x ≡ true)
any-in p [] h = cc
any-in p (y ∷ ys) h =
    elim (or_cases (p y) (list_any p ys) h) [
      | inl e ↦ (y, inl refl, e)
      | inr k ↦ let r = any-in p ys k in (r.0, inr r.1, r.2)
    ]

none-in : (p : Task → Bool) (xs : List Task) → list_any p xs ≡ false → (x : Task) → In x xs → p x ≡ false
none-in p [] h x i = absurd i
none-in p (y ∷ ys) h x (inl e) = ap p e ∙ (or_parts (p y) (list_any p ys) h).0
none-in p (y ∷ ys) h x (inr i) = none-in p ys (or_parts (p y) (list_any p ys) h).1 x i

pub record RowOf (F : Facts) (B : List Bone) (bs : List TaskBirth) (n : ℕ) (x : Task) : Type 0 where
  pub birth : TaskBirth
  pub is_row : IsRow F B birth x
  pub low : birth.task < n
  pub under : under_in bs birth.task ≡ birth.under
  pub to : to_in bs birth.task ≡ birth.to

further : (F : Facts) (B : List Bone) (b : TaskBirth) (bs : List TaskBirth) (n : ℕ) (x : Task) → b.task < n → RowOf F B bs b.task x → RowOf F B (b ∷ bs) n x
further F B b bs n x h r =
    record {
      birth = r.birth;
      is_row = r.is_row;
      low = (let k : r.birth.task < b.task = r.low in omega arith);
      under = rw (ne_eqb b.task r.birth.task (λ e. let k : r.birth.task < b.task = r.low in omega arith)) r.under;
      to = rw (ne_eqb b.task r.birth.task (λ e. let k : r.birth.task < b.task = r.low in omega arith)) r.to;
    }

row-of : (F : Facts) (B : List Bone) (born : ℕ → Bool) (n m : ℕ) {bs : List TaskBirth} {xs : List Task} → BirthsOk born n m bs → Aligned F B bs xs → (x : Task) → In x xs → RowOf F B bs n x
row-of F B born n m h none x i = absurd i
row-of F B born n m h (out {b = b} {bs = bs} o a) x i = further F B b bs n x h.0 (row-of F B born b.task m h.3 a x i)
row-of F B born n m h (row {b = b} {x = y} {bs = bs} r a) x (inl e) =
    record { birth = b; is_row = subst (IsRow F B b) (sym e) r; low = h.0; under = rw (eq-eqb b.task b.task refl); to = rw (eq-eqb b.task b.task refl) }
row-of F B born n m h (row {b = b} {x = y} {bs = bs} r a) x (inr i) = further F B b bs n x h.0 (row-of F B born b.task m h.3 a x i)

module _ (past : List Entry) (T : Tree) (i : Tied past T) where
  -- a row tells the scope that its task was born under
  row_under : (x : Task) → In x T.tasks → (x.under.0 ≡ under_in (born_so_far past) x.number.0) × (is_on x.under.0 (nums (bones T)) ≡ true)
  row_under x k =
      let r = row-of (facts past) (bones T) (is_born past) T.next_task T.next_scope i.births i.tasks x k in (
        r.is_row.under ∙ sym r.under ∙ ap (under_in (born_so_far past)) (sym r.is_row.number),
        subst (λ n. is_on n (nums (bones T)) ≡ true) (sym r.is_row.under) r.is_row.stands,
      )

  pub task-under : (t : TaskId) (x : Task) → task_of T t ≡ Some x → x.under.0 ≡ under_in (born_so_far past) t.0
  task-under t x h = (row_under x (find-in (is_task t) T.tasks x h)).0 ∙ ap (under_in (born_so_far past)) (number-of T t x h)

  -- a task that travels goes where it was born for
  pub travels-to : (t : TaskId) (x : Task) (from w : PlaceId) → task_of T t ≡ Some x → x.place ≡ Travel from w → w.0 ≡ to_in (born_so_far past) t.0
  travels-to t x from w h e =
      let r = row-of (facts past) (bones T) (is_born past) T.next_task T.next_scope i.births i.tasks x (find-in (is_task t) T.tasks x h) in
      let at : IsWhere (has_moved (facts past) r.birth) r.birth (Travel from w) = subst (IsWhere (has_moved (facts past) r.birth) r.birth) e r.is_row.place in
      let same : r.birth.task ≡ t.0 = sym r.is_row.number ∙ number-of T t x h in
      at.2 ∙ sym r.to ∙ ap (to_in (born_so_far past)) same

  -- the scope that a living task hangs under stands
  pub living-stands : (c : ℕ) → is_alive T c ≡ true → is_on (under_in (born_so_far past) c) (nums (bones T)) ≡ true
  living-stands c h =
      let x = any-in (is_free c) T.tasks h in
      let r = row_under x.0 x.1 in
      let same : x.0.number.0 ≡ c = eqb-true x.0.number.0 c (and_parts (x.0.number.0 == c) (is_none x.0.struck) x.2).0 in
      subst (λ n. is_on n (nums (bones T)) ≡ true) (r.0 ∙ ap (under_in (born_so_far past)) same) r.1

  pub living-born : (c : ℕ) → is_alive T c ≡ true → c < T.next_task
  living-born c h =
      let x = any-in (is_free c) T.tasks h in
      let r = row-of (facts past) (bones T) (is_born past) T.next_task T.next_scope i.births i.tasks x.0 x.1 in
      let same : x.0.number.0 ≡ c = eqb-true x.0.number.0 c (and_parts (x.0.number.0 == c) (is_none x.0.struck) x.2).0 in
      let it : x.0.number.0 ≡ r.birth.task = r.is_row.number in
      let low : r.birth.task < T.next_task = r.low in
      omega arith

  pub living-low : (c : ℕ) → is_alive T c ≡ true → under_in (born_so_far past) c < T.next_scope
  living-low c h = has-below T.next_scope (under_in (born_so_far past) c) (bones T) i.falls (living-stands c h)

  -- where s is quiet, no living task hangs under it
  pub quiet-under : (s : ScopeId) → quiet T s ≡ true → (c : ℕ) → is_alive T c ≡ true → is_on s.0 (walk (links past) (under_in (born_so_far past) c)) ≡ false
  quiet-under s still c h =
      let x = any-in (is_free c) T.tasks h in
      let r = row_under x.0 x.1 in
      let parts = and_parts (x.0.number.0 == c) (is_none x.0.struck) x.2 in
      let same : x.0.number.0 ≡ c = eqb-true x.0.number.0 c parts.0 in
      let off : (is_under T s x.0 && is_none x.0.struck) ≡ false = none-in (λ y. is_under T s y && is_none y.struck) T.tasks (not-true (list_any (λ y. is_under T s y && is_none y.struck) T.tasks) still) x.0 x.1 in
      let away : is_under T s x.0 ≡ false = and_first (is_under T s x.0) (is_none x.0.struck) parts.1 off in
      let same_under : x.0.under.0 ≡ under_in (born_so_far past) c = r.0 ∙ ap (under_in (born_so_far past)) same in
      ap (is_on s.0) (sym (i.scopes (under_in (born_so_far past) c) (living-stands c h)).walks)
      ∙ ap (λ n. is_on s.0 (nums (line (bones T) (Some n)))) (sym same_under)
      ∙ sym (on_chain-line T s x.0.under)
      ∙ away
    where
      and_first : (y z : Bool) → z ≡ true → (y && z) ≡ false → y ≡ false
      and_first true z e f = absurd (true≢false (sym e ∙ f))
      and_first false z e f = refl

-- Chains of the scopes that a task has opened, the newest first: each goes on with the next, the last with u.

abbrev pub Linked : (ℕ → List ℕ) → ℕ → List ℕ → Type 0
Linked w u [] = Unit {0}
Linked w u (n ∷ ns) = (w n ≡ n ∷ w (top u ns)) × Linked w u ns

linked-walk : (w : ℕ → List ℕ) (u : ℕ) (ns : List ℕ) → Linked w u ns → w (top u ns) ≡ ns ++ w u
linked-walk w u [] h = refl
linked-walk w u (n ∷ ns) h = h.0 ∙ ap (λ l. n ∷ l) (linked-walk w u ns h.1)

has-append : (s : ℕ) (ns ms : List ℕ) → is_on s (ns ++ ms) ≡ (is_on s ns || is_on s ms)
has-append s ns ms = list_any-append (λ g. g == s) ns ms

-- what a task opened, and what is on the chain of the scope that it hangs under, is on its innermost chain
pub linked-own : (w : ℕ → List ℕ) (u : ℕ) (ns : List ℕ) → Linked w u ns → (s : ℕ) → is_on s ns ≡ true → is_on s (w (top u ns)) ≡ true
linked-own w u ns h s k = ap (is_on s) (linked-walk w u ns h) ∙ has-append s ns (w u) ∙ or_left (is_on s ns) (is_on s (w u)) k

pub linked-under : (w : ℕ → List ℕ) (u : ℕ) (ns : List ℕ) → Linked w u ns → (s : ℕ) → is_on s (w u) ≡ true → is_on s (w (top u ns)) ≡ true
linked-under w u ns h s k = ap (is_on s) (linked-walk w u ns h) ∙ has-append s ns (w u) ∙ or_right (is_on s ns) (is_on s (w u)) k

-- what is neither is on the chain of none of them
pub linked-off : (w : ℕ → List ℕ) (u : ℕ) (ns : List ℕ) → Linked w u ns → (s : ℕ) → is_on s ns ≡ false → is_on s (w u) ≡ false → (n : ℕ) → is_on n ns ≡ true → is_on s (w n) ≡ false
linked-off w u [] h s a b n k = cc
linked-off w u (m ∷ ns) h s a b n k =
    let parts = or_parts (m == s) (is_on s ns) a in
    elim (or_cases (m == n) (is_on n ns) k) [
      | inl e ↦ subst (λ v. is_on s (w v) ≡ false) (eqb-true m n e)
          (ap (is_on s) h.0 ∙ or_from (m == s) (is_on s (w (top u ns))) parts.0 (ap (is_on s) (linked-walk w u ns h.1) ∙ has-append s ns (w u) ∙ or_from (is_on s ns) (is_on s (w u)) parts.1 b))
      | inr e ↦ linked-off w u ns h.1 s parts.1 b n e
    ]

pub linked-same : (w v : ℕ → List ℕ) (k u : ℕ) (ns : List ℕ) → ((n : ℕ) → n < k → v n ≡ w n) → u < k → ((n : ℕ) → is_on n ns ≡ true → n < k) → Linked w u ns → Linked v u ns
linked-same w v k u [] same low all h = tt
linked-same w v k u (n ∷ ns) same low all h = (
  same n (all n (or_left (n == n) (is_on n ns) (eq-eqb n n refl))) ∙ h.0 ∙ ap (λ l. n ∷ l) (sym (same (top u ns) (top_low u ns low (λ m g. all m (or_right (n == m) (is_on m ns) g))))),
  linked-same w v k u ns same low (λ m g. all m (or_right (n == m) (is_on m ns) g)) h.1,
)
  where
    top_low : (u : ℕ) (ns : List ℕ) → u < k → ((m : ℕ) → is_on m ns ≡ true → m < k) → top u ns < k
    top_low u [] low all = low
    top_low u (m ∷ ns) low all = all m (or_left (m == m) (is_on m ns) (eq-eqb m m refl))

-- a filter that all pass
pub filter-all : (test : ℕ → Bool) (ns : List ℕ) → ((n : ℕ) → is_on n ns ≡ true → test n ≡ true) → filter test ns ≡ ns
filter-all test [] h = refl
filter-all test (n ∷ ns) h =
    let e : test n ≡ true = h n (or_left (n == n) (is_on n ns) (eq-eqb n n refl)) in
    rw e (ap (λ l. n ∷ l) (filter-all test ns (λ m k. h m (or_right (n == m) (is_on m ns) k))))
