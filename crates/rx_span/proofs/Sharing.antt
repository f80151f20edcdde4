-- How far paths go together, where they come one after the other.
use Rattle.std.proofs.Common.{◌≡◌, ◌⊎◌, ℕ, zero, suc, ◌+◌, ◌<◌, ◌≤◌, min, true, cond, ◌==◌, nat_lt, List, [], ◌∷◌, length, drop, Some, slice_get, slice_index, refl, ap, sym, subst, ◌∙◌, arith, inl, inr, ⊎_elim}
use Rattle.std.proofs.lemmas.Bool.{eq-eqb, ne_eqb, ltb-true, lt-ltb, le-ltb, cases_eq, cond_both, true≢false, false_from_ne_true, cases_order}
use Rattle.std.proofs.lemmas.Bool.Decides.{nat_tests}
use Rattle.std.proofs.lemmas.List.{drop_all}
use Rattle.std.proofs.lemmas.Option.{same_Some}
use Rattle.rx_rules.proofs.Common.{Block, Stmt, Async, AtAsync, At, Finish, If, Repeat, Try, Nothing, Then, comes_before}
use Rattle.rx_history_laws.proofs.Paths.{Starts, comes_before-below, starts-not_below}
use Rattle.rx_order.specs.Marks.{marks, marks_in, marks_of}
use Rattle.rx_span.specs.Paths.{Names, NamesIn, IsPath, ComesBefore}
use Rattle.rx_span.specs.Inside.Sorting.{comes, shared}
use Rattle.rx_span.specs.Inside.Kept.{leads}
use Rattle.rx_span.proofs.Forks.{Fork, fork-before_in}

-- Paths in order.

-- the test
pub comes-true : (x y : List ℕ) → comes x y ≡ true → ComesBefore x y
comes-true [] [] h = absurd (true≢false (sym h))
comes-true [] (j ∷ y) h = tt
comes-true (i ∷ x) [] h = absurd (true≢false (sym h))
comes-true (i ∷ x) (j ∷ y) h = by_order (comes-true x y) (cases_order i j) h
  where
    by_order : (comes x y ≡ true → ComesBefore x y) → (i ≡ j) ⊎ ((i < j) ⊎ (j < i)) → cond (i == j) (comes x y) (nat_lt i j) ≡ true → (i < j) ⊎ ((i ≡ j) × ComesBefore x y)
    by_order f (inl e) k = inr (e, f (rw (eq-eqb i j e) at k))
    by_order f (inr (inl l)) k = inl l
    by_order f (inr (inr l)) k = inl (ltb-true i j (rw (ne_eqb i j (λ e. omega arith)) at k))

pub true-comes : (x y : List ℕ) → ComesBefore x y → comes x y ≡ true
true-comes [] [] h = absurd h
true-comes [] (j ∷ y) h = refl
true-comes (i ∷ x) [] h = absurd h
true-comes (i ∷ x) (j ∷ y) (inl h) = rw (ne_eqb i j (λ e. omega arith), lt-ltb i j h) refl
true-comes (i ∷ x) (j ∷ y) (inr h) = rw (eq-eqb i j h.0) (true-comes x y h.1)

-- one of them comes first
pub comes-either : (x y : List ℕ) → (x ≡ y) ⊎ (ComesBefore x y ⊎ ComesBefore y x)
comes-either [] [] = inl refl
comes-either [] (j ∷ y) = inr (inl tt)
comes-either (i ∷ x) [] = inr (inr tt)
comes-either (i ∷ x) (j ∷ y) = by_order (cases_order i j) (comes-either x y)
  where
    by_order : (i ≡ j) ⊎ ((i < j) ⊎ (j < i)) → (x ≡ y) ⊎ (ComesBefore x y ⊎ ComesBefore y x) → (i ∷ x ≡ j ∷ y) ⊎ (ComesBefore (i ∷ x) (j ∷ y) ⊎ ComesBefore (j ∷ y) (i ∷ x))
    by_order (inl e) (inl f) = inl (cc (e, f))
    by_order (inl e) (inr (inl f)) = inr (inl (inr (e, f)))
    by_order (inl e) (inr (inr f)) = inr (inr (inr (sym e, f)))
    by_order (inr (inl l)) k = inr (inl (inl l))
    by_order (inr (inr l)) k = inr (inr (inl l))

-- the number at a place of the list
pub at-index : (x : List ℕ) (k : ℕ) → k < length x → slice_get x k ≡ Some (slice_index x k)
at-index [] k low = absurd (omega arith)
at-index (i ∷ x) zero low = refl
at-index (i ∷ x) (suc k) low = at-index x k (omega arith)

-- How far they go together.

pub shared-more : (i j : ℕ) (x y : List ℕ) → i ≡ j → shared (i ∷ x) (j ∷ y) ≡ suc (shared x y)
shared-more i j x y e = rw (eq-eqb i j e) refl

pub shared-none : (i j : ℕ) (x y : List ℕ) → (i ≡ j → ⊥) → shared (i ∷ x) (j ∷ y) ≡ 0
shared-none i j x y e = rw (ne_eqb i j e) refl

pub shared-left : (x y : List ℕ) → shared x y ≤ length x
shared-left [] y = omega arith
shared-left (i ∷ x) [] = omega arith
shared-left (i ∷ x) (j ∷ y) = cond_both (i == j) (suc (shared x y)) 0 (λ n. n ≤ suc (length x)) (λ e. (let h = shared-left x y in omega arith)) (λ e. omega arith)

pub shared-right : (x y : List ℕ) → shared x y ≤ length y
shared-right [] y = omega arith
shared-right (i ∷ x) [] = omega arith
shared-right (i ∷ x) (j ∷ y) = cond_both (i == j) (suc (shared x y)) 0 (λ n. n ≤ suc (length y)) (λ e. (let h = shared-right x y in omega arith)) (λ e. omega arith)

-- of three paths in order
pub shared-min : (x y z : List ℕ) → ComesBefore x y → ComesBefore y z → shared x z ≡ min (shared x y) (shared y z)
shared-min [] y z h k = omega arith
shared-min (i ∷ x) [] z h k = absurd h
shared-min (i ∷ x) (j ∷ y) [] h k = absurd k
shared-min (i ∷ x) (j ∷ y) (l ∷ z) (inl h) (inl k) = rw (shared-none i l x z (λ e. omega arith), shared-none i j x y (λ e. omega arith)) (omega arith)
shared-min (i ∷ x) (j ∷ y) (l ∷ z) (inl h) (inr k) = let e = k.0 in rw (shared-none i l x z (λ e. omega arith), shared-none i j x y (λ e. omega arith)) (omega arith)
shared-min (i ∷ x) (j ∷ y) (l ∷ z) (inr h) (inl k) = let e = h.0 in rw (shared-none i l x z (λ e. omega arith), shared-none j l y z (λ e. omega arith)) (omega arith)
shared-min (i ∷ x) (j ∷ y) (l ∷ z) (inr h) (inr k) =
    let r = shared-min x y z h.1 k.1 in rw (shared-more i l x z (h.0 ∙ k.0), shared-more i j x y h.0, shared-more j l y z k.0) (omega arith)

-- they part there, or the first begins the second
pub fork-or-start : (x y : List ℕ) → ComesBefore x y → Fork x y (shared x y) ⊎ (Starts x y × (shared x y ≡ length x))
fork-or-start [] [] h = absurd h
fork-or-start [] (j ∷ y) h = inr (tt, refl)
fork-or-start (i ∷ x) [] h = absurd h
fork-or-start (i ∷ x) (j ∷ y) (inl h) = inl (subst (Fork (i ∷ x) (j ∷ y)) (sym (shared-none i j x y (λ e. omega arith))) h)
fork-or-start (i ∷ x) (j ∷ y) (inr h) =
    ⊎_elim (λ (f : Fork x y (shared x y)). inl (subst (Fork (i ∷ x) (j ∷ y)) (sym (shared-more i j x y h.0)) (h.0, f)))
    (λ (s : Starts x y × (shared x y ≡ length x)). inr ((h.0, s.0), shared-more i j x y h.0 ∙ ap suc s.1)) (fork-or-start x y h.1)

-- a path has as many marks as numbers
mutual
  marks-all : (s : Stmt) (x : List ℕ) → Names s x → length (marks s x) ≡ length x
  marks-all (Async body) [] n = refl
  marks-all (Async body) (i ∷ x) n = marks-all_in body i x n
  marks-all (AtAsync place body) [] n = refl
  marks-all (AtAsync place body) (i ∷ x) n = marks-all_in body i x n
  marks-all (At place body) [] n = refl
  marks-all (At place body) (i ∷ x) n = marks-all_in body i x n
  marks-all (Finish body) [] n = refl
  marks-all (Finish body) (i ∷ x) n = marks-all_in body i x n
  marks-all (If test first other) [] n = refl
  marks-all (If test first other) (zero ∷ []) n = absurd n
  marks-all (If test first other) (zero ∷ i ∷ x) n = ap suc (marks-all_in first i x n)
  marks-all (If test first other) (suc zero ∷ []) n = absurd n
  marks-all (If test first other) (suc zero ∷ i ∷ x) n = ap suc (marks-all_in other i x n)
  marks-all (If test first other) (suc (suc k) ∷ x) n = absurd n
  marks-all (Repeat times body) [] n = refl
  marks-all (Repeat times body) (k ∷ []) n = absurd n
  marks-all (Repeat times body) (k ∷ i ∷ x) n = ap suc (marks-all_in body i x n)
  marks-all (Try body dead_only handler) [] n = refl
  marks-all (Try body dead_only handler) (zero ∷ []) n = absurd n
  marks-all (Try body dead_only handler) (zero ∷ i ∷ x) n = ap suc (marks-all_in body i x n)
  marks-all (Try body dead_only handler) (suc zero ∷ []) n = absurd n
  marks-all (Try body dead_only handler) (suc zero ∷ i ∷ x) n = ap suc (marks-all_in handler i x n)
  marks-all (Try body dead_only handler) (suc (suc k) ∷ x) n = absurd n
  marks-all s [] n = refl
  marks-all s (i ∷ x) n = absurd n

  marks-all_in : (b : Block) (i : ℕ) (x : List ℕ) → NamesIn b i x → length (marks_in b i x) ≡ suc (length x)
  marks-all_in Nothing i x n = absurd n
  marks-all_in (Then first rest) zero x n = ap suc (marks-all first x n)
  marks-all_in (Then first rest) (suc i) x n = marks-all_in rest i x n

pub marks_of-all : (code : Block) (x : List ℕ) → IsPath code x → length (marks_of code x) ≡ length x
marks_of-all code [] n = absurd n
marks_of-all code (i ∷ x) n = marks-all_in code i x n

-- of two paths of a script in order, the first is before the second exactly if it leads from where they part
pub before-leads : (code : Block) (x y : List ℕ) → IsPath code x → IsPath code y → ComesBefore x y → comes_before code x y ≡ leads (drop (shared x y) (marks_of code x))
before-leads code [] y n m h = absurd n
before-leads code (i ∷ x) [] n m h = absurd h
before-leads code (i ∷ x) (j ∷ y) n m h =
    ⊎_elim (λ (f : Fork (i ∷ x) (j ∷ y) (shared (i ∷ x) (j ∷ y))). fork-before_in code i x j y (shared (i ∷ x) (j ∷ y)) n m f)
    (λ (s : Starts (i ∷ x) (j ∷ y) × (shared (i ∷ x) (j ∷ y) ≡ suc (length x))). (
    let none : drop (shared (i ∷ x) (j ∷ y)) (marks_in code i x) ≡ [] = drop_all (shared (i ∷ x) (j ∷ y)) (marks_in code i x) (let l = marks-all_in code i x n in let e = s.1 in omega arith) in
    false_from_ne_true (comes_before code (i ∷ x) (j ∷ y)) (λ e. starts-not_below (i ∷ x) (j ∷ y) s.0 (comes_before-below code (i ∷ x) (j ∷ y) e)) ∙ sym (ap leads none)))
    (fork-or-start (i ∷ x) (j ∷ y) h)

-- The order of two paths, from how far they go together.

same-test : (m n : ℕ) → nat_lt m n ≡ nat_lt (suc m) (suc n)
same-test m n = grind (arith, nat_tests)

pub order-at : (x y : List ℕ) (i j : ℕ) → slice_get x (shared x y) ≡ Some i → slice_get y (shared x y) ≡ Some j → comes x y ≡ nat_lt i j
order-at [] y i j e f = cc
order-at (k ∷ x) [] i j e f = cc
order-at (k ∷ x) (l ∷ y) i j e f = by_order (order-at x y i j) (cases_eq k l) e f
  where
    by_order : (slice_get x (shared x y) ≡ Some i → slice_get y (shared x y) ≡ Some j → comes x y ≡ nat_lt i j) → (k ≡ l) ⊎ (k ≡ l → ⊥) → slice_get (k ∷ x) (shared (k ∷ x) (l ∷ y)) ≡ Some i → slice_get (l ∷ y) (shared (k ∷ x) (l ∷ y)) ≡ Some j → comes (k ∷ x) (l ∷ y) ≡ nat_lt i j
    by_order g (inl h) e f =
        rw (eq-eqb k l h) (g (rw (eq-eqb k l h) at e) (rw (eq-eqb k l h) at f))
    by_order g (inr n) e f =
        let p : Some k ≡ Some i = rw (ne_eqb k l n) at e in
        let q : Some l ≡ Some j = rw (ne_eqb k l n) at f in
        rw (ne_eqb k l n) (ap (λ m. nat_lt m l) (same_Some k i p) ∙ ap (λ m. nat_lt i m) (same_Some l j q))

pub order-end : (x y : List ℕ) → (length x ≤ shared x y) ⊎ (length y ≤ shared x y) → comes x y ≡ nat_lt (length x) (length y)
order-end [] [] h = refl
order-end [] (l ∷ y) h = sym (lt-ltb 0 (suc (length y)) (omega arith))
order-end (k ∷ x) [] h = sym (le-ltb (suc (length x)) 0 (omega arith))
order-end (k ∷ x) (l ∷ y) h = by_order (order-end x y) (cases_eq k l) h
  where
    by_order : ((length x ≤ shared x y) ⊎ (length y ≤ shared x y) → comes x y ≡ nat_lt (length x) (length y)) → (k ≡ l) ⊎ (k ≡ l → ⊥) → (suc (length x) ≤ shared (k ∷ x) (l ∷ y)) ⊎ (suc (length y) ≤ shared (k ∷ x) (l ∷ y)) → comes (k ∷ x) (l ∷ y) ≡ nat_lt (suc (length x)) (suc (length y))
    by_order g (inl e) (inl m) = rw (eq-eqb k l e) (g (inl (let f = shared-more k l x y e in omega arith)) ∙ same-test (length x) (length y))
    by_order g (inl e) (inr m) = rw (eq-eqb k l e) (g (inr (let f = shared-more k l x y e in omega arith)) ∙ same-test (length x) (length y))
    by_order g (inr n) (inl m) = absurd (let f = shared-none k l x y n in omega arith)
    by_order g (inr n) (inr m) = absurd (let f = shared-none k l x y n in omega arith)

-- The loop that counts the numbers from the front.

shared-nil : (x : List ℕ) → shared x [] ≡ 0
shared-nil [] = refl
shared-nil (i ∷ x) = refl

pub shared-over_right : (x y : List ℕ) (at : ℕ) → length y ≤ at → shared x y ≡ at + shared (drop at x) (drop at y) → at ≡ shared x y
shared-over_right x y at l h =
    let g : shared (drop at x) (drop at y) ≡ 0 = ap (shared (drop at x)) (drop_all at y l) ∙ shared-nil (drop at x) in omega arith
