-- The order of two paths, by the statements along both.
use Rattle.std.proofs.Common.{◌≡◌, ℕ, zero, suc, ◌+◌, ◌<◌, ◌≤◌, Bool, true, false, cond, List, [], ◌∷◌, drop, refl, ap, sym, ◌∙◌, subst, arith, Option, Some, None, slice_get, ◌==◌, nat_lt}
use Rattle.std.proofs.lemmas.Bool.Decides.{nat_tests}
use Rattle.rx_base.proofs.Elements.{drop-next}
use Rattle.rx_rules.proofs.Common.{Stmt, Block, Async, AtAsync, At, Finish, If, Repeat, Try, before_inside, is_before_in, comes_before}
use Rattle.rx_syntax.specs.Shape.{Shape, BlockStands}
use Rattle.rx_order.specs.declared.parts.Part.{Part}
use Rattle.rx_order.specs.Inside.Parts.{is_kept_along, part_in, is_ordered, IsPart}

-- the statements at the positions that the paths tell
pub before-at : (b : Block) (x y : List ℕ) (at i j : ℕ) → slice_get x at ≡ Some i → slice_get y at ≡ Some j → comes_before b (drop at x) (drop at y) ≡ is_before_in b i (drop (at + 1) x) j (drop (at + 1) y)
before-at b x y at i j e f =
    ap (λ z. comes_before b z (drop at y)) (drop-next x at i e) ∙ ap (λ z. comes_before b (i ∷ drop (at + 1) x) z) (drop-next y at j f)

pub before-same : (b : Block) (x y : List ℕ) (at i j : ℕ) → slice_get x at ≡ Some i → slice_get y at ≡ Some j → i ≡ j → comes_before b (drop at x) (drop at y) ≡ is_before_in b i (drop (at + 1) x) i (drop (at + 1) y)
before-same b x y at i j e f q = before-at b x y at i j e f ∙ ap (λ m. is_before_in b i (drop (at + 1) x) m (drop (at + 1) y)) (sym q)

pub is-more : (i j : ℕ) → (i ≡ j → ⊥) → j ≤ i → j < i
is-more i j d l = grind arith

-- the order by the numbers of the two parts
abbrev pub by_numbers : ℕ → ℕ → Bool → Bool → Bool → Bool
by_numbers m k ordered inside kept = cond (m == k) inside (cond (nat_lt m k) (cond ordered kept false) false)

abbrev pub by_parts : Bool → Option (ℕ × Block × List ℕ) → Option (ℕ × Block × List ℕ) → Bool
by_parts ordered None q = false
by_parts ordered (Some p) None = false
by_parts ordered (Some p) (Some q) = by_numbers p.0 q.0 ordered (comes_before p.1 p.2 q.2) (is_kept_along p.1 p.2)

pub before-is : (t : Stmt) (x y : List ℕ) → before_inside t x y ≡ by_parts (is_ordered t) (part_in t x) (part_in t y)
before-is (Async b) [] y = refl
before-is (Async b) (i ∷ x) [] = refl
before-is (Async b) (i ∷ x) (j ∷ y) = refl
before-is (AtAsync p b) [] y = refl
before-is (AtAsync p b) (i ∷ x) [] = refl
before-is (AtAsync p b) (i ∷ x) (j ∷ y) = refl
before-is (At p b) [] y = refl
before-is (At p b) (i ∷ x) [] = refl
before-is (At p b) (i ∷ x) (j ∷ y) = refl
before-is (Finish b) [] y = refl
before-is (Finish b) (i ∷ x) [] = refl
before-is (Finish b) (i ∷ x) (j ∷ y) = refl
before-is (If e a b) [] y = refl
before-is (If e a b) (zero ∷ []) y = refl
before-is (If e a b) (suc zero ∷ []) y = refl
before-is (If e a b) (suc (suc k) ∷ x) y = refl
before-is (If e a b) (zero ∷ i ∷ x) [] = refl
before-is (If e a b) (zero ∷ i ∷ x) (zero ∷ []) = refl
before-is (If e a b) (zero ∷ i ∷ x) (zero ∷ j ∷ y) = refl
before-is (If e a b) (zero ∷ i ∷ x) (suc zero ∷ []) = refl
before-is (If e a b) (zero ∷ i ∷ x) (suc zero ∷ j ∷ y) = refl
before-is (If e a b) (zero ∷ i ∷ x) (suc (suc m) ∷ y) = refl
before-is (If e a b) (suc zero ∷ i ∷ x) [] = refl
before-is (If e a b) (suc zero ∷ i ∷ x) (zero ∷ []) = refl
before-is (If e a b) (suc zero ∷ i ∷ x) (zero ∷ j ∷ y) = refl
before-is (If e a b) (suc zero ∷ i ∷ x) (suc zero ∷ []) = refl
before-is (If e a b) (suc zero ∷ i ∷ x) (suc zero ∷ j ∷ y) = refl
before-is (If e a b) (suc zero ∷ i ∷ x) (suc (suc m) ∷ y) = refl
before-is (Repeat n b) [] y = refl
before-is (Repeat n b) (k ∷ []) y = refl
before-is (Repeat n b) (k ∷ i ∷ x) [] = refl
before-is (Repeat n b) (k ∷ i ∷ x) (m ∷ []) = refl
before-is (Repeat n b) (k ∷ i ∷ x) (m ∷ j ∷ y) = refl
before-is (Try a d b) [] y = refl
before-is (Try a d b) (zero ∷ []) y = refl
before-is (Try a d b) (suc zero ∷ []) y = refl
before-is (Try a d b) (suc (suc k) ∷ x) y = refl
before-is (Try a d b) (zero ∷ i ∷ x) [] = refl
before-is (Try a d b) (zero ∷ i ∷ x) (zero ∷ []) = refl
before-is (Try a d b) (zero ∷ i ∷ x) (zero ∷ j ∷ y) = refl
before-is (Try a d b) (zero ∷ i ∷ x) (suc zero ∷ []) = refl
before-is (Try a d b) (zero ∷ i ∷ x) (suc zero ∷ j ∷ y) = refl
before-is (Try a d b) (zero ∷ i ∷ x) (suc (suc m) ∷ y) = refl
before-is (Try a d b) (suc zero ∷ i ∷ x) [] = refl
before-is (Try a d b) (suc zero ∷ i ∷ x) (zero ∷ []) = refl
before-is (Try a d b) (suc zero ∷ i ∷ x) (zero ∷ j ∷ y) = refl
before-is (Try a d b) (suc zero ∷ i ∷ x) (suc zero ∷ []) = refl
before-is (Try a d b) (suc zero ∷ i ∷ x) (suc zero ∷ j ∷ y) = refl
before-is (Try a d b) (suc zero ∷ i ∷ x) (suc (suc m) ∷ y) = refl
before-is _ x y = refl

-- one path goes nowhere inside the statement
pub before-out : (s : Shape) (path : List ℕ) (n : ℕ) (t : Stmt) (x y : List ℕ) → IsPart s path n None (part_in t x) → false ≡ before_inside t x y
before-out s path n t x y h = sym (before-is t x y ∙ none (part_in t x) h)
  where
    none : (p : Option (ℕ × Block × List ℕ)) → IsPart s path n None p → by_parts (is_ordered t) p (part_in t y) ≡ false
    none None h = refl
    none (Some p) h = absurd h

pub before-other-out : (s : Shape) (path : List ℕ) (n : ℕ) (t : Stmt) (x y : List ℕ) → IsPart s path n None (part_in t y) → false ≡ before_inside t x y
before-other-out s path n t x y h = sym (before-is t x y ∙ none (part_in t x) (part_in t y) h)
  where
    none : (p q : Option (ℕ × Block × List ℕ)) → IsPart s path n None q → by_parts (is_ordered t) p q ≡ false
    none None q h = refl
    none (Some p) None h = refl
    none (Some p) (Some q) h = absurd h

-- both paths go on inside the statement
pub record Both (s : Shape) (x y : List ℕ) (n : ℕ) (r q : Part) (ordered value : Bool) : Type 0 where
  pub block : Block
  pub stands : BlockStands s r.block block
  pub same : value ≡ by_numbers r.number q.number ordered (comes_before block (drop r.at x) (drop r.at y)) (is_kept_along block (drop r.at x))
  pub at : r.at ≡ n

pub before-both : (s : Shape) (x y : List ℕ) (n : ℕ) (r q : Part) (t : Stmt) (u v : List ℕ) → IsPart s x n (Some r) (part_in t u) → IsPart s y n (Some q) (part_in t v) → Both s x y n r q (is_ordered t) (before_inside t u v)
before-both s x y n r q t u v h k =
    let P : Bool → Type 0 = λ b. Both s x y n r q (is_ordered t) b in
    subst P (sym (before-is t u v)) (by-options (part_in t u) (part_in t v) h k)
  where
    by-options : (o p : Option (ℕ × Block × List ℕ)) → IsPart s x n (Some r) o → IsPart s y n (Some q) p → Both s x y n r q (is_ordered t) (by_parts (is_ordered t) o p)
    by-options None p h k = absurd h
    by-options (Some o) None h k = absurd k
    by-options (Some o) (Some p) h k =
        let e : drop r.at y ≡ p.2 = ap (λ m. drop m y) (h.3 ∙ sym k.3) ∙ k.2 in
        record {
          block = o.1;
          stands = h.1;
          same = sym (ap (λ m. by_numbers m q.number (is_ordered t) (comes_before o.1 (drop r.at x) (drop r.at y)) (is_kept_along o.1 (drop r.at x))) h.0 ∙ ap (λ m. by_numbers o.0 m (is_ordered t) (comes_before o.1 (drop r.at x) (drop r.at y)) (is_kept_along o.1 (drop r.at x))) k.0 ∙ ap (λ z. by_numbers o.0 p.0 (is_ordered t) (comes_before o.1 z (drop r.at y)) (is_kept_along o.1 z)) h.2 ∙ ap (λ z. by_numbers o.0 p.0 (is_ordered t) (comes_before o.1 o.2 z) (is_kept_along o.1 o.2)) e);
          at = h.3;
        }

numbers-equal : (m k : ℕ) (ordered inside kept : Bool) → m ≡ k → by_numbers m k ordered inside kept ≡ inside
numbers-equal m k o b c e = grind (arith, nat_tests)

numbers-less : (m k : ℕ) (ordered inside kept : Bool) → m < k → ordered ≡ true → by_numbers m k ordered inside kept ≡ kept
numbers-less m k o b c l e = grind (arith, nat_tests)

numbers-more : (m k : ℕ) (ordered inside kept : Bool) → (m ≡ k → ⊥) → k ≤ m → by_numbers m k ordered inside kept ≡ false
numbers-more m k o b c d l = grind (arith, nat_tests)

numbers-unordered : (m k : ℕ) (ordered inside kept : Bool) → (m ≡ k → ⊥) → ordered ≡ false → by_numbers m k ordered inside kept ≡ false
numbers-unordered m k o b c d e = grind (arith, nat_tests)

-- into one part, and into two
pub both-equal : (s : Shape) (x y : List ℕ) (n : ℕ) (r q : Part) (ordered value : Bool) → (b : Both s x y n r q ordered value) → r.number ≡ q.number → value ≡ comes_before b.block (drop r.at x) (drop r.at y)
both-equal s x y n r q o v b e = b.same ∙ numbers-equal r.number q.number o (comes_before b.block (drop r.at x) (drop r.at y)) (is_kept_along b.block (drop r.at x)) e

pub both-less : (s : Shape) (x y : List ℕ) (n : ℕ) (r q : Part) (ordered value : Bool) → (b : Both s x y n r q ordered value) → r.number < q.number → ordered ≡ true → value ≡ is_kept_along b.block (drop r.at x)
both-less s x y n r q o v b l e = b.same ∙ numbers-less r.number q.number o (comes_before b.block (drop r.at x) (drop r.at y)) (is_kept_along b.block (drop r.at x)) l e

pub both-more : (s : Shape) (x y : List ℕ) (n : ℕ) (r q : Part) (ordered value : Bool) → Both s x y n r q ordered value → (r.number ≡ q.number → ⊥) → q.number ≤ r.number → value ≡ false
both-more s x y n r q o v b d l = b.same ∙ numbers-more r.number q.number o (comes_before b.block (drop r.at x) (drop r.at y)) (is_kept_along b.block (drop r.at x)) d l

pub both-unordered : (s : Shape) (x y : List ℕ) (n : ℕ) (r q : Part) (ordered value : Bool) → Both s x y n r q ordered value → (r.number ≡ q.number → ⊥) → ordered ≡ false → value ≡ false
both-unordered s x y n r q o v b d e = b.same ∙ numbers-unordered r.number q.number o (comes_before b.block (drop r.at x) (drop r.at y)) (is_kept_along b.block (drop r.at x)) d e
