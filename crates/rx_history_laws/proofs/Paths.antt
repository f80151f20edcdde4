-- Paths: one begins another, one lies below another, one comes before another in the order of words.
use Rattle.std.proofs.Common.{◌≡◌, ◌⊎◌, ℕ, zero, suc, ◌<◌, Bool, true, false, cond, ◌==◌, nat_lt, List, [], ◌∷◌, refl, ◌++◌, ap, sym, subst, ◌∙◌, arith, inl, inr}
use Rattle.std.proofs.lemmas.Bool.{eqb-true, ltb-true, true≢false, false_from_ne_true}
use Rattle.rx_rules.proofs.Common.{Stmt, SetTo, New, Get, Put, Forget, Census, Print, Throw, Async, AtAsync, At, Finish, If, Repeat, Try, Block, Nothing, Then, at, is_kept_in, before_inside, is_before_in, comes_before}

-- y begins with x
abbrev pub Starts : List ℕ → List ℕ → Type 0
Starts [] y = Unit {0}
Starts (i ∷ x) [] = ⊥
Starts (i ∷ x) (j ∷ y) = (i ≡ j) × Starts x y

-- at the first number that differs, x has the lesser one
abbrev pub Below : List ℕ → List ℕ → Type 0
Below [] y = ⊥
Below (i ∷ x) [] = ⊥
Below (i ∷ x) (j ∷ y) = (i < j) ⊎ ((i ≡ j) × Below x y)

-- x is below y, or y lies within x
abbrev pub Comes : List ℕ → List ℕ → Type 0
Comes [] [] = ⊥
Comes [] (j ∷ y) = Unit {0}
Comes (i ∷ x) [] = ⊥
Comes (i ∷ x) (j ∷ y) = (i < j) ⊎ ((i ≡ j) × Comes x y)

pub starts-same : (x : List ℕ) → Starts x x
starts-same [] = tt
starts-same (i ∷ x) = (refl, starts-same x)

pub starts-trans : (x y z : List ℕ) → Starts x y → Starts y z → Starts x z
starts-trans [] y z h k = tt
starts-trans (i ∷ x) [] z h k = absurd h
starts-trans (i ∷ x) (j ∷ y) [] h k = absurd k
starts-trans (i ∷ x) (j ∷ y) (m ∷ z) h k = (h.0 ∙ k.0, starts-trans x y z h.1 k.1)

pub starts-at : (x : List ℕ) (i : ℕ) → Starts x (at x i)
starts-at [] i = tt
starts-at (j ∷ x) i = (refl, starts-at x i)

pub below-at : (x : List ℕ) (i j : ℕ) → i < j → Below (at x i) (at x j)
below-at [] i j h = inl h
below-at (k ∷ x) i j h = inr (refl, below-at x i j h)

pub below-starts : (x y z : List ℕ) → Below x y → Starts y z → Below x z
below-starts [] y z h k = h
below-starts (i ∷ x) [] z h k = absurd h
below-starts (i ∷ x) (j ∷ y) [] h k = absurd k
below-starts (i ∷ x) (j ∷ y) (m ∷ z) (inl h) k = inl (subst (λ n. i < n) k.0 h)
below-starts (i ∷ x) (j ∷ y) (m ∷ z) (inr h) k = inr (h.0 ∙ k.0, below-starts x y z h.1 k.1)

pub starts-below : (x y z : List ℕ) → Starts x y → Below x z → Below y z
starts-below [] y z h k = absurd k
starts-below (i ∷ x) [] z h k = absurd h
starts-below (i ∷ x) (j ∷ y) [] h k = absurd k
starts-below (i ∷ x) (j ∷ y) (m ∷ z) h (inl k) = inl (subst (λ n. n < m) h.0 k)
starts-below (i ∷ x) (j ∷ y) (m ∷ z) h (inr k) = inr (sym h.0 ∙ k.0, starts-below x y z h.1 k.1)

pub below-comes : (x y : List ℕ) → Below x y → Comes x y
below-comes [] y h = absurd h
below-comes (i ∷ x) [] h = absurd h
below-comes (i ∷ x) (j ∷ y) (inl h) = inl h
below-comes (i ∷ x) (j ∷ y) (inr h) = inr (h.0, below-comes x y h.1)

pub within-comes : (x : List ℕ) (i : ℕ) (y : List ℕ) → Starts (at x i) y → Comes x y
within-comes [] i [] h = absurd h
within-comes [] i (j ∷ y) h = tt
within-comes (k ∷ x) i [] h = absurd h
within-comes (k ∷ x) i (j ∷ y) h = inr (h.0, within-comes x i y h.1)

pub comes-trans : (x y z : List ℕ) → Comes x y → Comes y z → Comes x z
comes-trans [] [] z h k = absurd h
comes-trans [] (j ∷ y) [] h k = absurd k
comes-trans [] (j ∷ y) (m ∷ z) h k = tt
comes-trans (i ∷ x) [] z h k = absurd h
comes-trans (i ∷ x) (j ∷ y) [] h k = absurd k
comes-trans (i ∷ x) (j ∷ y) (m ∷ z) (inl h) (inl k) = inl (omega arith)
comes-trans (i ∷ x) (j ∷ y) (m ∷ z) (inl h) (inr k) = inl (let e : j ≡ m = k.0 in omega arith)
comes-trans (i ∷ x) (j ∷ y) (m ∷ z) (inr h) (inl k) = inl (let e : i ≡ j = h.0 in omega arith)
comes-trans (i ∷ x) (j ∷ y) (m ∷ z) (inr h) (inr k) = inr (h.0 ∙ k.0, comes-trans x y z h.1 k.1)

pub comes-other : (x : List ℕ) → Comes x x → ⊥
comes-other [] h = h
comes-other (i ∷ x) (inl h) = omega arith
comes-other (i ∷ x) (inr h) = comes-other x h.1

-- a path that comes before another is not after it
pub comes-not_below : (x y : List ℕ) → Comes x y → Below y x → ⊥
comes-not_below x [] h k = k
comes-not_below [] (j ∷ y) h k = k
comes-not_below (i ∷ x) (j ∷ y) (inl h) (inl k) = omega arith
comes-not_below (i ∷ x) (j ∷ y) (inl h) (inr k) = let e : j ≡ i = k.0 in omega arith
comes-not_below (i ∷ x) (j ∷ y) (inr h) (inl k) = let e : i ≡ j = h.0 in omega arith
comes-not_below (i ∷ x) (j ∷ y) (inr h) (inr k) = comes-not_below x y h.1 k.1

pub below-suc : (i j : ℕ) (x y : List ℕ) → Below (i ∷ x) (j ∷ y) → Below (suc i ∷ x) (suc j ∷ y)
below-suc i j x y (inl h) = inl (omega arith)
below-suc i j x y (inr h) = inr (ap suc h.0, h.1)

pub below_turn : (k m i j : ℕ) (x y : List ℕ) (inside kept e l : Bool) → (k == m) ≡ e → nat_lt k m ≡ l → (inside ≡ true → Below (i ∷ x) (j ∷ y)) → cond e inside (cond l kept false) ≡ true → Below (k ∷ i ∷ x) (m ∷ j ∷ y)
below_turn k m i j x y inside kept true l he hl f h = inr (eqb-true k m he, f h)
below_turn k m i j x y inside kept false true he hl f h = inl (ltb-true k m hl)
below_turn k m i j x y inside kept false false he hl f h = absurd (true≢false (sym h))

-- the order of statement instances is part of `Below`
mutual
  before-below : (s : Stmt) (x y : List ℕ) → before_inside s x y ≡ true → Below x y
  before-below (SetTo name value) x y h = absurd (true≢false (sym h))
  before-below (New name words) x y h = absurd (true≢false (sym h))
  before-below (Get name target index) x y h = absurd (true≢false (sym h))
  before-below (Put target index value) x y h = absurd (true≢false (sym h))
  before-below (Forget target) x y h = absurd (true≢false (sym h))
  before-below (Census name) x y h = absurd (true≢false (sym h))
  before-below (Print value) x y h = absurd (true≢false (sym h))
  before-below (Throw value) x y h = absurd (true≢false (sym h))
  before-below (Async body) (i ∷ x) (j ∷ y) h = before-below_in body i x j y h
  before-below (AtAsync place body) (i ∷ x) (j ∷ y) h = before-below_in body i x j y h
  before-below (At place body) (i ∷ x) (j ∷ y) h = before-below_in body i x j y h
  before-below (Finish body) (i ∷ x) (j ∷ y) h = before-below_in body i x j y h
  before-below (If test first other) (zero ∷ i ∷ x) (zero ∷ j ∷ y) h = inr (refl, before-below_in first i x j y h)
  before-below (If test first other) (suc zero ∷ i ∷ x) (suc zero ∷ j ∷ y) h = inr (refl, before-below_in other i x j y h)
  before-below (Repeat times body) (k ∷ i ∷ x) (m ∷ j ∷ y) h = below_turn k m i j x y (is_before_in body i x j y) (is_kept_in body i x) (k == m) (nat_lt k m) refl refl (before-below_in body i x j y) h
  before-below (Try body dead_only handler) (zero ∷ i ∷ x) (zero ∷ j ∷ y) h = inr (refl, before-below_in body i x j y h)
  before-below (Try body dead_only handler) (suc zero ∷ i ∷ x) (suc zero ∷ j ∷ y) h = inr (refl, before-below_in handler i x j y h)
  before-below (Try body dead_only handler) (zero ∷ i ∷ x) (suc zero ∷ j ∷ y) h = inl (omega arith)
  before-below s x y h = cc

  before-below_in : (b : Block) (i : ℕ) (x : List ℕ) (j : ℕ) (y : List ℕ) → is_before_in b i x j y ≡ true → Below (i ∷ x) (j ∷ y)
  before-below_in Nothing i x j y h = absurd (true≢false (sym h))
  before-below_in (Then first rest) zero x zero y h = inr (refl, before-below first x y h)
  before-below_in (Then first rest) zero x (suc j) y h = inl (omega arith)
  before-below_in (Then first rest) (suc i) x zero y h = absurd (true≢false (sym h))
  before-below_in (Then first rest) (suc i) x (suc j) y h = below-suc i j x y (before-below_in rest i x j y h)

pub comes_before-below : (code : Block) (x y : List ℕ) → comes_before code x y ≡ true → Below x y
comes_before-below code (i ∷ x) (j ∷ y) h = before-below_in code i x j y h
comes_before-below code [] y h = absurd (true≢false (sym h))
comes_before-below code (i ∷ x) [] h = absurd (true≢false (sym h))

-- what comes before a statement in the order of words is not after it
pub comes-kept : (code : Block) (x y : List ℕ) → Comes x y → comes_before code y x ≡ false
comes-kept code x y h =
    false_from_ne_true (comes_before code y x) (λ e. comes-not_below x y h (comes_before-below code y x e))

pub starts-not_below : (x y : List ℕ) → Starts x y → Below x y → ⊥
starts-not_below [] y h k = k
starts-not_below (i ∷ x) [] h k = h
starts-not_below (i ∷ x) (j ∷ y) h (inl k) = let e : i ≡ j = h.0 in omega arith
starts-not_below (i ∷ x) (j ∷ y) h (inr k) = starts-not_below x y h.1 k.1

pub comes-not_starts : (x y : List ℕ) → Comes x y → Starts y x → ⊥
comes-not_starts [] [] h k = h
comes-not_starts [] (j ∷ y) h k = k
comes-not_starts (i ∷ x) [] h k = h
comes-not_starts (i ∷ x) (j ∷ y) (inl h) k = let e : j ≡ i = k.0 in omega arith
comes-not_starts (i ∷ x) (j ∷ y) (inr h) k = comes-not_starts x y h.1 k.1

-- what is left of a path after one of its beginnings
pub left_over : (r y : List ℕ) → Starts r y → (q : List ℕ) × (y ≡ r ++ q)
left_over [] y s = (y, refl)
left_over (i ∷ r) [] s = absurd s
left_over (i ∷ r) (j ∷ y) s = let k = left_over r y s.1 in (k.0, ap (λ l. j ∷ l) k.1 ∙ ap (λ v. v ∷ (r ++ k.0)) (sym s.0))

pub starts-cut : (x r y : List ℕ) → Starts (x ++ r) (x ++ y) → Starts r y
starts-cut [] r y s = s
starts-cut (i ∷ x) r y s = starts-cut x r y s.1
