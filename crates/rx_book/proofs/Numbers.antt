-- Caller numbers.
use Rattle.std.proofs.Common.{◌≡◌, ℕ, ◌==◌, ◌&&◌, Bool, true, false, List, [], ◌∷◌, ◌++◌, ◌+◌, ◌≤◌, ◌⊎◌, inl, inr, ⊎_elim, if◌then◌else◌, refl, ap, arith}
use Rattle.std.proofs.lemmas.Bool.Decides.{nat_tests}
use Rattle.rx_book.specs.Numbers.{is_same}

pub is_same-refl : (c : List ℕ) → is_same c c ≡ true
is_same-refl [] = refl
is_same-refl (x ∷ xs) = grind (arith, nat_tests, is_same-refl xs)

heads_then : (x : ℕ) (xs : List ℕ) (y : ℕ) (ys : List ℕ) → ((x == y) && is_same xs ys) ≡ true → (is_same xs ys ≡ true → xs ≡ ys) → x ∷ xs ≡ y ∷ ys
heads_then x xs y ys e tails = go (x == y) refl (is_same xs ys) refl
  where
    go : (b : Bool) → (x == y) ≡ b → (t : Bool) → is_same xs ys ≡ t → x ∷ xs ≡ y ∷ ys
    go true h true t = let heads : x ≡ y = grind (arith, nat_tests) in cc (heads, tails t)
    go true h false t = absurd (grind (arith, nat_tests))
    go false h t s = absurd (grind (arith, nat_tests))

pub is_same-eq : (c d : List ℕ) → is_same c d ≡ true → c ≡ d
is_same-eq [] [] e = refl
is_same-eq [] (y ∷ ys) e = absurd (cc e)
is_same-eq (x ∷ xs) [] e = absurd (cc e)
is_same-eq (x ∷ xs) (y ∷ ys) e = heads_then x xs y ys e (is_same-eq xs ys)

pub is_same-ne : (c d : List ℕ) → ¬ (c ≡ d) → is_same c d ≡ false
is_same-ne c d n = go (is_same c d) refl
  where
    go : (b : Bool) → is_same c d ≡ b → is_same c d ≡ false
    go true e = absurd (n (is_same-eq c d e))
    go false e = e

pub nothing_ends : (c : List ℕ) (k : ℕ) (rest : List ℕ) → ¬ ([] ≡ c ++ k ∷ rest)
nothing_ends [] k rest e = cc e
nothing_ends (x ∷ c) k rest e = cc e

-- a number that goes on from c by k is the child of c, or goes on further
pub child_from : (c₀ : List ℕ) (k₀ : ℕ) (c : List ℕ) (k : ℕ) (rest : List ℕ) → c₀ ++ k₀ ∷ [] ≡ c ++ k ∷ rest → ((c₀ ≡ c) × (k₀ ≡ k)) ⊎ ((more : List ℕ) × (c₀ ≡ c ++ k ∷ more))
child_from [] k₀ [] k rest e = inl (refl, cc e)
child_from [] k₀ (y ∷ c) k rest e = absurd (nothing_ends c k rest (cc e))
child_from (x ∷ c₀) k₀ [] k rest e = inr (c₀, (let h : x ≡ k = cc e in ap (λ (n : ℕ). n ∷ c₀) h))
child_from (x ∷ c₀) k₀ (y ∷ c) k rest e =
    let h : x ≡ y = cc e in
    ⊎_elim (λ (t : (c₀ ≡ c) × (k₀ ≡ k)). inl (cc (h, t.0), t.1)) (λ (t : (more : List ℕ) × (c₀ ≡ c ++ k ∷ more)). inr (t.0, cc (h, t.1))) (child_from c₀ k₀ c k rest (cc e))

-- a function on numbers, changed at one
abbrev pub changed : (List ℕ → ℕ) → List ℕ → ℕ → List ℕ → ℕ
changed f c x d = if is_same d c then x else f d

pub changed-same : (f : List ℕ → ℕ) (c : List ℕ) (x : ℕ) → changed f c x c ≡ x
changed-same f c x = rw (is_same-refl c) refl

pub changed-other : (f : List ℕ → ℕ) (c d : List ℕ) (x : ℕ) → ¬ (d ≡ c) → changed f c x d ≡ f d
changed-other f c d x n = rw (is_same-ne d c n) refl

pub changed-more : (f : List ℕ → ℕ) (c d : List ℕ) → f d ≤ changed f c (f c + 1) d
changed-more f c d = go (is_same d c) refl
  where
    go : (b : Bool) → is_same d c ≡ b → f d ≤ changed f c (f c + 1) d
    go true e = let same : d ≡ c = is_same-eq d c e in rw e (omega (arith, ap f same))
    go false e = rw e (omega arith)
