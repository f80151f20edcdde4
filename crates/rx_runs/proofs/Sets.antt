-- Sets of places and their members.
use Rattle.std.proofs.Common.{◌≡◌, ℕ, zero, suc, ◌+◌, ◌*◌, ◌/◌, ◌%◌, ◌^◌, ◌<◌, ◌≤◌, Bool, true, false, cond, ◌&&◌, ◌||◌, ◌==◌, List, [], ◌∷◌, filter, refl, ap, ◌∙◌, sym, arith, ⊎_elim}
use Rattle.std.specs.List.{list_any}
use Rattle.std.specs.Int.{bit_at}
use Rattle.std.proofs.Math.Nat.{two-pow-succ}
use Rattle.std.proofs.Math.Bool.{and-true}
use Rattle.std.proofs.lemmas.Bool.{eqb-true, eq-eqb, ne_eqb, or_right, true≢false, cases_lt}
use Rattle.std.proofs.lemmas.Nat.Bits.{bit_at-lt, bit_at-suc, bit_at_lowest, same_from_bits_below}
use Rattle.rx_rules.proofs.Common.{PlaceSet, all_places, has_bit, members}
use Rattle.rx_base.proofs.Numbers.{digit-is}

-- what a filter keeps of a number that stands in the list
kept_if : (f : ℕ → Bool) (p : ℕ) (xs : List ℕ) → list_any (λ x. x == p) (filter f xs) ≡ (f p && list_any (λ x. x == p) xs)
kept_if f p [] = elim (f p) as (λ b. false ≡ (b && false)) [ true ↦ refl | false ↦ refl ]
kept_if f p (x ∷ xs) =
    (elim (f x) as (λ b. f x ≡ b → list_any (λ y. y == p) (cond b (x ∷ filter f xs) (filter f xs)) ≡ (f p && (x == p || list_any (λ y. y == p) xs))) [
      | true ↦ λ e. ((elim (x == p) as (λ c. x == p ≡ c → (c || list_any (λ y. y == p) (filter f xs)) ≡ (f p && (c || list_any (λ y. y == p) xs))) [
        | true ↦ λ q. (let it : f p ≡ true = ap f (sym (eqb-true x p q)) ∙ e in rw it refl)
        | false ↦ λ q. kept_if f p xs
      ]) refl)
      | false ↦ λ e. ((elim (x == p) as (λ c. x == p ≡ c → list_any (λ y. y == p) (filter f xs) ≡ (f p && (c || list_any (λ y. y == p) xs))) [
        | true ↦ λ q. (let it : f p ≡ false = ap f (sym (eqb-true x p q)) ∙ e in kept_if f p xs ∙ rw it refl)
        | false ↦ λ q. kept_if f p xs
      ]) refl)
    ]) refl

all_there : (p : ℕ) → p < 16 → list_any (λ x. x == p) all_places ≡ true
all_there zero h = refl
all_there (suc zero) h = refl
all_there (suc (suc zero)) h = refl
all_there (suc (suc (suc zero))) h = refl
all_there (suc (suc (suc (suc zero)))) h = refl
all_there (suc (suc (suc (suc (suc zero))))) h = refl
all_there (suc (suc (suc (suc (suc (suc zero)))))) h = refl
all_there (suc (suc (suc (suc (suc (suc (suc zero))))))) h = refl
all_there (suc (suc (suc (suc (suc (suc (suc (suc zero)))))))) h = refl
all_there (suc (suc (suc (suc (suc (suc (suc (suc (suc zero))))))))) h = refl
all_there (suc (suc (suc (suc (suc (suc (suc (suc (suc (suc zero)))))))))) h = refl
all_there (suc (suc (suc (suc (suc (suc (suc (suc (suc (suc (suc zero))))))))))) h = refl
all_there (suc (suc (suc (suc (suc (suc (suc (suc (suc (suc (suc (suc zero)))))))))))) h = refl
all_there (suc (suc (suc (suc (suc (suc (suc (suc (suc (suc (suc (suc (suc zero))))))))))))) h = refl
all_there (suc (suc (suc (suc (suc (suc (suc (suc (suc (suc (suc (suc (suc (suc zero)))))))))))))) h = refl
all_there (suc (suc (suc (suc (suc (suc (suc (suc (suc (suc (suc (suc (suc (suc (suc zero))))))))))))))) h = refl
all_there (suc (suc (suc (suc (suc (suc (suc (suc (suc (suc (suc (suc (suc (suc (suc (suc p)))))))))))))))) h = absurd (omega arith)

bit_is : (s : PlaceSet) (p : ℕ) → p < 16 → list_any (λ x. x == p) (members s) ≡ has_bit s.0 p
bit_is s p h = kept_if (has_bit s.0) p all_places ∙ ap (λ b. has_bit s.0 p && b) (all_there p h) ∙ and-true (has_bit s.0 p)

-- sets of 16 bits with the same members
pub members_once : (a b : PlaceSet) → members a ≡ members b → a.0 < 2 ^ 16 → b.0 < 2 ^ 16 → a ≡ b
members_once a b e low high =
    ap (λ (n : ℕ). let q : PlaceSet = record { 0 = n } in q)
    (same_from_bits_below 16 a.0 b.0 low high (λ i h. digit-is (bit_at a.0 i) (bit_at b.0 i) (bit_at-lt a.0 i) (bit_at-lt b.0 i) (sym (bit_is a i h) ∙ ap (list_any (λ x. x == i)) e ∙ bit_is b i h)))

-- Every set has its number.

-- the number whose bits from 0 on are those of f
abbrev number_of : ℕ → (ℕ → Bool) → ℕ
number_of zero f = 0
number_of (suc n) f = 2 * number_of n (λ i. f (suc i)) + cond (f 0) 1 0

number_bit : (n : ℕ) (f : ℕ → Bool) (p : ℕ) → p < n → has_bit (number_of n f) p ≡ f p
number_bit zero f p h = absurd (omega arith)
number_bit (suc n) f zero h = ap (λ k. k == 1) (bit_at_lowest (number_of (suc n) f)) ∙ (elim (f 0) as (λ b. ((2 * number_of n (λ i. f (suc i)) + cond b 1 0) % 2 == 1) ≡ b) [
  | true ↦ (let e : (2 * number_of n (λ i. f (suc i)) + 1) % 2 ≡ 1 = omega arith in ap (λ k. k == 1) e)
  | false ↦ (let e : (2 * number_of n (λ i. f (suc i)) + 0) % 2 ≡ 0 = omega arith in ap (λ k. k == 1) e)
])
number_bit (suc n) f (suc p) h =
    ap (λ k. k == 1) (bit_at-suc (number_of (suc n) f) p)
    ∙ ap (λ k. has_bit k p) (half (number_of n (λ i. f (suc i))) (f 0))
    ∙ number_bit n (λ i. f (suc i)) p (omega arith)
  where
    half : (m : ℕ) (b : Bool) → (2 * m + cond b 1 0) / 2 ≡ m
    half m true = omega arith
    half m false = omega arith

-- two tests that agree on the list
filter_same : (f g : ℕ → Bool) (xs : List ℕ) → ((p : ℕ) → list_any (λ x. x == p) xs ≡ true → f p ≡ g p) → filter f xs ≡ filter g xs
filter_same f g [] h = refl
filter_same f g (x ∷ xs) h =
    let here : f x ≡ g x = h x (ap (λ b. b || list_any (λ y. y == x) xs) (eq-eqb x x refl)) in
    let rest : filter f xs ≡ filter g xs = filter_same f g xs (λ p a. h p (or_right (x == p) (list_any (λ y. y == p) xs) a)) in
    ap (λ b. cond b (x ∷ filter f xs) (filter f xs)) here ∙ ap (λ v. cond (g x) (x ∷ v) v) rest

small_only : (p : ℕ) → list_any (λ x. x == p) all_places ≡ true → p < 16
small_only p a = ⊎_elim (λ (lt : p < 16). lt) (λ (ge : 16 ≤ p). absurd (true≢false (sym a ∙ not_any p ge))) (cases_lt p 16) where
  not_any : (p : ℕ) → 16 ≤ p → list_any (λ x. x == p) all_places ≡ false
  not_any p ge =
      rw (ne_eqb 0 p (λ e. absurd (omega arith)), ne_eqb 1 p (λ e. absurd (omega arith)), ne_eqb 2 p (λ e. absurd (omega arith)), ne_eqb 3 p (λ e. absurd (omega arith)), ne_eqb 4 p (λ e. absurd (omega arith)), ne_eqb 5 p (λ e. absurd (omega arith)), ne_eqb 6 p (λ e. absurd (omega arith)), ne_eqb 7 p (λ e. absurd (omega arith)), ne_eqb 8 p (λ e. absurd (omega arith)), ne_eqb 9 p (λ e. absurd (omega arith)), ne_eqb 10 p (λ e. absurd (omega arith)), ne_eqb 11 p (λ e. absurd (omega arith)), ne_eqb 12 p (λ e. absurd (omega arith)), ne_eqb 13 p (λ e. absurd (omega arith)), ne_eqb 14 p (λ e. absurd (omega arith)), ne_eqb 15 p (λ e. absurd (omega arith))) refl

number_small : (n : ℕ) (f : ℕ → Bool) → number_of n f < 2 ^ n
number_small zero f = omega arith
number_small (suc n) f =
    let rest : number_of n (λ i. f (suc i)) < 2 ^ n = number_small n (λ i. f (suc i)) in
    let twice : 2 ^ suc n ≡ 2 ^ n + 2 ^ n = two-pow-succ n in
    (elim (f 0) as (λ b. 2 * number_of n (λ i. f (suc i)) + cond b 1 0 < 2 ^ suc n) [
      | true ↦ omega (arith, rest, twice)
      | false ↦ omega (arith, rest, twice)
    ])

-- there is a set of 16 bits of the places that pass
pub set_members : (f : ℕ → Bool) → (s : PlaceSet) × (members s ≡ filter f all_places) × (s.0 < 2 ^ 16)
set_members f = (record { 0 = number_of 16 f }, filter_same (has_bit (number_of 16 f)) f all_places (λ p a. number_bit 16 f p (small_only p a)), number_small 16 f)
