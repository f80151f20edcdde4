-- Kills of places that are there or join and are not 0, none twice, are fewer than these places.
use Rattle.std.proofs.Common.{◌≡◌, ◌≢◌, ℕ, zero, suc, ◌+◌, ◌<◌, ◌≤◌, true, false, cond, not, ◌==◌, List, [], ◌∷◌, filter, length, refl, ap, ◌∙◌, sym, arith}
use Rattle.std.proofs.lemmas.Bool.{eqb-true, eq-eqb, ne_eqb, true≢false}
use Rattle.rx_rules.proofs.Common.{PlaceId, Kill, Given, in_all, AreKills, Spares}

-- all places are below n, and of one place at most one
abbrev Fit : ℕ → List Kill → Type 0
Fit n [] = Unit {0}
Fit n (k ∷ ks) = (k.place.0 < n) × Spares k.place ks × Fit n ks

-- the kills without those of a place
abbrev others : ℕ → List Kill → List Kill
others n ks = filter (λ k. not (k.place.0 == n)) ks

others_spare : (n : ℕ) (p : PlaceId) (ks : List Kill) → Spares p ks → Spares p (others n ks)
others_spare n p [] h = tt
others_spare n p (k ∷ ks) h = elim (k.place.0 == n) as (λ b. Spares p (cond (not b) (k ∷ others n ks) (others n ks))) [
  | true ↦ others_spare n p ks h.1
  | false ↦ (h.0, others_spare n p ks h.1)
]

others_fit : (n : ℕ) (ks : List Kill) → Fit (suc n) ks → Fit n (others n ks)
others_fit n [] h = tt
others_fit n (k ∷ ks) h =
    (elim (k.place.0 == n) as (λ b. k.place.0 == n ≡ b → Fit n (cond (not b) (k ∷ others n ks) (others n ks))) [
      | true ↦ λ e. others_fit n ks h.2
      | false ↦ λ e.
          let low : k.place.0 < suc n = h.0 in
          let apart : k.place.0 ≢ n = λ q. true≢false (sym (eq-eqb k.place.0 n q) ∙ e) in
          ((let less : k.place.0 ≤ n = omega arith in below k.place.0 n less apart), others_spare n k.place ks h.1, others_fit n ks h.2)
    ]) refl
  where
    below : (a b : ℕ) → a ≤ b → a ≢ b → a < b
    below a b le ne = elim (a == b) as (λ c. a == b ≡ c → a < b) [
      | true ↦ λ e. absurd (ne (eqb-true a b e))
      | false ↦ λ e. omega (arith, le, ne)
    ] refl

-- without a place that is spared nothing is left out
spared : (n : ℕ) (p : PlaceId) (ks : List Kill) → p.0 ≡ n → Spares p ks → others n ks ≡ ks
spared n p [] e h = refl
spared n p (k ∷ ks) e h =
    let apart : k.place.0 == n ≡ false = ne_eqb k.place.0 n (λ q. h.0 (e ∙ sym q)) in
    rw apart (ap (λ v. k ∷ v) (spared n p ks e h.1))

one_out : (n m : ℕ) (ks : List Kill) → Fit m ks → length ks ≤ suc (length (others n ks))
one_out n m [] h = omega arith
one_out n m (k ∷ ks) h =
    (elim (k.place.0 == n) as (λ b. k.place.0 == n ≡ b → suc (length ks) ≤ suc (length (cond (not b) (k ∷ others n ks) (others n ks)))) [
      | true ↦ λ e. let same : length (others n ks) ≡ length ks = ap length (spared n k.place ks (eqb-true k.place.0 n e) h.1) in omega arith
      | false ↦ λ e. let rest : length ks ≤ suc (length (others n ks)) = one_out n m ks h.2 in omega arith
    ]) refl

fit_few : (n : ℕ) (ks : List Kill) → Fit n ks → length ks ≤ n
fit_few zero [] h = omega arith
fit_few zero (k ∷ ks) h = let bad : k.place.0 < 0 = h.0 in absurd (omega arith)
fit_few (suc n) ks h =
    let a : length ks ≤ suc (length (others n ks)) = one_out n (suc n) ks h in
    let b : length (others n ks) ≤ n = fit_few n (others n ks) (others_fit n ks h) in
    omega arith

-- a kill of place 0 beside them would fit too
kills_are : (U : Given) (ks : List Kill) → AreKills U ks → Fit (in_all U) ks
kills_are U [] h = tt
kills_are U (k ∷ ks) h = (h.0, h.3, kills_are U ks h.5)

zero_spared : (U : Given) (p : PlaceId) (ks : List Kill) → p.0 ≡ 0 → AreKills U ks → Spares p ks
zero_spared U p [] e h = tt
zero_spared U p (k ∷ ks) e h = ((λ s. h.1 (sym s ∙ e)), zero_spared U p ks e h.5)

pub kills_fit : (U : Given) (ks : List Kill) → 1 ≤ in_all U → AreKills U ks → length ks + 1 ≤ in_all U
kills_fit U ks some h =
    let p : PlaceId = record { 0 = 0 } in
    let first : Kill = record { place = p; moment = 0 } in
    let all : length (first ∷ ks) ≤ in_all U = fit_few (in_all U) (first ∷ ks) (some, zero_spared U p ks refl h, kills_are U ks h) in
    omega arith
