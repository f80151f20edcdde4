-- The first of the longest of chains, part by part.
use Rattle.std.proofs.Common.{◌≡◌, ◌⊎◌, ℕ, suc, ◌<◌, ◌≤◌, Bool, true, false, cond, ◌&&◌, ◌==◌, nat_lt, nat_le, List, [], ◌∷◌, ◌++◌, length, filter, refl, ap, sym, ◌∙◌, arith, inl, inr}
use Rattle.std.proofs.lemmas.Bool.{lt-ltb, le-ltb, le-leb, lt-leb, eq-eqb, ne_eqb, cond-true, cond-false, cases_lt, cases_order, cases_eq, and_left, and_right, true≢false}
use Rattle.rx_span.specs.Inside.Best.{better, pick}

-- a chain of statements
abbrev pub Chain : Type 0
Chain = List (List ℕ)

pub better-less : (c d : Chain) → length c < length d → better c d ≡ d
better-less c d h = cond-true (nat_lt (length c) (length d)) d c (lt-ltb (length c) (length d) h)

pub better-not_less : (c d : Chain) → length d ≤ length c → better c d ≡ c
better-not_less c d h = cond-false (nat_lt (length c) (length d)) d c (le-ltb (length c) (length d) h)

pub better-nil : (c : Chain) → better c [] ≡ c
better-nil c = better-not_less c [] (omega arith)

pub nil-better : (c : Chain) → better [] c ≡ c
nil-better [] = refl
nil-better (x ∷ c) = better-less [] (x ∷ c) (omega arith)

better-assoc : (a b c : Chain) → better a (better b c) ≡ better (better a b) c
better-assoc a b c = by_ab (cases_lt (length a) (length b)) (cases_lt (length b) (length c))
  where
    by_ac : length b ≤ length a → length b < length c → (length a < length c) ⊎ (length c ≤ length a) → better a c ≡ better a c
    by_ac h k m = refl

    by_ab : (length a < length b) ⊎ (length b ≤ length a) → (length b < length c) ⊎ (length c ≤ length b) → better a (better b c) ≡ better (better a b) c
    by_ab (inl h) (inl k) = rw (better-less b c k, better-less a b h, better-less b c k, better-less a c (omega arith)) refl
    by_ab (inl h) (inr k) = rw (better-not_less b c k, better-less a b h, better-not_less b c k) refl
    by_ab (inr h) (inl k) = rw (better-less b c k, better-not_less a b h) refl
    by_ab (inr h) (inr k) = rw (better-not_less b c k, better-not_less a b h, better-not_less a c (omega arith)) refl

pub pick-append : (cs ds : List Chain) → pick (cs ++ ds) ≡ better (pick cs) (pick ds)
pick-append [] ds = sym (nil-better (pick ds))
pick-append (c ∷ cs) ds = ap (better c) (pick-append cs ds) ∙ better-assoc c (pick cs) (pick ds)

-- P holds of each
abbrev pub Each : (Chain → Type 0) → List Chain → Type 0
Each P [] = Unit {0}
Each P (c ∷ cs) = P c × Each P cs

pub each-map : (P Q : Chain → Type 0) → ((c : Chain) → P c → Q c) → (cs : List Chain) → Each P cs → Each Q cs
each-map P Q f [] h = tt
each-map P Q f (c ∷ cs) h = (f c h.0, each-map P Q f cs h.1)

-- two tests that agree on each keep the same
pub filter-same : (p q : Chain → Bool) (cs : List Chain) → Each (λ c. p c ≡ q c) cs → filter p cs ≡ filter q cs
filter-same p q [] h = refl
filter-same p q (c ∷ cs) h = by_test (p c) (q c) h.0 (filter-same p q cs h.1)
  where
    by_test : (a b : Bool) → a ≡ b → filter p cs ≡ filter q cs → cond a (c ∷ filter p cs) (filter p cs) ≡ cond b (c ∷ filter q cs) (filter q cs)
    by_test true true e r = ap (λ l. c ∷ l) r
    by_test false false e r = r
    by_test true false e r = absurd (true≢false e)
    by_test false true e r = absurd (true≢false (sym e))

pub filter-none : (p : Chain → Bool) (cs : List Chain) → Each (λ c. p c ≡ false) cs → filter p cs ≡ []
filter-none p [] h = refl
filter-none p (c ∷ cs) h = cond-false (p c) (c ∷ filter p cs) (filter p cs) h.0 ∙ filter-none p cs h.1

pub filter-all : (p : Chain → Bool) (cs : List Chain) → Each (λ c. p c ≡ true) cs → filter p cs ≡ cs
filter-all p [] h = refl
filter-all p (c ∷ cs) h = cond-true (p c) (c ∷ filter p cs) (filter p cs) h.0 ∙ ap (λ l. c ∷ l) (filter-all p cs h.1)

-- the number f of the chains does not rise
abbrev pub NeverRises : (Chain → ℕ) → List Chain → Type 0
NeverRises f [] = Unit {0}
NeverRises f (c ∷ cs) = Each (λ d. f d ≤ f c) cs × NeverRises f cs

-- the chains whose number is at least d are those whose number is greater, and then those whose number it is
module _ (f : Chain → ℕ) (g : Chain → Bool) (d : ℕ) where
  abbrev low : Chain → Bool
  low c = g c && nat_le d (f c)

  abbrev high : Chain → Bool
  high c = g c && nat_le (suc d) (f c)

  abbrev same : Chain → Bool
  same c = g c && (f c == d)

  none_high : (m : ℕ) → m ≤ d → (cs : List Chain) → Each (λ c. f c ≤ m) cs → filter high cs ≡ []
  none_high m h cs e = filter-none high cs (each-map (λ c. f c ≤ m) (λ c. high c ≡ false) (λ c k. by_test c (g c) (lt-leb (suc d) (f c) (omega arith))) cs e)
    where
      by_test : (c : Chain) (b : Bool) → nat_le (suc d) (f c) ≡ false → (b && nat_le (suc d) (f c)) ≡ false
      by_test c true k = k
      by_test c false k = refl

  pub split : (cs : List Chain) → NeverRises f cs → filter low cs ≡ filter high cs ++ filter same cs
  split [] h = refl
  split (c ∷ cs) h = by_test (g c) refl (split cs h.1)
    where
      step : (b : Bool) → g c ≡ b → Type 0
      step b e = cond (b && nat_le d (f c)) (c ∷ filter low cs) (filter low cs) ≡ cond (b && nat_le (suc d) (f c)) (c ∷ filter high cs) (filter high cs) ++ cond (b && (f c == d)) (c ∷ filter same cs) (filter same cs)

      by_order : (f c ≡ d) ⊎ ((f c < d) ⊎ (d < f c)) → filter low cs ≡ filter high cs ++ filter same cs → cond (nat_le d (f c)) (c ∷ filter low cs) (filter low cs) ≡ cond (nat_le (suc d) (f c)) (c ∷ filter high cs) (filter high cs) ++ cond (f c == d) (c ∷ filter same cs) (filter same cs)
      by_order (inl e) r =
          let none : filter high cs ≡ [] = none_high (f c) (omega arith) cs h.0 in
          let rest : filter low cs ≡ filter same cs = r ∙ ap (λ l. l ++ filter same cs) none in
          rw (le-leb d (f c) (omega arith), lt-leb (suc d) (f c) (omega arith), eq-eqb (f c) d e, none) (ap (λ l. c ∷ l) rest)
      by_order (inr (inl l)) r = rw (lt-leb d (f c) l, lt-leb (suc d) (f c) (omega arith), ne_eqb (f c) d (λ e. omega arith)) r
      by_order (inr (inr l)) r = rw (le-leb d (f c) (omega arith), le-leb (suc d) (f c) l, ne_eqb (f c) d (λ e. omega arith)) (ap (λ l. c ∷ l) r)

      by_test : (b : Bool) → g c ≡ b → filter low cs ≡ filter high cs ++ filter same cs → filter low (c ∷ cs) ≡ filter high (c ∷ cs) ++ filter same (c ∷ cs)
      by_test true e r = rw (e) (by_order (cases_order (f c) d) r)
      by_test false e r = rw (e) r

pub each-all : (P : Chain → Type 0) → ((c : Chain) → P c) → (cs : List Chain) → Each P cs
each-all P f [] = tt
each-all P f (c ∷ cs) = (f c, each-all P f cs)

-- where a test goes with the number alone, it keeps all of a number or none
pub filter-number : (f : Chain → ℕ) (t : ℕ → Bool) (d : ℕ) (cs : List Chain) → filter (λ c. t (f c) && (f c == d)) cs ≡ cond (t d) (filter (λ c. f c == d) cs) []
filter-number f t d cs = by_test (t d) refl
  where
    by_number : (n : ℕ) → t d ≡ true → (n ≡ d) ⊎ (n ≡ d → ⊥) → (t n && (n == d)) ≡ (n == d)
    by_number n e (inl i) = rw (ap t i ∙ e) refl
    by_number n e (inr i) = rw (ne_eqb n d i) (and_right (t n) false refl)

    by_none : (n : ℕ) → t d ≡ false → (n ≡ d) ⊎ (n ≡ d → ⊥) → (t n && (n == d)) ≡ false
    by_none n e (inl i) = and_left (t n) (n == d) (ap t i ∙ e)
    by_none n e (inr i) = and_right (t n) (n == d) (ne_eqb n d i)

    by_test : (b : Bool) → t d ≡ b → filter (λ c. t (f c) && (f c == d)) cs ≡ cond b (filter (λ c. f c == d) cs) []
    by_test true e = filter-same (λ c. t (f c) && (f c == d)) (λ c. f c == d) cs (each-all (λ c. (t (f c) && (f c == d)) ≡ (f c == d)) (λ c. by_number (f c) e (cases_eq (f c) d)) cs)
    by_test false e = filter-none (λ c. t (f c) && (f c == d)) cs (each-all (λ c. (t (f c) && (f c == d)) ≡ false) (λ c. by_none (f c) e (cases_eq (f c) d)) cs)
