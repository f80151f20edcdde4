-- A script that meets the rules assigns at most 32 names, and so has no more.
use Rattle.std.proofs.Common.{◌≡◌, ◌≢◌, ℕ, zero, suc, ◌<◌, ◌≤◌, ◌==◌, Bool, true, false, cond, ◌||◌, List, [], ◌∷◌, ◌++◌, Option, Some, None, slice_get, length, refl, ap, sym, subst, ◌∙◌, arith}
use Rattle.std.proofs.lemmas.Bool.{eqb-true, eq-eqb, true≢false}
use Rattle.rx_syntax.specs.Named.{NamesAreNumbered}
use Rattle.rx_rules.proofs.Common.{has}
use Rattle.rx_check.specs.Rules.{Kind, Sight, assigned, kind_of, kind_after, more_names, names_after, is_name, fails_count, nodes}
use Rattle.rx_check.specs.Defined.{FewNames}
use Rattle.rx_check.proofs.Lawful.{AllPass, Passes, passes, meets-pass, meets-lawful, mentioned-kind, has-left, has-right}

-- All names that are assigned.

abbrev All : (ℕ → Type 0) → List ℕ → Type 0
All P [] = Unit {0}
All P (n ∷ ns) = P n × All P ns

all-one : (P : ℕ → Type 0) (ns : List ℕ) (n : ℕ) → All P ns → P n → All P (ns ++ n ∷ [])
all-one P [] n h p = (p, tt)
all-one P (m ∷ ns) n h p = (h.0, all-one P ns n h.1 p)

all-get : (P : ℕ → Type 0) (ns : List ℕ) (i n : ℕ) → All P ns → slice_get ns i ≡ Some n → P n
all-get P [] i n h e = cc
all-get P (m ∷ ns) zero n h e = let s : m ≡ n = cc in subst P s h.0
all-get P (m ∷ ns) (suc i) n h e = all-get P ns i n h.1 e

abbrev EachAssigned : (ℕ → Type 0) → List Sight → Type 0
EachAssigned P [] = Unit {0}
EachAssigned P (s ∷ ss) = ((x : ℕ × Kind) → assigned s.stmt ≡ Some x → P x.0) × EachAssigned P ss

more-all : (P : ℕ → Type 0) (o : Option (ℕ × Kind)) (seen : List ℕ) → All P seen → ((x : ℕ × Kind) → o ≡ Some x → P x.0) → All P (more_names o seen)
more-all P None seen h p = h
more-all P (Some x) seen h p = elim (has x.0 seen) as (λ b. All P (cond b seen (seen ++ x.0 ∷ []))) [
  | true ↦ h
  | false ↦ all-one P seen x.0 h (p x refl)
]

names-all : (P : ℕ → Type 0) (seen : List ℕ) (ss : List Sight) → All P seen → EachAssigned P ss → All P (names_after seen ss)
names-all P seen [] h e = h
names-all P seen (s ∷ ss) h e = names-all P (more_names (assigned s.stmt) seen) ss (more-all P (assigned s.stmt) seen h e.0) e.1

-- No name is the 33rd.

count-false : (script : List Sight) (o : Option (ℕ × Kind)) (x : ℕ × Kind) → fails_count script o ≡ false → o ≡ Some x → is_name (slice_get (names_after [] script) 32) x.0 ≡ false
count-false script None x h e = cc
count-false script (Some y) x h e =
    let same : y ≡ x = cc in subst (λ (z : ℕ × Kind). is_name (slice_get (names_after [] script) 32) z.0 ≡ false) same h

none-33rd : (script ss : List Sight) → AllPass script ss → EachAssigned (λ n. is_name (slice_get (names_after [] script) 32) n ≡ false) ss
none-33rd script [] h = tt
none-33rd script (s ∷ ss) h =
    let p : Passes script s = passes script s h.0 in ((λ x e. count-false script (assigned s.stmt) x p.count e), none-33rd script ss h.1)

get-none : (ns : List ℕ) (i : ℕ) → slice_get ns i ≡ None → length ns ≤ i
get-none [] i h = omega arith
get-none (n ∷ ns) zero h = cc
get-none (n ∷ ns) (suc i) h = let le : length ns ≤ i = get-none ns i h in omega arith

short : (ns : List ℕ) (i : ℕ) → All (λ n. is_name (slice_get ns i) n ≡ false) ns → length ns ≤ i
short ns i h =
    (elim (slice_get ns i) as (λ o. slice_get ns i ≡ o → length ns ≤ i) [
      | None ↦ λ e. get-none ns i e
      | Some m ↦ λ e.
          let f : is_name (slice_get ns i) m ≡ false = all-get (λ n. is_name (slice_get ns i) n ≡ false) ns i m h e in
          let g : is_name (Some m) m ≡ false = subst (λ (o : Option ℕ). is_name o m ≡ false) e f in
          absurd (true≢false (sym (eq-eqb m m refl) ∙ g))
    ]) refl

few-assigned : (script : List Sight) → AllPass script script → length (names_after [] script) ≤ 32
few-assigned script h = short (names_after [] script) 32 (names-all (λ n. is_name (slice_get (names_after [] script) 32) n ≡ false) [] script tt (none-33rd script script h))

-- Each name with a kind is among them.

more-keeps : (o : Option (ℕ × Kind)) (seen : List ℕ) (n : ℕ) → has n seen ≡ true → has n (more_names o seen) ≡ true
more-keeps None seen n h = h
more-keeps (Some x) seen n h = elim (has x.0 seen) as (λ b. has n (cond b seen (seen ++ x.0 ∷ [])) ≡ true) [
  | true ↦ h
  | false ↦ has-left n seen (x.0 ∷ []) h
]

more-has : (x : ℕ × Kind) (seen : List ℕ) → has x.0 (more_names (Some x) seen) ≡ true
more-has x seen =
    (elim (has x.0 seen) as (λ b. has x.0 seen ≡ b → has x.0 (cond b seen (seen ++ x.0 ∷ [])) ≡ true) [
      | true ↦ λ e. e
      | false ↦ λ e. has-right x.0 seen (x.0 ∷ []) (ap (λ b. b || false) (eq-eqb x.0 x.0 refl))
    ]) refl

keep-has : (seen : List ℕ) (ss : List Sight) (n : ℕ) → has n seen ≡ true → has n (names_after seen ss) ≡ true
keep-has seen [] n h = h
keep-has seen (s ∷ ss) n h = keep-has (more_names (assigned s.stmt) seen) ss n (more-keeps (assigned s.stmt) seen n h)

kind-step : (o : Option (ℕ × Kind)) (seen : List ℕ) (ss : List Sight) (n : ℕ) (k : Kind) → ((now : List ℕ) → kind_of ss n ≡ Some k → has n (names_after now ss) ≡ true) → kind_after o n (kind_of ss n) ≡ Some k → has n (names_after (more_names o seen) ss) ≡ true
kind-step None seen ss n k more h = more seen h
kind-step (Some x) seen ss n k more h =
    (elim (x.0 == n) as (λ b. x.0 == n ≡ b → cond b (Some x.1) (kind_of ss n) ≡ Some k → has n (names_after (more_names (Some x) seen) ss) ≡ true) [
      | true ↦ λ e h. keep-has (more_names (Some x) seen) ss n (subst (λ (m : ℕ). has m (more_names (Some x) seen) ≡ true) (eqb-true x.0 n e) (more-has x seen))
      | false ↦ λ e h. more (more_names (Some x) seen) h
    ]) refl h

kind-has : (seen : List ℕ) (ss : List Sight) (n : ℕ) (k : Kind) → kind_of ss n ≡ Some k → has n (names_after seen ss) ≡ true
kind-has seen [] n k h = cc
kind-has seen (s ∷ ss) n k h = kind-step (assigned s.stmt) seen ss n k (λ now e. kind-has now ss n k e) h

-- Numbers below k that all stand in a list are no more than its length.

abbrev without : ℕ → List ℕ → List ℕ
without n [] = []
without n (x ∷ xs) = cond (n == x) (without n xs) (x ∷ without n xs)

without-has : (n i : ℕ) (xs : List ℕ) → i ≢ n → has i xs ≡ true → has i (without n xs) ≡ true
without-has n i [] apart h = cc
without-has n i (x ∷ xs) apart h =
    (elim (n == x) as (λ b. n == x ≡ b → has i (cond b (without n xs) (x ∷ without n xs)) ≡ true) [
      | true ↦ λ e. without-has n i xs apart (other (i == x) (has i xs) (λ q. apart (eqb-true i x q ∙ sym (eqb-true n x e))) h)
      | false ↦ λ e. (elim (i == x) as (λ c. (c || has i xs) ≡ true → (c || has i (without n xs)) ≡ true) [
        | true ↦ λ h. refl
        | false ↦ λ h. without-has n i xs apart h
      ]) h
    ]) refl
  where
    other : (a b : Bool) → (a ≡ true → ⊥) → (a || b) ≡ true → b ≡ true
    other true b unlike h = absurd (unlike refl)
    other false b unlike h = h

without-less : (n : ℕ) (xs : List ℕ) → length (without n xs) ≤ length xs
without-less n [] = omega arith
without-less n (x ∷ xs) = elim (n == x) as (λ b. length (cond b (without n xs) (x ∷ without n xs)) ≤ suc (length xs)) [
  | true ↦ let le : length (without n xs) ≤ length xs = without-less n xs in omega arith
  | false ↦ let le : length (without n xs) ≤ length xs = without-less n xs in omega arith
]

one-out : (n : ℕ) (xs : List ℕ) → has n xs ≡ true → suc (length (without n xs)) ≤ length xs
one-out n [] h = cc
one-out n (x ∷ xs) h = (elim (n == x) as (λ b. (b || has n xs) ≡ true → suc (length (cond b (without n xs) (x ∷ without n xs))) ≤ suc (length xs)) [
  | true ↦ λ h. let le : length (without n xs) ≤ length xs = without-less n xs in omega arith
  | false ↦ λ h. let le : suc (length (without n xs)) ≤ length xs = one-out n xs h in omega arith
]) h

pigeons : (k : ℕ) (xs : List ℕ) → ((i : ℕ) → i < k → has i xs ≡ true) → k ≤ length xs
pigeons zero xs h = omega arith
pigeons (suc k) xs h =
    let rest : k ≤ length (without k xs) = pigeons k (without k xs) (λ i less. without-has k i xs (λ e. omega (arith, less, e)) (h i (omega (arith, less)))) in
    let out : suc (length (without k xs)) ≤ length xs = one-out k xs (h k (omega arith)) in
    omega arith

pub few-names : NamesAreNumbered → FewNames
few-names numbered code names meets are =
    let most : length (names_after [] (nodes code)) ≤ 32 = few-assigned (nodes code) (meets-pass code meets) in
    let all : length names ≤ length (names_after [] (nodes code)) = pigeons (length names) (names_after [] (nodes code))
    (λ i less.
    let k = mentioned-kind (kind_of (nodes code)) (length names) [] code i (meets-lawful code (length names) meets (λ n u. (numbered names code are n).0 u)) ((numbered names code are i).1 less) in
    kind-has [] (nodes code) i k.0 k.1) in
    omega arith
