-- Kills of which none is bad: in order, they are a setup's kills, and a sort of them gives this order.
use Rattle.std.proofs.Common.{◌≡◌, ◌≢◌, ◌⊎◌, inl, inr, ℕ, zero, suc, ◌+◌, ◌<◌, ◌≤◌, Bool, true, false, cond, List, [], ◌∷◌, ◌++◌, length, None, Some, refl, ap, sym, ◌∙◌, subst, arith, map, nat_lt, nat_le, ◌==◌, ◌||◌, ◌&&◌, if◌then◌else◌, Option, Contains, slice_index_or, slice_get}
use Rattle.std.specs.List.{AllByRecursion, IsDistinct}
use Rattle.std.specs.List.Sorted.{IsPermutation, IsSortedBy, IsSortedByKey}
use Rattle.std.specs.Ordering.{is_lt, nat_cmp, ordering_then}
use Rattle.std.specs.declared.cmp.Ordering.TheVariants.{Less, Equal, Greater}
use Rattle.std.proofs.lemmas.Bool.Decides.{nat_tests}
use Rattle.std.proofs.lemmas.List.Sorted.{Contains-permutation, IsPermutation-sym}
use Rattle.std.proofs.lemmas.Map.Keys.{IsDistinct-IsPermutation, apart_from_distinct}
use Rattle.std.proofs.lemmas.Bool.{or_parts}
use Rattle.rx_rules.proofs.Common.{Kill, PlaceId, Given, in_all, AreKills, Joined, Spares, Ascends, ComesAfter, has}
use Rattle.rx_history.specs.KillOrder.{IsAscending, ComesLast, is_before}
use Rattle.rx_history.proofs.InOrder.{which-after, before-Decides, not-itself, contains-first, contains-later, contains-cases, contains-none, contained-after, ascending-rest, in_order, one-order}
use Rattle.rx_words.specs.Words.{joins_later, is_bad, bad_kill, ordered}
use Rattle.rx_words.specs.Commands.{kill_in}

-- where the place of a kill does not join after the kill's moment, each moment at which it joins is at most that one
pub joins-in-time : (k : Kill) (p : ℕ) (joins : List ℕ) → joins_later k p joins ≡ false → (i e : ℕ) → slice_get joins i ≡ Some e → k.place.0 ≡ p + i → e ≤ k.moment
joins-in-time k p [] never i e is at = cc
joins-in-time k p (m ∷ ms) never zero e is at =
    let t = or_parts (k.place.0 == p && nat_lt k.moment m) (joins_later k (suc p) ms) never in
    let here : (k.place.0 == p) ≡ true = grind (arith, nat_tests) in
    let late : nat_lt k.moment m ≡ false = sym (ap (λ b. b && nat_lt k.moment m) here) ∙ t.0 in
    let same : m ≡ e = some-is m e is in
    grind (arith, nat_tests)
  where
    some-is : (m e : ℕ) → Some m ≡ Some e → m ≡ e
    some-is m e h = cc
joins-in-time k p (m ∷ ms) never (suc i) e is at =
    joins-in-time k (suc p) ms (or_parts (k.place.0 == p && nat_lt k.moment m) (joins_later k (suc p) ms) never).1 i e is (omega arith)

-- a kill of a place that is there at its moment and is not 0
abbrev pub IsPlanned : Given → Kill → Type 0
IsPlanned U k = (k.place.0 < in_all U) × (k.place.0 ≢ 0) × Joined U k

-- such kills, none of a place twice
abbrev pub Fine : Given → List Kill → Type 0
Fine U [] = Unit {0}
Fine U (k ∷ ks) = IsPlanned U k × Spares k.place ks × Fine U ks

-- no place of theirs was named before
abbrev pub AreNew : List ℕ → List Kill → Type 0
AreNew seen [] = Unit {0}
AreNew seen (k ∷ ks) = (has k.place.0 seen ≡ false) × AreNew seen ks

has-front : (p q : ℕ) (seen : List ℕ) → has p (seen ++ q ∷ []) ≡ false → (has p seen ≡ false) × (p ≢ q)
has-front p q [] e = (refl, λ h. (let t : (p == q) ≡ false = (or_parts (p == q) false e).0 in grind (arith, nat_tests)))
has-front p q (x ∷ xs) e =
    let t = or_parts (p == x) (has p (xs ++ q ∷ [])) e in
    let more = has-front p q xs t.1 in
    (ap (λ b. b || has p xs) t.0 ∙ more.0, more.1)

new-front : (q : PlaceId) (seen : List ℕ) (ks : List Kill) → AreNew (seen ++ q.0 ∷ []) ks → AreNew seen ks × Spares q ks
new-front q seen [] n = (tt, tt)
new-front q seen (k ∷ ks) n =
    let t = has-front k.place.0 q.0 seen n.0 in
    let more = new-front q seen ks n.1 in
    ((t.0, more.0), (λ e. t.1 (sym e), more.1))

none-bad : (b : Bool) (k : ℕ) (o : Option ℕ) → (if b then Some k else o) ≡ None → (b ≡ false) × (o ≡ None)
none-bad true k o e = cc
none-bad false k o e = (refl, e)

fine-of : (U : Given) (seen : List ℕ) (ks : List (ℕ × Kill)) → bad_kill U.places U.joins seen ks ≡ None → Fine U (map kill_in ks) × AreNew seen (map kill_in ks)
fine-of U seen [] e = (tt, tt)
fine-of U seen (k ∷ ks) e =
    let p = k.1.place.0 in
    let t = none-bad (is_bad U.places U.joins seen k.1) k.0 (bad_kill U.places U.joins (seen ++ p ∷ []) ks) e in
    let l = or_parts (p == 0 || nat_le (in_all U) p || has p seen) (joins_later k.1 U.places U.joins) t.0 in
    let a = or_parts (p == 0 || nat_le (in_all U) p) (has p seen) l.0 in
    let b = or_parts (p == 0) (nat_le (in_all U) p) a.0 in
    let more = fine-of U (seen ++ p ∷ []) ks t.1 in
    let front = new-front k.1.place seen (map kill_in ks) more.1 in
    let first : (p == 0) ≡ false = b.0 in
    let there : nat_le (in_all U) p ≡ false = b.1 in
    (((grind (arith, nat_tests), (λ z. grind (arith, nat_tests)), joins-in-time k.1 U.places U.joins l.1), front.1, more.0), (a.1, front.0))

spares-contained : (p : PlaceId) (ks : List Kill) → Spares p ks → (k : Kill) → Contains ks k → p.0 ≢ k.place.0
spares-contained p [] s k c = absurd (contains-none k c)
spares-contained p (x ∷ xs) s k c = by (contains-cases x xs k c) (spares-contained p xs s.1 k)
  where
    by : (x ≡ k) ⊎ Contains xs k → (Contains xs k → p.0 ≢ k.place.0) → p.0 ≢ k.place.0
    by (inl same) more = subst (λ (j : Kill). p.0 ≢ j.place.0) same s.0
    by (inr rest) more = more rest

spares-all : (p : PlaceId) (ks : List Kill) → ((k : Kill) → Contains ks k → p.0 ≢ k.place.0) → Spares p ks
spares-all p [] h = tt
spares-all p (x ∷ xs) h = (h x (contains-first x xs), spares-all p xs (λ k c. h k (contains-later x xs k c)))

fine-contained : (U : Given) (ks : List Kill) → Fine U ks → (k : Kill) → Contains ks k → IsPlanned U k
fine-contained U [] f k c = absurd (contains-none k c)
fine-contained U (x ∷ xs) f k c = by (contains-cases x xs k c) (fine-contained U xs f.2 k)
  where
    by : (x ≡ k) ⊎ Contains xs k → (Contains xs k → IsPlanned U k) → IsPlanned U k
    by (inl same) more = subst (IsPlanned U) same f.0
    by (inr rest) more = more rest

-- one of a place
one-each : (U : Given) (ks : List Kill) → Fine U ks → (a b : Kill) → Contains ks a → Contains ks b → a.place.0 ≡ b.place.0 → a ≡ b
one-each U [] f a b c d e = absurd (contains-none a c)
one-each U (x ∷ xs) f a b c d e = by (contains-cases x xs a c) (contains-cases x xs b d) (one-each U xs f.2 a b)
  where
    by : (x ≡ a) ⊎ Contains xs a → (x ≡ b) ⊎ Contains xs b → (Contains xs a → Contains xs b → a.place.0 ≡ b.place.0 → a ≡ b) → a ≡ b
    by (inl p) (inl q) more = sym p ∙ q
    by (inl p) (inr q) more = absurd (spares-contained x.place xs f.1 b q (ap (λ (k : Kill). k.place.0) p ∙ e))
    by (inr p) (inl q) more = absurd (spares-contained x.place xs f.1 a p (ap (λ (k : Kill). k.place.0) q ∙ sym e))
    by (inr p) (inr q) more = more p q e

are-kills : (U : Given) (ks : List Kill) → IsAscending ks → ((k : Kill) → Contains ks k → IsPlanned U k) → ((a b : Kill) → Contains ks a → Contains ks b → a.place.0 ≡ b.place.0 → a ≡ b) → AreKills U ks
are-kills U [] up there one = tt
are-kills U (k ∷ ks) up there one =
    let first = there k (contains-first k ks) in
    let rest = are-kills U ks (ascending-rest k ks up) (λ j c. there j (contains-later k ks j c)) (λ a b c d e. one a b (contains-later k ks a c) (contains-later k ks b d) e) in
    let other : (j : Kill) → Contains ks j → k.place.0 ≢ j.place.0 = λ j c e.
    not-itself k (subst (ComesAfter k) (sym (one k j (contains-first k ks) (contains-later k ks j c) e)) (contained-after k ks up j c)) in
    (first.0, first.1, first.2, spares-all k.place ks other, up, rest)

-- where no kill is bad, they are a setup's kills once they stand in order
pub planned-kills : (U : Given) (ks : List (ℕ × Kill)) → bad_kill U.places U.joins [] ks ≡ None → AreKills U (ordered ks)
planned-kills U ks e =
    let named = map kill_in ks in
    let f = (fine-of U [] ks e).0 in
    let o = in_order named in
    are-kills U o.kills o.ascending (λ k c. fine-contained U named f k (o.only k c)) (λ a b c d. one-each U named f a b (o.only a c) (o.only b d))

abbrev same_place : Kill → Kill → Bool
same_place a b = a.place.0 == b.place.0

flips : (a b : Kill) → same_place a b ≡ same_place b a
flips a b = by (a.place.0 == b.place.0) (b.place.0 == a.place.0) refl refl
  where
    by : (x y : Bool) → (a.place.0 == b.place.0) ≡ x → (b.place.0 == a.place.0) ≡ y → (a.place.0 == b.place.0) ≡ (b.place.0 == a.place.0)
    by true true e f = e ∙ sym f
    by false false e f = e ∙ sym f
    by true false e f = absurd (let s : a.place.0 ≡ b.place.0 = grind (arith, nat_tests) in grind (arith, nat_tests))
    by false true e f = absurd (let s : b.place.0 ≡ a.place.0 = grind (arith, nat_tests) in grind (arith, nat_tests))

apart : (k : Kill) (ks : List Kill) → Spares k.place ks → AllByRecursion (λ j. same_place k j ≡ false) ks
apart k [] s = tt
apart k (x ∷ xs) s = ((let other : k.place.0 ≢ x.place.0 = s.0 in grind (arith, nat_tests)), apart k xs s.1)

distinct : (U : Given) (ks : List Kill) → Fine U ks → IsDistinct same_place ks
unfolding IsDistinct
distinct U [] f = tt
distinct U (k ∷ ks) f = (apart k ks f.1, distinct U ks f.2)

-- of two kills of different places, the one that is not before the other comes after it
not-before : (a b : Kill) → is_before b a ≡ false → same_place a b ≡ false → ComesAfter a b
not-before a b e other = by (which-after a b)
  where
    by : ComesAfter a b ⊎ ((a ≡ b) ⊎ ComesAfter b a) → ComesAfter a b
    by (inl after) = after
    by (inr (inl same)) = absurd (let s : a.place.0 ≡ b.place.0 = ap (λ (k : Kill). k.place.0) same in let t : (a.place.0 == b.place.0) ≡ false = other in grind (arith, nat_tests))
    by (inr (inr before)) = absurd (let t : is_before b a ≡ true = (before-Decides b a).1 before in cc)

rising : (a : Kill) (ks : List Kill) → ((i : ℕ) (d : Kill) → suc i < length (a ∷ ks) → ComesAfter (slice_index_or (a ∷ ks) i d) (slice_index_or (a ∷ ks) (suc i) d)) → Ascends a ks
rising a [] h = tt
rising a (k ∷ ks) h = (h 0 a (omega arith), rising k ks (λ i d lt. h (suc i) d (omega arith)))

rising-list : (ks : List Kill) → ((i : ℕ) (d : Kill) → suc i < length ks → ComesAfter (slice_index_or ks i d) (slice_index_or ks (suc i) d)) → IsAscending ks
rising-list [] h = tt
rising-list (k ∷ ks) h = rising k ks h

-- where no kill is bad, a list of them that a sort has made ascends
pub sorted-ascends : (places : ℕ) (joins : List ℕ) (ks : List (ℕ × Kill)) (list : List Kill) → bad_kill places joins [] ks ≡ None → IsPermutation (map kill_in ks) list → IsSortedBy is_before list → IsAscending list
sorted-ascends places joins ks list e same up =
    let U : Given = record { places = places; heap = 0; kills = []; joins = joins } in
    let d = IsDistinct-IsPermutation same_place flips (map kill_in ks) list same (distinct U (map kill_in ks) (fine-of U [] ks e).0) in
    rising-list list (λ i k lt.
    let one : i + 1 ≡ suc i = omega arith in
    let low : is_before (slice_index_or list (suc i) k) (slice_index_or list i k) ≡ false = ap (λ n. is_before (slice_index_or list n k) (slice_index_or list i k)) (sym one) ∙ up i k (omega arith) (omega arith) in
    not-before _ _ low (apart_from_distinct same_place list i (suc i) k d (omega arith) lt))

-- and it is the list of them in order
pub sorted-is : (places : ℕ) (joins : List ℕ) (ks : List (ℕ × Kill)) (list : List Kill) → bad_kill places joins [] ks ≡ None → IsPermutation (map kill_in ks) list → IsSortedBy is_before list → list ≡ ordered ks
sorted-is places joins ks list e same up =
    one-order (map kill_in ks)
    (record { kills = list; ascending = sorted-ascends places joins ks list e same up; all = λ k c. Contains-permutation (map kill_in ks) list k same c; only = λ k c. Contains-permutation list (map kill_in ks) k (IsPermutation-sym (map kill_in ks) list same) c })
    (in_order (map kill_in ks))

-- the order of moments, and of places at one moment, is that of kills
by-key : (a b : Kill) → is_lt (ordering_then (nat_cmp a.moment b.moment) (nat_cmp a.place.0 b.place.0)) ≡ is_before a b
by-key a b = by (nat_lt a.moment b.moment) (a.moment == b.moment) (nat_lt a.place.0 b.place.0) (a.place.0 == b.place.0)
  where
    by : (x y z w : Bool) → is_lt (ordering_then (cond x Less (cond y Equal Greater)) (cond z Less (cond w Equal Greater))) ≡ (x || (y && z))
    by true y z w = refl
    by false true true w = refl
    by false true false true = refl
    by false true false false = refl
    by false false z w = refl

abbrev pub key_of : Kill → ℕ × ℕ
key_of k = (k.moment, k.place.0)

pub sorted-by-key : (ks : List Kill) → IsSortedByKey key_of (λ x y. ordering_then (nat_cmp x.0 y.0) (nat_cmp x.1 y.1)) ks → IsSortedBy is_before ks
sorted-by-key ks up i d low lt = sym (by-key (slice_index_or ks (i + 1) d) (slice_index_or ks i d)) ∙ up i d low lt

-- the next one of a list in ascending order comes last
last-by : (a k : Kill) (xs ys : List Kill) → Ascends a (xs ++ k ∷ ys) → ComesLast (a ∷ xs) k
last-by a k [] ys up = up.0
last-by a k (x ∷ xs) ys up = last-by x k xs ys up.1

pub comes-last : (k : Kill) (xs ys : List Kill) → IsAscending (xs ++ k ∷ ys) → ComesLast xs k
comes-last k [] ys up = tt
comes-last k (x ∷ xs) ys up = last-by x k xs ys up
