-- The order of kills: of two that differ one comes after the other, and any kills stand in order in one list.
use Rattle.std.proofs.Common.{◌≡◌, ◌⊎◌, inl, inr, ℕ, zero, suc, ◌<◌, Bool, true, false, List, [], ◌∷◌, length, nat_lt, ◌==◌, ◌||◌, ◌&&◌, refl, ap, sym, ◌∙◌, subst, arith, Contains, Decides, slice_index_or}
use Rattle.std.proofs.lemmas.Bool.Decides.{nat_tests}
use Rattle.rx_rules.proofs.Common.{Kill, ComesAfter, Ascends}
use Rattle.rx_rules.proofs.Kills.{further}
use Rattle.rx_history.specs.KillOrder.{IsAscending, is_before, OrderedKills, OneOrder}

-- the test tells which kill comes after which
before-after : (a b : Kill) → is_before a b ≡ true → ComesAfter a b
before-after a b e = by (nat_lt a.moment b.moment) (a.moment == b.moment) (nat_lt a.place.0 b.place.0) refl refl refl e
  where
    by : (x y z : Bool) → nat_lt a.moment b.moment ≡ x → (a.moment == b.moment) ≡ y → nat_lt a.place.0 b.place.0 ≡ z → (x || (y && z)) ≡ true → ComesAfter a b
    by true y z f g h e = inl (grind (arith, nat_tests))
    by false true true f g h e = inr (grind (arith, nat_tests), grind (arith, nat_tests))
    by false true false f g h e = cc
    by false false z f g h e = cc

after-before : (a b : Kill) → ComesAfter a b → is_before a b ≡ true
after-before a b (inl less) = let t : nat_lt a.moment b.moment ≡ true = grind (arith, nat_tests) in rw t refl
after-before a b (inr same) =
    let e : a.moment ≡ b.moment = same.0 in
    let l : a.place.0 < b.place.0 = same.1 in
    let s : nat_lt a.moment b.moment ≡ false = grind (arith, nat_tests) in
    let t : (a.moment == b.moment) ≡ true = grind (arith, nat_tests) in
    let u : nat_lt a.place.0 b.place.0 ≡ true = grind (arith, nat_tests) in
    rw (s, t, u) refl

pub before-Decides : (a b : Kill) → Decides (is_before a b) (ComesAfter a b)
before-Decides a b = (before-after a b, after-before a b)

-- none comes after itself
pub not-itself : (a : Kill) → ComesAfter a a → ⊥
not-itself a (inl x) = omega arith
not-itself a (inr x) = let l = x.1 in omega arith

same-kill : (a b : Kill) → a.moment ≡ b.moment → a.place.0 ≡ b.place.0 → a ≡ b
same-kill a b e f =
    ap (λ n. (let k : Kill = record { place = record { 0 = n }; moment = a.moment } in k)) f ∙ ap (λ n. (let k : Kill = record { place = b.place; moment = n } in k)) e

-- which of two kills comes after the other
pub which-after : (a b : Kill) → ComesAfter a b ⊎ ((a ≡ b) ⊎ ComesAfter b a)
which-after a b = by (nat_lt a.moment b.moment) (nat_lt b.moment a.moment) (nat_lt a.place.0 b.place.0) (nat_lt b.place.0 a.place.0) refl refl refl refl
  where
    by : (x y z w : Bool) → nat_lt a.moment b.moment ≡ x → nat_lt b.moment a.moment ≡ y → nat_lt a.place.0 b.place.0 ≡ z → nat_lt b.place.0 a.place.0 ≡ w
        → ComesAfter a b ⊎ ((a ≡ b) ⊎ ComesAfter b a)
    by true y z w e f g h = inl (inl (grind (arith, nat_tests)))
    by false true z w e f g h = inr (inr (inl (grind (arith, nat_tests))))
    by false false true w e f g h = inl (inr (grind (arith, nat_tests), grind (arith, nat_tests)))
    by false false false true e f g h = inr (inr (inr (grind (arith, nat_tests), grind (arith, nat_tests))))
    by false false false false e f g h = inr (inl (same-kill a b (grind (arith, nat_tests)) (grind (arith, nat_tests))))

-- what a list contains: its first element, and what the rest contains
pub contains-first : (x : Kill) (xs : List Kill) → Contains (x ∷ xs) x
contains-first x xs = (0, (let some : 0 < length (x ∷ xs) = omega arith in some), refl)

pub contains-later : (x : Kill) (xs : List Kill) (k : Kill) → Contains xs k → Contains (x ∷ xs) k
contains-later x xs k c = let inside : c.0 < length xs = c.1 in (suc c.0, (let more : suc c.0 < length (x ∷ xs) = omega arith in more), c.2)

pub contains-cases : (x : Kill) (xs : List Kill) (k : Kill) → Contains (x ∷ xs) k → (x ≡ k) ⊎ Contains xs k
contains-cases x xs k c = by c.0 c.1 c.2
  where
    by : (i : ℕ) → i < length (x ∷ xs) → slice_index_or (x ∷ xs) i k ≡ k → (x ≡ k) ⊎ Contains xs k
    by zero lt e = inl e
    by (suc i) lt e = inr (i, omega arith, e)

pub contains-none : (k : Kill) → Contains [] k → ⊥
contains-none k c = let inside : c.0 < 0 = c.1 in omega arith

-- what a list that ascends from a kill contains comes after that kill
pub contained-after : (a : Kill) (ks : List Kill) → Ascends a ks → (k : Kill) → Contains ks k → ComesAfter a k
contained-after a [] up k c = absurd (contains-none k c)
contained-after a (x ∷ xs) up k c = by (contains-cases x xs k c) (contained-after x xs up.1 k)
  where
    by : (x ≡ k) ⊎ Contains xs k → (Contains xs k → ComesAfter x k) → ComesAfter a k
    by (inl same) h = subst (ComesAfter a) same up.0
    by (inr more) h = further a x k up.0 (h more)

-- the rest of an ascending list ascends
pub ascending-rest : (k : Kill) (ks : List Kill) → IsAscending (k ∷ ks) → IsAscending ks
ascending-rest k [] up = tt
ascending-rest k (x ∷ xs) up = up.1

-- an ascending list with one kill more
record With (k : Kill) (old : List Kill) : Type 0 where
  kills : List Kill
  ascending : IsAscending kills
  after : (a : Kill) → Ascends a old → ComesAfter a k → Ascends a kills
  has : Contains kills k
  keeps : (j : Kill) → Contains old j → Contains kills j
  only : (j : Kill) → Contains kills j → (k ≡ j) ⊎ Contains old j

put : (k : Kill) (old : List Kill) → IsAscending old → With k old
put k [] up =
    record { kills = k ∷ []; ascending = tt; after = λ a h l. (l, tt); has = contains-first k []; keeps = λ j c. absurd (contains-none j c); only = λ j c. contains-cases k [] j c }
put k (x ∷ xs) up = by (which-after k x) (put k xs (ascending-rest x xs up))
  where
    by : ComesAfter k x ⊎ ((k ≡ x) ⊎ ComesAfter x k) → With k xs → With k (x ∷ xs)
    by (inl before) more =
        record { kills = k ∷ x ∷ xs; ascending = (before, up); after = λ a h l. (l, (before, h.1)); has = contains-first k (x ∷ xs); keeps = λ j c. contains-later k (x ∷ xs) j c; only = λ j c. contains-cases k (x ∷ xs) j c }
    by (inr (inl same)) more =
        record { kills = x ∷ xs; ascending = up; after = λ a h l. h; has = subst (Contains (x ∷ xs)) (sym same) (contains-first x xs); keeps = λ j c. c; only = λ j c. inr c }
    by (inr (inr behind)) more = record {
      kills = x ∷ more.kills;
      ascending = more.after x up behind;
      after = λ a h l. (h.0, more.after x h.1 behind);
      has = contains-later x more.kills k more.has;
      keeps = λ j c. elim (contains-cases x xs j c) [ inl first ↦ subst (Contains (x ∷ more.kills)) first (contains-first x more.kills) | inr rest ↦ contains-later x more.kills j (more.keeps j rest) ];
      only = λ j c. elim (contains-cases x more.kills j c) [ inl first ↦ inr (subst (Contains (x ∷ xs)) first (contains-first x xs)) | inr rest ↦ elim (more.only j rest) [ inl same ↦ inl same | inr old ↦ inr (contains-later x xs j old) ] ];
    }

-- any kills in order
pub in_order : (named : List Kill) → OrderedKills named
in_order [] = record { kills = []; ascending = tt; all = λ k c. c; only = λ k c. c }
in_order (x ∷ xs) =
    let rest = in_order xs in
    let more = put x rest.kills rest.ascending in
    record {
      kills = more.kills;
      ascending = more.ascending;
      all = λ k c. elim (contains-cases x xs k c) [ inl same ↦ subst (Contains more.kills) same more.has | inr later ↦ more.keeps k (rest.all k later) ];
      only = λ k c. elim (more.only k c) [ inl same ↦ subst (Contains (x ∷ xs)) same (contains-first x xs) | inr later ↦ contains-later x xs k (rest.only k later) ];
    }

-- the first kills of two ascending lists that contain each other's are the same
first-same : (x y : Kill) (xs ys : List Kill) → Ascends x xs → Ascends y ys → Contains (y ∷ ys) x → Contains (x ∷ xs) y → x ≡ y
first-same x y xs ys up vp f g = by (contains-cases y ys x f) (contains-cases x xs y g)
  where
    by : (y ≡ x) ⊎ Contains ys x → (x ≡ y) ⊎ Contains xs y → x ≡ y
    by (inl same) q = sym same
    by (inr c) (inl same) = same
    by (inr c) (inr d) = absurd (not-itself x (further x y x (contained-after x xs up y d) (contained-after y ys vp x c)))

-- what the rest of one list contains the rest of the other contains
rest-within : (x y : Kill) (xs ys : List Kill) → Ascends x xs → x ≡ y → ((k : Kill) → Contains (x ∷ xs) k → Contains (y ∷ ys) k) → (k : Kill) → Contains xs k → Contains ys k
rest-within x y xs ys up same f k c = by (contains-cases y ys k (f k (contains-later x xs k c)))
  where
    by : (y ≡ k) ⊎ Contains ys k → Contains ys k
    by (inl first) = absurd (not-itself x (subst (ComesAfter x) (sym (same ∙ first)) (contained-after x xs up k c)))
    by (inr rest) = rest

same-list : (xs ys : List Kill) → IsAscending xs → IsAscending ys → ((k : Kill) → Contains xs k → Contains ys k) → ((k : Kill) → Contains ys k → Contains xs k) → xs ≡ ys
same-list [] [] up vp f g = refl
same-list [] (y ∷ ys) up vp f g = absurd (contains-none y (g y (contains-first y ys)))
same-list (x ∷ xs) [] up vp f g = absurd (contains-none x (f x (contains-first x xs)))
same-list (x ∷ xs) (y ∷ ys) up vp f g =
    let same = first-same x y xs ys up vp (f x (contains-first x xs)) (g y (contains-first y ys)) in
    let rest = same-list xs ys (ascending-rest x xs up) (ascending-rest y ys vp) (rest-within x y xs ys up same f) (rest-within y x ys xs vp (sym same) g) in
    ap (λ k. k ∷ xs) same ∙ ap (λ ks. y ∷ ks) rest

pub one-order : OneOrder
one-order named a b = same-list a.kills b.kills a.ascending b.ascending (λ k c. b.all k (a.only k c)) (λ k c. a.all k (b.only k c))
