-- A plan is in ascending order, so what it starts with is the least.
use Rattle.std.proofs.Common.{◌≡◌, ◌⊎◌, inl, inr, ℕ, zero, suc, ◌<◌, ◌≤◌, Bool, true, false, cond, nat_le, nat_lt, List, [], ◌∷◌, drop, refl, arith, Contains}
use Rattle.std.specs.List.{AllByRecursion}
use Rattle.std.proofs.lemmas.Bool.Decides.{nat_tests}
use Rattle.std.proofs.lemmas.List.Elements.{All-from_recursion}
use Rattle.rx_rules.proofs.Common.{Kill, Event, ComesAfter, Ascends, put_in, events}
use Rattle.rx_rules.specs.declared.entries.Entry.{Entry}
use Rattle.rx_rules.specs.declared.entries.Entry.TheVariants.{Step, Root, Death, Join}
use Rattle.rx_history.specs.KillOrder.{IsAscending}
use Rattle.rx_history.proofs.InOrder.{ascending-rest}
use Rattle.rx_kills.specs.Least.{EntryAfter, EventAfter, EventsAfter, EventsAscend, DueIsLeast, NoneIsReached}
use Rattle.rx_rules.proofs.Plans.{join_at, death_at}

-- What is due is the least.

contains-first : (x : Event) (xs : List Event) → Contains (x ∷ xs) x
contains-first x xs = (0, omega arith, refl)

entries-further : (a b c : Entry) → EntryAfter a b → EntryAfter b c → EntryAfter a c
entries-further (Join p) (Join q) (Join r) x y = omega arith
entries-further (Join p) (Join q) (Death r) x y = tt
entries-further (Join p) (Death q) (Death r) x y = tt
entries-further (Death p) (Death q) (Death r) x y = omega arith
entries-further (Step t a b) q r x y = absurd x
entries-further (Root l m t) q r x y = absurd x
entries-further (Death p) (Step t a b) r x y = absurd x
entries-further (Death p) (Root l m t) r x y = absurd x
entries-further (Death p) (Join q) r x y = absurd x
entries-further (Join p) (Step t a b) r x y = absurd x
entries-further (Join p) (Root l m t) r x y = absurd x
entries-further (Death p) (Death q) (Step t a b) x y = absurd y
entries-further (Death p) (Death q) (Root l m t) x y = absurd y
entries-further (Death p) (Death q) (Join r) x y = absurd y
entries-further (Join p) (Death q) (Step t a b) x y = absurd y
entries-further (Join p) (Death q) (Root l m t) x y = absurd y
entries-further (Join p) (Death q) (Join r) x y = absurd y
entries-further (Join p) (Join q) (Step t a b) x y = absurd y
entries-further (Join p) (Join q) (Root l m t) x y = absurd y

further : (a b c : Event) → EventAfter a b → EventAfter b c → EventAfter a c
further a b c (inl x) (inl y) = inl (omega arith)
further a b c (inl x) (inr y) = let e = y.0 in inl (omega arith)
further a b c (inr x) (inl y) = let e = x.0 in inl (omega arith)
further a b c (inr x) (inr y) = let e = x.0 in let f = y.0 in inr (omega arith, entries-further a.entry b.entry c.entry x.1 y.1)

onward : (a b : Event) (xs : List Event) → EventAfter a b → EventsAfter b xs → EventsAfter a xs
onward a b [] h rest = tt
onward a b (x ∷ xs) h rest = (further a b x h rest.0, rest.1)

all-after : (a : Event) (xs : List Event) → EventsAfter a xs → AllByRecursion (λ x. (x ≡ a) ⊎ EventAfter a x) xs
all-after a [] h = tt
all-after a (x ∷ xs) h = (inr h.0, all-after a xs (onward a x xs h.0 h.1))

pub least : DueIsLeast
least n entry [] order due = absurd due
least n entry (x ∷ xs) order due =
    (x, due.0, due.1, record { stands = contains-first x xs; least = All-from_recursion (λ y. (y ≡ x) ⊎ EventAfter x y) (x ∷ xs) (inl refl, all-after x xs order) })

later : (n : ℕ) (a x : Event) → EventAfter a x → n < a.moment → n < x.moment
later n a x (inl h) low = omega arith
later n a x (inr h) low = let e = h.0 in omega arith

all-later : (n : ℕ) (a : Event) (xs : List Event) → EventsAfter a xs → n < a.moment → AllByRecursion (λ x. n < x.moment) xs
all-later n a [] h low = tt
all-later n a (x ∷ xs) h low = let next = later n a x h.0 low in (next, all-later n x xs h.1 next)

pub none : NoneIsReached
none n [] order due = All-from_recursion (λ x. n < x.moment) [] tt
none n (x ∷ xs) order due = All-from_recursion (λ y. n < y.moment) (x ∷ xs) (due, all-later n x xs order due)

-- A plan is in ascending order.

-- the entry is a death, or the join of a place from p on
abbrev IsFrom : ℕ → Entry → Type 0
IsFrom p (Join q) = p ≤ q.0
IsFrom p (Death q) = Unit {0}
IsFrom p _ = ⊥

-- so is each of the plan
abbrev EachFrom : ℕ → List Event → Type 0
EachFrom p [] = Unit {0}
EachFrom p (x ∷ xs) = IsFrom p x.entry × EachFrom p xs

put-from : (p e : ℕ) (xs : List Event) → EachFrom (suc p) xs → EachFrom p (put_in (join_at p e) xs)
put-from p e [] h = (omega arith, tt)
put-from p e (x ∷ xs) h = by (nat_le e x.moment) (put-from p e xs h.1)
  where
    lower : (y : Entry) → IsFrom (suc p) y → IsFrom p y
    lower (Join q) k = omega arith
    lower (Death q) k = tt
    lower (Step t a b) k = k
    lower (Root l m t) k = k

    lowered : (ys : List Event) → EachFrom (suc p) ys → EachFrom p ys
    lowered [] k = tt
    lowered (y ∷ ys) k = (lower y.entry k.0, lowered ys k.1)

    by : (b : Bool) → EachFrom p (put_in (join_at p e) xs) → EachFrom p (cond b (join_at p e ∷ x ∷ xs) (x ∷ put_in (join_at p e) xs))
    by true more = (omega arith, lowered (x ∷ xs) h)
    by false more = (lower x.entry h.0, more)

from : (p : ℕ) (js : List ℕ) (ks : List Kill) → EachFrom p (events p js ks)
from p [] [] = tt
from p [] (k ∷ ks) = (tt, from p [] ks)
from p (e ∷ es) ks = put-from p e (events (suc p) es ks) (from (suc p) es ks)

-- a join comes before what is not earlier and of later places
join-before : (p e : ℕ) (x : Event) → e ≤ x.moment → IsFrom (suc p) x.entry → EventAfter (join_at p e) x
join-before p e x le h = by (nat_lt e x.moment) refl
  where
    entry : (y : Entry) → IsFrom (suc p) y → EntryAfter (Join (record { 0 = p })) y
    entry (Join q) k = omega arith
    entry (Death q) k = tt
    entry (Step t a b) k = k
    entry (Root l m t) k = k

    by : (b : Bool) → nat_lt e x.moment ≡ b → EventAfter (join_at p e) x
    by true t = inl (grind (arith, nat_tests))
    by false t = inr (grind (arith, nat_tests), entry x.entry h)

-- among events that come after another it comes after that too
put-after : (a : Event) (p e : ℕ) (xs : List Event) → EventAfter a (join_at p e) → EventsAfter a xs → EachFrom (suc p) xs → EventsAfter a (put_in (join_at p e) xs)
put-after a p e [] first h all = (first, tt)
put-after a p e (x ∷ xs) first h all = by (nat_le e x.moment) refl (λ lt. put-after x p e xs (inl lt) h.1 all.1)
  where
    by : (b : Bool) → nat_le e x.moment ≡ b → (x.moment < e → EventsAfter x (put_in (join_at p e) xs)) → EventsAfter a (cond b (join_at p e ∷ x ∷ xs) (x ∷ put_in (join_at p e) xs))
    by true t more = let le : e ≤ x.moment = grind (arith, nat_tests) in (first, (join-before p e x le all.0, h.1))
    by false t more = let lt : x.moment < e = grind (arith, nat_tests) in (h.0, more lt)

put-ascends : (p e : ℕ) (xs : List Event) → EventsAscend xs → EachFrom (suc p) xs → EventsAscend (put_in (join_at p e) xs)
put-ascends p e [] h all = tt
put-ascends p e (x ∷ xs) h all = by (nat_le e x.moment) refl
  where
    by : (b : Bool) → nat_le e x.moment ≡ b → EventsAscend (cond b (join_at p e ∷ x ∷ xs) (x ∷ put_in (join_at p e) xs))
    by true t = let le : e ≤ x.moment = grind (arith, nat_tests) in (join-before p e x le all.0, h)
    by false t = let lt : x.moment < e = grind (arith, nat_tests) in put-after x p e xs (inl lt) h all.1

deaths-after : (p : ℕ) (k : Kill) (ks : List Kill) → Ascends k ks → EventsAfter (death_at k) (events p [] ks)
deaths-after p k [] h = tt
deaths-after p k (j ∷ ks) h = (death k j h.0, deaths-after p j ks h.1)
  where
    death : (k j : Kill) → ComesAfter k j → EventAfter (death_at k) (death_at j)
    death k j (inl x) = inl x
    death k j (inr x) = inr x

-- the events of joins and of kills in ascending order are in ascending order
pub events-ascend : (p : ℕ) (js : List ℕ) (ks : List Kill) → IsAscending ks → EventsAscend (events p js ks)
events-ascend p [] [] h = tt
events-ascend p [] (k ∷ ks) h = deaths-after p k ks h
events-ascend p (e ∷ es) ks h = put-ascends p e (events (suc p) es ks) (events-ascend (suc p) es ks h) (from (suc p) es ks)

-- what is left of a list in ascending order is in ascending order
pub ascending-left : (n : ℕ) (ks : List Kill) → IsAscending ks → IsAscending (drop n ks)
ascending-left zero ks h = h
ascending-left (suc n) [] h = tt
ascending-left (suc n) (k ∷ ks) h = ascending-left n ks (ascending-rest k ks h)
