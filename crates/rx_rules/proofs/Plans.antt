-- The events of a plan, in their order: what a plan starts with.
use Rattle.std.proofs.Common.{◌≡◌, ℕ, suc, ◌<◌, ◌≤◌, Bool, true, false, cond, nat_le, List, [], ◌∷◌, refl, ap, ◌∙◌, arith}
use Rattle.std.proofs.lemmas.Bool.Decides.{nat_tests}
use Rattle.rx_rules.proofs.Common.{Kill, Event, put_in, events, AreJoins}
use Rattle.rx_rules.specs.declared.entries.Entry.TheVariants.{Death, Join}

-- the join of place p at moment e
abbrev pub join_at : ℕ → ℕ → Event
join_at p e = record { moment = e; entry = Join (record { 0 = p }) }

-- the death that a kill makes
abbrev pub death_at : Kill → Event
death_at k = record { moment = k.moment; entry = Death k.place }

-- the first event, if there is one, is not before the moment
abbrev pub NotBefore : ℕ → List Event → Type 0
NotBefore low [] = Unit {0}
NotBefore low (x ∷ xs) = low ≤ x.moment

-- an event that is not after the first of the others becomes the first
pub put-first : (e : Event) (xs : List Event) → NotBefore e.moment xs → put_in e xs ≡ e ∷ xs
put-first e [] h = refl
put-first e (x ∷ xs) h =
    let t : nat_le e.moment x.moment ≡ true = grind (arith, nat_tests) in
    ap (λ b. cond b (e ∷ x ∷ xs) (x ∷ put_in e xs)) t

-- an event that is after the first of the others comes behind it
pub put-later : (e x : Event) (xs : List Event) → x.moment < e.moment → put_in e (x ∷ xs) ≡ x ∷ put_in e xs
put-later e x xs h =
    let t : nat_le e.moment x.moment ≡ false = grind (arith, nat_tests) in
    ap (λ b. cond b (e ∷ x ∷ xs) (x ∷ put_in e xs)) t

pub put-not-before : (low : ℕ) (e : Event) (xs : List Event) → low ≤ e.moment → NotBefore low xs → NotBefore low (put_in e xs)
put-not-before low e [] h k = h
put-not-before low e (x ∷ xs) h k = by (nat_le e.moment x.moment)
  where
    by : (b : Bool) → NotBefore low (cond b (e ∷ x ∷ xs) (x ∷ put_in e xs))
    by true = h
    by false = k

-- what holds from a moment on holds from an earlier one on
pub joins-lower : (low e : ℕ) (es : List ℕ) → low ≤ e → AreJoins e es → AreJoins low es
joins-lower low e [] a h = tt
joins-lower low e (f ∷ fs) a h = let b : e ≤ f = h.0 in (omega arith, h.1)

-- no event is before a moment that no join and no kill is before
pub not-before : (low p : ℕ) (js : List ℕ) (ks : List Kill) → AreJoins low js → NotBefore low (events p [] ks) → NotBefore low (events p js ks)
not-before low p [] ks h k = k
not-before low p (e ∷ es) ks h k = put-not-before low (join_at p e) (events (suc p) es ks) h.0 (not-before low (suc p) es ks (joins-lower low e es h.0 h.1) k)

-- a plan starts with its first join, where no kill is before it
pub starts-join : (low p e : ℕ) (es : List ℕ) (ks : List Kill) → AreJoins low (e ∷ es) → NotBefore e (events p [] ks)
    → events p (e ∷ es) ks ≡ join_at p e ∷ events (suc p) es ks
starts-join low p e es ks h k = put-first (join_at p e) (events (suc p) es ks) (not-before e (suc p) es ks h.1 k)

-- and with its first kill, where that is before each join
pub starts-death : (low p : ℕ) (js : List ℕ) (k : Kill) (ks : List Kill) → AreJoins low js → k.moment < low
    → events p js (k ∷ ks) ≡ death_at k ∷ events p js ks
starts-death low p [] k ks h lt = refl
starts-death low p (e ∷ es) k ks h lt =
    let a : low ≤ e = h.0 in
    let before : k.moment < e = omega arith in
    ap (put_in (join_at p e)) (starts-death e (suc p) es k ks h.1 before)
    ∙ put-later (join_at p e) (death_at k) (events (suc p) es ks) before
