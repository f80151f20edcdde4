-- What is left of a plan: what it starts with, and what is left after that.
use Rattle.std.proofs.Common.{◌≡◌, ℕ, zero, suc, ◌<◌, ◌≤◌, Bool, true, false, cond, nat_le, List, [], ◌∷◌, drop, length, refl, ap, sym, ◌∙◌, arith}
use Rattle.std.proofs.lemmas.Bool.Decides.{nat_tests}
use Rattle.rx_rules.proofs.Common.{Kill, Event, put_in, events, AreJoins, rest_of}
use Rattle.rx_rules.specs.declared.entries.Entry.TheVariants.{Death, Join}
use Rattle.std.proofs.lemmas.List.{drop_all}
use Rattle.rx_history.specs.JoinOrder.{NeverFalls}
use Rattle.rx_rules.proofs.Plans.{join_at, death_at, starts-join, starts-death}
use Rattle.rx_kills.specs.Inside.Front.{starts_with_join}

-- what starts with an event has the rest after it
pub starts-so : {x : Event} {xs rest : List Event} → xs ≡ x ∷ rest → xs ≡ x ∷ rest_of xs
starts-so {x} {xs} {rest} e = e ∙ ap (λ r. x ∷ r) (sym (ap rest_of e))

-- Which of the two is first.

-- joins that never fall do so from any moment that is not after the first
never-falls : (low : ℕ) (js : List ℕ) → AreJoins low js → NeverFalls js
never-falls low [] h = tt
never-falls low (e ∷ es) h = (omega arith, h.1)

-- what is left of joins that never fall never falls
pub falls-left : (n : ℕ) (js : List ℕ) → NeverFalls js → NeverFalls (drop n js)
falls-left zero js h = h
falls-left (suc n) [] h = tt
falls-left (suc n) (e ∷ es) h = falls-left n es (never-falls e es h.1)

-- which comes first of a join and a kill
pub join-or-death : (p e : ℕ) (es : List ℕ) (k : Kill) (ks : List Kill) → NeverFalls (e ∷ es) → starts_with_join (events p (e ∷ es) (k ∷ ks)) ≡ nat_le e k.moment
join-or-death p e es k ks h = by (nat_le e k.moment) refl
  where
    by : (b : Bool) → nat_le e k.moment ≡ b → starts_with_join (events p (e ∷ es) (k ∷ ks)) ≡ nat_le e k.moment
    by true t =
        let le : e ≤ k.moment = grind (arith, nat_tests) in ap starts_with_join (starts-join 0 p e es (k ∷ ks) h le) ∙ sym t
    by false t =
        let lt : k.moment < e = grind (arith, nat_tests) in
        ap starts_with_join (starts-death e p (e ∷ es) k ks (omega arith, h.1) lt) ∙ sym t

-- without kills a join is first
pub join-alone : (p e : ℕ) (es : List ℕ) → NeverFalls (e ∷ es) → starts_with_join (events p (e ∷ es) []) ≡ true
join-alone p e es h = ap starts_with_join (starts-join 0 p e es [] h tt)

-- without joins none is
pub no-join : (p : ℕ) (ks : List Kill) → starts_with_join (events p [] ks) ≡ false
no-join p [] = refl
no-join p (k ∷ ks) = refl

-- where a join is first, it is the first that is left
pub join-first : (p e : ℕ) (es : List ℕ) (ks : List Kill) → NeverFalls (e ∷ es) → starts_with_join (events p (e ∷ es) ks) ≡ true
    → events p (e ∷ es) ks ≡ join_at p e ∷ events (suc p) es ks
join-first p e es [] h first = starts-join 0 p e es [] h tt
join-first p e es (k ∷ ks) h first =
    let t : nat_le e k.moment ≡ true = sym (join-or-death p e es k ks h) ∙ first in
    let le : e ≤ k.moment = grind (arith, nat_tests) in
    starts-join 0 p e es (k ∷ ks) h le

-- where none is, the first kill is the first that is left
pub death-first : (p : ℕ) (js : List ℕ) (k : Kill) (ks : List Kill) → NeverFalls js → starts_with_join (events p js (k ∷ ks)) ≡ false
    → events p js (k ∷ ks) ≡ death_at k ∷ events p js ks
death-first p [] k ks h none = refl
death-first p (e ∷ es) k ks h none =
    let t : nat_le e k.moment ≡ false = sym (join-or-death p e es k ks h) ∙ none in
    let lt : k.moment < e = grind (arith, nat_tests) in
    starts-death e p (e ∷ es) k ks (omega arith, h.1) lt

-- and where no kill is left either, nothing is
pub none-first : (p : ℕ) (js : List ℕ) → NeverFalls js → starts_with_join (events p js []) ≡ false → events p js [] ≡ []
none-first p [] h none = refl
none-first p (e ∷ es) h none = let some = join-alone p e es h in cc

-- where a join is first, one is left
pub join-inside : (p i : ℕ) (js : List ℕ) (ks : List Kill) → starts_with_join (events p (drop i js) ks) ≡ true → i < length js
join-inside p i js ks first = by (nat_le (length js) i) refl
  where
    by : (b : Bool) → nat_le (length js) i ≡ b → i < length js
    by false t = grind (arith, nat_tests)
    by true t =
        let past : length js ≤ i = grind (arith, nat_tests) in
        let none = no-join p ks in
        let same : starts_with_join (events p (drop i js) ks) ≡ starts_with_join (events p [] ks) = ap (λ r. starts_with_join (events p r ks)) (drop_all i js past) in
        cc

-- where something is left and no join is first, a kill is left
pub death-inside : (p i : ℕ) (js : List ℕ) (ks : List Kill) → NeverFalls js → starts_with_join (events p js (drop i ks)) ≡ false
    → 0 < length (events p js (drop i ks)) → i < length ks
death-inside p i js ks h first some = by (nat_le (length ks) i) refl
  where
    by : (b : Bool) → nat_le (length ks) i ≡ b → i < length ks
    by false t = grind (arith, nat_tests)
    by true t =
        let past : length ks ≤ i = grind (arith, nat_tests) in
        let left = drop_all i ks past in
        let none = none-first p js h (ap (λ r. starts_with_join (events p js r)) (sym left) ∙ first) in
        let all : events p js (drop i ks) ≡ [] = ap (events p js) left ∙ none in
        omega (arith, ap length all)
