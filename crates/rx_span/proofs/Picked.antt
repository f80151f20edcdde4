-- The picked chain is the first of the longest.
use Rattle.std.proofs.Common.{◌≡◌, ◌⊎◌, ℕ, zero, suc, ◌<◌, ◌≤◌, Bool, true, false, cond, nat_lt, List, [], ◌∷◌, length, filter, refl, ap, sym, subst, ◌∙◌, arith, inl, inr, ⊎_elim}
use Rattle.std.proofs.lemmas.Bool.{ltb-true, ltb-false, true≢false}
use Rattle.std.specs.List.Sorted.{IsPermutation}
use Rattle.std.proofs.lemmas.List.Sorted.{length_permutation, IsPermutation-sym}
use Rattle.rx_rules.proofs.Common.{Block}
use Rattle.rx_history_laws.proofs.Paths.{comes-trans, comes-other}
use Rattle.rx_span.specs.Inside.Sorting.{Descends, backwards}
use Rattle.rx_span.specs.Paths.{ComesBefore, NotAfter}
use Rattle.rx_span.specs.Chains.{In, AllIn, IsChain, IsSpan}
use Rattle.rx_span.specs.Inside.Best.{may_lead, pick, best_chains}
use Rattle.rx_span.proofs.Before.{before-comes}
use Rattle.rx_span.proofs.Lists.{Ascends, all-member, ascends-back, back-in, in-back, in-permutation}

-- x is one of these
abbrev Member : {X : Type 0} → X → List X → Type 0
Member x [] = ⊥
Member x (y ∷ ys) = (x ≡ y) ⊎ Member x ys

abbrev Every : List (List ℕ) → List (List ℕ) → Type 0
Every [] xs = Unit {0}
Every (c ∷ cs) xs = Member c xs × Every cs xs

-- each comes before all later ones
abbrev Rises : List (List ℕ) → Type 0
Rises [] = Unit {0}
Rises (x ∷ xs) = ((y : List ℕ) → Member y xs → ComesBefore x y) × Rises xs

-- c is longer, or as long and not after d
abbrev NoWorse : List (List ℕ) → List (List ℕ) → Type 0
NoWorse c d = (length d < length c) ⊎ ((length d ≡ length c) × NotAfter c d)

-- a chain of these statements, than which none is better
abbrev IsLongest : Block → List (List ℕ) → List (List ℕ) → Type 0
IsLongest code xs c = IsChain code c × Every c xs × ((d : List (List ℕ)) → IsChain code d → Every d xs → NoWorse c d)

lower : (m n : ℕ) → m ≤ n → (m < n) ⊎ (m ≡ n)
lower zero zero l = inr refl
lower zero (suc n) l = inl (omega arith)
lower (suc m) zero l = absurd (omega arith)
lower (suc m) (suc n) l = ⊎_elim (λ (k : m < n). inl (omega arith)) (λ (k : m ≡ n). inr (ap suc k)) (lower m n (omega arith))

module _ (code : Block) where
  not_after-same : (c : List (List ℕ)) → NotAfter c c
  not_after-same [] = tt
  not_after-same (x ∷ c) = inr (refl, not_after-same c)

  not_after-trans : (c d e : List (List ℕ)) → NotAfter c d → NotAfter d e → NotAfter c e
  not_after-trans [] d e h k = tt
  not_after-trans (x ∷ c) [] e h k = absurd h
  not_after-trans (x ∷ c) (y ∷ d) [] h k = absurd k
  not_after-trans (x ∷ c) (y ∷ d) (z ∷ e) (inl h) (inl k) = inl (comes-trans x y z h k)
  not_after-trans (x ∷ c) (y ∷ d) (z ∷ e) (inl h) (inr k) = inl (subst (λ w. ComesBefore x w) k.0 h)
  not_after-trans (x ∷ c) (y ∷ d) (z ∷ e) (inr h) (inl k) = inl (subst (λ w. ComesBefore w z) (sym h.0) k)
  not_after-trans (x ∷ c) (y ∷ d) (z ∷ e) (inr h) (inr k) = inr (h.0 ∙ k.0, not_after-trans c d e h.1 k.1)

  no_worse-same : (c : List (List ℕ)) → NoWorse c c
  no_worse-same c = inr (refl, not_after-same c)

  no_worse-trans : (c d e : List (List ℕ)) → NoWorse c d → NoWorse d e → NoWorse c e
  no_worse-trans c d e (inl h) (inl k) = inl (omega arith)
  no_worse-trans c d e (inl h) (inr k) = inl (let l = k.0 in omega arith)
  no_worse-trans c d e (inr h) (inl k) = inl (let l = h.0 in omega arith)
  no_worse-trans c d e (inr h) (inr k) = inr (k.0 ∙ h.0, not_after-trans c d e h.1 k.1)

  no_worse-more : (x : List ℕ) (c d : List (List ℕ)) → NoWorse c d → NoWorse (x ∷ c) (x ∷ d)
  no_worse-more x c d (inl h) = inl (omega arith)
  no_worse-more x c d (inr h) = inr (ap suc h.0, inr (refl, h.1))

  -- the chains have heads that come in order
  abbrev Headed : List (List (List ℕ)) → Type 0
  Headed [] = Unit {0}
  Headed ([] ∷ cs) = ⊥
  Headed ((x ∷ c) ∷ cs) = ((y : List ℕ) (d : List (List ℕ)) → Member (y ∷ d) cs → ComesBefore x y) × Headed cs

  in-filter : {X : Type 0} (p : X → Bool) (x : X) (xs : List X) → Member x (filter p xs) → Member x xs × (p x ≡ true)
  in-filter p x [] h = absurd h
  in-filter p x (y ∷ ys) h = go (p y) refl (in-filter p x ys) h
    where
      go : (b : Bool) → p y ≡ b → (Member x (filter p ys) → Member x ys × (p x ≡ true)) → Member x (cond b (y ∷ filter p ys) (filter p ys)) → Member x (y ∷ ys) × (p x ≡ true)
      go true e f (inl s) = (inl s, ap p s ∙ e)
      go true e f (inr k) = let r = f k in (inr r.0, r.1)
      go false e f k = let r = f k in (inr r.0, r.1)

  filter-in : {X : Type 0} (p : X → Bool) (x : X) (xs : List X) → Member x xs → p x ≡ true → Member x (filter p xs)
  filter-in p x [] h t = absurd h
  filter-in p x (y ∷ ys) h t = go (p y) refl (λ k. filter-in p x ys k t) h
    where
      go : (b : Bool) → p y ≡ b → (Member x ys → Member x (filter p ys)) → Member x (y ∷ ys) → Member x (cond b (y ∷ filter p ys) (filter p ys))
      go true e f (inl s) = inl s
      go true e f (inr k) = inr (f k)
      go false e f (inl s) = absurd (true≢false (sym t ∙ (ap p s ∙ e)))
      go false e f (inr k) = f k

  headed-filter : (p : List (List ℕ) → Bool) (cs : List (List (List ℕ))) → Headed cs → Headed (filter p cs)
  headed-filter p [] h = tt
  headed-filter p ([] ∷ cs) h = absurd h
  headed-filter p ((x ∷ c) ∷ cs) h = go (p (x ∷ c)) (headed-filter p cs h.1)
    where
      go : (b : Bool) → Headed (filter p cs) → Headed (cond b ((x ∷ c) ∷ filter p cs) (filter p cs))
      go true r = ((λ y d i. h.0 y d (in-filter p (y ∷ d) cs i).0), r)
      go false r = r

  -- none of them is better than the picked one
  pick-best : (cs : List (List (List ℕ))) (d : List (List ℕ)) → Headed cs → Member d cs → NoWorse (pick cs) d
  pick-best [] d h i = absurd i
  pick-best ([] ∷ cs) d h i = absurd h
  pick-best ((x ∷ c) ∷ cs) d h i = go (nat_lt (length (x ∷ c)) (length (pick cs))) refl (pick-best cs d h.1) i
    where
      go : (b : Bool) → nat_lt (length (x ∷ c)) (length (pick cs)) ≡ b → (Member d cs → NoWorse (pick cs) d) → Member d ((x ∷ c) ∷ cs) → NoWorse (cond b (pick cs) (x ∷ c)) d
      go true e f (inl s) = subst (NoWorse (pick cs)) (sym s) (inl (ltb-true (length (x ∷ c)) (length (pick cs)) e))
      go true e f (inr k) = f k
      go false e f (inl s) = subst (NoWorse (x ∷ c)) (sym s) (no_worse-same (x ∷ c))
      go false e f (inr k) = later d k (f k) (ltb-false (length (x ∷ c)) (length (pick cs)) e)
        where
          later : (d : List (List ℕ)) → Member d cs → NoWorse (pick cs) d → length (pick cs) ≤ length (x ∷ c) → NoWorse (x ∷ c) d
          later [] k w le = inl (omega arith)
          later (y ∷ d) k (inl w) le = inl (omega arith)
          later (y ∷ d) k (inr w) le = ⊎_elim (λ (l : length (y ∷ d) < length (x ∷ c)). inl l) (λ (e : length (y ∷ d) ≡ length (x ∷ c)). inr (e, inl (h.0 y d k))) (lower (length (y ∷ d)) (length (x ∷ c)) (let q = w.0 in omega arith))

  -- the picked one is one of them
  pick-some : (cs : List (List (List ℕ))) → 0 < length (pick cs) → Member (pick cs) cs
  pick-some [] l = absurd (omega arith)
  pick-some (c ∷ cs) l = go (nat_lt (length c) (length (pick cs))) refl (pick-some cs)
    where
      go : (b : Bool) → nat_lt (length c) (length (pick cs)) ≡ b → (0 < length (pick cs) → Member (pick cs) cs) → Member (cond b (pick cs) c) (c ∷ cs)
      go false e f = inl refl
      go true e f = inr (f (let l = ltb-true (length c) (length (pick cs)) e in omega arith))

  pick-in : (c : List (List ℕ)) (cs : List (List (List ℕ))) → Member (pick (c ∷ cs)) (c ∷ cs)
  pick-in c cs = go (nat_lt (length c) (length (pick cs))) refl
    where
      go : (b : Bool) → nat_lt (length c) (length (pick cs)) ≡ b → Member (cond b (pick cs) c) (c ∷ cs)
      go false e = inl refl
      go true e = inr (pick-some cs (let l = ltb-true (length c) (length (pick cs)) e in omega arith))

  all_in-more : (x : List ℕ) (c xs : List (List ℕ)) → Every c xs → Every c (x ∷ xs)
  all_in-more x [] xs h = tt
  all_in-more x (y ∷ c) xs h = (inr h.0, all_in-more x c xs h.1)

  -- what each of the chains is
  abbrev IsOne : List (List ℕ) → List (List ℕ) → Type 0
  IsOne xs c = IsChain code c × Every c xs × ((y : List ℕ) × (d : List (List ℕ)) × (c ≡ y ∷ d) × Member y xs)

  lead : (x : List ℕ) (xs c : List (List ℕ)) → IsChain code c → Every c xs → (c ≡ [] ⊎ (may_lead code x c ≡ true)) → IsOne (x ∷ xs) (x ∷ c)
  lead x xs [] k a (inl e) = (tt, (inl refl, tt), (x, [], refl, inl refl))
  lead x xs [] k a (inr e) = absurd (true≢false (sym e))
  lead x xs (y ∷ c) k a (inl e) = absurd (cc e)
  lead x xs (y ∷ c) k a (inr e) = ((e, k), (inl refl, all_in-more x (y ∷ c) xs a), (x, y ∷ c, refl, inl refl))

  best-is : (xs : List (List ℕ)) (c : List (List ℕ)) → Member c (best_chains code xs) → IsOne xs c
  best-is [] c i = absurd i
  best-is (x ∷ xs) c (inr i) = let r = best-is xs c i in (r.0, all_in-more x c xs r.1, (r.2.0, r.2.1, r.2.2, inr r.2.3))
  best-is (x ∷ xs) c (inl e) = subst (IsOne (x ∷ xs)) (sym e) (go (filter (may_lead code x) (best_chains code xs)) (λ d i. in-filter (may_lead code x) d (best_chains code xs) i) (best-is xs))
    where
      go : (fs : List (List (List ℕ))) → ((d : List (List ℕ)) → Member d fs → Member d (best_chains code xs) × (may_lead code x d ≡ true)) → ((d : List (List ℕ)) → Member d (best_chains code xs) → IsOne xs d) → IsOne (x ∷ xs) (x ∷ pick fs)
      go [] h g = lead x xs [] tt tt (inl refl)
      go (f ∷ fs) h g = let i = h (pick (f ∷ fs)) (pick-in f fs) in let r = g (pick (f ∷ fs)) i.0 in lead x xs (pick (f ∷ fs)) r.0 r.1 (inr i.1)

  best-headed : (xs : List (List ℕ)) → Rises xs → Headed (best_chains code xs)
  best-headed [] h = tt
  best-headed (x ∷ xs) h = ((λ y d i. (let r = best-is xs (y ∷ d) i in h.0 y (subst (λ w. Member w xs) (sym (cc r.2.2)) r.2.3))), best-headed xs h.1)

  -- what follows in a chain comes later
  chain-after : (y : List ℕ) (d : List (List ℕ)) → IsChain code (y ∷ d) → (m : List ℕ) → Member m d → ComesBefore y m
  chain-after y [] k m i = absurd i
  chain-after y (z ∷ d) k m (inl e) = subst (ComesBefore y) (sym e) (before-comes code y z k.0)
  chain-after y (z ∷ d) k m (inr i) = comes-trans y z m (before-comes code y z k.0) (chain-after z d k.1 m i)

  all_in-later : (x : List ℕ) (xs c : List (List ℕ)) → Every c (x ∷ xs) → ((m : List ℕ) → Member m c → ComesBefore x m) → Every c xs
  all_in-later x xs [] a l = tt
  all_in-later x xs (c ∷ cs) a l = (⊎_elim (λ (e : c ≡ x). absurd (comes-other x (subst (ComesBefore x) e (l c (inl refl))))) (λ (i : Member c xs). i) a.0, all_in-later x xs cs a.1 (λ m i. l m (inr i)))

  -- no chain is better than the one that begins with the same statement
  chain-reached : (xs : List (List ℕ)) (y : List ℕ) (d : List (List ℕ)) → Rises xs → IsChain code (y ∷ d) → Every (y ∷ d) xs → (c : List (List ℕ)) × Member (y ∷ c) (best_chains code xs) × NoWorse (y ∷ c) (y ∷ d)
  chain-reached [] y d h k a = absurd a.0
  chain-reached (x ∷ xs) y d h k (inl e, a) =
      let p : List (List ℕ) = pick (filter (may_lead code x) (best_chains code xs)) in
      (p, inl (ap (λ w. w ∷ p) e), subst (λ w. NoWorse (w ∷ p) (w ∷ d)) (sym e) (no_worse-more x p d (rest d (subst (λ w. IsChain code (w ∷ d)) e k) a (λ z c k a. chain-reached xs z c h.1 k a))))
    where
      rest : (d : List (List ℕ)) → IsChain code (x ∷ d) → Every d (x ∷ xs) → ((z : List ℕ) (c : List (List ℕ)) → IsChain code (z ∷ c) → Every (z ∷ c) xs → (e : List (List ℕ)) × Member (z ∷ e) (best_chains code xs) × NoWorse (z ∷ e) (z ∷ c)) → NoWorse (pick (filter (may_lead code x) (best_chains code xs))) d
      rest [] k a f = from_none (pick (filter (may_lead code x) (best_chains code xs)))
        where
          from_none : (p : List (List ℕ)) → NoWorse p []
          from_none [] = inr (refl, tt)
          from_none (q ∷ p) = inl (omega arith)
      rest (z ∷ d) k a f =
          let r = f z d k.1 (all_in-later x xs (z ∷ d) a (chain-after x (z ∷ d) k)) in
          let cs : List (List (List ℕ)) = best_chains code xs in
          no_worse-trans (pick (filter (may_lead code x) cs)) (z ∷ r.0) (z ∷ d)
          (pick-best (filter (may_lead code x) cs) (z ∷ r.0) (headed-filter (may_lead code x) cs (best-headed xs h.1)) (filter-in (may_lead code x) (z ∷ r.0) cs r.1 k.0)) r.2
  chain-reached (x ∷ xs) y d h k (inr i, a) =
      let later : (m : List ℕ) → Member m (y ∷ d) → ComesBefore x m = λ m j. ⊎_elim (λ (e : m ≡ y). subst (ComesBefore x) (sym e) (h.0 y i)) (λ (j : Member m d). comes-trans x y m (h.0 y i) (chain-after y d k m j)) j in
      let r = chain-reached xs y d h.1 k (i, all_in-later x xs d a (λ m j. later m (inr j))) in
      (r.0, inr r.1, r.2)

  pub longest : (xs : List (List ℕ)) → Rises xs → IsLongest code xs (pick (best_chains code xs))
  longest xs h = go (best_chains code xs) (best-is xs) (λ d k a. none d k a)
    where
      none : (d : List (List ℕ)) → IsChain code d → Every d xs → NoWorse (pick (best_chains code xs)) d
      none [] k a = from_none (pick (best_chains code xs))
        where
          from_none : (p : List (List ℕ)) → NoWorse p []
          from_none [] = inr (refl, tt)
          from_none (q ∷ p) = inl (omega arith)
      none (y ∷ d) k a = let r = chain-reached xs y d h k a in no_worse-trans (pick (best_chains code xs)) (y ∷ r.0) (y ∷ d) (pick-best (best_chains code xs) (y ∷ r.0) (best-headed xs h) r.1) r.2

      go : (cs : List (List (List ℕ))) → ((c : List (List ℕ)) → Member c cs → IsOne xs c) → ((d : List (List ℕ)) → IsChain code d → Every d xs → NoWorse (pick cs) d) → IsLongest code xs (pick cs)
      go [] is n = (tt, tt, n)
      go (c ∷ cs) is n = let r = is (pick (c ∷ cs)) (pick-in c cs) in (r.0, r.1, n)

member-in : (x : List ℕ) (ys : List (List ℕ)) → Member x ys → In x ys
member-in x [] h = h
member-in x (y ∷ ys) (inl e) = inl e
member-in x (y ∷ ys) (inr h) = inr (member-in x ys h)

in-member : (x : List ℕ) (ys : List (List ℕ)) → In x ys → Member x ys
in-member x [] h = h
in-member x (y ∷ ys) (inl e) = inl e
in-member x (y ∷ ys) (inr h) = inr (in-member x ys h)

rises-from : (xs : List (List ℕ)) → Ascends xs → Rises xs
rises-from [] h = tt
rises-from (x ∷ xs) h = ((λ y m. all-member (ComesBefore x) xs y h.0 (member-in y xs m)), rises-from xs h.1)

every-in : (cs xs ys : List (List ℕ)) → ((x : List ℕ) → In x xs → In x ys) → Every cs xs → AllIn cs ys
every-in [] xs ys f h = tt
every-in (c ∷ cs) xs ys f h = (f c (member-in c xs h.0), every-in cs xs ys f h.1)

in-every : (cs xs ys : List (List ℕ)) → ((x : List ℕ) → In x ys → In x xs) → AllIn cs ys → Every cs xs
in-every [] xs ys f h = tt
in-every (c ∷ cs) xs ys f h = (in-member c xs (f c h.0), in-every cs xs ys f h.1)

no_worse-longer : (c d : List (List ℕ)) → NoWorse c d → length d ≤ length c
no_worse-longer c d (inl l) = omega arith
no_worse-longer c d (inr h) = let e = h.0 in omega arith

no_worse-first : (c d : List (List ℕ)) → NoWorse c d → length d ≡ length c → NotAfter c d
no_worse-first c d (inl l) e = absurd (omega arith)
no_worse-first c d (inr h) e = h.1

-- the statements xs in order, and the same statements ys as they are told
pub span-is : (code : Block) (xs ys : List (List ℕ)) (n : ℕ) (c : List (List ℕ)) → n ≡ length ys → Ascends xs → ((x : List ℕ) → In x xs → In x ys) → ((x : List ℕ) → In x ys → In x xs) → c ≡ pick (best_chains code xs) → IsSpan code ys n c
span-is code xs ys n c e h f g p =
    let r : IsLongest code xs c = subst (IsLongest code xs) (sym p) (longest code xs (rises-from xs h)) in
    record {
      counted = e;
      is_chain = r.0;
      among = every-in c xs ys f r.1;
      longest = λ d k a. no_worse-longer c d (r.2 d k (in-every d xs ys g a));
      first = λ d k a l. no_worse-first c d (r.2 d k (in-every d xs ys g a)) l;
    }

pub spanned : (code : Block) (told ys : List (List ℕ)) (count : ℕ) (chain : List (List ℕ)) → IsPermutation told ys → Descends ys → count ≡ length ys → chain ≡ pick (best_chains code (backwards (length ys) ys)) → IsSpan code told count chain
spanned code told ys count chain p d e f =
    span-is code (backwards (length ys) ys) told count chain (e ∙ length_permutation told ys p) (ascends-back ys (length ys) d (let l : length ys ≤ length ys = omega arith in l))
    (λ x h. in-permutation ys told x (IsPermutation-sym told ys p) (back-in ys (length ys) x (let l : length ys ≤ length ys = omega arith in l) h))
    (λ x h. in-back ys x (in-permutation told ys x p h)) f

-- There is one.

both_ways : (c d : List (List ℕ)) → length d ≡ length c → NotAfter c d → NotAfter d c → c ≡ d
both_ways [] [] e h k = refl
both_ways [] (y ∷ d) e h k = absurd (omega arith)
both_ways (x ∷ c) [] e h k = absurd (omega arith)
both_ways (x ∷ c) (y ∷ d) e (inl h) (inl k) = absurd (comes-other x (comes-trans x y x h k))
both_ways (x ∷ c) (y ∷ d) e (inl h) (inr k) = absurd (comes-other x (subst (ComesBefore x) k.0 h))
both_ways (x ∷ c) (y ∷ d) e (inr h) (inl k) = absurd (comes-other y (subst (ComesBefore y) h.0 k))
both_ways (x ∷ c) (y ∷ d) e (inr h) (inr k) = let r = both_ways c d (omega arith) h.1 k.1 in let s = h.0 in cc

pub one-span : (code : Block) (ys : List (List ℕ)) (m n : ℕ) (c d : List (List ℕ)) → IsSpan code ys m c → IsSpan code ys n d → (m ≡ n) × (c ≡ d)
one-span code ys m n c d h k =
    let a = h.longest d k.is_chain k.among in
    let b = k.longest c h.is_chain h.among in
    let e : length d ≡ length c = omega arith in
    (h.counted ∙ sym k.counted, both_ways c d e (h.first d k.is_chain k.among e) (k.first c h.is_chain h.among (sym e)))
