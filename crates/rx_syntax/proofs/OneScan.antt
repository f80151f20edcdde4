-- Bytes are scanned in one way, with one list of names.
use Rattle.std.proofs.Common.{◌≡◌, ◌≢◌, ℕ, ◌+◌, ◌<◌, ◌≤◌, false, List, [], ◌∷◌, length, Some, None, Option, option_map, slice_get, refl, sym, ap, subst, ◌∙◌, ◌⊎◌, inl, inr, eq-or-lt_of_le, arith}
use Rattle.std.proofs.lemmas.Option.{same_Some}
use Rattle.rx_base.proofs.Elements.{same-items}
use Rattle.rx_syntax.specs.declared.token.Token.{Token}
use Rattle.rx_syntax.specs.declared.token.Token.TheVariants.{Key, Called, Number, Oper, Mark, Bad}
use Rattle.rx_syntax.specs.declared.token.Lexeme.{Lexeme}
use Rattle.rx_syntax.specs.declared.token.Lexeme.TheVariants as lexemes
use Rattle.rx_syntax.specs.Lexical.{skipped, padded, token_at}
use Rattle.rx_syntax.specs.Tokens.{lexeme_of, NamesInOrder, AreDistinct, IsName, AreNames}
use Rattle.rx_syntax.specs.Scans.{Scans}
use Rattle.rx_syntax.specs.Names.{NamesUpTo}
use Rattle.rx_syntax.proofs.Naming.{some-none}
use Rattle.rx_syntax.proofs.Naming.{one-name}

-- names of which none stands twice
record AreListed (names : List (List ℕ)) : Type 0 where
  are_names : (i : ℕ) (name : List ℕ) → slice_get names i ≡ Some name → IsName name
  distinct : AreDistinct names

-- two lists of names are alike up to there
abbrev Agree : ℕ → List (List ℕ) → List (List ℕ) → Type 0
Agree k names other = (i : ℕ) → i < k → slice_get names i ≡ slice_get other i

agree-more : (k : ℕ) (names other : List (List ℕ)) → Agree k names other → slice_get names k ≡ slice_get other k → Agree (k + 1) names other
agree-more k names other a e i l = let le : i ≤ k = omega (arith, l) in by (eq-or-lt_of_le le)
  where
    by : (i ≡ k) ⊎ (i < k) → slice_get names i ≡ slice_get other i
    by (inl f) = subst (λ j. slice_get names j ≡ slice_get other j) (sym f) e
    by (inr f) = a i f

all-agree : (k : ℕ) (names other : List (List ℕ)) → Agree k names other → k ≡ length names → k ≡ length other → names ≡ other
all-agree k names other a e f = same-items names other (sym e ∙ f) (λ i l. a i (omega (arith, l, e)))

-- what a token is by its lexeme: the name of its number, or one that the lexeme tells
abbrev told : Lexeme → Option Token
told (lexemes.Word k) = Some (Key k)
told (lexemes.Name n) = None
told (lexemes.Number n) = Some (Number n)
told (lexemes.Oper o) = Some (Oper o)
told (lexemes.Mark s) = Some (Mark s)

abbrev IsNamed : List (List ℕ) → Token → Lexeme → Type 0
IsNamed names t x = (n : ℕ) × (name : List ℕ) × (t ≡ Called n) × (slice_get names n ≡ Some name) × (x ≡ lexemes.Name (padded name))

told-is : (names : List (List ℕ)) (t : Token) (x : Lexeme) → lexeme_of names t ≡ Some x → (told x ≡ Some t) ⊎ IsNamed names t x
told-is names (Called n) x e = by (slice_get names n) refl e
  where
    by : (o : Option (List ℕ)) → slice_get names n ≡ o → option_map (λ name. lexemes.Name (padded name)) o ≡ Some x → (told x ≡ Some (Called n)) ⊎ IsNamed names (Called n) x
    by None f e = cc
    by (Some name) f e = inr (n, name, refl, f, sym (same_Some _ x e))
told-is names Bad x e = cc
told-is names _ x e = inl (ap told (sym (same_Some _ x e)))

told-counts : (k j : ℕ) (x : Lexeme) (t : Token) → told x ≡ Some t → NamesUpTo k t j → j ≡ k
told-counts k j (lexemes.Word w) t e c = subst (λ u. NamesUpTo k u j) (sym (same_Some _ t e)) c
told-counts k j (lexemes.Name n) t e c = cc
told-counts k j (lexemes.Number n) t e c = subst (λ u. NamesUpTo k u j) (sym (same_Some _ t e)) c
told-counts k j (lexemes.Oper o) t e c = subst (λ u. NamesUpTo k u j) (sym (same_Some _ t e)) c
told-counts k j (lexemes.Mark s) t e c = subst (λ u. NamesUpTo k u j) (sym (same_Some _ t e)) c

-- the same token, the same count of names after it, and the names agree up to there
abbrev AreSame : List (List ℕ) → List (List ℕ) → Token → Token → ℕ → ℕ → Type 0
AreSame names other t u j l = (t ≡ u) × (j ≡ l) × Agree j names other

same-name : (names other : List (List ℕ)) (k m p j l : ℕ) (v w : List ℕ) → AreListed names → AreListed other → Agree k names other → slice_get names m ≡ Some v → slice_get other p ≡ Some w → v ≡ w → NamesUpTo k (Called m) j → NamesUpTo k (Called p) l → AreSame names other (Called m) (Called p) j l
same-name names other k m p j l v w ln lo a f g e (inl c) (inl d) =
    let same : m ≡ p = lo.distinct m p w (sym (a m c.0) ∙ f ∙ ap (λ x. Some x) e) g in
    (ap Called same, c.1 ∙ sym d.1, subst (λ n. Agree n names other) (sym c.1) a)
same-name names other k m p j l v w ln lo a f g e (inl c) (inr d) =
    let same : m ≡ p = lo.distinct m p w (sym (a m c.0) ∙ f ∙ ap (λ x. Some x) e) g in
    absurd (omega (arith, c.0, d.0, same))
same-name names other k m p j l v w ln lo a f g e (inr c) (inl d) =
    let same : m ≡ p = ln.distinct m p v f (a p d.0 ∙ g ∙ ap (λ x. Some x) (sym e)) in
    absurd (omega (arith, c.0, d.0, same))
same-name names other k m p j l v w ln lo a f g e (inr c) (inr d) =
    let here : slice_get names k ≡ slice_get other k = ap (slice_get names) (sym c.0) ∙ f ∙ ap (λ x. Some x) e ∙ sym g ∙ ap (slice_get other) d.0 in
    (ap Called (c.0 ∙ sym d.0), c.1 ∙ sym d.1, subst (λ n. Agree n names other) (sym c.1) (agree-more k names other a here))

same-token : (names other : List (List ℕ)) (k : ℕ) (t u : Token) (x : Lexeme) (j l : ℕ) → AreListed names → AreListed other → Agree k names other
    → (told x ≡ Some t) ⊎ IsNamed names t x → (told x ≡ Some u) ⊎ IsNamed other u x → NamesUpTo k t j → NamesUpTo k u l → AreSame names other t u j l
same-token names other k t u x j l ln lo a (inl e) (inl f) c d =
    let first : j ≡ k = told-counts k j x t e c in
    (same_Some t u (sym e ∙ f), first ∙ sym (told-counts k l x u f d), subst (λ n. Agree n names other) (sym first) a)
same-token names other k t u x j l ln lo a (inl e) (inr f) c d = absurd (some-none t (sym e ∙ ap told f.4))
same-token names other k t u x j l ln lo a (inr e) (inl f) c d = absurd (some-none u (sym f ∙ ap told e.4))
same-token names other k t u x j l ln lo a (inr e) (inr f) c d =
    let filled : padded e.1 ≡ padded f.1 = name-is _ _ (sym e.4 ∙ f.4) in
    let same : e.1 ≡ f.1 = one-name e.1 f.1 (ln.are_names e.0 e.1 e.3) (lo.are_names f.0 f.1 f.3) filled in
    let r = same-name names other k e.0 f.0 j l e.1 f.1 ln lo a e.3 f.3 same (subst (λ (v : Token). NamesUpTo k v j) e.2 c) (subst (λ (v : Token). NamesUpTo k v l) f.2 d) in
    (e.2 ∙ r.0 ∙ sym f.2, r.1, r.2)
  where
    name-is : (p q : List ℕ) → lexemes.Name p ≡ lexemes.Name q → p ≡ q
    name-is p q e = cc

-- the first token of a scan, with what was scanned after it, or a bad one
abbrev IsFirst : List (List ℕ) → ℕ → List ℕ → Token → List Token → ℕ → List ℕ → Type 0
IsFirst names n bytes t ts at starts =
    (x : Lexeme) × (after : List ℕ) × (lexeme_of names t ≡ Some x) × (token_at (skipped false bytes) ≡ Some (x, after))
    × (at + length (skipped false bytes) ≡ n) × Scans names n after ts starts

abbrev IsBad : ℕ → List ℕ → Token → List Token → ℕ → List ℕ → Type 0
IsBad n bytes t ts at starts =
    (t ≡ Bad) × (ts ≡ []) × (starts ≡ n ∷ []) × (skipped false bytes ≢ []) × (token_at (skipped false bytes) ≡ None) × (at + length (skipped false bytes) ≡ n)

first : (names : List (List ℕ)) (n : ℕ) (bytes : List ℕ) (t : Token) (ts : List Token) (at : ℕ) (starts : List ℕ) → Scans names n bytes (t ∷ ts) (at ∷ starts) → IsFirst names n bytes t ts at starts ⊎ IsBad n bytes t ts at starts
first names n bytes Bad ts at starts s = inr (refl, s.0, s.1, s.2, s.3, s.4)
first names n bytes _ ts at starts s = inl s

no-token : (bytes : List ℕ) (x : Lexeme × List ℕ) → bytes ≡ [] → token_at bytes ≡ Some x → ⊥
no-token bytes x h e = let n : token_at [] ≡ Some x = subst (λ b. token_at b ≡ Some x) h e in cc

some-left : (names : List (List ℕ)) (n : ℕ) (bytes : List ℕ) (t : Token) (ts : List Token) (starts : List ℕ) → Scans names n bytes (t ∷ ts) starts → skipped false bytes ≡ [] → ⊥
some-left names n bytes t ts [] s e = s
some-left names n bytes t ts (at ∷ starts) s e = by (first names n bytes t ts at starts s)
  where
    by : IsFirst names n bytes t ts at starts ⊎ IsBad n bytes t ts at starts → ⊥
    by (inl f) = no-token (skipped false bytes) (f.0, f.1) e f.3
    by (inr b) = b.3 e

-- how many names there are after the first token
order-first : (k last : ℕ) (t : Token) (ts : List Token) → NamesInOrder k (t ∷ ts) last → (j : ℕ) × NamesUpTo k t j × NamesInOrder j ts last
order-first k last (Called x) ts (inl o) = (k, inl (o.0, refl), o.1)
order-first k last (Called x) ts (inr o) = (k + 1, inr (o.0, refl), o.1)
order-first k last _ ts o = (k, refl, o)

bad-order : (k last : ℕ) (t : Token) (ts : List Token) → t ≡ Bad → ts ≡ [] → NamesInOrder k (t ∷ ts) last → k ≡ last
bad-order k last t ts e f o =
    let p : NamesInOrder k (Bad ∷ ts) last = subst (λ (u : Token). NamesInOrder k (u ∷ ts) last) e o in
    let q : NamesInOrder k (Bad ∷ []) last = subst (λ (us : List Token). NamesInOrder k (Bad ∷ us) last) f p in
    q

same-start : (n at to : ℕ) (left : List ℕ) → at + length left ≡ n → to + length left ≡ n → at ≡ to
same-start n at to left e f = omega (arith, e, f)

-- two scans are one
abbrev OneScan : List (List ℕ) → List (List ℕ) → List Token → List Token → List ℕ → List ℕ → Type 0
OneScan names other ts us starts more = (names ≡ other) × (ts ≡ us) × (starts ≡ more)

one-more : (names other : List (List ℕ)) (n k : ℕ) (bytes : List ℕ) (t u : Token) (ts us : List Token) (at to : ℕ) (starts more : List ℕ) → AreListed names → AreListed other → Agree k names other
    → ((j : ℕ) (after : List ℕ) → Agree j names other → Scans names n after ts starts → NamesInOrder j ts (length names) → Scans other n after us more → NamesInOrder j us (length other) → OneScan names other ts us starts more)
    → NamesInOrder k (t ∷ ts) (length names) → NamesInOrder k (u ∷ us) (length other)
    → IsFirst names n bytes t ts at starts ⊎ IsBad n bytes t ts at starts → IsFirst other n bytes u us to more ⊎ IsBad n bytes u us to more
    → OneScan names other (t ∷ ts) (u ∷ us) (at ∷ starts) (to ∷ more)
one-more names other n k bytes t u ts us at to starts more ln lo a rest o p (inl s) (inl r) =
    let pair : (s.0, s.1) ≡ (r.0, r.1) = same_Some (s.0, s.1) (r.0, r.1) (sym s.3 ∙ r.3) in
    let lexeme : s.0 ≡ r.0 = ap (λ (q : Lexeme × List ℕ). q.0) pair in
    let after : s.1 ≡ r.1 = ap (λ (q : Lexeme × List ℕ). q.1) pair in
    let q = order-first k (length names) t ts o in
    let w = order-first k (length other) u us p in
    let same = same-token names other k t u s.0 q.0 w.0 ln lo a (told-is names t s.0 s.2) (told-is other u s.0 (r.2 ∙ ap (λ (x : Lexeme). Some x) (sym lexeme))) q.1 w.1 in
    let all = rest q.0 s.1 same.2 s.5 q.2 (subst (λ bs. Scans other n bs us more) (sym after) r.5) (subst (λ j. NamesInOrder j us (length other)) (sym same.1) w.2) in
    let start : at ≡ to = same-start n at to (skipped false bytes) s.4 r.4 in
    (all.0, ap (λ v. v ∷ ts) same.0 ∙ ap (λ vs. u ∷ vs) all.1, ap (λ v. v ∷ starts) start ∙ ap (λ vs. to ∷ vs) all.2)
one-more names other n k bytes t u ts us at to starts more ln lo a rest o p (inl s) (inr r) = absurd (some-none (s.0, s.1) (sym s.3 ∙ r.4))
one-more names other n k bytes t u ts us at to starts more ln lo a rest o p (inr s) (inl r) = absurd (some-none (r.0, r.1) (sym r.3 ∙ s.4))
one-more names other n k bytes t u ts us at to starts more ln lo a rest o p (inr s) (inr r) =
    let start : at ≡ to = same-start n at to (skipped false bytes) s.5 r.5 in (
      all-agree k names other a (bad-order k (length names) t ts s.0 s.1 o) (bad-order k (length other) u us r.0 r.1 p),
      ap (λ v. v ∷ ts) (s.0 ∙ sym r.0) ∙ ap (λ vs. u ∷ vs) (s.1 ∙ sym r.1),
      ap (λ v. v ∷ starts) start ∙ ap (λ vs. to ∷ vs) (s.2 ∙ sym r.2),
    )

one-from : (names other : List (List ℕ)) (n k : ℕ) (bytes : List ℕ) (ts us : List Token) (starts more : List ℕ) → AreListed names → AreListed other → Agree k names other
    → Scans names n bytes ts starts → NamesInOrder k ts (length names) → Scans other n bytes us more → NamesInOrder k us (length other) → OneScan names other ts us starts more
one-from names other n k bytes [] [] starts more ln lo a s o r p = (all-agree k names other a o p, refl, s.1 ∙ sym r.1)
one-from names other n k bytes [] (u ∷ us) starts more ln lo a s o r p = absurd (some-left other n bytes u us more r s.0)
one-from names other n k bytes (t ∷ ts) [] starts more ln lo a s o r p = absurd (some-left names n bytes t ts starts s r.0)
one-from names other n k bytes (t ∷ ts) (u ∷ us) [] more ln lo a s o r p = absurd s
one-from names other n k bytes (t ∷ ts) (u ∷ us) (at ∷ starts) [] ln lo a s o r p = absurd r
one-from names other n k bytes (t ∷ ts) (u ∷ us) (at ∷ starts) (to ∷ more) ln lo a s o r p =
    one-more names other n k bytes t u ts us at to starts more ln lo a (λ j after b v q w x. one-from names other n j after ts us starts more ln lo b v q w x) o p
    (first names n bytes t ts at starts s) (first other n bytes u us to more r)

listed : (names : List (List ℕ)) (ts : List Token) → AreNames names ts → AreListed names
listed names ts a = record { are_names = a.are_names; distinct = a.distinct }

pub one-scan : (names other : List (List ℕ)) (n : ℕ) (bytes : List ℕ) (ts us : List Token) (starts more : List ℕ) → Scans names n bytes ts starts → AreNames names ts → Scans other n bytes us more → AreNames other us → (names ≡ other) × (ts ≡ us) × (starts ≡ more)
one-scan names other n bytes ts us starts more s a r b =
    one-from names other n 0 bytes ts us starts more (listed names ts a) (listed other us b) (λ i l. absurd (omega (arith, l))) s a.in_order r b.in_order
