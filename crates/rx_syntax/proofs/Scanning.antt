-- Bytes, their tokens with the starts, and the names.
use Rattle.std.proofs.Common.{◌≡◌, ◌≢◌, ℕ, zero, suc, ◌+◌, ◌-◌, ◌≤◌, false, true, cond, Bool, ◌&&◌, ◌==◌, nat_le, List, [], ◌∷◌, ◌++◌, length, drop, take, Some, None, Option, option_map, slice_get, slice_index, if◌then◌else◌, refl, sym, ap, subst, ◌∙◌, append_assoc, append-nil, true≢false, inl, inr, arith, length-append, length-drop, eqb-true}
use Rattle.std.specs.List.{prefix_len, list_all}
use Rattle.std.proofs.lemmas.List.Sums.{prefix_len-le-length}
use Rattle.std.proofs.lemmas.Option.{same_Some}
use Rattle.rx_base.proofs.Elements.{get-more}
use Rattle.rx_syntax.specs.declared.token.Op.TheVariants.{Equal}
use Rattle.rx_syntax.specs.declared.token.Keyword.{Keyword}
use Rattle.rx_syntax.specs.declared.token.Sign.TheVariants.{Equals}
use Rattle.rx_syntax.specs.declared.token.Token.{Token}
use Rattle.rx_syntax.specs.declared.token.Token.TheVariants.{Key, Called, Number, Oper, Mark, Bad}
use Rattle.rx_syntax.specs.declared.token.Lexeme.{Lexeme}
use Rattle.rx_syntax.specs.declared.token.Lexeme.TheVariants as lexemes
use Rattle.rx_syntax.specs.Lexical.{is_blank, skipped, is_word_byte, is_word_start, padded, keyword_of, word_or_name, number_of_run, run_token, equals_sign, sign_of_byte, sign_at, token_of, token_at}
use Rattle.rx_syntax.specs.Tokens.{lexeme_of, TextBegins, NamesInOrder, IsName}
use Rattle.rx_syntax.specs.Scans.{Scans}
use Rattle.rx_syntax.specs.Names.{Numbers, NamesUpTo, IsNumbered}

mapped : {A B : Type 0} (f : A → B) (o : Option A) (y : B) → option_map f o ≡ Some y → (x : A) × (o ≡ Some x) × (f x ≡ y)
mapped f None y e = cc
mapped f (Some x) y e = (x, refl, same_Some (f x) y e)

-- a sign is no longer than the bytes, and no name
abbrev is_sign : Lexeme → Bool
is_sign (lexemes.Word k) = false
is_sign (lexemes.Name n) = false
is_sign (lexemes.Number n) = false
is_sign (lexemes.Oper o) = true
is_sign (lexemes.Mark s) = true

abbrev IsSign : ℕ → Lexeme × List ℕ → Type 0
IsSign n x = (is_sign x.0 ≡ true) × (length x.1 ≤ n)

one-sign : (c : Bool) (a : Lexeme) (o : Option Lexeme) → is_sign a ≡ true → ((x : Lexeme) → o ≡ Some x → is_sign x ≡ true) → (x : Lexeme) → (if c then Some a else o) ≡ Some x → is_sign x ≡ true
one-sign true a o s h x e = subst (λ y. is_sign y ≡ true) (same_Some a x e) s
one-sign false a o s h x e = h x e

sign-byte : (b : ℕ) (x : Lexeme) → sign_of_byte b ≡ Some x → is_sign x ≡ true
sign-byte b =
    one-sign (b == 123) _ _ refl (
    one-sign (b == 125) _ _ refl (
    one-sign (b == 40) _ _ refl (
    one-sign (b == 41) _ _ refl (
    one-sign (b == 91) _ _ refl (
    one-sign (b == 93) _ _ refl (
    one-sign (b == 59) _ _ refl (
    one-sign (b == 44) _ _ refl (
    one-sign (b == 43) _ _ refl (
    one-sign (b == 45) _ _ refl (
    one-sign (b == 42) _ _ refl (
    one-sign (b == 60) _ _ refl (λ x e. cc))))))))))))

sign-equals : (bs : List ℕ) → IsSign (length bs) (equals_sign bs)
sign-equals [] = (refl, omega arith)
sign-equals (b ∷ bs) = by (b == 61)
  where
    by : (c : Bool) → IsSign (suc (length bs)) (if c then (lexemes.Oper Equal, bs) else (lexemes.Mark Equals, b ∷ bs))
    by true = (refl, omega arith)
    by false = (refl, omega arith)

sign-front : (bs : List ℕ) (x : Lexeme × List ℕ) → sign_at bs ≡ Some x → IsSign (length bs) x
sign-front [] x e = cc
sign-front (b ∷ bs) x e = by (b == 61) e
  where
    by : (c : Bool) → (if c then Some (equals_sign bs) else option_map (λ y. (y, bs)) (sign_of_byte b)) ≡ Some x → IsSign (suc (length bs)) x
    by true e = let s = sign-equals bs in subst (IsSign (suc (length bs))) (same_Some (equals_sign bs) x e) (s.0, omega (arith, s.1))
    by false e = let m = mapped (λ (y : Lexeme). (y, bs)) (sign_of_byte b) x e in subst (IsSign (suc (length bs))) m.2 (sign-byte b m.0 m.1, omega arith)

-- what is left after a token is no longer
token-left : (n : ℕ) (bytes : List ℕ) (x : Lexeme × List ℕ) → token_of n bytes ≡ Some x → length x.1 ≤ length bytes
token-left zero bytes x e = (sign-front bytes x e).1
token-left (suc n) bytes x e =
    let m = mapped (λ (t : Lexeme). (t, drop (suc n) bytes)) (run_token (take (suc n) bytes)) x e in
    subst (λ (y : Lexeme × List ℕ). length y.1 ≤ length bytes) m.2 (omega (arith, length-drop (suc n) bytes))

pub token-shorter : (bytes after : List ℕ) (x : Lexeme) → token_at bytes ≡ Some (x, after) → length after ≤ length bytes
token-shorter bytes after x e = token-left (prefix_len is_word_byte bytes) bytes (x, after) e

-- the bytes of a name
name-run : (w p : List ℕ) → run_token w ≡ Some (lexemes.Name p) → p ≡ padded w
name-run w p e = by (is_word_start (slice_index w 0)) (nat_le (length w) 16) (keyword_of w) (number_of_run w) e
  where
    by : (a b : Bool) (k : Option Keyword) (n : _) → (if a then (if b then Some (word_or_name k w) else None) else option_map (λ n. lexemes.Number n) n) ≡ Some (lexemes.Name p) → p ≡ padded w
    by true true None n e = cc
    by true true (Some k) n e = cc
    by true false k n e = cc
    by false b k None e = cc
    by false b k (Some n) e = cc

run-letters : (bs : List ℕ) → list_all is_word_byte (take (prefix_len is_word_byte bs) bs) ≡ true
run-letters [] = refl
run-letters (b ∷ bs) = by (is_word_byte b) refl (run-letters bs)
  where
    by : (c : Bool) → is_word_byte b ≡ c → list_all is_word_byte (take (prefix_len is_word_byte bs) bs) ≡ true → list_all is_word_byte (take (cond c (1 + prefix_len is_word_byte bs) 0) (b ∷ bs)) ≡ true
    by true e h =
        let long : 1 + prefix_len is_word_byte bs ≡ suc (prefix_len is_word_byte bs) = omega arith in
        ap (λ n. list_all is_word_byte (take n (b ∷ bs))) long ∙ ap (λ c. c && list_all is_word_byte (take (prefix_len is_word_byte bs) bs)) e ∙ h
    by false e h = refl

abbrev NameFront : List ℕ → List ℕ → List ℕ → Type 0
NameFront bytes p after = IsName (take (length bytes - length after) bytes) × (p ≡ padded (take (length bytes - length after) bytes))

name-of : (n : ℕ) (bytes p after : List ℕ) → n ≤ length bytes → list_all is_word_byte (take n bytes) ≡ true → token_of n bytes ≡ Some (lexemes.Name p, after) → NameFront bytes p after
name-of zero bytes p after l w e = absurd (true≢false (sym (sign-front bytes (lexemes.Name p, after) e).0))
name-of (suc n) bytes p after l w e =
    let m = mapped (λ (t : Lexeme). (t, drop (suc n) bytes)) (run_token (take (suc n) bytes)) (lexemes.Name p, after) e in
    let run : run_token (take (suc n) bytes) ≡ Some (lexemes.Name p) = m.1 ∙ ap (λ (y : Lexeme × List ℕ). Some y.0) m.2 in
    let filled : p ≡ padded (take (suc n) bytes) = name-run (take (suc n) bytes) p run in
    let left : drop (suc n) bytes ≡ after = ap (λ (y : Lexeme × List ℕ). y.1) m.2 in
    let long : length bytes - length after ≡ suc n = omega (arith, length-drop (suc n) bytes, ap length left, l) in
    subst (λ k. IsName (take k bytes) × (p ≡ padded (take k bytes))) (sym long) (record { letters = w; token = run ∙ ap (λ q. Some (lexemes.Name q)) filled }, filled)

pub name-token : (bytes p after : List ℕ) (x : Lexeme) → x ≡ lexemes.Name p → token_at bytes ≡ Some (x, after) → NameFront bytes p after
name-token bytes p after x f e = name-of (prefix_len is_word_byte bytes) bytes p after (prefix_len-le-length is_word_byte bytes) (run-letters bytes) (e ∙ ap (λ (y : Lexeme). Some (y, after)) f)

-- a token is spelled so where names are added
pub lexeme-grows : (names more : List (List ℕ)) (t : Token) (x : Lexeme) → lexeme_of names t ≡ Some x → lexeme_of (names ++ more) t ≡ Some x
lexeme-grows names more (Called m) x e =
    let there = mapped (λ name. lexemes.Name (padded name)) (slice_get names m) x e in
    ap (option_map (λ name. lexemes.Name (padded name))) (get-more names more m there.0 there.1) ∙ ap (λ y. Some y) there.2
lexeme-grows names more Bad x e = cc
lexeme-grows names more _ x e = e

-- a name with its number
pub numbered-name : (old new : List (List ℕ)) (n : ℕ) (word p : List ℕ) (x : Lexeme) → x ≡ lexemes.Name p → p ≡ padded word → slice_get new n ≡ Some word → Numbers old n new → IsNumbered old x (Called n) new
numbered-name old new n word p x e f at by-number = by by-number
  where
    spelled : lexeme_of new (Called n) ≡ Some x
    spelled = ap (option_map (λ name. lexemes.Name (padded name))) at ∙ ap (λ q. Some (lexemes.Name q)) (sym f) ∙ ap (λ y. Some y) (sym e)

    by : Numbers old n new → IsNumbered old x (Called n) new
    by (inl a) = record { spelled = spelled; counts = inl (a.0, ap length a.1); more = []; grows = a.1 ∙ sym (append-nil old) }
    by (inr a) = record { spelled = spelled; counts = inr (a.0, ap length a.1.1 ∙ length-append old (a.1.0 ∷ [])); more = a.1.0 ∷ []; grows = a.1.1 }

-- one token in front
pub scans-token : (names : List (List ℕ)) (n : ℕ) (bytes : List ℕ) (t : Token) (ts : List Token) (at : ℕ) (starts : List ℕ) (x : Lexeme) (after : List ℕ)
    → lexeme_of names t ≡ Some x → token_at (skipped false bytes) ≡ Some (x, after) → at + length (skipped false bytes) ≡ n → Scans names n after ts starts → Scans names n bytes (t ∷ ts) (at ∷ starts)
scans-token names n bytes Bad ts at starts x after l e a s = cc
scans-token names n bytes _ ts at starts x after l e a s = (x, after, l, e, a, s)

-- whether a list has a first element
pub is-empty : {A : Type 0} (xs : List A) → true ≡ (length xs == 0) → xs ≡ []
is-empty [] e = refl
is-empty (x ∷ xs) e = absurd (omega (arith, eqb-true (length (x ∷ xs)) 0 (sym e)))

pub not-empty : {A : Type 0} (xs : List A) → false ≡ (length xs == 0) → xs ≢ []
not-empty [] e h = cc
not-empty (x ∷ xs) e h = cc

-- What has been scanned: what is scanned of the rest, with names that begin with these, goes on what was scanned before.
pub record Goes (names : List (List ℕ)) (n : ℕ) (bytes : List ℕ) (ts : List Token) (starts : List ℕ) (rest : List ℕ) : Type 0 where
  pub on : (more : List (List ℕ)) (us : List Token) (ss : List ℕ) → Scans (names ++ more) n rest us ss → Scans (names ++ more) n bytes (ts ++ us) (starts ++ ss)

goes-whole : (names : List (List ℕ)) (n : ℕ) (bytes : List ℕ) (ts : List Token) (starts rest : List ℕ) (us : List Token) (ss : List ℕ) → Goes names n bytes ts starts rest → Scans names n rest us ss → Scans names n bytes (ts ++ us) (starts ++ ss)
goes-whole names n bytes ts starts rest us ss g s =
    subst (λ ns. Scans ns n bytes (ts ++ us) (starts ++ ss)) (append-nil names) (g.on [] us ss (subst (λ ns. Scans ns n rest us ss) (sym (append-nil names)) s))

-- nothing is left
pub goes-end : (names : List (List ℕ)) (n : ℕ) (bytes : List ℕ) (ts : List Token) (starts rest : List ℕ) → Goes names n bytes ts starts rest → skipped false rest ≡ [] → Scans names n bytes ts (starts ++ n ∷ [])
goes-end names n bytes ts starts rest g e =
    subst (λ us. Scans names n bytes us (starts ++ n ∷ [])) (append-nil ts) (goes-whole names n bytes ts starts rest [] (n ∷ []) g (e, refl))

-- a bad token stands there
pub goes-bad : (names : List (List ℕ)) (n : ℕ) (bytes : List ℕ) (ts : List Token) (starts rest : List ℕ) (at : ℕ) → Goes names n bytes ts starts rest → skipped false rest ≢ [] → token_at (skipped false rest) ≡ None → at + length (skipped false rest) ≡ n → Scans names n bytes (ts ++ Bad ∷ []) (starts ++ at ∷ n ∷ [])
goes-bad names n bytes ts starts rest at g e t a = goes-whole names n bytes ts starts rest (Bad ∷ []) (at ∷ n ∷ []) g (refl, refl, e, t, a)

-- one token more
pub goes-more : (old new : List (List ℕ)) (n : ℕ) (bytes : List ℕ) (ts : List Token) (starts rest : List ℕ) (t : Token) (at : ℕ) (x : Lexeme) (after : List ℕ)
    → Goes old n bytes ts starts rest → IsNumbered old x t new → token_at (skipped false rest) ≡ Some (x, after) → at + length (skipped false rest) ≡ n → Goes new n bytes (ts ++ t ∷ []) (starts ++ at ∷ []) after
goes-more old new n bytes ts starts rest t at x after g i e a = record {
  on = λ more us ss s.
      let names : new ++ more ≡ old ++ (i.more ++ more) = ap (λ ns. ns ++ more) i.grows ∙ append_assoc old i.more more in
      let one : Scans (new ++ more) n rest (t ∷ us) (at ∷ ss) = scans-token (new ++ more) n rest t us at ss x after (lexeme-grows new more t x i.spelled) e a s in
      let all : Scans (old ++ (i.more ++ more)) n bytes (ts ++ t ∷ us) (starts ++ at ∷ ss) = g.on (i.more ++ more) (t ∷ us) (at ∷ ss) (subst (λ ns. Scans ns n rest (t ∷ us) (at ∷ ss)) names one) in
      subst (λ us. Scans (new ++ more) n bytes us ((starts ++ at ∷ []) ++ ss)) (sym (append_assoc ts (t ∷ []) us)) (
      subst (λ ss. Scans (new ++ more) n bytes (ts ++ t ∷ us) ss) (sym (append_assoc starts (at ∷ []) ss)) (
      subst (λ ns. Scans ns n bytes (ts ++ t ∷ us) (starts ++ at ∷ ss)) (sym names) all));
}

-- the numbers of names with one token more
order-one : (k m : ℕ) (t : Token) → NamesUpTo k t m → NamesInOrder k (t ∷ []) m
order-one k m (Called x) (inl c) = inl (c.0, sym c.1)
order-one k m (Called x) (inr c) = inr (c.0, sym c.1)
order-one k m _ c = sym c

pub order-more : (k m l : ℕ) (ts : List Token) (t : Token) → NamesInOrder k ts m → NamesUpTo m t l → NamesInOrder k (ts ++ t ∷ []) l
order-more k m l [] t o c = order-one k l t (subst (λ n. NamesUpTo n t l) (sym o) c)
order-more k m l (Key x ∷ ts) t o c = order-more k m l ts t o c
order-more k m l (Called x ∷ ts) t (inl o) c = inl (o.0, order-more k m l ts t o.1 c)
order-more k m l (Called x ∷ ts) t (inr o) c = inr (o.0, order-more (k + 1) m l ts t o.1 c)
order-more k m l (Number x ∷ ts) t o c = order-more k m l ts t o c
order-more k m l (Oper x ∷ ts) t o c = order-more k m l ts t o c
order-more k m l (Mark x ∷ ts) t o c = order-more k m l ts t o c
order-more k m l (Bad ∷ ts) t o c = order-more k m l ts t o c

-- a token is one name more at most
pub few-more : (m l : ℕ) (t : Token) → NamesUpTo m t l → l ≤ m + 1
few-more m l (Called x) (inl c) = omega (arith, c.1)
few-more m l (Called x) (inr c) = omega (arith, c.1)
few-more m l _ c = omega (arith, c)

-- blanks and comments are taken from the front
skip-shorter : (c : Bool) (bs : List ℕ) → length (skipped c bs) ≤ length bs
skip-shorter c [] = omega arith
skip-shorter true (b ∷ bs) = by (b == 10) (skip-shorter false bs) (skip-shorter true bs)
  where
    by : (t : Bool) → length (skipped false bs) ≤ length bs → length (skipped true bs) ≤ length bs → length (if t then skipped false bs else skipped true bs) ≤ suc (length bs)
    by true h k = omega (arith, h)
    by false h k = omega (arith, k)
skip-shorter false (b ∷ bs) = by (b == 35) (is_blank b) (skip-shorter false bs) (skip-shorter true bs)
  where
    by : (t u : Bool) → length (skipped false bs) ≤ length bs → length (skipped true bs) ≤ length bs → length (if t then skipped true bs else (if u then skipped false bs else b ∷ bs)) ≤ suc (length bs)
    by true u h k = omega (arith, k)
    by false true h k = omega (arith, h)
    by false false h k = omega arith

-- tokens have starts
pub begins-scans : (names : List (List ℕ)) (n : ℕ) (bytes : List ℕ) (ts : List Token) → length bytes ≤ n → TextBegins names bytes ts [] → (starts : List ℕ) × Scans names n bytes ts starts
begins-scans names n bytes [] l b = (n ∷ [], (b, refl))
begins-scans names n bytes (t ∷ ts) l b =
    let s = skip-shorter false bytes in
    let m = begins-scans names n b.1 ts (omega (arith, l, s, token-shorter (skipped false bytes) b.1 b.0 b.3)) b.4 in
    ((n - length (skipped false bytes)) ∷ m.0, scans-token names n bytes t ts _ m.0 b.0 b.1 b.2 b.3 (omega (arith, l, s)) m.1)

-- no bad token is among these
abbrev pub NoBad : List Token → Type 0
NoBad [] = Unit {0}
NoBad (Bad ∷ ts) = ⊥
NoBad (t ∷ ts) = NoBad ts

pub no-bad-more : (ts us : List Token) → NoBad ts → NoBad us → NoBad (ts ++ us)
no-bad-more [] us b c = c
no-bad-more (Key x ∷ ts) us b c = no-bad-more ts us b c
no-bad-more (Called x ∷ ts) us b c = no-bad-more ts us b c
no-bad-more (Number x ∷ ts) us b c = no-bad-more ts us b c
no-bad-more (Oper x ∷ ts) us b c = no-bad-more ts us b c
no-bad-more (Mark x ∷ ts) us b c = no-bad-more ts us b c
no-bad-more (Bad ∷ ts) us b c = absurd b

-- tokens without a bad one begin the bytes, and nothing is left
pub scans-begins : (names : List (List ℕ)) (n : ℕ) (bytes : List ℕ) (ts : List Token) (starts : List ℕ) → NoBad ts → Scans names n bytes ts starts → TextBegins names bytes ts []
scans-begins names n bytes [] starts b s = s.0
scans-begins names n bytes (t ∷ ts) [] b s = absurd s
scans-begins names n bytes (Key x ∷ ts) (at ∷ starts) b s = (s.0, s.1, s.2, s.3, scans-begins names n s.1 ts starts b s.5)
scans-begins names n bytes (Called x ∷ ts) (at ∷ starts) b s = (s.0, s.1, s.2, s.3, scans-begins names n s.1 ts starts b s.5)
scans-begins names n bytes (Number x ∷ ts) (at ∷ starts) b s = (s.0, s.1, s.2, s.3, scans-begins names n s.1 ts starts b s.5)
scans-begins names n bytes (Oper x ∷ ts) (at ∷ starts) b s = (s.0, s.1, s.2, s.3, scans-begins names n s.1 ts starts b s.5)
scans-begins names n bytes (Mark x ∷ ts) (at ∷ starts) b s = (s.0, s.1, s.2, s.3, scans-begins names n s.1 ts starts b s.5)
scans-begins names n bytes (Bad ∷ ts) (at ∷ starts) b s = absurd b

-- each token has a start, and so has the end of input
pub starts-long : (names : List (List ℕ)) (n : ℕ) (bytes : List ℕ) (ts : List Token) (starts : List ℕ) → Scans names n bytes ts starts → length starts ≡ suc (length ts)
starts-long names n bytes [] starts s = ap length s.1
starts-long names n bytes (t ∷ ts) [] s = absurd s
starts-long names n bytes (Key x ∷ ts) (at ∷ starts) s = ap suc (starts-long names n s.1 ts starts s.5)
starts-long names n bytes (Called x ∷ ts) (at ∷ starts) s = ap suc (starts-long names n s.1 ts starts s.5)
starts-long names n bytes (Number x ∷ ts) (at ∷ starts) s = ap suc (starts-long names n s.1 ts starts s.5)
starts-long names n bytes (Oper x ∷ ts) (at ∷ starts) s = ap suc (starts-long names n s.1 ts starts s.5)
starts-long names n bytes (Mark x ∷ ts) (at ∷ starts) s = ap suc (starts-long names n s.1 ts starts s.5)
starts-long names n bytes (Bad ∷ ts) (at ∷ starts) s = ap suc (ap length s.1 ∙ ap (λ us. suc (length us)) (sym s.0))
