-- Lemmas on lists of names, by number.
use Rattle.std.proofs.Common.{◌≡◌, ℕ, zero, suc, Bool, true, false, not, ◌&&◌, if◌then◌else◌, List, [], ◌∷◌, ◌++◌, length, replicate, map, get_or, Some, None, option_map, slice_get, nat_eq, refl, sym, ap, subst, ◌∙◌, true≢false, ◌⊎◌, inl, inr}
use Rattle.std.specs.List.{list_all, list_any}
use Rattle.std.specs.Cmp.Lexicographic.{pointwise, same_text}
use Rattle.std.proofs.lemmas.Cmp.{nat_list_eq_equiv}
use Rattle.std.proofs.lemmas.Option.{slice_get-map, slice_get_within, get_or_from_slice_get, same_Some}
use Rattle.std.proofs.lemmas.List.Folds.{list_any_at}
use Rattle.rx_syntax.specs.Lexical.{is_word_byte, padded}
use Rattle.rx_syntax.specs.Tokens.{IsName, AreDistinct}

pub some-none : {A : Type 0} (x : A) → Some x ≡ None → ⊥
some-none x e = cc

-- it stood there before, or is the last
pub get-pushed : {A : Type 0} (xs : List A) (y : A) (i : ℕ) (x : A) → slice_get (xs ++ y ∷ []) i ≡ Some x → (slice_get xs i ≡ Some x) ⊎ ((i ≡ length xs) × (y ≡ x))
get-pushed [] y zero x e = inr (refl, same_Some y x e)
get-pushed [] y (suc i) x e = cc
get-pushed (z ∷ xs) y zero x e = inl e
get-pushed (z ∷ xs) y (suc i) x e = on-suc (get-pushed xs y i x e)
  where
    on-suc : (slice_get xs i ≡ Some x) ⊎ ((i ≡ length xs) × (y ≡ x)) → (slice_get xs i ≡ Some x) ⊎ ((suc i ≡ suc (length xs)) × (y ≡ x))
    on-suc (inl e) = inl e
    on-suc (inr p) = inr (ap suc p.0, p.1)

-- a byte of a word is no zero
no-zero : (b : ℕ) (bs : List ℕ) → list_all is_word_byte (b ∷ bs) ≡ true → 0 ≡ b → ⊥
no-zero b bs p e = true≢false (sym (subst (λ n. list_all is_word_byte (n ∷ bs) ≡ true) (sym e) p))

front-zero : (b : ℕ) (bs : List ℕ) (m : ℕ) (more : List ℕ) → list_all is_word_byte (b ∷ bs) ≡ true → replicate m 0 ≡ b ∷ more → ⊥
front-zero b bs zero more p e = cc
front-zero b bs (suc m) more p e = no-zero b bs p cc

rest-word : (b : ℕ) (bs : List ℕ) → list_all is_word_byte (b ∷ bs) ≡ true → list_all is_word_byte bs ≡ true
rest-word b bs p = by (is_word_byte b) (list_all is_word_byte bs) p
  where
    by : (x y : Bool) → (x && y) ≡ true → y ≡ true
    by true y e = e
    by false y e = absurd (true≢false (sym e))

filled-one : (v w : List ℕ) (m n : ℕ) → list_all is_word_byte v ≡ true → list_all is_word_byte w ≡ true → v ++ replicate m 0 ≡ w ++ replicate n 0 → v ≡ w
filled-one [] [] m n p q e = refl
filled-one [] (b ∷ bs) m n p q e = absurd (front-zero b bs m (bs ++ replicate n 0) q e)
filled-one (b ∷ bs) [] m n p q e = absurd (front-zero b bs n (bs ++ replicate m 0) p (sym e))
filled-one (b ∷ bs) (c ∷ cs) m n p q e =
    let heads : b ≡ c = cc in
    let rests : bs ++ replicate m 0 ≡ cs ++ replicate n 0 = cc in
    ap (λ x. x ∷ bs) heads ∙ ap (λ xs. c ∷ xs) (filled-one bs cs m n (rest-word b bs p) (rest-word c cs q) rests)

-- two names that are filled up to one are one
pub one-name : (v w : List ℕ) → IsName v → IsName w → padded v ≡ padded w → v ≡ w
one-name v w p q e = filled-one v w _ _ p.letters q.letters e

some-of : {A B : Type 0} (f : A → B) (xs : List A) (i : ℕ) (y : B) → slice_get (map f xs) i ≡ Some y → (x : A) × (slice_get xs i ≡ Some x) × (f x ≡ y)
some-of f [] i y e = cc
some-of f (x ∷ xs) zero y e = (x, refl, same_Some (f x) y e)
some-of f (x ∷ xs) (suc i) y e = some-of f xs i y e

-- the name of a number that the filled-up name was found by
pub found-name : (names filled : List (List ℕ)) (i : ℕ) (word key other : List ℕ) → filled ≡ map padded names → ((i : ℕ) (name : List ℕ) → slice_get names i ≡ Some name → IsName name) → IsName word → key ≡ padded word → slice_get filled i ≡ Some other → pointwise nat_eq key other ≡ true → slice_get names i ≡ Some word
found-name names filled i word key other f all is k at same =
    let there = some-of padded names i other (subst (λ xs. slice_get xs i ≡ Some other) f at) in
    let e : padded there.0 ≡ padded word = there.2 ∙ sym (same_text key other (sym same)) ∙ k in
    there.1 ∙ ap (λ x. Some x) (one-name there.0 word (all i there.0 there.1) is e)

-- a name whose filled-up name is not found is new
pub absent-name : (names filled : List (List ℕ)) (word key : List ℕ) → filled ≡ map padded names → key ≡ padded word → list_any (pointwise nat_eq key) filled ≡ false → (i : ℕ) → slice_get names i ≡ Some word → ⊥
absent-name names filled word key f k none i at =
    let there : slice_get filled i ≡ Some key = ap (λ xs. slice_get xs i) f ∙ slice_get-map padded names i ∙ ap (option_map padded) at ∙ ap (λ x. Some x) (sym k) in
    let same : pointwise nat_eq key (get_or filled i key) ≡ true = subst (λ x. pointwise nat_eq key x ≡ true) (sym (get_or_from_slice_get filled i key key there)) (nat_list_eq_equiv.refl key) in
    true≢false (sym (list_any_at (pointwise nat_eq key) filled i key (slice_get_within filled i key there) same) ∙ none)

-- one name more
pub distinct-more : (names : List (List ℕ)) (word : List ℕ) → AreDistinct names → ((i : ℕ) → slice_get names i ≡ Some word → ⊥) → AreDistinct (names ++ word ∷ [])
distinct-more names word d new i j name e f = by (get-pushed names word i name e) (get-pushed names word j name f)
  where
    by : (slice_get names i ≡ Some name) ⊎ ((i ≡ length names) × (word ≡ name)) → (slice_get names j ≡ Some name) ⊎ ((j ≡ length names) × (word ≡ name)) → i ≡ j
    by (inl a) (inl b) = d i j name a b
    by (inl a) (inr b) = absurd (new i (a ∙ ap (λ x. Some x) (sym b.1)))
    by (inr a) (inl b) = absurd (new j (b ∙ ap (λ x. Some x) (sym a.1)))
    by (inr a) (inr b) = a.0 ∙ sym b.0

pub names-more : (names : List (List ℕ)) (word : List ℕ) → ((i : ℕ) (name : List ℕ) → slice_get names i ≡ Some name → IsName name) → IsName word → (i : ℕ) (name : List ℕ) → slice_get (names ++ word ∷ []) i ≡ Some name → IsName name
names-more names word all is i name e = by (get-pushed names word i name e)
  where
    by : (slice_get names i ≡ Some name) ⊎ ((i ≡ length names) × (word ≡ name)) → IsName name
    by (inl a) = all i name a
    by (inr a) = subst IsName a.1 is

-- what is found is not added
pub found-keys : {A : Type 0} (found added : Bool) (xs ys : List A) → added ≡ not found → added ≡ false → (if found then xs else ys) ≡ xs
found-keys true added xs ys e f = refl
found-keys false added xs ys e f = absurd (true≢false (sym e ∙ f))

pub not-found : (found added : Bool) → added ≡ not found → added ≡ true → found ≡ false
not-found true added e f = absurd (true≢false (sym f ∙ e))
not-found false added e f = refl

pub new-keys : {A : Type 0} (found : Bool) (xs ys : List A) → found ≡ false → (if found then xs else ys) ≡ ys
new-keys true xs ys e = absurd (true≢false e)
new-keys false xs ys e = refl
