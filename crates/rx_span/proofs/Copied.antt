-- Copied paths, one more after the others, and cut apart again.
use Rattle.std.proofs.Common.{◌≡◌, ◌∙◌, ℕ, ◌≤◌, ◌<◌, ◌+◌, ◌-◌, true, List, [], ◌∷◌, ◌++◌, length, map, take, drop, ap, sym, subst, refl, arith, append-nil, append_assoc, reverse, slice_index_or}
use Rattle.std.proofs.Transfers.{drop-appended}
use Rattle.std.proofs.lemmas.List.{map-append, length-append, length-map, length-drop, reverse-append, take_all, take_at, drop_at}
use Rattle.rx_span.specs.declared.paths.Copies.{Copies}
use Rattle.rx_span.specs.Inside.Sorting.{comes, Descends}
use Rattle.rx_span.specs.Inside.Copied.{joined, last_of, AreCopied}
use Rattle.rx_span.proofs.Lists.{descends-last}

joined-push : (xs : List (List ℕ)) (x : List ℕ) → joined (xs ++ x ∷ []) ≡ joined xs ++ x
joined-push [] x = append-nil x
joined-push (y ∷ xs) x = ap (λ l. y ++ l) (joined-push xs x) ∙ sym (append_assoc y (joined xs) x)

last-push : (xs : List (List ℕ)) (x : List ℕ) → last_of (xs ++ x ∷ []) ≡ x
last-push [] x = refl
last-push (y ∷ []) x = refl
last-push (y ∷ z ∷ xs) x = last-push (z ∷ xs) x

-- what stands before the last
front : (x : List ℕ) (xs : List (List ℕ)) → (fs : List (List ℕ)) × (x ∷ xs ≡ fs ++ last_of (x ∷ xs) ∷ [])
front x [] = ([], refl)
front x (y ∷ xs) = let f = front y xs in (x ∷ f.0, ap (λ l. x ∷ l) f.1)

rises : (xs : List (List ℕ)) (x : List ℕ) → comes (last_of xs) x ≡ true → Descends (reverse xs) → Descends (reverse (xs ++ x ∷ []))
rises [] x e d = (tt, tt)
rises (y ∷ xs) x e d =
    let f = front y xs in
    subst Descends (sym (reverse-append (y ∷ xs) (x ∷ []))) (descends-last (y ∷ xs) f.0 (last_of (y ∷ xs)) x f.1 e d)

-- all that stands from a position on
pub tail-all : (k : ℕ) (y : List ℕ) → take (length y - k) (drop k y) ≡ drop k y
tail-all k y = take_all (length y - k) (drop k y) (let e = length-drop k y in omega arith)

-- one path more
pub copied-more : (xs : List (List ℕ)) (x : List ℕ) (old new : Copies) → AreCopied xs old → new.numbers.items ≡ old.numbers.items ++ x
    → new.lengths.items ≡ old.lengths.items ++ length x ∷ [] → new.last ≡ length old.numbers.items
    → (new.ascending ≡ true → (old.ascending ≡ true) × (comes (drop old.last old.numbers.items) x ≡ true)) → AreCopied (xs ++ x ∷ []) new
copied-more xs x old new h n l k a =
    let long : length new.numbers.items ≡ length (old.numbers.items ++ x) = ap length n in
    let both = length-append old.numbers.items x in
    record {
      numbers = n ∙ ap (λ y. y ++ x) h.numbers ∙ sym (joined-push xs x);
      lengths = l ∙ ap (λ y. y ++ length x ∷ []) h.lengths ∙ sym (map-append length xs (x ∷ []));
      within = omega arith;
      last = ap (λ m. drop m new.numbers.items) k ∙ drop-appended old.numbers.items new.numbers.items x n ∙ sym (last-push xs x);
      ascends = λ e. rises xs x (subst (λ y. comes y x ≡ true) h.last (a e).1) (h.ascends (a e).0);
    }

-- the length of the path after these
length-next : (done : List (List ℕ)) (x : List ℕ) (more : List (List ℕ)) → slice_index_or (map length (done ++ x ∷ more)) (length done) 0 ≡ length x
length-next [] x more = refl
length-next (y ∷ done) x more = length-next done x more

-- the path at hand of those whose numbers are left, where so many are done, and what is left after it
pub record Next (xs done : List (List ℕ)) (k : ℕ) (rest : List ℕ) : Type 0 where
  pub path : List ℕ
  pub more : List (List ℕ)
  pub whole : xs ≡ done ++ path ∷ more
  pub within : k ≤ length rest
  pub first : take k rest ≡ path
  pub later : drop k rest ≡ joined more

pub next : (xs done left : List (List ℕ)) (lengths : List ℕ) (i : ℕ) (rest : List ℕ) → xs ≡ done ++ left → lengths ≡ map length xs → length done ≡ i
    → rest ≡ joined left → i < length lengths → Next xs done (slice_index_or lengths i 0) rest
next xs done [] lengths i rest w l n r low =
    let a : length lengths ≡ length xs = ap length l ∙ length-map xs length in
    let b : length xs ≡ length done = ap length (w ∙ append-nil done) in
    absurd (omega arith)
next xs done (x ∷ more) lengths i rest w l n r low =
    let k : slice_index_or lengths i 0 ≡ length x = ap (λ y. slice_index_or y i 0) (l ∙ ap (map length) w) ∙ ap (λ m. slice_index_or (map length (done ++ x ∷ more)) m 0) (sym n) ∙ length-next done x more in
    let long : length rest ≡ length x + length (joined more) = ap length r ∙ length-append x (joined more) in
    record {
      path = x;
      more = more;
      whole = w;
      within = omega arith;
      first = ap (λ m. take m rest) k ∙ ap (take (length x)) r ∙ take_at x (joined more) (length x) refl;
      later = ap (λ m. drop m rest) k ∙ ap (drop (length x)) r ∙ drop_at x (joined more) (length x) refl;
    }
