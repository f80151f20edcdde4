-- Histories as lists.
use Rattle.std.proofs.Common.{◌≡◌, ℕ, zero, suc, ◌+◌, ◌≤◌, Bool, true, false, Option, List, [], ◌∷◌, ◌++◌, length, take, drop, refl, ap, sym, ◌∙◌, arith, if◌then◌else◌, length-append, bit_or, max}
use Rattle.std.proofs.lemmas.List.{take-append-drop, append-nil}
use mathlib.Core.List.{IsPrefix}
use Rattle.rx_book.specs.declared.views.Stamped.{Stamped}
use Rattle.rx_book.specs.Numbers.{is_same}
use Rattle.rx_book.specs.History.{stamped, stamp_all, entries_by, deaths_in, deaths_of, items_of, mark_of}
use Rattle.rx_book.proofs.Numbers.{is_same-refl, is_same-ne}
use Rattle.std.specs.Int.Bits.{or_zero_r}
use Rattle.std.proofs.lemmas.Nat.{or_comm, le_or_l}
use Rattle.std.proofs.Math.Seq.{drop-append_seam}
use Rattle.rx_book.proofs.Or.{bit_or_assoc, bit_or_absorbs}

module _ {I : Type 0} where
  entry_then : (b : Bool) (x : Stamped I) (all xs ys : List (Stamped I)) → all ≡ xs ++ ys → (if b then x ∷ all else all) ≡ (if b then x ∷ xs else xs) ++ ys
  entry_then true x all xs ys e = ap (λ (l : List (Stamped I)). x ∷ l) e
  entry_then false x all xs ys e = e

  pub entries_by-append : (c : List ℕ) (xs ys : List (Stamped I)) → entries_by c (xs ++ ys) ≡ entries_by c xs ++ entries_by c ys
  entries_by-append c [] ys = refl
  entries_by-append c (x ∷ xs) ys = entry_then (is_same x.by c) x (entries_by c (xs ++ ys)) (entries_by c xs) (entries_by c ys) (entries_by-append c xs ys)

  pub entries_by-same : (c : List ℕ) (xs : List I) → entries_by c (stamp_all c xs) ≡ stamp_all c xs
  entries_by-same c [] = refl
  entries_by-same c (x ∷ xs) = rw (is_same-refl c) (ap (λ (l : List (Stamped I)). stamped c x ∷ l) (entries_by-same c xs))

  pub entries_by-other : (c d : List ℕ) → ¬ (c ≡ d) → (xs : List I) → entries_by d (stamp_all c xs) ≡ []
  entries_by-other c d n [] = refl
  entries_by-other c d n (x ∷ xs) = rw (is_same-ne c d n) (entries_by-other c d n xs)

  pub deaths_of-append : (place : I → Option ℕ) (xs ys : List (Stamped I)) → deaths_of place (xs ++ ys) ≡ bit_or (deaths_of place xs) (deaths_of place ys)
  deaths_of-append place [] ys = refl
  deaths_of-append place (x ∷ xs) ys = ap (λ (n : ℕ). bit_or (mark_of (place x.item)) n) (deaths_of-append place xs ys) ∙ sym (bit_or_assoc (mark_of (place x.item)) (deaths_of place xs) (deaths_of place ys))

  -- the deaths of a front are among those of the whole
  pub deaths_of-front : (place : I → Option ℕ) (n : ℕ) (xs : List (Stamped I)) → bit_or (deaths_of place (take n xs)) (deaths_of place xs) ≡ deaths_of place xs
  deaths_of-front place n xs =
      let d : deaths_of place xs ≡ bit_or (deaths_of place (take n xs)) (deaths_of place (drop n xs)) = ap (deaths_of place) (sym (take-append-drop n xs)) ∙ deaths_of-append place (take n xs) (drop n xs) in
      ap (λ (k : ℕ). bit_or (deaths_of place (take n xs)) k) d ∙ (bit_or_absorbs (deaths_of place (take n xs)) (deaths_of place (drop n xs)) ∙ sym d)

  -- between a front and the whole, which have the same entries of a caller, a list has these too
  pub entries_by-between : (c : List ℕ) (xs ys zs : List (Stamped I)) → IsPrefix xs ys → IsPrefix ys zs → entries_by c xs ≡ entries_by c zs → entries_by c ys ≡ entries_by c zs
  entries_by-between c xs ys zs p q same =
      let a : entries_by c ys ≡ entries_by c xs ++ entries_by c (p.0) = ap (entries_by c) (sym p.1) ∙ entries_by-append c xs p.0 in
      let b : entries_by c zs ≡ entries_by c ys ++ entries_by c (q.0) = ap (entries_by c) (sym q.1) ∙ entries_by-append c ys q.0 in
      let n : length (entries_by c (p.0)) ≡ 0 = omega (arith, ap length a ∙ length-append (entries_by c xs) (entries_by c (p.0)), ap length b ∙ length-append (entries_by c ys) (entries_by c (q.0)), ap length same) in
      a ∙ (ap (λ (l : List (Stamped I)). entries_by c xs ++ l) (none_of (entries_by c (p.0)) n) ∙ (append-nil (entries_by c xs) ∙ same))
    where
      none_of : (l : List (Stamped I)) → length l ≡ 0 → l ≡ []
      none_of [] e = refl
      none_of (x ∷ l) e = absurd (omega arith)

  -- a front has no entry of a caller who has none
  pub entries_by-front_none : (c : List ℕ) (xs zs : List (Stamped I)) → IsPrefix xs zs → entries_by c zs ≡ [] → entries_by c xs ≡ []
  entries_by-front_none c xs zs p none =
      let b : entries_by c zs ≡ entries_by c xs ++ entries_by c (p.0) = ap (entries_by c) (sym p.1) ∙ entries_by-append c xs p.0 in
      nothing (entries_by c xs) (omega (arith, ap length (sym none ∙ b) ∙ length-append (entries_by c xs) (entries_by c (p.0))))
    where
      nothing : (l : List (Stamped I)) → length l ≡ 0 → l ≡ []
      nothing [] e = refl
      nothing (x ∷ l) e = absurd (omega arith)

  take_none : (n : ℕ) (l : List (Stamped I)) → l ≡ [] → take n l ≡ []
  take_none zero l e = refl
  take_none (suc n) [] e = refl
  take_none (suc n) (x ∷ l) e = absurd (cc e)

  -- the deaths of the longer of two fronts are those of both
  pub deaths_of-max : (place : I → Option ℕ) (a b : ℕ) (xs : List (Stamped I)) → bit_or (deaths_of place (take a xs)) (deaths_of place (take b xs)) ≡ deaths_of place (take (max a b) xs)
  deaths_of-max place zero b xs = let top : max 0 b ≡ b = omega arith in ap (λ (n : ℕ). deaths_of place (take n xs)) (sym top)
  deaths_of-max place (suc a) zero xs = let top : max (suc a) 0 ≡ suc a = omega arith in or_zero_r (deaths_of place (take (suc a) xs)) ∙ ap (λ (n : ℕ). deaths_of place (take n xs)) (sym top)
  deaths_of-max place (suc a) (suc b) [] = ap (deaths_of place) (sym (take_none (max (suc a) (suc b)) [] refl))
  deaths_of-max place (suc a) (suc b) (x ∷ xs) =
      let m : ℕ = mark_of (place x.item) in let p : ℕ = deaths_of place (take a xs) in let q : ℕ = deaths_of place (take b xs) in
      let swap : bit_or (bit_or m p) (bit_or m q) ≡ bit_or m (bit_or p q) = bit_or_assoc m p (bit_or m q) ∙ (ap (λ (n : ℕ). bit_or m n) (or_comm p (bit_or m q) ∙ (bit_or_assoc m q p ∙ ap (λ (n : ℕ). bit_or m n) (or_comm q p))) ∙ bit_or_absorbs m (bit_or p q)) in
      let top : max (suc a) (suc b) ≡ suc (max a b) = omega arith in
      swap ∙ (ap (λ (n : ℕ). bit_or m n) (deaths_of-max place a b xs) ∙ ap (λ (n : ℕ). deaths_of place (take n (x ∷ xs))) (sym top))

  pub items_of-stamped : (c : List ℕ) (xs : List I) → items_of (stamp_all c xs) ≡ xs
  items_of-stamped c [] = refl
  items_of-stamped c (x ∷ xs) = ap (λ (l : List I). x ∷ l) (items_of-stamped c xs)

  pub items_of-append : (xs ys : List (Stamped I)) → items_of (xs ++ ys) ≡ items_of xs ++ items_of ys
  items_of-append [] ys = refl
  items_of-append (x ∷ xs) ys = ap (λ (l : List I). x.item ∷ l) (items_of-append xs ys)

  -- what an object gained, beside its entries before
  pub gains : (place : I → Option ℕ) (c : List ℕ) (seen : List (Stamped I)) (before after : List I) → before ≡ items_of seen → (new : List I) × (after ≡ before ++ new)
      → (items_of (seen ++ stamp_all c (drop (length before) after)) ≡ after) × (deaths_of place seen ≤ deaths_in place after) × (length before + length (drop (length before) after) ≡ length after)
  gains place c seen before after was (new, grew) =
      let rest : drop (length before) after ≡ new = ap (drop (length before)) grew ∙ drop-append_seam before new in
      let all : items_of (seen ++ stamp_all c (drop (length before) after)) ≡ after =
      items_of-append seen (stamp_all c (drop (length before) after)) ∙ (ap (λ (l : List I). items_of seen ++ l) (items_of-stamped c (drop (length before) after) ∙ rest) ∙ (ap (λ (l : List I). l ++ new) (sym was) ∙ sym grew)) in
      let d : deaths_in place after ≡ bit_or (deaths_of place seen) (deaths_of place (stamp_all c (drop (length before) after))) = ap (deaths_in place) (sym all) ∙ deaths_of-append place seen (stamp_all c (drop (length before) after)) in (
        all,
        (let le = le_or_l (deaths_of place seen) (deaths_of place (stamp_all c (drop (length before) after))) in omega (arith, d)),
        omega (arith, ap length rest, ap length grew, length-append before new),
      )
