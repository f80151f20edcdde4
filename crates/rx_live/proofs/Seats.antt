-- The host's passes of the places' books, in the order of the places.
use Rattle.std.proofs.Common.{◌≡◌, ℕ, zero, suc, ◌+◌, List, [], ◌∷◌, Some, slice_get, slice_set, ap, sym, ◌∙◌, subst, arith}
use Rattle.std.proofs.lemmas.Option.{slice_get_within}
use Rattle.rx_book.specs.declared.passes.Pass.{Pass}
use Rattle.rx_book.specs.Passes.{word_of}
use Rattle.rx_book.specs.Named.{BookName}
use Rattle.rx_parts.specs.declared.items.EventItem.{EventItem}
use Rattle.rx_objects.specs.declared.ledger.LedgerFixed.{LedgerFixed}
use Rattle.rx_live.specs.Inside.Ending.{SeatsFrom}

-- a seat is of the book of its place
pub seat_at : (L : BookName LedgerFixed) (p i : ℕ) (ss : List (Pass EventItem)) (s : Pass EventItem) → SeatsFrom L p ss → slice_get ss i ≡ Some s → slice_get L.fixed.places (p + i) ≡ Some (word_of s)
seat_at L p i [] s are is = absurd (let w = slice_get_within {A = Pass EventItem} [] i s is in omega (arith, w))
seat_at L p zero (x ∷ ss) s are is =
    let same : x ≡ s = cc is in
    let z : p ≡ p + 0 = omega arith in
    subst (λ (n : ℕ). slice_get L.fixed.places n ≡ Some (word_of s)) z (are.0 ∙ ap (λ (q : Pass EventItem). Some (word_of q)) same)
seat_at L p (suc i) (x ∷ ss) s are is =
    let z : suc p + i ≡ p + suc i = omega arith in
    subst (λ (n : ℕ). slice_get L.fixed.places n ≡ Some (word_of s)) z (seat_at L (suc p) i ss s are.1 is)

-- a seat that stays of its book may take the place of another
pub seats_set : (L : BookName LedgerFixed) (p i : ℕ) (ss : List (Pass EventItem)) (s t : Pass EventItem) → SeatsFrom L p ss → slice_get ss i ≡ Some s → word_of t ≡ word_of s → SeatsFrom L p (slice_set ss i t)
seats_set L p i [] s t are is word = absurd (let w = slice_get_within {A = Pass EventItem} [] i s is in omega (arith, w))
seats_set L p zero (x ∷ ss) s t are is word =
    let same : x ≡ s = cc is in (are.0 ∙ ap Some (ap (λ (q : Pass EventItem). word_of q) same ∙ sym word), are.1)
seats_set L p (suc i) (x ∷ ss) s t are is word = (are.0, seats_set L (suc p) i ss s t are.1 is word)
