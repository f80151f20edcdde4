-- What is left of a list, one item on.
use Rattle.std.proofs.Common.{◌≡◌, ℕ, ◌+◌, List, ◌∷◌, drop, Some, ap, ◌∙◌, slice_get}
use Rattle.std.proofs.lemmas.List.{at_drop_more}
use Rattle.std.proofs.lemmas.Option.{slice_get_within, get_or_from_slice_get}

-- a function of what is left, where the next item is known
pub left-more : {A B : Type 0} (F : List A → B) (xs : List A) (i : ℕ) (x : A) → slice_get xs i ≡ Some x → F (drop i xs) ≡ F (x ∷ drop (i + 1) xs)
left-more F xs i x h = at_drop_more F xs i x (slice_get_within xs i x h) ∙ ap (λ y. F (y ∷ drop (i + 1) xs)) (get_or_from_slice_get xs i x x h)
