-- A count with one item more.
use Rattle.std.proofs.Common.{◌≡◌, ℕ, ◌+◌, Bool, true, false, cond, refl, List, take, Some, ap, sym, ◌∙◌, arith, slice_get}
use mir.Val.{bool_byte}
use Rattle.std.specs.List.{count_by}
use Rattle.std.proofs.lemmas.List.Sums.{count_by_more_yes, count_by_more_no}
use Rattle.std.proofs.lemmas.Option.{slice_get_within, get_or_from_slice_get}

pub count-more : {X : Type 0} (p : X → Bool) (xs : List X) (i n m : ℕ) (b : Bool) (x : X) → slice_get xs i ≡ Some x → n ≡ count_by p (take i xs) → b ≡ p x → m ≡ bool_byte b → n + m ≡ count_by p (take (i + 1) xs)
count-more p xs i n m true x here so_far is one =
    let more : count_by p (take (i + 1) xs) ≡ count_by p (take i xs) + 1 = count_by_more_yes p xs i x (slice_get_within xs i x here) (ap p (get_or_from_slice_get xs i x x here) ∙ sym is) in
    omega (arith, more, so_far, one)
count-more p xs i n m false x here so_far is none =
    let same : count_by p (take (i + 1) xs) ≡ count_by p (take i xs) = count_by_more_no p xs i x (slice_get_within xs i x here) (ap p (get_or_from_slice_get xs i x x here) ∙ sym is) in
    omega (arith, same, so_far, none)

-- a truth as a number
pub byte_is : (b : Bool) → bool_byte b ≡ cond b 1 0
byte_is true = refl
byte_is false = refl
