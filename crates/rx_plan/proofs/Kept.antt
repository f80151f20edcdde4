-- How values are kept: lists of which only the first slots are there.
use Rattle.std.proofs.Common.{◌≡◌, ℕ, ◌+◌, ◌-◌, ◌<◌, ◌≤◌, List, ◌++◌, length, take, replicate, Option, None, ap, sym, ◌∙◌, arith, append_assoc, length-append, slice_set}
use Rattle.std.proofs.lemmas.List.{take_all, length-set, length-replicate, set-append_left, replicate-append-replicate}
use Rattle.rx_rules.proofs.Common.{Value}
use Rattle.rx_plan.specs.Inside.Kept.{padded}

-- a slot that is there
pub set-kept : (xs : List (Option Value)) (i : ℕ) (v : Option Value) → i < length xs → padded (slice_set xs i v) ≡ slice_set (padded xs) i v
set-kept xs i v h =
    rw (length-set xs i v) (sym (set-append_left xs (replicate (32 - length xs) None) i v h))

more-kept-at : (xs : List (Option Value)) (n : ℕ) → length xs ≤ n → n ≤ 32 → padded (xs ++ replicate (n - length xs) None) ≡ padded xs
more-kept-at xs n h k =
    let l : length (xs ++ replicate (n - length xs) None) ≡ n =
    length-append xs (replicate (n - length xs) None) ∙ ap (λ m. length xs + m) (length-replicate (n - length xs) None) ∙ omega arith in
    let m : (n - length xs) + (32 - n) ≡ 32 - length xs = omega arith in
    ap (λ j. (xs ++ replicate (n - length xs) None) ++ replicate (32 - j) None) l
    ∙ append_assoc xs (replicate (n - length xs) None) (replicate (32 - n) None)
    ∙ ap (λ r. xs ++ r) (replicate-append-replicate (n - length xs) (32 - n) None ∙ ap (λ j. replicate j None) m)

-- slots that are added have no value
pub more-kept : (xs : List (Option Value)) (m n : ℕ) → m ≡ length xs → m ≤ n → n ≤ 32
    → padded (take n xs ++ replicate (n - m) None) ≡ padded xs
more-kept xs m n e h k =
    let l : length xs ≤ n = omega arith in
    ap (λ ys. padded (ys ++ replicate (n - m) None)) (take_all n xs l)
    ∙ ap (λ j. padded (xs ++ replicate (n - j) None)) e ∙ more-kept-at xs n l k
