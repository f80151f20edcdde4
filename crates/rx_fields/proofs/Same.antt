-- Whether bytes are the same, byte by byte.
use Rattle.std.proofs.Common.{◌≡◌, ℕ, ◌≤◌, Bool, true, false, List, [], length, drop, refl, ap, sym, ◌∙◌, arith}
use Rattle.std.specs.Str.{bytes_eq}
use Rattle.std.proofs.lemmas.List.{drop_all}
use Rattle.rx_fields.proofs.Cuts.{bytes-same}

-- bytes of other lengths are not the same
pub other_length : (xs ys : List ℕ) → (length xs ≡ length ys → ⊥) → bytes_eq xs ys ≡ false
other_length xs ys other = by (bytes_eq xs ys) refl
  where
    by : (b : Bool) → bytes_eq xs ys ≡ b → b ≡ false
    by false e = refl
    by true e = absurd (other (ap length (bytes-same xs ys e)))

-- nothing is left
pub none_left : (xs ys : List ℕ) (i : ℕ) → length xs ≤ i → length xs ≡ length ys → bytes_eq (drop i xs) (drop i ys) ≡ bytes_eq xs ys → true ≡ bytes_eq xs ys
none_left xs ys i all long left =
    sym (ap (λ r. bytes_eq r (drop i ys)) (drop_all i xs (omega arith)) ∙ ap (bytes_eq []) (drop_all i ys (omega arith))) ∙ left
