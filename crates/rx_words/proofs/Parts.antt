-- A pick list is read part by part.
use Rattle.std.proofs.Common.{◌≡◌, ◌∙◌, ℕ, suc, ◌+◌, Bool, true, false, List, [], ◌∷◌, ◌++◌, Option, Some, None, take, drop, refl, ap, arith, not, ◌==◌}
use Rattle.std.specs.List.{prefix_len}
use Rattle.rx_words.specs.Words.{parts, in_front}
use Rattle.rx_words.specs.Commands.{later}

-- what is no comma
abbrev pub no_comma : ℕ → Bool
no_comma b = not (b == 44)

-- the first part ends before the first comma
part-by : (b : ℕ) (bs : List ℕ) (is : Bool) → (b == 44) ≡ is → parts bs ≡ take (prefix_len no_comma bs) bs ∷ later (drop (prefix_len no_comma bs) bs) → parts (b ∷ bs) ≡ take (prefix_len no_comma (b ∷ bs)) (b ∷ bs) ∷ later (drop (prefix_len no_comma (b ∷ bs)) (b ∷ bs))
part-by b bs true e more = rw e refl
part-by b bs false e more =
    let one : suc (prefix_len no_comma bs) ≡ 1 + prefix_len no_comma bs = omega arith in
    rw e (ap (in_front b) more ∙ ap (λ n. take n (b ∷ bs) ∷ later (drop n (b ∷ bs))) one)

pub first_part : (bs : List ℕ) → parts bs ≡ take (prefix_len no_comma bs) bs ∷ later (drop (prefix_len no_comma bs) bs)
first_part [] = refl
first_part (b ∷ bs) = part-by b bs (b == 44) refl (first_part bs)

-- what was read so far stands in front of what the other parts spell
abbrev pub behind : List ℕ → Option (List ℕ) → Option (List ℕ)
behind done (Some ns) = Some (done ++ ns)
behind done None = None
