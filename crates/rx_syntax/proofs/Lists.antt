-- Lemmas on runs of bytes.
use Rattle.std.proofs.Common.{◌≡◌, ℕ, ◌+◌, ◌-◌, ◌*◌, ◌/◌, ◌<◌, ◌≤◌, true, false, cond, not, ◌&&◌, ◌==◌, nat_lt, nat_le, List, [], ◌∷◌, length, drop, get_or, slice_index, Some, None, pos, ap, ◌∙◌, arith}
use Rattle.std.proofs.lemmas.Bool.Decides.{nat_tests}
use Rattle.rx_syntax.specs.Lexical.{most, number_of_run}
use Rattle.std.specs.Char.{is_ascii_digit, digit_value}
use Rattle.std.specs.Str.{all_ascii_digits}
use Rattle.std.specs.Str.Parse.{digits_value, digits_value_after}
use Rattle.std.proofs.lemmas.List.{at_drop_more}
use Rattle.std.proofs.lemmas.List.Sums.{prefix_len-drop_yes, prefix_len-drop_no, prefix_len-drop_all}
use Rattle.std.proofs.Math.Bool.{and-false}

pub ruleset run_steps = (prefix_len-drop_yes, prefix_len-drop_no, prefix_len-drop_all)

-- more digits make no number smaller
pub after-ge : (ds : List ℕ) (n : ℕ) → n ≤ digits_value_after 10 n ds
after-ge [] n = omega arith
after-ge (d ∷ ds) n = omega (arith, after-ge ds (n * 10 + digit_value d))

pub all-drop : (xs : List ℕ) (i : ℕ) → i < length xs → all_ascii_digits (drop i xs) ≡ (is_ascii_digit (get_or xs i 0) && all_ascii_digits (drop (i + 1) xs))
all-drop xs i h = at_drop_more all_ascii_digits xs i 0 h

pub value-drop : (xs : List ℕ) (i n : ℕ) → i < length xs → digits_value_after 10 n (drop i xs) ≡ digits_value_after 10 (n * 10 + digit_value (get_or xs i 0)) (drop (i + 1) xs)
value-drop xs i n h = at_drop_more (digits_value_after 10 n) xs i 0 h

pub ruleset number_steps = (after-ge, all-drop, value-drop)

-- no number is greater than the greatest
pub none-past-most : (run : List ℕ) → most < digits_value 10 run → number_of_run run ≡ None
none-past-most run h =
    let t : nat_le (digits_value 10 run) most ≡ false = grind (arith, nat_tests) in
    ap (λ b. cond b (Some (pos (digits_value 10 run))) None) (ap (λ b. not (length run == 0) && not (slice_index run 0 == 48 && nat_lt 1 (length run)) && all_ascii_digits run && b) t ∙ and-false _)

-- one digit more makes it too great
pub too-great : (run : List ℕ) (i v d : ℕ) → i < length run → true ≡ is_ascii_digit (get_or run i 0) → digits_value_after 10 v (drop i run) ≡ digits_value 10 run → d ≡ get_or run i 0 - 48 → (most - d) / 10 < v → number_of_run run ≡ None
too-great run i v d here digit whole is over =
    let low : 48 ≤ get_or run i 0 = grind (arith, nat_tests) in
    let high : get_or run i 0 ≤ 57 = grind (arith, nat_tests) in
    let value : digit_value (get_or run i 0) ≡ get_or run i 0 - 48 = grind (arith, nat_tests) in
    let step = value-drop run i v here in
    let more = after-ge (drop (i + 1) run) (v * 10 + digit_value (get_or run i 0)) in
    none-past-most run (omega arith)
