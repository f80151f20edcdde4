-- A list of slots in pages of 1,024.
use Rattle.std.specs.Prelude.{◌≡◌, ℕ, ◌+◌, ◌≤◌, ◌/◌, ◌%◌, List, [], map, length, Option, None, slice_index_or}
use Rattle.std.specs.List.{range_with_len}
use Rattle.std.specs.Global.{Vec}

-- the slots of each page
abbrev pub lists : {X : Type 0} → List (Vec X) → List (List X)
lists pages = map (λ p. p.items) pages

-- the slot of a number: an empty one where its page is not there or is shorter
abbrev pub slot_at : {X : Type 0} → List (List (Option X)) → ℕ → Option X
slot_at xs n = slice_index_or (slice_index_or xs (n / 1024) []) (n % 1024) None

-- the slots of the numbers below the count
abbrev pub slots_of : {X : Type 0} → List (List (Option X)) → ℕ → List (Option X)
slots_of xs count = map (slot_at xs) (range_with_len 0 count)

-- there are pages up to that of the next number, which is not there or has just the slots before it
pub record Filled {X : Type 0} (xs : List (List (Option X))) (count : ℕ) : Type 0 where
  pub begun : count / 1024 ≤ length xs
  pub few : length xs ≤ count / 1024 + 1
  pub begins : length (slice_index_or xs (count / 1024) []) ≡ count % 1024
