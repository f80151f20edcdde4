-- How a list of counts stands for a set of numbers.
use Rattle.std.specs.Prelude.{◌≡◌, ℕ, ◌+◌, ◌*◌, ◌/◌, ◌^◌, ◌<◌, ◌≤◌, ◌==◌}
use Rattle.std.specs.Prelude.{Bool, true, false, List, [], ◌∷◌, Option, if◌then◌else◌, length, drop, slice_index, slice_get}

-- the second half of the list
abbrev pub leaves : List ℕ → List ℕ
leaves counts = drop (length counts / 2) counts

-- the numbers of leaves, of which the first stands for the number `first`: those that do not count 0
unfoldable pub numbers : ℕ → List ℕ → List ℕ
numbers first [] = []
numbers first (c ∷ cs) = if c == 0 then numbers (first + 1) cs else first ∷ numbers (first + 1) cs

-- the node counts what the two below it count
abbrev pub IsSum : List ℕ → ℕ → Type 0
IsSum counts i = slice_index counts i ≡ slice_index counts (2 * i) + slice_index counts (2 * i + 1)

-- one more, or one fewer, than a number
abbrev pub IsNextTo : Bool → ℕ → ℕ → Type 0
IsNextTo true n m = m ≡ n + 1
IsNextTo false n m = n ≡ m + 1

-- the two below the node count one more, or one fewer, than it does
abbrev pub IsLate : Bool → List ℕ → ℕ → Type 0
IsLate more counts i = IsNextTo more (slice_index counts i) (slice_index counts (2 * i) + slice_index counts (2 * i + 1))

-- so many leaves, each of which counts 0 or 1, and no node counts more than it can have leaves
pub record IsBare (half : ℕ) (counts : List ℕ) : Type 0 where
  pub len : length counts ≡ 2 * half
  pub few : half ≤ 2 ^ 31
  pub bits : (i : ℕ) → half ≤ i → slice_index counts i ≤ 1
  pub small : (i : ℕ) → 0 < i → i * slice_index counts i < 2 * half

-- a tree with so many leaves
pub record IsTree (half : ℕ) (counts : List ℕ) : Type 0 where
  pub bare : IsBare half counts
  pub sums : (i : ℕ) → 0 < i → i < half → IsSum counts i

-- no counts, or a tree of this height, whose numbers have 32 bits
pub record IsKept (h : ℕ) (counts : List ℕ) : Type 0 where
  pub height : h < 32
  pub tree : 0 < length counts → IsTree (2 ^ h) counts

-- the counts of a set, beside the least number of it
pub record IsSet (h : ℕ) (counts : List ℕ) (least : Option ℕ) : Type 0 where
  pub kept : IsKept h counts
  pub first : least ≡ slice_get (numbers 0 (leaves counts)) 0
