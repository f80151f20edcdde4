-- What a heap keeps besides what contracts see of it.
use Rattle.std.specs.Prelude.{ℕ, ◌*◌, ◌/◌, ◌^◌, ◌<◌, ◌≤◌, List, All, length, slice_index}
use Rattle.rx_heap.specs.declared.block.Hole.{Hole}
use Rattle.rx_heap.specs.Region.{Region, IsLaid}

-- words are taken in groups of 64: the group in which a hole begins
abbrev pub group_of : Hole → ℕ
group_of h = h.start / 64

-- the hole is no longer than what is kept for its group
abbrev pub IsBounded : List ℕ → Hole → Type 0
IsBounded longest h = h.len ≤ slice_index longest (group_of h)

-- its words have numbers, the list of holes never outgrows what was taken for it, and each hole is bounded
pub record IsKept (R : Region) (capacity : ℕ) (longest : List ℕ) : Type 0 where
  pub laid : IsLaid R
  pub small : length R.words < 2 ^ 32
  pub room : length R.words < 2 * capacity
  pub groups : length R.words < 64 * length longest
  pub bounded : All (IsBounded longest) R.holes
