-- What contracts see of a heap and of a block, and how blocks and holes lie.
use Rattle.std.specs.Prelude.{◌≡◌, ℕ, ◌+◌, ◌<◌, ◌≤◌, ◌⊎◌, ℤ, List, [], ◌∷◌, length, slice_index}
use Rattle.rx_heap.specs.declared.block.Hole.{Hole}

-- a heap: its words, its holes, and for each word the length of the live block that begins there, 0 where none does
pub record Region : Type 0 where
  pub words : List ℤ
  pub holes : List Hole
  pub lengths : List ℕ

-- a block: its first word, and how many words it has
pub record Extent : Type 0 where
  pub start : ℕ
  pub len : ℕ

-- the block is live in this heap
pub record IsLiveExtent (R : Region) (b : Extent) : Type 0 where
  pub some : 0 < b.len
  pub there : slice_index R.lengths b.start ≡ b.len

-- word x is in a live block: s is where the block begins
abbrev pub InBlock : List ℕ → ℕ → Type 0
InBlock lengths x = (s : ℕ) × (s ≤ x) × (x < s + slice_index lengths s)

-- word x is in a hole
abbrev pub InHole : List Hole → ℕ → Type 0
InHole [] x = ⊥
InHole (h ∷ hs) x = ((h.start ≤ x) × (x < h.start + h.len)) ⊎ InHole hs x

-- the holes lie in ascending order from word a on and end by word w, none is empty, and no two touch
abbrev pub LieApart : ℕ → ℕ → List Hole → Type 0
LieApart w a [] = Unit {0}
LieApart w a (h ∷ hs) = (a ≤ h.start) × (0 < h.len) × (h.start + h.len ≤ w) × LieApart w (h.start + h.len + 1) hs

-- live blocks never overlap, and live blocks and holes together are the words, each once
pub record IsLaid (R : Region) : Type 0 where
  pub sizes : length R.lengths ≡ length R.words
  pub inside : (s : ℕ) → 0 < slice_index R.lengths s → s + slice_index R.lengths s ≤ length R.words
  pub apart : (s t : ℕ) → s < t → 0 < slice_index R.lengths t → s + slice_index R.lengths s ≤ t
  pub holes : LieApart (length R.words) 0 R.holes
  pub each : (x : ℕ) → x < length R.words → InHole R.holes x ⊎ InBlock R.lengths x
  pub once : (x : ℕ) → InHole R.holes x → InBlock R.lengths x → ⊥

-- n words from a on are words of the heap, and none of them is in a live block
pub record IsFree (R : Region) (n a : ℕ) : Type 0 where
  pub inside : a + n ≤ length R.words
  pub clear : (x : ℕ) → a ≤ x → x < a + n → InBlock R.lengths x → ⊥

-- a is the least start of n free words
pub record IsLeastFree (R : Region) (n a : ℕ) : Type 0 where
  pub here : IsFree R n a
  pub least : (b : ℕ) → b < a → IsFree R n b → ⊥
