-- The law of a place's store: what each event of a journal asks of the store, and what it leaves.
use Rattle.std.specs.Prelude.{◌≡◌, ℕ, suc, ◌+◌, ◌<◌, ℤ, pos, negsuc, Bool, true, false, cond, ◌&&◌, ◌||◌, ◌==◌, not, nat_le, int_le}
use Rattle.std.specs.Prelude.{int_lt, List, [], ◌∷◌, map, filter, replicate, length, slice_index_or, slice_set, Option, Some, None}
use Rattle.std.specs.List.{list_all, find}
use Rattle.rx_base.specs.declared.ids.GlobalRef.{GlobalRef}
use Rattle.rx_rules.specs.declared.events.Cell.{Cell}
use Rattle.rx_rules.specs.declared.events.Cell.TheVariants.{Make, MakeFull, Get, Put, Forget, GetRefused, PutRefused, ForgetStale}
use Rattle.rx_rules.specs.declared.events.PlaceEvent.{PlaceEvent}
use Rattle.rx_rules.specs.declared.events.PlaceEvent.TheVariants.{Done, Close}

-- a live block
pub record Live : Type 0 where
  pub start : ℕ
  pub generation : ℕ
  pub words : List ℤ

-- the live blocks, the newest first, and how many were ever made
pub record State : Type 0 where
  pub blocks : List Live
  pub made : ℕ

-- a store without blocks
abbrev pub opening_state : State
opening_state = record { blocks = []; made = 0 }

-- a block is found by its start and its generation
abbrev pub is_block : GlobalRef → Live → Bool
is_block r b = (b.start == r.start) && (b.generation == r.generation)

-- the live block of a reference
abbrev pub block_of : State → GlobalRef → Option Live
block_of S r = find (is_block r) S.blocks

-- the n words from a on meet no word of the block
abbrev pub is_apart : ℕ → ℕ → Live → Bool
is_apart a n b = nat_le (a + n) b.start || nat_le (b.start + length b.words) a

-- n words fit at a in a heap of w words
abbrev pub fits : ℕ → State → ℕ → ℕ → Bool
fits w S n a = nat_le (a + n) w && list_all (is_apart a n) S.blocks

-- the words fit at a and at no lesser start
pub record IsLeastFree (w : ℕ) (S : State) (n a : ℕ) : Type 0 where
  pub here : fits w S n a ≡ true
  pub least : (b : ℕ) → b < a → fits w S n b ≡ false

-- the index is inside the block
abbrev pub is_index : ℤ → List ℤ → Bool
is_index i words = int_le (pos 0) i && int_lt i (pos (length words))

-- the word at an index
abbrev pub word_at : List ℤ → ℤ → ℤ
word_at words (pos i) = slice_index_or words i (pos 0)
word_at words (negsuc i) = pos 0

-- the block with one word changed
abbrev pub set_word : ℤ → ℤ → Live → Live
set_word (pos i) v b = record b { words = slice_set b.words i v }
set_word (negsuc i) v b = b

-- the reference has a live block and the index is in it
pub record Reads (S : State) (r : GlobalRef) (i : ℤ) (b : Live) : Type 0 where
  pub block : block_of S r ≡ Some b
  pub index : is_index i b.words ≡ true

-- stale: there is no such block; or else the index is outside the block
abbrev pub Refuses : State → GlobalRef → ℤ → Bool → Type 0
Refuses S r i true = block_of S r ≡ None
Refuses S r i false = (b : Live) × (block_of S r ≡ Some b) × (is_index i b.words ≡ false)

-- the event may stand next
abbrev pub MayCell : ℕ → State → Cell → Type 0
MayCell w S (Make n start generation) = IsLeastFree w S n start × (generation ≡ suc S.made)
MayCell w S (MakeFull n) = (a : ℕ) → fits w S n a ≡ false
MayCell w S (Get r i value) = (b : Live) × Reads S r i b × (value ≡ word_at b.words i)
MayCell w S (Put r i value) = (b : Live) × Reads S r i b
MayCell w S (Forget r) = (b : Live) × (block_of S r ≡ Some b)
MayCell w S (GetRefused r i stale) = Refuses S r i stale
MayCell w S (PutRefused r i value stale) = Refuses S r i stale
MayCell w S (ForgetStale r) = block_of S r ≡ None

-- the store after an event; what is refused or read changes nothing
abbrev pub after_cell : State → Cell → State
after_cell S (Make n start generation) =
    record S {
      blocks = record { start = start; generation = generation; words = replicate n (pos 0) } ∷ S.blocks;
      made = suc S.made;
    }
after_cell S (Put r i value) = record S { blocks = map (λ b. cond (is_block r b) (set_word i value b) b) S.blocks }
after_cell S (Forget r) = record S { blocks = filter (λ b. not (is_block r b)) S.blocks }
after_cell S _ = S

-- the journal is a run of a store of w words from S on; nothing stands after its close
abbrev pub IsStoreRun : ℕ → State → List PlaceEvent → Type 0
IsStoreRun w S [] = Unit {0}
IsStoreRun w S (Done task stamp cell path ∷ es) = MayCell w S cell × IsStoreRun w (after_cell S cell) es
IsStoreRun w S (Close stamp ∷ es) = es ≡ []
