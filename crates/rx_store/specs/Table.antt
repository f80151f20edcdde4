-- How the table of live blocks and the heap stand for the blocks of the store's law.
use Rattle.std.specs.Prelude.{◌≡◌, ℕ, ◌+◌, ◌-◌, ◌<◌, ◌⊎◌, ℤ, pos, int_le, int_lt, ◌&&◌, Bool, true, false, List, [], ◌∷◌, length}
use Rattle.std.specs.Prelude.{slice_index, slice_index_or, Option}
use Rattle.std.specs.Prelude.{Some, None}
use Rattle.rx_base.specs.declared.ids.GlobalRef.{GlobalRef}
use Rattle.rx_heap.specs.Region.{Region, Extent, IsLiveExtent, IsLaid}
use Rattle.rx_rules.specs.declared.events.Cell.{Cell}
use Rattle.rx_rules.specs.declared.events.PlaceEvent.{PlaceEvent}
use Rattle.rx_rules.specs.Store.{Live, State, opening_state, MayCell, after_cell, IsStoreRun}
use Rattle.rx_store.specs.declared.table.Held.{Held}
use Rattle.rx_store.specs.Kept.{state_of, ends_closed, last_stamp}

-- what the table holds at a word
abbrev pub slot_at : List (Option Held) → ℕ → Option Held
slot_at slots k = slice_index_or slots k None

-- the words of a block of the law
abbrev pub extent_of : Live → Extent
extent_of b = record { start = b.start; len = length b.words }

-- the block of the law is in the table and live in the heap, and the heap has its words
pub record Backs (R : Region) (slots : List (Option Held)) (b : Live) : Type 0 where
  pub slot : slot_at slots b.start ≡ Some (record { generation = b.generation; block = extent_of b })
  pub live : IsLiveExtent R (extent_of b)
  pub words : (i : ℕ) → i < length b.words → slice_index_or R.words (b.start + i) (pos 0) ≡ slice_index_or b.words i (pos 0)

-- so it is for each block
abbrev pub BacksAll : Region → List (Option Held) → List Live → Type 0
BacksAll R slots [] = Unit {0}
BacksAll R slots (b ∷ bs) = Backs R slots b × BacksAll R slots bs

-- a block with this start and generation is among them
abbrev pub Lists : List Live → ℕ → ℕ → Type 0
Lists [] s g = ⊥
Lists (b ∷ bs) s g = ((b.start ≡ s) × (b.generation ≡ g)) ⊎ Lists bs s g

-- the table and the heap stand for these blocks
pub record TableHolds (R : Region) (slots : List (Option Held)) (blocks : List Live) : Type 0 where
  pub size : length slots ≡ length R.words
  pub laid : IsLaid R
  pub backed : BacksAll R slots blocks
  pub listed : (k : ℕ) (h : Held) → slot_at slots k ≡ Some h → Lists blocks k h.generation
  pub known : (k : ℕ) → 0 < slice_index R.lengths k → (h : Held) × (slot_at slots k ≡ Some h)

-- each block of the table is live in the heap, at its place
pub record AllLive (R : Region) (slots : List (Option Held)) : Type 0 where
  pub starts : (k : ℕ) (h : Held) → slot_at slots k ≡ Some h → h.block.start ≡ k
  pub live : (k : ℕ) (h : Held) → slot_at slots k ≡ Some h → IsLiveExtent R h.block

-- the block is the reference's, and the index names this word of it
pub record IsLocated (slots : List (Option Held)) (r : GlobalRef) (i : ℤ) (h : Held) (at : ℕ) : Type 0 where
  pub slot : slot_at slots r.start ≡ Some h
  pub generation : h.generation ≡ r.generation
  pub index : i ≡ pos at
  pub within : at < h.block.len

-- the reference is stale, or else its block has no such index
abbrev pub IsUnlocated : List (Option Held) → GlobalRef → ℤ → Bool → Type 0
IsUnlocated slots r i true = (h : Held) → slot_at slots r.start ≡ Some h → h.generation ≡ r.generation → ⊥
IsUnlocated slots r i false =
    (h : Held) × (slot_at slots r.start ≡ Some h) × (h.generation ≡ r.generation)
    × ((int_le (pos 0) i && int_lt i (pos h.block.len)) ≡ false)

-- what contracts see of the blocks of a place: the heap, the table, and how many blocks were made
pub record Table : Type 0 where
  pub region : Region
  pub slots : List (Option Held)
  pub made : ℕ

-- they are those of this state of the law, in a heap of w words
pub record TableStands (w : ℕ) (T : Table) (S : State) : Type 0 where
  pub words : length T.region.words ≡ w
  pub made_is : T.made ≡ S.made
  pub holds : TableHolds T.region T.slots S.blocks

-- they are those of a state
abbrev pub IsTable : Table → Type 0
IsTable T = (w : ℕ) × (S : State) × TableStands w T S

-- the law allows the event in the state that they stood for, and they stand for the state after it
abbrev pub EventFits : Table → Table → Cell → Type 0
EventFits old new cell = (w : ℕ) (S : State) → TableStands w old S → MayCell w S cell × TableStands w new (after_cell S cell)

-- while a store is open its blocks are those that the journal leaves and there is room for the close; then it has none
abbrev pub KeepsBlocks : ℕ → Option Table → List PlaceEvent → ℕ → Type 0
KeepsBlocks w None events spare = ends_closed events ≡ true
KeepsBlocks w (Some T) events spare = (ends_closed events ≡ false) × TableStands w T (state_of events) × (0 < spare)

-- for how many more calls there is room: while a store is open one event is for the close
abbrev pub room_of : Option Table → ℕ → ℕ
room_of None spare = spare
room_of (Some T) spare = spare - 1

-- what a store keeps: its journal is a run, and its numbers and its blocks are those of the journal
pub record IsSteady (w : ℕ) (blocks : Option Table) (events : List PlaceEvent) (spare last : ℕ) : Type 0 where
  pub run : IsStoreRun w opening_state events
  pub last_is : last ≡ last_stamp events
  pub blocks_are : KeepsBlocks w blocks events spare
