-- What the law says of a call, from what the code has found.
use Rattle.std.proofs.Common.{◌≡◌, ℕ, suc, zero, ◌+◌, ◌<◌, Bool, true, false, ℤ, pos, List, [], ◌∷◌, length, get_or, arith, rules, subst, sym, ◌∙◌, ap, tests, Option, Some, None, slice_get, int_le, int_lt, ◌&&◌}
use Rattle.std.proofs.lemmas.Option.{same_Some}
use Rattle.rx_rules.proofs.Common.{GlobalRef, Live, State, block_of, is_index, word_at, Reads, Refuses, MayCell}
use Rattle.rx_heap.specs.Region.{Region}
use Rattle.rx_rules.specs.declared.events.Cell.TheVariants.{Get}
use Rattle.rx_store.specs.declared.table.Held.{Held}
use Rattle.rx_store.specs.Table.{slot_at, Backs, TableHolds, IsLocated, IsUnlocated}
use Rattle.rx_store.proofs.Holding.{found, not_found}

-- the list that the code reads is the table
pub at_table : (slots now : List (Option Held)) (s : ℕ) (h : Held) → now ≡ slots → slot_at now s ≡ Some h → slot_at slots s ≡ Some h
at_table slots now s h e at = let P : List (Option Held) → Type 0 = λ z. slot_at z s ≡ Some h in subst P e at

pub law_stale : (R : Region) (slots now : List (Option Held)) (S : State) (r : GlobalRef) → TableHolds R slots S.blocks → now ≡ slots → ((h : Held) → slot_at now r.start ≡ Some h → h.generation ≡ r.generation → ⊥) → block_of S r ≡ None
law_stale R slots now S r holds e none =
    let P : List (Option Held) → Type 0 = λ z. (h : Held) → slot_at z r.start ≡ Some h → h.generation ≡ r.generation → ⊥ in
    not_found R slots S.blocks r holds.backed (subst P e none)

-- the block of the law that the table has for a reference
pub record IsFound (R : Region) (slots : List (Option Held)) (S : State) (r : GlobalRef) (h : Held) : Type 0 where
  pub block : Live
  pub is : block_of S r ≡ Some block
  pub start : h.block.start ≡ r.start
  pub begins : block.start ≡ r.start
  pub len : h.block.len ≡ length block.words
  pub backs : Backs R slots block

pub is_found : (R : Region) (slots : List (Option Held)) (S : State) (r : GlobalRef) (h : Held) → TableHolds R slots S.blocks → slot_at slots r.start ≡ Some h → h.generation ≡ r.generation → IsFound R slots S r h
is_found R slots S r h holds at same =
    let b = found R slots S r h holds at same in
    let held = same_Some _ _ (sym at ∙ ap (slot_at slots) (sym b.2) ∙ b.4.slot) in
    record {
      block = b.0;
      is = b.1;
      start = ap (λ (z : Held). z.block.start) held ∙ b.2;
      begins = b.2;
      len = ap (λ (z : Held). z.block.len) held;
      backs = b.4;
    }

pub law_index : (R : Region) (slots : List (Option Held)) (S : State) (r : GlobalRef) (h : Held) (i : ℤ) → IsFound R slots S r h → (int_le (pos 0) i && int_lt i (pos h.block.len)) ≡ false → Refuses S r i false
law_index R slots S r h i f outside =
    let I : ℕ → Type 0 = λ z. (int_le (pos 0) i && int_lt i (pos z)) ≡ false in
    (f.block, f.is, subst I f.len outside)

-- what the code could not locate the law refuses
pub law_refused : (R : Region) (slots now : List (Option Held)) (S : State) (r : GlobalRef) (i : ℤ) (stale : Bool) → TableHolds R slots S.blocks → now ≡ slots → IsUnlocated now r i stale → Refuses S r i stale
law_refused R slots now S r i true holds e none = law_stale R slots now S r holds e none
law_refused R slots now S r i false holds e (h, at, same, outside) =
    law_index R slots S r h i (is_found R slots S r h holds (at_table slots now r.start h e at) same) outside

-- what the code has located is found
pub located_found : (R : Region) (slots now : List (Option Held)) (S : State) (r : GlobalRef) (i : ℤ) (h : Held) (at : ℕ) → TableHolds R slots S.blocks → now ≡ slots → IsLocated now r i h at → IsFound R slots S r h
located_found R slots now S r i h at holds e l = is_found R slots S r h holds (at_table slots now r.start h e l.slot) l.generation

index_true : (k n : ℕ) → k < n → (int_le (pos 0) (pos k) && int_lt (pos k) (pos n)) ≡ true
index_true k n lt = search (rules, tests)

pub law_reads : (R : Region) (slots : List (Option Held)) (S : State) (r : GlobalRef) (h : Held) (i : ℤ) (k : ℕ) → (f : IsFound R slots S r h) → i ≡ pos k → k < h.block.len → Reads S r i f.block
law_reads R slots S r h i k f e lt =
    let I : ℤ → Type 0 = λ z. is_index z f.block.words ≡ true in
    let len = f.len in
    record { block = f.is; index = subst I (sym e) (index_true k (length f.block.words) (omega arith)) }

got : {X : Type 0} (xs : List X) (k : ℕ) (v d : X) → slice_get xs k ≡ Some v → v ≡ get_or xs k d
got [] k v d e = cc
got (x ∷ xs) zero v d e = cc
got (x ∷ xs) (suc k) v d e = got xs k v d e

pub law_get : (R : Region) (slots : List (Option Held)) (S : State) (r : GlobalRef) (h : Held) (i v : ℤ) (k : ℕ) → IsFound R slots S r h → i ≡ pos k → k < h.block.len → slice_get R.words (h.block.start + k) ≡ Some v → MayCell (length R.words) S (Get r i v)
law_get R slots S r h i v k f e lt read =
    let len = f.len in
    let V : ℤ → Type 0 = λ z. v ≡ word_at f.block.words z in
    let word : v ≡ get_or f.block.words k (pos 0) =
    got R.words (h.block.start + k) v (pos 0) read ∙ ap (λ z. get_or R.words (z + k) (pos 0)) (f.start ∙ sym f.begins) ∙ f.backs.words k (omega arith) in
    (f.block, law_reads R slots S r h i k f e lt, subst V (sym e) word)
