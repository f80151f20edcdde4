-- Blocks of the table, given back from its end.
use Rattle.std.proofs.Common.{◌≡◌, ◌≢◌, ℕ, ◌<◌, inl, inr, List, [], ◌∷◌, ◌++◌, length, set, arith, refl, sym, ◌∙◌, ap, get_or-set_other, Option, Some, None, slice_index}
use Rattle.std.proofs.lemmas.Bool.{cases_lt}
use Rattle.std.proofs.lemmas.List.{get_or_past, get_or_push, get_or_append_left}
use Rattle.rx_heap.specs.Region.{Region}
use Rattle.rx_store.specs.declared.table.Held.{Held}
use Rattle.rx_store.specs.Table.{slot_at, AllLive}

-- a word with a block in the table is one of the table's words
pub slot_within : (slots : List (Option Held)) (k : ℕ) (h : Held) → slot_at slots k ≡ Some h → k < length slots
slot_within slots k h e = elim (cases_lt k (length slots)) [
  | inl lt ↦ lt
  | inr ge ↦ absurd (none_some (sym (get_or_past slots k None ge) ∙ e))
]
  where
    none_some : None ≡ Some h → ⊥
    none_some q = cc

pub live_front : (R : Region) (xs : List (Option Held)) (y : Option Held) → AllLive R (xs ++ y ∷ []) → AllLive R xs
live_front R xs y l = record {
  starts = λ k h e. l.starts k h (get_or_append_left xs (y ∷ []) None k (slot_within xs k h e) ∙ e);
  live = λ k h e. l.live k h (get_or_append_left xs (y ∷ []) None k (slot_within xs k h e) ∙ e);
}

pub live_given : (R S : Region) (xs : List (Option Held)) (h : Held) → S.lengths ≡ set R.lengths h.block.start 0 → AllLive R (xs ++ Some h ∷ []) → AllLive S xs
live_given R S xs h given l =
    let front = live_front R xs (Some h) l in
    let begins : h.block.start ≡ length xs = l.starts (length xs) h (get_or_push xs (Some h) None (length xs) refl) in
    record {
      starts = front.starts;
      live = λ k g e.
          let old = front.live k g e in
          let at : g.block.start ≡ k = front.starts k g e in
          let lt = slot_within xs k g e in
          let other : g.block.start ≢ h.block.start = λ q. omega arith in
          record {
            some = old.some;
            there = ap (λ (z : List ℕ). slice_index z g.block.start) given ∙ get_or-set_other R.lengths h.block.start g.block.start 0 0 other ∙ old.there;
          };
    }
