-- The table and the heap stand for the blocks of the law, after each event.
use Rattle.std.proofs.Common.{◌≡◌, ℕ, ◌+◌, ◌<◌, ◌≤◌, inl, inr, true, false, cond, List, [], ◌∷◌, length, arith, refl, subst, sym, ◌∙◌, ap, leb, Option, Some, None, slice_index}
use Rattle.std.specs.List.{find, list_all}
use Rattle.std.proofs.lemmas.Bool.{cases_lt, and_parts, and_from, eqb-true, eq-eqb, leb-true, le-leb, or_cases, or_left, cases_Bool, or_right, false_from_ne_true}
use Rattle.std.proofs.lemmas.Option.{same_Some}
use Rattle.rx_rules.proofs.Common.{GlobalRef, Live, State, is_block, block_of, is_apart, fits}
use Rattle.rx_heap.specs.Region.{Region, Extent, IsLiveExtent, IsFree, IsLeastFree}
use Rattle.rx_rules.specs.Store as law
use Rattle.rx_store.specs.declared.table.Held.{Held}
use Rattle.rx_store.specs.Table.{slot_at, Backs, BacksAll, Lists, TableHolds, AllLive}

-- the listed block with this start and generation, which is in the table
record Listed (R : Region) (slots : List (Option Held)) (bs : List Live) (s g : ℕ) : Type 0 where
  pub block : Live
  pub start : block.start ≡ s
  pub generation : block.generation ≡ g
  pub backs : Backs R slots block

find_listed : (R : Region) (slots : List (Option Held)) (bs : List Live) (r : GlobalRef) → BacksAll R slots bs → Lists bs r.start r.generation → (b : Live) × (find (is_block r) bs ≡ Some b) × (b.start ≡ r.start) × (b.generation ≡ r.generation) × Backs R slots b
find_listed R slots [] r all l = absurd l
find_listed R slots (b ∷ bs) r all l = elim (cases_Bool (is_block r b)) [
  | inl t ↦
      let parts = and_parts _ _ t in
      (b, ap (λ z. cond z (Some b) (find (is_block r) bs)) t, eqb-true _ _ parts.0, eqb-true _ _ parts.1, all.0)
  | inr f ↦ elim l [
    | inl here ↦ absurd (true-false (sym (and_from _ _ (eq-eqb _ _ here.0) (eq-eqb _ _ here.1)) ∙ f))
    | inr later ↦
        let rest = find_listed R slots bs r all.1 later in
        (rest.0, ap (λ z. cond z (Some b) (find (is_block r) bs)) f ∙ rest.1, rest.2, rest.3, rest.4)
  ]
]
  where
    true-false : true ≡ false → ⊥
    true-false q = cc

-- the block of a reference, where the table has it
pub found : (R : Region) (slots : List (Option Held)) (S : State) (r : GlobalRef) (h : Held) → TableHolds R slots S.blocks → slot_at slots r.start ≡ Some h → h.generation ≡ r.generation → (b : Live) × (block_of S r ≡ Some b) × (b.start ≡ r.start) × (b.generation ≡ r.generation) × Backs R slots b
found R slots S r h holds at same =
    let L : ℕ → Type 0 = λ z. Lists S.blocks r.start z in
    find_listed R slots S.blocks r holds.backed (subst L same (holds.listed r.start h at))

-- no block, where the table has none
pub not_found : (R : Region) (slots : List (Option Held)) (bs : List Live) (r : GlobalRef) → BacksAll R slots bs → ((h : Held) → slot_at slots r.start ≡ Some h → h.generation ≡ r.generation → ⊥) → find (is_block r) bs ≡ None
not_found R slots [] r all none = refl
not_found R slots (b ∷ bs) r all none = elim (cases_Bool (is_block r b)) [
  | inl t ↦
      let parts = and_parts _ _ t in
      let at = ap (slot_at slots) (sym (eqb-true _ _ parts.0)) ∙ all.0.slot in
      absurd (none _ at (eqb-true _ _ parts.1))
  | inr f ↦ ap (λ z. cond z (Some b) (find (is_block r) bs)) f ∙ not_found R slots bs r all.1 none
]

-- each block of the table is live
pub all_live : (R : Region) (slots : List (Option Held)) (bs : List Live) → TableHolds R slots bs → AllLive R slots
all_live R slots bs holds = record {
  starts = λ k h e.
      let b = listed k h e in
      let same = same_Some _ _ (sym e ∙ ap (slot_at slots) (sym b.start) ∙ b.backs.slot) in
      ap (λ (z : Held). z.block.start) same ∙ b.start;
  live = λ k h e.
      let b = listed k h e in
      let same = same_Some _ _ (sym e ∙ ap (slot_at slots) (sym b.start) ∙ b.backs.slot) in
      let V : Extent → Type 0 = λ z. IsLiveExtent R z in
      subst V (sym (ap (λ (z : Held). z.block) same)) b.backs.live;
}
  where
    among : (cs : List Live) (s g : ℕ) → BacksAll R slots cs → Lists cs s g → Listed R slots bs s g
    among [] s g all l = absurd l
    among (c ∷ cs) s g all (inl l) = record { block = c; start = l.0; generation = l.1; backs = all.0 }
    among (c ∷ cs) s g all (inr l) = among cs s g all.1 l

    listed : (k : ℕ) (h : Held) → slot_at slots k ≡ Some h → Listed R slots bs k h.generation
    listed k h e = among bs k h.generation holds.backed (holds.listed k h e)

-- free words of the heap are free to the law
pub fits_from_free : (R : Region) (slots : List (Option Held)) (S : State) (n a : ℕ) → BacksAll R slots S.blocks → 0 < n → IsFree R n a → fits (length R.words) S n a ≡ true
fits_from_free R slots S n a all some f = and_from _ _ (le-leb _ _ f.inside) (apart S.blocks all)
  where
    apart : (bs : List Live) → BacksAll R slots bs → list_all (is_apart a n) bs ≡ true
    apart [] all = refl
    apart (b ∷ bs) all = and_from (is_apart a n b) (list_all (is_apart a n) bs) one (apart bs all.1)
      where
        one : is_apart a n b ≡ true
        one = elim (cases_lt b.start (a + n)) [
          | inl before ↦ elim (cases_lt a (b.start + length b.words)) [
            | inl after ↦
                let there = all.0.live.there in
                let size = all.0.live.some in
                elim (cases_lt a b.start) [
                  | inl less ↦ absurd (f.clear b.start (omega arith) before (b.start, omega arith, omega arith))
                  | inr from ↦ absurd (f.clear a (omega arith) (omega arith) (b.start, from, omega arith))
                ]
            | inr le ↦ or_right (leb (a + n) b.start) (leb (b.start + length b.words) a) (le-leb _ _ le)
          ]
          | inr le ↦ or_left (leb (a + n) b.start) (leb (b.start + length b.words) a) (le-leb _ _ le)
        ]

-- and the other way
pub free_from_fits : (R : Region) (slots : List (Option Held)) (S : State) (n a : ℕ) → TableHolds R slots S.blocks → fits (length R.words) S n a ≡ true → IsFree R n a
free_from_fits R slots S n a holds t =
    let parts = and_parts _ _ t in
    record {
      inside = leb-true _ _ parts.0;
      clear = λ x from below block.
          let k1 = block.1 in
          let k2 = block.2 in
          let known = holds.known block.0 (omega arith) in
          met S.blocks holds.backed parts.1 block.0 known.0.generation (holds.listed block.0 known.0 known.1) x from below k1 k2;
    }
  where
    met : (bs : List Live) → BacksAll R slots bs → list_all (is_apart a n) bs ≡ true → (s g : ℕ) → Lists bs s g → (x : ℕ) → a ≤ x → x < a + n → s ≤ x → x < s + slice_index R.lengths s → ⊥
    met [] all apart s g l x from below k1 k2 = l
    met (b ∷ bs) all apart s g (inr l) x from below k1 k2 = met bs all.1 (and_parts _ _ apart).1 s g l x from below k1 k2
    met (b ∷ bs) all apart s g (inl l) x from below k1 k2 =
        let is = l.0 in
        let there = ap (slice_index R.lengths) (sym is) ∙ all.0.live.there in
        elim (or_cases (leb (a + n) b.start) (leb (b.start + length b.words) a) (and_parts (is_apart a n b) (list_all (is_apart a n) bs) apart).0) [
          | inl e ↦ let le : a + n ≤ b.start = leb-true (a + n) b.start e in omega arith
          | inr e ↦ let le : b.start + length b.words ≤ a = leb-true (b.start + length b.words) a e in omega arith
        ]

pub none_fits : (R : Region) (slots : List (Option Held)) (S : State) (n : ℕ) → TableHolds R slots S.blocks → ((a : ℕ) → IsFree R n a → ⊥) → (a : ℕ) → fits (length R.words) S n a ≡ false
none_fits R slots S n holds none a = false_from_ne_true _ (λ t. none a (free_from_fits R slots S n a holds t))

pub least_fits : (R : Region) (slots : List (Option Held)) (S : State) (n a : ℕ) → TableHolds R slots S.blocks → 0 < n → IsLeastFree R n a → law.IsLeastFree (length R.words) S n a
least_fits R slots S n a holds some least = record {
  here = fits_from_free R slots S n a holds.backed some least.here;
  least = λ b less. false_from_ne_true _ (λ t. least.least b less (free_from_fits R slots S n b holds t));
}
