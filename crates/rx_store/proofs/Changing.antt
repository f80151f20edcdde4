-- The table and the heap after a block is made, written and forgotten.
use Rattle.std.proofs.Common.{◌≡◌, ◌≢◌, ℕ, ◌+◌, ◌-◌, ◌<◌, ◌≤◌, inl, inr, Bool, true, false, cond, ℤ, pos, List, [], ◌∷◌, ◌++◌, map, filter, length, get_or, set, take, drop, replicate, arith, refl, subst, sym, ◌∙◌, ap, get_or-set_other, get_or-set_same, length-set, get_or-take, get_or-drop, length-take-le, length-append, length-take, length-drop, Option, Some, None, slice_index, not}
use Rattle.std.proofs.lemmas.Bool.{cases_lt, cases_eq, and_parts, and_from, eqb-true, eq-eqb, cases_Bool}
use Rattle.std.proofs.lemmas.List.{get_or-append_right, get_or_append_left, get_or-replicate, length-replicate}
use Rattle.std.proofs.lemmas.Option.{same_Some, none-some}
use Rattle.rx_rules.proofs.Common.{GlobalRef, Live, is_block, set_word}
use Rattle.rx_heap.specs.Region.{Region, IsLiveExtent, IsLaid, IsFree}
use Rattle.rx_store.specs.declared.table.Held.{Held}
use Rattle.rx_store.specs.Table.{slot_at, extent_of, Backs, BacksAll, Lists, TableHolds, AllLive}
use Rattle.rx_store.proofs.Giving.{slot_within}
use Rattle.rx_store.proofs.Holding.{all_live}

true-false : true ≡ false → ⊥
true-false q = cc

-- another block of the table than that of the reference begins elsewhere
elsewhere : (R : Region) (slots : List (Option Held)) (r : GlobalRef) (h : Held) (b : Live) → slot_at slots r.start ≡ Some h → h.generation ≡ r.generation → is_block r b ≡ false → Backs R slots b → b.start ≢ r.start
elsewhere R slots r h b at same other backs e =
    let held = same_Some _ _ (sym at ∙ ap (slot_at slots) (sym e) ∙ backs.slot) in
    let generation = sym (ap (λ (z : Held). z.generation) held) ∙ same in
    true-false (sym (and_from _ _ (eq-eqb _ _ e) (eq-eqb _ _ generation)) ∙ other)

-- the words of a block are words of the heap
block_inside : (R : Region) (b : Live) → IsLaid R → IsLiveExtent R (extent_of b) → b.start + length b.words ≤ length R.words
block_inside R b laid live =
    let there = live.there in
    let some = live.some in
    let i = laid.inside b.start (omega arith) in
    omega arith

-- two blocks that begin at two words have no word in common
blocks_apart : (R : Region) (s n t k i j : ℕ) → IsLaid R → slice_index R.lengths s ≡ n → slice_index R.lengths t ≡ k → s ≢ t → i < n → j < k → s + i ≢ t + j
blocks_apart R s n t k i j laid es et ne li lj e = elim (cases_lt s t) [
  | inl less ↦ let a = laid.apart s t less (omega arith) in omega arith
  | inr ge ↦ let a = laid.apart t s (omega arith) (omega arith) in omega arith
]

-- forgotten: the block of the reference is out of the table and not live
pub forget_holds : (R S : Region) (slots : List (Option Held)) (bs : List Live) (r : GlobalRef) (h : Held) → TableHolds R slots bs → IsLaid S → S.words ≡ R.words → slot_at slots r.start ≡ Some h → h.generation ≡ r.generation → S.lengths ≡ set R.lengths h.block.start 0 → TableHolds S (set slots r.start None) (filter (λ b. not (is_block r b)) bs)
forget_holds R S slots bs r h holds laid words at same gone =
    let begins = (all_live R slots bs holds).starts r.start h at in
    let within = slot_within slots r.start h at in
    let lengths : S.lengths ≡ set R.lengths r.start 0 = gone ∙ ap (λ z. set R.lengths z 0) begins in
    let within' : r.start < length R.lengths = let a = holds.size in let b = holds.laid.sizes in omega arith in
    record {
      size = length-set slots r.start None ∙ holds.size ∙ ap (λ (z : List ℤ). length z) (sym words);
      laid = laid;
      backed = backed bs holds.backed lengths;
      listed = λ k g e. elim (cases_eq k r.start) [
        | inl is ↦ absurd (none-some g (sym (get_or-set_same slots r.start None None within) ∙ ap (slot_at (set slots r.start None)) (sym is) ∙ e))
        | inr ne ↦ kept bs k g.generation ne (holds.listed k g (sym (get_or-set_other slots r.start k None None ne) ∙ e))
      ];
      known = λ k some. elim (cases_eq k r.start) [
        | inl is ↦
            let zero = ap (λ (z : List ℕ). slice_index z k) lengths ∙ ap (slice_index (set R.lengths r.start 0)) is ∙ get_or-set_same R.lengths r.start 0 0 within' in
            absurd (omega arith)
        | inr ne ↦
            let same' = ap (λ (z : List ℕ). slice_index z k) lengths ∙ get_or-set_other R.lengths r.start k 0 0 ne in
            let old = holds.known k (omega arith) in
            (old.0, get_or-set_other slots r.start k None None ne ∙ old.1)
      ];
    }
  where
    one : (b : Live) → is_block r b ≡ false → S.lengths ≡ set R.lengths r.start 0 → Backs R slots b → Backs S (set slots r.start None) b
    one b other lengths backs =
        let ne = elsewhere R slots r h b at same other backs in
        record {
          slot = get_or-set_other slots r.start b.start None None ne ∙ backs.slot;
          live = record { some = backs.live.some; there = ap (λ (z : List ℕ). slice_index z b.start) lengths ∙ get_or-set_other R.lengths r.start b.start 0 0 ne ∙ backs.live.there };
          words = λ i lt. ap (λ (z : List ℤ). get_or z (b.start + i) (pos 0)) words ∙ backs.words i lt;
        }

    backed : (cs : List Live) → BacksAll R slots cs → S.lengths ≡ set R.lengths r.start 0 → BacksAll S (set slots r.start None) (filter (λ b. not (is_block r b)) cs)
    backed [] all lengths = tt
    backed (c ∷ cs) all lengths =
        let B : Bool → Type 0 = λ z. BacksAll S (set slots r.start None) (cond (not z) (c ∷ filter (λ b. not (is_block r b)) cs) (filter (λ b. not (is_block r b)) cs)) in
        elim (cases_Bool (is_block r c)) [
          | inl t ↦ subst B (sym t) (backed cs all.1 lengths)
          | inr f ↦ subst B (sym f) (one c f lengths all.0, backed cs all.1 lengths)
        ]

    kept : (cs : List Live) (k g : ℕ) → k ≢ r.start → Lists cs k g → Lists (filter (λ b. not (is_block r b)) cs) k g
    kept [] k g ne l = l
    kept (c ∷ cs) k g ne l =
        let L : Bool → Type 0 = λ z. Lists (cond (not z) (c ∷ filter (λ b. not (is_block r b)) cs) (filter (λ b. not (is_block r b)) cs)) k g in
        elim (cases_Bool (is_block r c)) [
          | inl t ↦ subst L (sym t) (elim l [
            | inl here ↦ absurd (ne (sym here.0 ∙ eqb-true _ _ (and_parts _ _ t).0))
            | inr later ↦ kept cs k g ne later
          ])
          | inr f ↦ subst L (sym f) (elim l [ inl here ↦ inl here | inr later ↦ inr (kept cs k g ne later) ])
        ]

-- written: word k of the block of the reference
pub put_holds : (R S : Region) (slots : List (Option Held)) (bs : List Live) (r : GlobalRef) (h : Held) (k : ℕ) (v : ℤ) → TableHolds R slots bs → IsLaid S → S.lengths ≡ R.lengths → S.words ≡ set R.words (h.block.start + k) v → slot_at slots r.start ≡ Some h → h.generation ≡ r.generation → k < h.block.len → TableHolds S slots (map (λ b. cond (is_block r b) (set_word (pos k) v b) b) bs)
put_holds R S slots bs r h k v holds laid lengths words at same lt = record {
  size = holds.size ∙ sym (ap (λ (z : List ℤ). length z) words ∙ length-set R.words (h.block.start + k) v);
  laid = laid;
  backed = backed bs holds.backed;
  listed = λ j g e. kept bs j g.generation (holds.listed j g e);
  known = λ j some. holds.known j (let L : List ℕ → Type 0 = λ z. 0 < slice_index z j in subst L lengths some);
}
  where
    live : AllLive R slots
    live = all_live R slots bs holds

    begins : h.block.start ≡ r.start
    begins = live.starts r.start h at

    there : slice_index R.lengths r.start ≡ h.block.len
    there = ap (slice_index R.lengths) (sym begins) ∙ (live.live r.start h at).there

    words' : S.words ≡ set R.words (r.start + k) v
    words' = words ∙ ap (λ z. set R.words (z + k) v) begins

    this : (b : Live) → is_block r b ≡ true → Backs R slots b → Backs S slots (set_word (pos k) v b)
    this b t backs =
        let is = eqb-true _ _ (and_parts _ _ t).0 in
        let len = length-set b.words k v in
        let held = same_Some _ _ (sym at ∙ ap (slot_at slots) (sym is) ∙ backs.slot) in
        let long : h.block.len ≡ length b.words = ap (λ (z : Held). z.block.len) held in
        let inside = block_inside R b holds.laid backs.live in
        record {
          slot = backs.slot ∙ ap (λ z. Some (record { generation = b.generation; block = record { start = b.start; len = z } })) (sym len);
          live = record {
            some = (let some = backs.live.some in omega arith);
            there = ap (λ (z : List ℕ). slice_index z b.start) lengths ∙ backs.live.there ∙ sym len;
          };
          words = λ i less. elim (cases_eq i k) [
            | inl e ↦
                ap (λ (z : List ℤ). get_or z (b.start + i) (pos 0)) words'
                ∙ ap (λ z. get_or (set R.words (r.start + k) v) z (pos 0)) (omega arith)
                ∙ get_or-set_same R.words (r.start + k) v (pos 0) (omega arith)
                ∙ sym (ap (λ z. get_or (set b.words k v) z (pos 0)) e ∙ get_or-set_same b.words k v (pos 0) (omega arith))
            | inr ne ↦
                let ne' : b.start + i ≢ r.start + k = λ q. ne (omega arith) in
                ap (λ (z : List ℤ). get_or z (b.start + i) (pos 0)) words'
                ∙ get_or-set_other R.words (r.start + k) (b.start + i) v (pos 0) ne'
                ∙ backs.words i (omega arith)
                ∙ sym (get_or-set_other b.words k i v (pos 0) ne)
          ];
        }

    other : (b : Live) → is_block r b ≡ false → Backs R slots b → Backs S slots b
    other b f backs =
        let ne = elsewhere R slots r h b at same f backs in
        record {
          slot = backs.slot;
          live = record { some = backs.live.some; there = ap (λ (z : List ℕ). slice_index z b.start) lengths ∙ backs.live.there };
          words = λ i less.
              ap (λ (z : List ℤ). get_or z (b.start + i) (pos 0)) words'
              ∙ get_or-set_other R.words (r.start + k) (b.start + i) v (pos 0) (blocks_apart R b.start (length b.words) r.start h.block.len i k holds.laid backs.live.there there ne less lt)
              ∙ backs.words i less;
        }

    backed : (cs : List Live) → BacksAll R slots cs → BacksAll S slots (map (λ b. cond (is_block r b) (set_word (pos k) v b) b) cs)
    backed [] all = tt
    backed (c ∷ cs) all =
        let B : Bool → Type 0 = λ z. Backs S slots (cond z (set_word (pos k) v c) c) in (
          elim (cases_Bool (is_block r c)) [
            | inl t ↦ subst B (sym t) (this c t all.0)
            | inr f ↦ subst B (sym f) (other c f all.0)
          ],
          backed cs all.1,
        )

    kept : (cs : List Live) (s g : ℕ) → Lists cs s g → Lists (map (λ b. cond (is_block r b) (set_word (pos k) v b) b) cs) s g
    kept [] s g l = l
    kept (c ∷ cs) s g (inr l) = inr (kept cs s g l)
    kept (c ∷ cs) s g (inl l) =
        let L : Bool → Type 0 = λ z. ((cond z (set_word (pos k) v c) c).start ≡ s) × ((cond z (set_word (pos k) v c) c).generation ≡ g) in
        inl (elim (is_block r c) as L [ true ↦ l | false ↦ l ])

made_word : (ws : List ℤ) (s n x : ℕ) → s + n ≤ length ws → (s ≤ x → x < s + n → ⊥) → get_or (take s ws ++ (replicate n (pos 0) ++ drop (s + n) ws)) x (pos 0) ≡ get_or ws x (pos 0)
made_word ws s n x inside out = elim (cases_lt x s) [
  | inl less ↦
      get_or_append_left (take s ws) (replicate n (pos 0) ++ drop (s + n) ws) (pos 0) x (let l = length-take-le s ws (omega arith) in omega arith)
      ∙ get_or-take s ws x (pos 0) less
  | inr from ↦ elim (cases_lt x (s + n)) [
    | inl in' ↦ absurd (out from in')
    | inr after ↦
        get_or-append_right (take s ws) (replicate n (pos 0) ++ drop (s + n) ws) s x (pos 0) (length-take-le s ws (omega arith)) from
        ∙ get_or-append_right (replicate n (pos 0)) (drop (s + n) ws) n (x - s) (pos 0) (length-replicate n (pos 0)) (omega arith)
        ∙ get_or-drop (s + n) ws (x - s - n) (pos 0)
        ∙ ap (λ z. get_or ws z (pos 0)) (omega arith)
  ]
]

made_zero : (ws : List ℤ) (s n i : ℕ) → s + n ≤ length ws → i < n → get_or (take s ws ++ (replicate n (pos 0) ++ drop (s + n) ws)) (s + i) (pos 0) ≡ pos 0
made_zero ws s n i inside lt =
    get_or-append_right (take s ws) (replicate n (pos 0) ++ drop (s + n) ws) s (s + i) (pos 0) (length-take-le s ws (omega arith)) (omega arith)
    ∙ ap (λ z. get_or (replicate n (pos 0) ++ drop (s + n) ws) z (pos 0)) (omega arith)
    ∙ get_or_append_left (replicate n (pos 0)) (drop (s + n) ws) (pos 0) i (let l = length-replicate n (pos 0) in omega arith)
    ∙ get_or-replicate n i (pos 0) (pos 0) lt

-- made: n words at s, which were free
pub make_holds : (R S : Region) (slots : List (Option Held)) (bs : List Live) (s n g : ℕ) → TableHolds R slots bs → IsLaid S → 0 < n → IsFree R n s → S.lengths ≡ set R.lengths s n → S.words ≡ take s R.words ++ (replicate n (pos 0) ++ drop (s + n) R.words) → length S.words ≡ length R.words → TableHolds S (set slots s (Some (record { generation = g; block = record { start = s; len = n } }))) (record { start = s; generation = g; words = replicate n (pos 0) } ∷ bs)
make_holds R S slots bs s n g holds laid some free lengths words same = record {
  size = length-set slots s _ ∙ holds.size ∙ sym same;
  laid = laid;
  backed = (this, backed bs holds.backed);
  listed = λ k h e. elim (cases_eq k s) [
    | inl is ↦
        let held = same_Some _ _ (sym e ∙ ap (slot_at (set slots s new)) is ∙ get_or-set_same slots s new None within) in
        inl (sym is, sym (ap (λ (z : Held). z.generation) held))
    | inr ne ↦ inr (holds.listed k h (sym (get_or-set_other slots s k new None ne) ∙ e))
  ];
  known = λ k pos'. elim (cases_eq k s) [
    | inl is ↦ (record { generation = g; block = record { start = s; len = n } }, ap (slot_at (set slots s new)) is ∙ get_or-set_same slots s new None within)
    | inr ne ↦
        let at = ap (λ (z : List ℕ). slice_index z k) lengths ∙ get_or-set_other R.lengths s k n 0 ne in
        let old = holds.known k (omega arith) in
        (old.0, get_or-set_other slots s k new None ne ∙ old.1)
  ];
}
  where
    new : Option Held
    new = Some (record { generation = g; block = record { start = s; len = n } })

    within : s < length slots
    within = let size = holds.size in let inside = free.inside in omega arith

    within' : s < length R.lengths
    within' = let size = holds.laid.sizes in let inside = free.inside in omega arith

    this : Backs S (set slots s new) (record { start = s; generation = g; words = replicate n (pos 0) })
    this =
        let len = length-replicate n (pos 0) in
        record {
          slot = get_or-set_same slots s new None within ∙ ap (λ z. Some (record { generation = g; block = record { start = s; len = z } })) (sym len);
          live = record {
            some = omega arith;
            there = ap (λ (z : List ℕ). slice_index z s) lengths ∙ get_or-set_same R.lengths s n 0 within' ∙ sym len;
          };
          words = λ i lt. ap (λ (z : List ℤ). get_or z (s + i) (pos 0)) words ∙ made_zero R.words s n i free.inside (omega arith) ∙ sym (get_or-replicate n i (pos 0) (pos 0) (omega arith));
        }

    old : (b : Live) → Backs R slots b → Backs S (set slots s new) b
    old b backs =
        let there = backs.live.there in
        let size = backs.live.some in
        let ne : b.start ≢ s = λ e. free.clear s (omega arith) (omega arith) (b.start, omega arith, omega arith) in
        record {
          slot = get_or-set_other slots s b.start new None ne ∙ backs.slot;
          live = record { some = size; there = ap (λ (z : List ℕ). slice_index z b.start) lengths ∙ get_or-set_other R.lengths s b.start n 0 ne ∙ there };
          words = λ i lt. ap (λ (z : List ℤ). get_or z (b.start + i) (pos 0)) words
              ∙ made_word R.words s n (b.start + i) free.inside (λ from below. free.clear (b.start + i) from below (b.start, omega arith, omega arith))
              ∙ backs.words i lt;
        }

    backed : (cs : List Live) → BacksAll R slots cs → BacksAll S (set slots s new) cs
    backed [] all = tt
    backed (c ∷ cs) all = (old c all.0, backed cs all.1)

none_if : (o : Option Held) → ((h : Held) → o ≡ Some h → ⊥) → o ≡ None
none_if None never = refl
none_if (Some h) never = absurd (never h refl)

-- where words are free the table has no block
pub free_slot : (R : Region) (slots : List (Option Held)) (bs : List Live) (s n : ℕ) → TableHolds R slots bs → 0 < n → IsFree R n s → slot_at slots s ≡ None
free_slot R slots bs s n holds some free = none_if (slot_at slots s) (λ h e.
    let live = all_live R slots bs holds in
    let begins = live.starts s h e in
    let here = live.live s h e in
    let size = here.some in
    let there = ap (slice_index R.lengths) (sym begins) ∙ here.there in
    free.clear s (omega arith) (omega arith) (s, omega arith, omega arith))

pub length-made : (ws vs : List ℤ) (s n : ℕ) → s + n ≤ length ws → vs ≡ take s ws ++ (replicate n (pos 0) ++ drop (s + n) ws) → length vs ≡ length ws
length-made ws vs s n inside e = ap (λ (z : List ℤ). length z) e ∙ simp (length-append, length-take, length-replicate, length-drop) (omega arith)
