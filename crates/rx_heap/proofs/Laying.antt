-- How live blocks and holes lie after a block is taken and after one is given back.
use Rattle.std.proofs.Common.{◌≡◌, ◌≢◌, ℕ, ◌+◌, ◌-◌, ◌<◌, ◌≤◌, ◌⊎◌, inl, inr, ℤ, List, ◌∷◌, ◌++◌, length, get_or, take, drop, set, arith, subst, sym, ◌∙◌, ap, length-set, get_or-set_same, get_or-set_other, length-take, length-append, length-drop, All, slice_index}
use Rattle.std.proofs.lemmas.Bool.{cases_lt, cases_eq}
use Rattle.rx_heap.specs.declared.block.Hole.{Hole}
use Rattle.rx_heap.specs.Region.{Region, Extent, IsLiveExtent, InHole, LieApart, IsLaid, IsFree, IsLeastFree}
use Rattle.rx_heap.specs.Inside.HoleEdits.{Cuts, Joins}
use Rattle.rx_heap.proofs.HoleLists.{InHole-below, run_in_hole, run_not_short, run_begins}
use Rattle.rx_heap.proofs.Cutting.{split_at}

-- a hole's words hold no block
pub hole_no_block : (R : Region) (s : ℕ) → IsLaid R → InHole R.holes s → slice_index R.lengths s ≡ 0
hole_no_block R s l i = elim (cases_lt 0 (slice_index R.lengths s)) [
  | inl some ↦ absurd (l.once s i (s, omega arith, omega arith))
  | inr none ↦ omega arith
]

-- words cut out of a hole are words of the heap
pub cut_inside : (R : Region) (holes : List Hole) (s n : ℕ) → IsLaid R → 0 < n → Cuts R.holes holes s n → s + n ≤ length R.words
cut_inside R holes s n l some c =
    let last = InHole-below (length R.words) 0 R.holes (s + (n - 1)) l.holes (c.was (s + (n - 1)) (omega arith) (omega arith)) in
    omega arith

get-set : (xs : List ℕ) (s n t : ℕ) → s < length xs → ((t ≡ s) × (slice_index (set xs s n) t ≡ n)) ⊎ ((t ≢ s) × (slice_index (set xs s n) t ≡ slice_index xs t))
get-set xs s n t lt = elim (cases_eq t s) [
  | inl e ↦ let S : ℕ → Type 0 = λ z. slice_index (set xs s n) z ≡ n in inl (e, subst S (sym e) (get_or-set_same xs s n 0 lt))
  | inr ne ↦ inr (ne, get_or-set_other xs s t n 0 ne)
]

pub laid_take : (R : Region) (words : List ℤ) (holes : List Hole) (s n : ℕ) → IsLaid R → 0 < n → Cuts R.holes holes s n → length words ≡ length R.words → IsLaid (record { words = words; holes = holes; lengths = set R.lengths s n })
laid_take R words holes s n l some c same =
    let inside = cut_inside R holes s n l some c in
    let sizes = l.sizes in
    let within : s < length R.lengths = omega arith in
    let empty = hole_no_block R s l (c.was s (omega arith) (omega arith)) in
    let L = set R.lengths s n in
    record {
      sizes = length-set R.lengths s n ∙ l.sizes ∙ sym same;
      inside = λ t some'. elim (get-set R.lengths s n t within) [
        | inl e ↦ let e0 = e.0 in let e1 = e.1 in omega arith
        | inr e ↦ let e1 = e.1 in let old = l.inside t (omega arith) in omega arith
      ];
      apart = λ t u less some'. elim (get-set R.lengths s n u within) [
        | inl e ↦ elim (get-set R.lengths s n t within) [
          | inl f ↦ absurd (let e0 = e.0 in let f0 = f.0 in omega arith)
          | inr f ↦ elim (cases_lt s (t + slice_index R.lengths t)) [
            | inl over ↦ let e0 = e.0 in absurd (l.once s (c.was s (omega arith) (omega arith)) (t, omega arith, over))
            | inr le ↦ let e0 = e.0 in let f1 = f.1 in omega arith
          ]
        ]
        | inr e ↦ elim (get-set R.lengths s n t within) [
          | inl f ↦ elim (cases_lt u (s + n)) [
            | inl over ↦ let e1 = e.1 in let f0 = f.0 in absurd (l.once u (c.was u (omega arith) over) (u, omega arith, omega arith))
            | inr le ↦ let f0 = f.0 in let f1 = f.1 in omega arith
          ]
          | inr f ↦ let e1 = e.1 in let f1 = f.1 in let old = l.apart t u less (omega arith) in omega arith
        ]
      ];
      holes = let H : ℕ → Type 0 = λ w. LieApart w 0 holes in subst H (sym same) (c.apart (length R.words) l.holes);
      each = λ x lt. elim (l.each x (omega arith)) [
        | inl i ↦ elim (cases_lt x s) [
          | inl before ↦ inl (c.kept x i (λ from below. omega arith))
          | inr from ↦ elim (cases_lt x (s + n)) [
            | inl below ↦ inr (s, from, (let e = get_or-set_same R.lengths s n 0 within in omega arith))
            | inr after ↦ inl (c.kept x i (λ from below. omega arith))
          ]
        ]
        | inr b ↦ inr (
          b.0,
          b.1,
          elim (get-set R.lengths s n b.0 within) [
            | inl e ↦ let b1 = b.1 in let b2 = b.2 in let e0 = e.0 in
                let z : slice_index R.lengths b.0 ≡ 0 = ap (slice_index R.lengths) e0 ∙ empty in absurd (omega arith)
            | inr e ↦ let b2 = b.2 in let e1 = e.1 in omega arith
          ],
        )
      ];
      once = λ x i b. elim (get-set R.lengths s n b.0 within) [
        | inl e ↦ let b1 = b.1 in let b2 = b.2 in let e0 = e.0 in let e1 = e.1 in
            c.gone (length R.words) x l.holes i (omega arith) (omega arith)
        | inr e ↦ let b2 = b.2 in let e1 = e.1 in l.once x (c.from x i) (b.0, b.1, omega arith)
      ];
    }

pub laid_give : (R : Region) (holes : List Hole) (b : Extent) → IsLaid R → IsLiveExtent R b → Joins R.holes holes b.start b.len → IsLaid (record { words = R.words; holes = holes; lengths = set R.lengths b.start 0 })
laid_give R holes b l live c =
    let s = b.start in
    let n = b.len in
    let there : slice_index R.lengths s ≡ n = live.there in
    let some : 0 < n = live.some in
    let inside : s + n ≤ length R.words = let i = l.inside s (omega arith) in omega arith in
    let sizes = l.sizes in
    let within : s < length R.lengths = omega arith in
    record {
      sizes = length-set R.lengths s 0 ∙ l.sizes;
      inside = λ t some'. elim (get-set R.lengths s 0 t within) [
        | inl e ↦ let e1 = e.1 in absurd (omega arith)
        | inr e ↦ let e1 = e.1 in let old = l.inside t (omega arith) in omega arith
      ];
      apart = λ t u less some'. elim (get-set R.lengths s 0 u within) [
        | inl e ↦ let e1 = e.1 in absurd (omega arith)
        | inr e ↦ elim (get-set R.lengths s 0 t within) [
          | inl f ↦ let f1 = f.1 in omega arith
          | inr f ↦ let e1 = e.1 in let f1 = f.1 in let old = l.apart t u less (omega arith) in omega arith
        ]
      ];
      holes = c.apart (length R.words) inside l.holes;
      each = λ x lt. elim (l.each x lt) [
        | inl i ↦ inl (c.kept x i)
        | inr k ↦ elim (get-set R.lengths s 0 k.0 within) [
          | inl e ↦ let k1 = k.1 in let k2 = k.2 in let e0 = e.0 in
              let z : slice_index R.lengths k.0 ≡ n = ap (slice_index R.lengths) e0 ∙ there in
              inl (c.gained x (omega arith) (omega arith))
          | inr e ↦ let k2 = k.2 in let e1 = e.1 in inr (k.0, k.1, omega arith)
        ]
      ];
      once = λ x i k. elim (get-set R.lengths s 0 k.0 within) [
        | inl e ↦ let k1 = k.1 in let k2 = k.2 in let e0 = e.0 in let e1 = e.1 in omega arith
        | inr e ↦ let k1 = k.1 in let k2 = k.2 in let e1 = e.1 in let ne = e.0 in
            elim (c.from x i) [
              | inl j ↦ l.once x j (k.0, k.1, omega arith)
              | inr j ↦ let j0 = j.0 in let j1 = j.1 in
                  elim (cases_lt k.0 s) [
                    | inl less ↦ let a = l.apart k.0 s less (omega arith) in omega arith
                    | inr ge ↦ let a = l.apart s k.0 (omega arith) (omega arith) in omega arith
                  ]
            ]
      ];
    }

-- free words in a row are in one hole
free_words : (R : Region) (n a : ℕ) → IsLaid R → IsFree R n a → (x : ℕ) → a ≤ x → x < a + n → InHole R.holes x
free_words R n a l f x from below =
    let inside = f.inside in
    elim (l.each x (omega arith)) [ inl i ↦ i | inr b ↦ absurd (f.clear x from below b) ]

pub none_free : (R : Region) (n : ℕ) → IsLaid R → 0 < n → All (λ h. h.len < n) R.holes → (a : ℕ) → IsFree R n a → ⊥
none_free R n l some short a f =
    run_not_short R.holes a n short (run_in_hole (length R.words) 0 R.holes a n some l.holes (free_words R n a l f))

pub least_free : (R : Region) (holes : List Hole) (i n : ℕ) (d : Hole) → IsLaid R → 0 < n → i < length R.holes → All (λ h. h.len < n) (take i R.holes) → Cuts R.holes holes (get_or R.holes i d).start n → IsLeastFree R n (get_or R.holes i d).start
least_free R holes i n d l some lt short c =
    let s = (get_or R.holes i d).start in
    record {
      here = record {
        inside = cut_inside R holes s n l some c;
        clear = λ x from below b. l.once x (c.was x from below) b;
      };
      least = λ a less f.
          let H : List Hole → Type 0 = λ z. LieApart (length R.words) 0 z in
          let P : List Hole → Type 0 = λ z. ((x : ℕ) → a ≤ x → x < a + n → InHole z x) in
          let whole = split_at R.holes i d lt in
          let lies = subst H (sym whole) l.holes in
          let words = subst P (sym whole) (free_words R n a l f) in
          let run = run_in_hole (length R.words) 0 (take i R.holes ++ get_or R.holes i d ∷ drop (i + 1) R.holes) a n some lies words in
          let begins = run_begins (length R.words) 0 (take i R.holes) (drop (i + 1) R.holes) (get_or R.holes i d) a n lies short run in
          omega arith;
    }

-- a run of words put back at its place leaves as many words
pub length-put_back : {X : Type 0} (ws cs : List X) (n : ℕ) → n ≡ length ws → length cs ≡ length ws → length (take n (cs ++ drop (length cs) ws)) ≡ length ws
length-put_back ws cs n e same = simp (length-take, length-append, length-drop) (omega arith)
