-- Holes found by halves, and by what is kept for each group.
use Rattle.std.proofs.Common.{◌≡◌, ℕ, zero, suc, ◌+◌, ◌<◌, ◌≤◌, ◌⊎◌, inl, inr, true, false, List, [], ◌∷◌, ◌++◌, length, get_or, take, drop, set, ltb, arith, sym, subst, ap, ◌∙◌, length-take, get_or-set_same, get_or-set_other, All, slice_index}
use Rattle.std.specs.List.Sorted.{IsNonDecreasingBy, IsPartitionPoint}
use Rattle.std.proofs.lemmas.Bool.{cases_lt, cases_eq, ltb-true, ltb-false}
use Rattle.std.proofs.lemmas.List.{get_or-take, take_all, get_or_default, get_or_past, take-append-le}
use Rattle.std.proofs.lemmas.List.Elements.{All-weaker}
use Rattle.rx_heap.specs.declared.block.Hole.{Hole}
use Rattle.rx_heap.specs.Region.{LieApart}
use Rattle.rx_heap.specs.Inside.Longest.{group_of, IsBounded}

begins_from : (w a : ℕ) (hs : List Hole) (j : ℕ) (d : Hole) → LieApart w a hs → j < length hs → a ≤ (get_or hs j d).start
begins_from w a [] j d l lt = absurd (omega arith)
begins_from w a (h ∷ hs) zero d l lt = l.0
begins_from w a (h ∷ hs) (suc j) d l lt = let more = begins_from w (h.start + h.len + 1) hs j d l.3 (omega arith) in omega (arith, l.0)

-- holes that lie apart begin in ascending order
pub rising : (w a : ℕ) (hs : List Hole) → LieApart w a hs → IsNonDecreasingBy (λ h. h.start) hs
rising w a hs l = λ i j d le lt. rise w a hs i j d l le lt
  where
    rise : (w a : ℕ) (hs : List Hole) (i j : ℕ) (d : Hole) → LieApart w a hs → i ≤ j → j < length hs → (get_or hs i d).start ≤ (get_or hs j d).start
    rise w a [] i j d l le lt = absurd (omega arith)
    rise w a (h ∷ hs) zero zero d l le lt = omega arith
    rise w a (h ∷ hs) zero (suc j) d l le lt = let more = begins_from w (h.start + h.len + 1) hs j d l.3 (omega arith) in omega arith
    rise w a (h ∷ hs) (suc i) zero d l le lt = absurd (omega arith)
    rise w a (h ∷ hs) (suc i) (suc j) d l le lt = rise w (h.start + h.len + 1) hs i j d l.3 (omega arith) (omega arith)

pub groups_rise : (hs : List Hole) → IsNonDecreasingBy (λ h. h.start) hs → IsNonDecreasingBy group_of hs
groups_rise hs r = λ i j d le lt. let starts = r i j d le lt in omega arith

-- the elements before the point are less than t
pub All-before : (f : Hole → ℕ) (t : ℕ) (hs : List Hole) (i : ℕ) → IsPartitionPoint (λ h. ltb (f h) t ≡ true) (λ h. ltb (f h) t ≡ false) hs i → All (λ h. f h < t) (take i hs)
All-before f t hs i point = λ k d lt.
    let below : k < i = simp-below k lt in
    let T : Hole → Type 0 = λ z. f z < t in
    subst T (sym (get_or-take i hs k d below)) (ltb-true (f (get_or hs k d)) t (point.0 k d (omega arith) below))
  where
    simp-below : (k : ℕ) → k < length (take i hs) → k < i
    simp-below k lt = let e = length-take i hs in omega arith

-- and the others are not
pub from_point : (f : Hole → ℕ) (t : ℕ) (hs : List Hole) (i k : ℕ) (d : Hole) → IsPartitionPoint (λ h. ltb (f h) t ≡ true) (λ h. ltb (f h) t ≡ false) hs i → i ≤ k → k < length hs → t ≤ f (get_or hs k d)
from_point f t hs i k d point le lt = ltb-false (f (get_or hs k d)) t (point.1 k d le lt)

-- a hole to read where there is none
abbrev nothing : Hole
nothing = record { start = 0; len = 0 }

-- so far as a group was searched, holes are of groups before it or too short
pub All-either : (g n first i most : ℕ) (hs : List Hole) → IsPartitionPoint (λ h. ltb (group_of h) g ≡ true) (λ h. ltb (group_of h) g ≡ false) hs first → most < n → ((k : ℕ) (d : Hole) → first ≤ k → k < i → (get_or hs k d).len ≤ most) → All (λ h. (group_of h < g) ⊎ (h.len < n)) (take i hs)
All-either g n first i most hs point less short = λ k d lt.
    let e = length-take i hs in
    let below : k < i = omega arith in
    let T : Hole → Type 0 = λ z. (group_of z < g) ⊎ (z.len < n) in
    subst T (sym (get_or-take i hs k d below)) (elim (cases_lt k first) [
      | inl before ↦ inl (ltb-true (group_of (get_or hs k d)) g (point.0 k d (omega arith) before))
      | inr from ↦ inr (let l = short k d from below in omega arith)
    ])

-- a group that was searched to its end has no longer hole
pub longest_found : (g first i most : ℕ) (hs : List Hole) → IsNonDecreasingBy (λ h. h.start) hs → IsPartitionPoint (λ h. ltb (group_of h) g ≡ true) (λ h. ltb (group_of h) g ≡ false) hs first → ((k : ℕ) (d : Hole) → first ≤ k → k < i → (get_or hs k d).len ≤ most) → (i < length hs → g < group_of (get_or hs i (record { start = 0; len = 0 }))) → All (λ h. group_of h ≡ g → h.len ≤ most) hs
longest_found g first i most hs r point short past = λ k d lt same.
    elim (cases_lt k first) [
      | inl before ↦ let less = ltb-true (group_of (get_or hs k d)) g (point.0 k d (omega arith) before) in absurd (omega arith)
      | inr from ↦ elim (cases_lt k i) [
        | inl below ↦ short k d from below
        | inr after ↦
            let more = groups_rise hs r i k nothing after lt in
            let there = past (omega arith) in
            let e = ap group_of (get_or_default hs k nothing d lt) in
            absurd (omega arith)
      ]
    ]

-- what is kept for a group that was searched in vain
pub tightened : (longest : List ℕ) (g n most : ℕ) (hs : List Hole) → g < length longest → most < n → All (λ m. m < n) (take g longest) → All (IsBounded longest) hs → All (λ h. group_of h ≡ g → h.len ≤ most) hs → All (λ m. m < n) (take (g + 1) (set longest g most)) × All (IsBounded (set longest g most)) hs
tightened longest g n most hs within less short bounded found = (
  λ k d lt.
      let e = length-take (g + 1) (set longest g most) in
      let below : k < g + 1 = omega arith in
      let T : ℕ → Type 0 = λ z. z < n in
      subst T (sym (get_or-take (g + 1) (set longest g most) k d below)) (elim (cases_eq k g) [
        | inl same ↦ let there = get_or-set_same longest g most d within in rw same (omega arith)
        | inr other ↦
            let there = get_or-set_other longest g k most d other in
            let t = get_or-take g longest k d (omega arith) in
            let l = length-take g longest in
            let s = short k d (omega arith) in
            omega arith
      ]),
  λ k d lt.
      let h = get_or hs k d in
      elim (cases_eq (group_of h) g) [
        | inl same ↦ let there = get_or-set_same longest g most 0 within in let f = found k d lt same in
            let B : ℕ → Type 0 = λ z. h.len ≤ slice_index (set longest g most) z in
            subst B (sym same) (omega arith)
        | inr other ↦ let there = get_or-set_other longest g (group_of h) most 0 other in let b = bounded k d lt in omega arith
      ],
)

-- where no group has so many words no hole has
pub none_fits : (longest : List ℕ) (g n : ℕ) (hs : List Hole) → 0 < n → length longest ≤ g → All (λ m. m < n) (take g longest) → All (IsBounded longest) hs → All (λ h. h.len < n) hs
none_fits longest g n hs some all short bounded = λ k d lt.
    let h = get_or hs k d in
    let b = bounded k d lt in
    let A : List ℕ → Type 0 = λ z. All (λ m. m < n) z in
    let short' : All (λ m. m < n) longest = subst A (take_all g longest all) short in
    elim (cases_lt (group_of h) (length longest)) [
      | inl in' ↦ let s = short' (group_of h) 0 in' in omega arith
      | inr out ↦ let e = get_or_past longest (group_of h) 0 out in omega arith
    ]

-- what is written through a slice of a whole list is the list
pub written_back : {X : Type 0} (ws cs : List X) (n : ℕ) → n ≡ length ws → length cs ≡ length ws → take n (cs ++ drop (length cs) ws) ≡ cs
written_back ws cs n e same = take-append-le n cs (drop (length cs) ws) (omega arith) ∙ take_all n cs (omega arith)

-- a length kept for a group is raised
pub All-raised : (before after : List ℕ) (hs : List Hole) → ((h : Hole) → IsBounded before h → IsBounded after h) → All (IsBounded before) hs → All (IsBounded after) hs
All-raised before after hs more all = All-weaker (IsBounded before) (IsBounded after) more hs all
