-- A hole joined in among the others.
use Rattle.std.proofs.Common.{◌≡◌, ℕ, zero, suc, ◌+◌, ◌*◌, ◌<◌, ◌≤◌, ◌⊎◌, inl, inr, List, [], ◌∷◌, ◌++◌, length, get_or, take, drop, set, arith, refl, subst, sym, ◌∙◌, ap, add-one, append_assoc, remove, insert, All}
use Rattle.std.proofs.lemmas.Bool.{cases_lt}
use Rattle.std.proofs.lemmas.List.{take-append-drop, drop_more, take_more, set_split, drop_all, take_more_set, drop-set-lt, get_or_push, length_push}
use Rattle.std.proofs.lemmas.List.Edits.{length-insert}
use Rattle.rx_heap.specs.declared.block.Hole.{Hole}
use Rattle.rx_heap.specs.Region.{InHole, LieApart}
use Rattle.rx_heap.specs.Inside.HoleEdits.{Joins}
use Rattle.rx_heap.proofs.HoleLists.{past, InHole-append_cases, InHole-append_left, InHole-append_right, LieApart-append_left, LieApart-append_right, LieApart-append, LieApart-earlier, length_holes}
use Rattle.rx_heap.proofs.Cutting.{split_at}

-- what stands from some hole on, in place of what stood there
record JoinsHere (os ms : List Hole) (a s n : ℕ) : Type 0 where
  apart : (w : ℕ) → s + n ≤ w → LieApart w a os → LieApart w a ms
  kept : (x : ℕ) → InHole os x → InHole ms x
  gained : (x : ℕ) → s ≤ x → x < s + n → InHole ms x
  from : (x : ℕ) → InHole ms x → InHole os x ⊎ ((s ≤ x) × (x < s + n))

joins_after : (ls os ms : List Hole) (s n : ℕ) → JoinsHere os ms (past 0 ls) s n → Joins (ls ++ os) (ls ++ ms) s n
joins_after ls os ms s n c = record {
  apart = λ w ends l. LieApart-append w 0 ls ms (LieApart-append_left w 0 ls os l) (c.apart w ends (LieApart-append_right w 0 ls os l));
  kept = λ x i. elim (InHole-append_cases ls os x i) [
    | inl j ↦ InHole-append_left ls ms x j
    | inr j ↦ InHole-append_right ls ms x (c.kept x j)
  ];
  gained = λ x from below. InHole-append_right ls ms x (c.gained x from below);
  from = λ x i. elim (InHole-append_cases ls ms x i) [
    | inl j ↦ inl (InHole-append_left ls os x j)
    | inr j ↦ elim (c.from x j) [ inl k ↦ inl (InHole-append_right ls os x k) | inr k ↦ inr k ]
  ];
}

-- the first of these holes begins at a or later
abbrev pub BeginsFrom : ℕ → List Hole → Type 0
BeginsFrom a [] = Unit {0}
BeginsFrom a (h ∷ hs) = a ≤ h.start

LieApart-later : (w a b : ℕ) (hs : List Hole) → LieApart w a hs → BeginsFrom b hs → LieApart w b hs
LieApart-later w a b [] l s = tt
LieApart-later w a b (h ∷ hs) l s = (s, l.1, l.2, l.3)

here_alone : (rs : List Hole) (h : Hole) (a : ℕ) → 0 < h.len → a ≤ h.start → BeginsFrom (h.start + h.len + 1) rs → JoinsHere rs (h ∷ rs) a h.start h.len
here_alone rs h a some first next = record {
  apart = λ w ends l. (first, some, ends, LieApart-later w a (h.start + h.len + 1) rs l next);
  kept = λ x i. inr i;
  gained = λ x from below. inl (from, below);
  from = λ x i. elim i [ inl j ↦ inr j | inr j ↦ inl j ];
}

-- the hole r after it begins where it ends
here_next : (rs : List Hole) (g r : Hole) (a s n : ℕ) → 0 < n → a ≤ s → r.start ≡ s + n → g.start ≡ s → g.len ≡ r.len + n → JoinsHere (r ∷ rs) (g ∷ rs) a s n
here_next rs g r a s n some first touch es el = record {
  apart = λ w ends l. (omega arith, omega arith, omega (arith, l.2), LieApart-earlier w (r.start + r.len + 1) (g.start + g.len + 1) rs (omega arith) l.3);
  kept = λ x i. elim i [ inl j ↦ inl (omega (arith, j.0), omega (arith, j.1)) | inr j ↦ inr j ];
  gained = λ x from below. inl (omega arith, omega arith);
  from = λ x i. elim i [
    | inl j ↦ elim (cases_lt x (s + n)) [ inl before ↦ inr (omega (arith, j.0), before) | inr le ↦ inl (inl (omega arith, omega (arith, j.1))) ]
    | inr j ↦ inl (inr j)
  ];
}

-- the hole p before it ends where it begins
here_last : (rs : List Hole) (g p : Hole) (a s n : ℕ) → p.start + p.len ≡ s → g.start ≡ p.start → g.len ≡ p.len + n → BeginsFrom (s + n + 1) rs → JoinsHere (p ∷ rs) (g ∷ rs) a s n
here_last rs g p a s n touch es el next = record {
  apart = λ w ends l. (omega (arith, l.0), omega (arith, l.1), omega arith, LieApart-later w (p.start + p.len + 1) (g.start + g.len + 1) rs l.3 (begins rs next));
  kept = λ x i. elim i [ inl j ↦ inl (omega (arith, j.0), omega (arith, j.1)) | inr j ↦ inr j ];
  gained = λ x from below. inl (omega arith, omega arith);
  from = λ x i. elim i [
    | inl j ↦ elim (cases_lt x s) [ inl before ↦ inl (inl (omega (arith, j.0), omega arith)) | inr le ↦ inr (le, omega (arith, j.1)) ]
    | inr j ↦ inl (inr j)
  ];
}
  where
    begins : (rs : List Hole) → BeginsFrom (s + n + 1) rs → BeginsFrom (g.start + g.len + 1) rs
    begins [] b = tt
    begins (r ∷ rs) b = omega arith

-- both
here_between : (rs : List Hole) (g p r : Hole) (a s n : ℕ) → p.start + p.len ≡ s → r.start ≡ s + n → g.start ≡ p.start → g.len ≡ p.len + (n + r.len) → JoinsHere (p ∷ r ∷ rs) (g ∷ rs) a s n
here_between rs g p r a s n before after es el = record {
  apart = λ w ends l. (omega (arith, l.0), omega (arith, l.1), omega (arith, l.3.2), LieApart-earlier w (r.start + r.len + 1) (g.start + g.len + 1) rs (omega arith) l.3.3);
  kept = λ x i. elim i [
    | inl j ↦ inl (omega (arith, j.0), omega (arith, j.1))
    | inr k ↦ elim k [ inl j ↦ inl (omega (arith, j.0), omega (arith, j.1)) | inr j ↦ inr j ]
  ];
  gained = λ x from below. inl (omega arith, omega arith);
  from = λ x i. elim i [
    | inl j ↦ elim (cases_lt x s) [
      | inl less ↦ inl (inl (omega (arith, j.0), omega arith))
      | inr le ↦ elim (cases_lt x (s + n)) [
        | inl less ↦ inr (le, less)
        | inr more ↦ inl (inr (inl (omega arith, omega (arith, j.1))))
      ]
    ]
    | inr j ↦ inl (inr (inr j))
  ];
}

-- where the holes before i leave off, where none of them has the word s or ends at it
pub record EndsBefore (hs : List Hole) (i s : ℕ) : Type 0 where
  pub starts : All (λ h. h.start < s) (take i hs)
  pub free : InHole hs s → ⊥
  pub ends : (j : ℕ) (d : Hole) → j + 1 ≡ i → (get_or hs j d).start + (get_or hs j d).len ≡ s → ⊥

InHole-get_or : (hs : List Hole) (i x : ℕ) (d : Hole) → i < length hs → (get_or hs i d).start ≤ x → x < (get_or hs i d).start + (get_or hs i d).len → InHole hs x
InHole-get_or [] i x d lt from below = absurd (omega arith)
InHole-get_or (h ∷ hs) zero x d lt from below = inl (from, below)
InHole-get_or (h ∷ hs) (suc i) x d lt from below = inr (InHole-get_or hs i x d (omega arith) from below)

pub LieApart-get_or : (w a : ℕ) (hs : List Hole) (i : ℕ) (d : Hole) → i < length hs → LieApart w a hs → (0 < (get_or hs i d).len) × ((get_or hs i d).start + (get_or hs i d).len ≤ w)
LieApart-get_or w a [] i d lt l = absurd (omega arith)
LieApart-get_or w a (h ∷ hs) zero d lt l = (l.1, l.2)
LieApart-get_or w a (h ∷ hs) (suc i) d lt l = LieApart-get_or w (h.start + h.len + 1) hs i d (omega arith) l.3

past-push : (a : ℕ) (hs : List Hole) (p : Hole) → past a (hs ++ p ∷ []) ≡ p.start + p.len + 1
past-push a [] p = refl
past-push a (h ∷ hs) p = past-push (h.start + h.len + 1) hs p

-- the hole before i begins before s, does not have it and does not end there
past-take : (w : ℕ) (hs : List Hole) (i s : ℕ) → i ≤ length hs → LieApart w 0 hs → EndsBefore hs i s → past 0 (take i hs) ≤ s
past-take w hs zero s le l e = omega arith
past-take w hs (suc j) s le l e =
    let none : Hole = record { start = 0; len = 0 } in
    let p = get_or hs j none in
    let there : j < length hs = omega arith in
    let front : take (suc j) hs ≡ take j hs ++ p ∷ [] = rw (← add-one j) (take_more hs j none there) in
    let is : past 0 (take (suc j) hs) ≡ p.start + p.len + 1 = ap (past 0) front ∙ past-push 0 (take j hs) p in
    let All' : List Hole → Type 0 = λ z. All (λ h. h.start < s) z in
    let pushed = subst All' front e.starts in
    let begins : p.start < s = last-starts (take j hs) p pushed in
    let apart : p.start + p.len ≤ s =
    elim (cases_lt s (p.start + p.len)) [ inl in' ↦ absurd (e.free (InHole-get_or hs j s none there (omega arith) in')) | inr le ↦ le ] in
    let not : p.start + p.len ≡ s → ⊥ = e.ends j none (omega arith) in
    rw is (omega arith)
  where
    last-starts : (ls : List Hole) (p : Hole) → All (λ h. h.start < s) (ls ++ p ∷ []) → p.start < s
    last-starts ls p all =
        rw (← get_or_push ls p p (length ls) refl) (all (length ls) p (rw length_push (omega arith)))

-- the holes from i on begin after the n words from s on, where none of them has one of those words or begins right after them
pub record BeginsAfter (hs : List Hole) (i s n : ℕ) : Type 0 where
  pub starts : (d : Hole) → i < length hs → s ≤ (get_or hs i d).start
  pub free : (x : ℕ) → s ≤ x → x < s + n → InHole hs x → ⊥
  pub apart : (d : Hole) → i < length hs → s + n ≡ (get_or hs i d).start → ⊥

begins-drop : (w : ℕ) (hs : List Hole) (i s n : ℕ) → LieApart w 0 hs → BeginsAfter hs i s n → BeginsFrom (s + n + 1) (drop i hs)
begins-drop w hs i s n l b = elim (cases_lt i (length hs)) [
  | inl lt ↦
      let none : Hole = record { start = 0; len = 0 } in
      let r = get_or hs i none in
      let some : 0 < r.len = (LieApart-get_or w 0 hs i none lt l).0 in
      let begins : s ≤ r.start = b.starts none lt in
      let after : s + n ≤ r.start =
      elim (cases_lt r.start (s + n)) [
        | inl in' ↦ absurd (b.free r.start begins in' (InHole-get_or hs i r.start none lt (omega arith) (omega arith)))
        | inr le ↦ le
      ] in
      let not : s + n ≡ r.start → ⊥ = b.apart none lt in
      let B : List Hole → Type 0 = λ z. BeginsFrom (s + n + 1) z in
      let here : s + n + 1 ≤ r.start = omega arith in
      subst B (sym (drop_more hs i none lt)) here
  | inr ge ↦ let B : List Hole → Type 0 = λ z. BeginsFrom (s + n + 1) z in subst B (sym (drop_all i hs ge)) tt
]

pub joins_alone : (w : ℕ) (hs : List Hole) (i : ℕ) (h : Hole) → i ≤ length hs → 0 < h.len → LieApart w 0 hs → EndsBefore hs i h.start → BeginsAfter hs i h.start h.len → Joins hs (insert hs i h) h.start h.len
joins_alone w hs i h le some l e b =
    let J : List Hole → Type 0 = λ z. Joins z (insert hs i h) h.start h.len in
    subst J (take-append-drop i hs) (joins_after (take i hs) (drop i hs) (h ∷ drop i hs) h.start h.len
    (here_alone (drop i hs) h (past 0 (take i hs)) some (past-take w hs i h.start le l e) (begins-drop w hs i h.start h.len l b)))

pub joins_next : (w : ℕ) (hs : List Hole) (i : ℕ) (g d : Hole) (s n : ℕ) → i < length hs → 0 < n → LieApart w 0 hs → EndsBefore hs i s → (get_or hs i d).start ≡ s + n → g.start ≡ s → g.len ≡ (get_or hs i d).len + n → Joins hs (set hs i g) s n
joins_next w hs i g d s n lt some l e touch es el =
    let J : List Hole → Type 0 = λ z. Joins z (set hs i g) s n in
    let K : List Hole → Type 0 = λ z. Joins (take i hs ++ get_or hs i d ∷ drop (i + 1) hs) z s n in
    let made : take i hs ++ g ∷ drop (i + 1) hs ≡ set hs i g = rw add-one (sym (set_split hs i g lt)) in
    subst J (split_at hs i d lt) (subst K made (joins_after (take i hs) (get_or hs i d ∷ drop (i + 1) hs) (g ∷ drop (i + 1) hs) s n
    (here_next (drop (i + 1) hs) g (get_or hs i d) (past 0 (take i hs)) s n some (past-take w hs i s (omega arith) l e) touch es el)))

pub joins_last : (w : ℕ) (hs : List Hole) (j : ℕ) (g d : Hole) (s n : ℕ) → j < length hs → LieApart w 0 hs → BeginsAfter hs (j + 1) s n → (get_or hs j d).start + (get_or hs j d).len ≡ s → g.start ≡ (get_or hs j d).start → g.len ≡ (get_or hs j d).len + n → Joins hs (set hs j g) s n
joins_last w hs j g d s n lt l b touch es el =
    let J : List Hole → Type 0 = λ z. Joins z (set hs j g) s n in
    let K : List Hole → Type 0 = λ z. Joins (take j hs ++ get_or hs j d ∷ drop (j + 1) hs) z s n in
    let made : take j hs ++ g ∷ drop (j + 1) hs ≡ set hs j g = rw add-one (sym (set_split hs j g lt)) in
    subst J (split_at hs j d lt) (subst K made (joins_after (take j hs) (get_or hs j d ∷ drop (j + 1) hs) (g ∷ drop (j + 1) hs) s n
    (here_last (drop (j + 1) hs) g (get_or hs j d) (past 0 (take j hs)) s n touch es el (begins-drop w hs (j + 1) s n l b))))

pub joins_between : (hs : List Hole) (j : ℕ) (g d : Hole) (s n : ℕ) → j + 1 < length hs → (get_or hs j d).start + (get_or hs j d).len ≡ s → (get_or hs (j + 1) d).start ≡ s + n → g.start ≡ (get_or hs j d).start → g.len ≡ (get_or hs j d).len + (n + (get_or hs (j + 1) d).len) → Joins hs (remove (set hs j g) (j + 1)) s n
joins_between hs j g d s n lt before after es el =
    let p = get_or hs j d in
    let r = get_or hs (j + 1) d in
    let J : List Hole → Type 0 = λ z. Joins z (remove (set hs j g) (j + 1)) s n in
    let K : List Hole → Type 0 = λ z. Joins (take j hs ++ p ∷ r ∷ drop (j + 1 + 1) hs) z s n in
    let there : j < length hs = omega arith in
    let whole : take j hs ++ p ∷ r ∷ drop (j + 1 + 1) hs ≡ hs =
    ap (λ z. take j hs ++ p ∷ z) (sym (drop_more hs (j + 1) d lt)) ∙ split_at hs j d there in
    let made : take j hs ++ g ∷ drop (j + 1 + 1) hs ≡ remove (set hs j g) (j + 1) =
    sym (ap (λ z. take (j + 1) (set hs j g) ++ z) (drop-set-lt (suc (j + 1)) hs j g (omega arith))
    ∙ ap (λ z. z ++ drop (suc (j + 1)) hs) (take_more_set hs j g there)
    ∙ append_assoc (take j hs) (g ∷ []) (drop (suc (j + 1)) hs)
    ∙ ap (λ z. take j hs ++ g ∷ drop z hs) (sym (add-one (j + 1)))) in
    subst J whole (subst K made (joins_after (take j hs) (p ∷ r ∷ drop (j + 1 + 1) hs) (g ∷ drop (j + 1 + 1) hs) s n
    (here_between (drop (j + 1 + 1) hs) g p r (past 0 (take j hs)) s n before after es el)))

-- after a hole is put in, at most every other word begins a hole
pub length-joins : (w : ℕ) (hs : List Hole) (i : ℕ) (h : Hole) → i ≤ length hs → h.start + h.len ≤ w → LieApart w 0 hs → Joins hs (insert hs i h) h.start h.len → 2 * (length hs + 1) ≤ w + 1
length-joins w hs i h le ends l j =
    let c = length_holes w 0 (insert hs i h) (j.apart w ends l) in
    let n = length-insert hs i h le in
    omega arith
