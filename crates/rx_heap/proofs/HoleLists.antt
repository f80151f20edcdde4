-- Lists of holes that lie apart: cutting, joining, counting, and where a run of free words lies.
use Rattle.std.proofs.Common.{ℕ, ◌+◌, ◌-◌, ◌*◌, ◌<◌, ◌≤◌, ◌⊎◌, inl, inr, List, [], ◌∷◌, ◌++◌, length, arith, All}
use Rattle.std.proofs.lemmas.Bool.{cases_lt}
use Rattle.std.proofs.lemmas.List.Elements.{All-head, All-tail}
use Rattle.rx_heap.specs.declared.block.Hole.{Hole}
use Rattle.rx_heap.specs.Region.{InHole, LieApart}

-- where the hole after these may begin
abbrev pub past : ℕ → List Hole → ℕ
past a [] = a
past a (h ∷ hs) = past (h.start + h.len + 1) hs

-- some hole has the n words from b on
abbrev pub HasRun : List Hole → ℕ → ℕ → Type 0
HasRun [] b n = ⊥
HasRun (h ∷ hs) b n = ((h.start ≤ b) × (b + n ≤ h.start + h.len)) ⊎ HasRun hs b n

pub InHole-append_cases : (ls rs : List Hole) (x : ℕ) → InHole (ls ++ rs) x → InHole ls x ⊎ InHole rs x
InHole-append_cases [] rs x i = inr i
InHole-append_cases (h ∷ ls) rs x (inl i) = inl (inl i)
InHole-append_cases (h ∷ ls) rs x (inr i) =
    elim (InHole-append_cases ls rs x i) [ inl j ↦ inl (inr j) | inr j ↦ inr j ]

pub InHole-append_left : (ls rs : List Hole) (x : ℕ) → InHole ls x → InHole (ls ++ rs) x
InHole-append_left [] rs x i = absurd i
InHole-append_left (h ∷ ls) rs x (inl i) = inl i
InHole-append_left (h ∷ ls) rs x (inr i) = inr (InHole-append_left ls rs x i)

pub InHole-append_right : (ls rs : List Hole) (x : ℕ) → InHole rs x → InHole (ls ++ rs) x
InHole-append_right [] rs x i = i
InHole-append_right (h ∷ ls) rs x i = inr (InHole-append_right ls rs x i)

pub LieApart-append_left : (w a : ℕ) (ls rs : List Hole) → LieApart w a (ls ++ rs) → LieApart w a ls
LieApart-append_left w a [] rs l = tt
LieApart-append_left w a (h ∷ ls) rs l = (l.0, l.1, l.2, LieApart-append_left w (h.start + h.len + 1) ls rs l.3)

pub LieApart-append_right : (w a : ℕ) (ls rs : List Hole) → LieApart w a (ls ++ rs) → LieApart w (past a ls) rs
LieApart-append_right w a [] rs l = l
LieApart-append_right w a (h ∷ ls) rs l = LieApart-append_right w (h.start + h.len + 1) ls rs l.3

pub LieApart-append : (w a : ℕ) (ls rs : List Hole) → LieApart w a ls → LieApart w (past a ls) rs → LieApart w a (ls ++ rs)
LieApart-append w a [] rs l r = r
LieApart-append w a (h ∷ ls) rs l r = (l.0, l.1, l.2, LieApart-append w (h.start + h.len + 1) ls rs l.3 r)

-- holes that lie from a on lie from any word before it on
pub LieApart-earlier : (w a b : ℕ) (hs : List Hole) → b ≤ a → LieApart w a hs → LieApart w b hs
LieApart-earlier w a b [] e l = tt
LieApart-earlier w a b (h ∷ hs) e l = (omega arith, l.1, l.2, l.3)

-- the words of holes lie from a on, and below w
pub InHole-from : (w a : ℕ) (hs : List Hole) (x : ℕ) → LieApart w a hs → InHole hs x → a ≤ x
InHole-from w a [] x l i = absurd i
InHole-from w a (h ∷ hs) x l (inl i) = omega arith
InHole-from w a (h ∷ hs) x l (inr i) = omega (arith, InHole-from w (h.start + h.len + 1) hs x l.3 i)

pub InHole-below : (w a : ℕ) (hs : List Hole) (x : ℕ) → LieApart w a hs → InHole hs x → x < w
InHole-below w a [] x l i = absurd i
InHole-below w a (h ∷ hs) x l (inl i) = omega arith
InHole-below w a (h ∷ hs) x l (inr i) = InHole-below w (h.start + h.len + 1) hs x l.3 i

-- the words of holes come before what may begin after them, with a word between
pub InHole-before_past : (w a : ℕ) (hs : List Hole) (x : ℕ) → LieApart w a hs → InHole hs x → x + 1 < past a hs
InHole-before_past w a [] x l i = absurd i
InHole-before_past w a (h ∷ hs) x l (inl i) = omega (arith, past-after w (h.start + h.len + 1) hs l.3)
  where
    past-after : (w a : ℕ) (hs : List Hole) → LieApart w a hs → a ≤ past a hs
    past-after w a [] l = omega arith
    past-after w a (h ∷ hs) l = omega (arith, past-after w (h.start + h.len + 1) hs l.3)
InHole-before_past w a (h ∷ hs) x l (inr i) = InHole-before_past w (h.start + h.len + 1) hs x l.3 i

-- at most every other word begins a hole
pub length_holes : (w a : ℕ) (hs : List Hole) → LieApart w a hs → 2 * length hs ≤ w + 1 - a
length_holes w a [] l = omega arith
length_holes w a (h ∷ hs) l = omega (arith, length_holes w (h.start + h.len + 1) hs l.3)

-- words in a row that are all in holes are in one hole
pub run_in_hole : (w a : ℕ) (hs : List Hole) (b n : ℕ) → 0 < n → LieApart w a hs → ((x : ℕ) → b ≤ x → x < b + n → InHole hs x) → HasRun hs b n
run_in_hole w a [] b n some l all = absurd (all b (omega arith) (omega arith))
run_in_hole w a (h ∷ hs) b n some l all =
    let e = h.start + h.len in
    let not_later : (x : ℕ) → x ≤ e → InHole hs x → ⊥ = λ x le i. let from = InHole-from w (e + 1) hs x l.3 i in omega arith in
    elim (cases_lt b e) [
      | inl lt ↦
          let begins : h.start ≤ b =
          elim (all b (omega arith) (omega arith)) [ inl i ↦ i.0 | inr i ↦ absurd (not_later b (omega arith) i) ] in
          let ends : b + n ≤ e =
          elim (cases_lt e (b + n)) [
            | inl over ↦ elim (all e (omega arith) over) [ inl i ↦ absurd (omega (arith, i.1)) | inr i ↦ absurd (not_later e (omega arith) i) ]
            | inr le ↦ le
          ] in
          inl (begins, ends)
      | inr le ↦
          inr (run_in_hole w (e + 1) hs b n some l.3
          (λ x from below. elim (all x from below) [ inl i ↦ absurd (omega (arith, i.1)) | inr i ↦ i ]))
    ]

-- a run that is in one of the holes is not longer than all of them
pub run_not_short : (hs : List Hole) (b n : ℕ) → All (λ h. h.len < n) hs → HasRun hs b n → ⊥
run_not_short [] b n short r = r
run_not_short (h ∷ hs) b n short (inl r) = let less = All-head (λ h. h.len < n) h hs short in omega arith
run_not_short (h ∷ hs) b n short (inr r) = run_not_short hs b n (All-tail (λ h. h.len < n) h hs short) r

HasRun-from : (w a : ℕ) (hs : List Hole) (b n : ℕ) → LieApart w a hs → HasRun hs b n → a ≤ b
HasRun-from w a [] b n l r = absurd r
HasRun-from w a (h ∷ hs) b n l (inl r) = omega arith
HasRun-from w a (h ∷ hs) b n l (inr r) = omega (arith, HasRun-from w (h.start + h.len + 1) hs b n l.3 r)

-- where the holes before h are too short, a run begins in h or after it
pub run_begins : (w a : ℕ) (ls rs : List Hole) (h : Hole) (b n : ℕ) → LieApart w a (ls ++ h ∷ rs) → All (λ g. g.len < n) ls → HasRun (ls ++ h ∷ rs) b n → h.start ≤ b
run_begins w a [] rs h b n l short r = HasRun-from w h.start (h ∷ rs) b n (omega arith, l.1, l.2, l.3) r
run_begins w a (g ∷ ls) rs h b n l short (inl r) = let less = All-head (λ g. g.len < n) g ls short in absurd (omega arith)
run_begins w a (g ∷ ls) rs h b n l short (inr r) =
    run_begins w (g.start + g.len + 1) ls rs h b n l.3 (All-tail (λ g. g.len < n) g ls short) r
