-- Words cut out of the front of a hole.
use Rattle.std.proofs.Common.{◌≡◌, ℕ, ◌+◌, ◌-◌, ◌<◌, ◌≤◌, inl, inr, List, ◌∷◌, ◌++◌, length, get_or, take, drop, set, arith, subst, sym, ◌∙◌, ap, add-one, remove}
use Rattle.std.proofs.lemmas.Bool.{cases_lt}
use Rattle.std.proofs.lemmas.List.{take-append-drop, drop_more, set_split}
use Rattle.rx_heap.specs.declared.block.Hole.{Hole}
use Rattle.rx_heap.specs.Region.{InHole, LieApart}
use Rattle.rx_heap.specs.Inside.HoleEdits.{Cuts}
use Rattle.rx_heap.proofs.HoleLists.{past, InHole-append_cases, InHole-append_left, InHole-append_right, LieApart-append_left, LieApart-append_right, LieApart-append, LieApart-earlier, InHole-from, InHole-before_past}

-- what is after the first word of a hole h, in place of h and what follows it
record CutsHere (os ms : List Hole) (s n : ℕ) : Type 0 where
  apart : (w a : ℕ) → LieApart w a os → (a ≤ s) × LieApart w a ms
  kept : (x : ℕ) → InHole os x → (s ≤ x → x < s + n → ⊥) → InHole ms x
  gone : (w a x : ℕ) → LieApart w a os → InHole ms x → s ≤ x → x < s + n → ⊥
  from : (x : ℕ) → InHole ms x → InHole os x
  was : (x : ℕ) → s ≤ x → x < s + n → InHole os x

cuts_after : (ls os ms : List Hole) (s n : ℕ) → CutsHere os ms s n → Cuts (ls ++ os) (ls ++ ms) s n
cuts_after ls os ms s n c = record {
  apart = λ w l. LieApart-append w 0 ls ms (LieApart-append_left w 0 ls os l) (c.apart w (past 0 ls) (LieApart-append_right w 0 ls os l)).1;
  kept = λ x i out. elim (InHole-append_cases ls os x i) [
    | inl j ↦ InHole-append_left ls ms x j
    | inr j ↦ InHole-append_right ls ms x (c.kept x j out)
  ];
  gone = λ w x l i from below. elim (InHole-append_cases ls ms x i) [
    | inl j ↦
        let before = InHole-before_past w 0 ls x (LieApart-append_left w 0 ls os l) j in
        let begins = (c.apart w (past 0 ls) (LieApart-append_right w 0 ls os l)).0 in
        omega arith
    | inr j ↦ c.gone w (past 0 ls) x (LieApart-append_right w 0 ls os l) j from below
  ];
  from = λ x i. elim (InHole-append_cases ls ms x i) [
    | inl j ↦ InHole-append_left ls os x j
    | inr j ↦ InHole-append_right ls os x (c.from x j)
  ];
  was = λ x from below. InHole-append_right ls os x (c.was x from below);
}

here_whole : (h : Hole) (rs : List Hole) (n : ℕ) → n ≡ h.len → CutsHere (h ∷ rs) rs h.start n
here_whole h rs n e = record {
  apart = λ w a l. (l.0, LieApart-earlier w (h.start + h.len + 1) a rs (omega arith) l.3);
  kept = λ x i out. elim i [ inl j ↦ absurd (out j.0 (omega (arith, j.1))) | inr j ↦ j ];
  gone = λ w a x l i from below. let later = InHole-from w (h.start + h.len + 1) rs x l.3 i in omega arith;
  from = λ x i. inr i;
  was = λ x from below. inl (from, omega arith);
}

here_part : (h g : Hole) (rs : List Hole) (n : ℕ) → n < h.len → g.start ≡ h.start + n → g.len ≡ h.len - n → CutsHere (h ∷ rs) (g ∷ rs) h.start n
here_part h g rs n lt es el = record {
  apart = λ w a l. (l.0, (omega arith, omega arith, omega arith, LieApart-earlier w (h.start + h.len + 1) (g.start + g.len + 1) rs (omega arith) l.3));
  kept = λ x i out. elim i [
    | inl j ↦ elim (cases_lt x (h.start + n)) [ inl before ↦ absurd (out j.0 before) | inr le ↦ inl (omega arith, omega (arith, j.1)) ]
    | inr j ↦ inr j
  ];
  gone = λ w a x l i from below. elim i [
    | inl j ↦ omega (arith, j.0)
    | inr j ↦ let later = InHole-from w (h.start + h.len + 1) rs x l.3 j in omega arith
  ];
  from = λ x i. elim i [ inl j ↦ inl (omega (arith, j.0), omega (arith, j.1)) | inr j ↦ inr j ];
  was = λ x from below. inl (from, omega arith);
}

pub split_at : (hs : List Hole) (i : ℕ) (d : Hole) → i < length hs → take i hs ++ get_or hs i d ∷ drop (i + 1) hs ≡ hs
split_at hs i d lt = ap (λ z. take i hs ++ z) (sym (drop_more hs i d lt)) ∙ take-append-drop i hs

pub cuts_whole : (hs : List Hole) (i n : ℕ) (d : Hole) → i < length hs → n ≡ (get_or hs i d).len → Cuts hs (remove hs i) (get_or hs i d).start n
cuts_whole hs i n d lt e =
    let C : List Hole → Type 0 = λ z. Cuts z (remove hs i) (get_or hs i d).start n in
    subst C (split_at hs i d lt) (rw (← add-one i) (cuts_after (take i hs) (get_or hs i d ∷ drop (i + 1) hs) (drop (i + 1) hs) (get_or hs i d).start n (here_whole (get_or hs i d) (drop (i + 1) hs) n e)))

pub cuts_part : (hs : List Hole) (i n : ℕ) (d g : Hole) → i < length hs → n < (get_or hs i d).len → g.start ≡ (get_or hs i d).start + n → g.len ≡ (get_or hs i d).len - n → Cuts hs (set hs i g) (get_or hs i d).start n
cuts_part hs i n d g lt less es el =
    let C : List Hole → Type 0 = λ z. Cuts z (set hs i g) (get_or hs i d).start n in
    let D : List Hole → Type 0 = λ z. Cuts (take i hs ++ get_or hs i d ∷ drop (i + 1) hs) z (get_or hs i d).start n in
    let made : take i hs ++ g ∷ drop (i + 1) hs ≡ set hs i g = rw add-one (sym (set_split hs i g lt)) in
    subst C (split_at hs i d lt) (subst D made (cuts_after (take i hs) (get_or hs i d ∷ drop (i + 1) hs) (g ∷ drop (i + 1) hs) (get_or hs i d).start n (here_part (get_or hs i d) g (drop (i + 1) hs) n less es el)))
