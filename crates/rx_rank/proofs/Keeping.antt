-- What the set keeps, in the words of its view.
use Rattle.std.proofs.Common.{◌≡◌, ℕ, suc, ◌+◌, ◌*◌, ◌/◌, ◌^◌, ◌<◌, ◌≤◌, List, [], ◌∷◌, ◌++◌, length, take, drop, Option, Some, slice_get, slice_index, refl, arith, ap, sym, subst, ◌∙◌, inl, inr}
use Rattle.std.proofs.lemmas.Bool.{cases_lt}
use Rattle.std.proofs.lemmas.List.{length-drop, take-append-le, take_all}
use Rattle.std.proofs.lemmas.Option.{none-some, same_Some}
use Rattle.std.proofs.Math.Nat.{pow-suc, pow-le-pow_right}
use Rattle.rx_rank.specs.Numbers.{removed}
use Rattle.rx_rank.specs.Counts.{numbers, leaves, IsTree, IsKept, IsSet}
use Rattle.rx_rank.proofs.Leaves.{Between, empty, numbers-between, numbers-most, removed_none}
use Rattle.rx_rank.proofs.Adding.{half-is, root-length}

pub kept_again : (h : ℕ) (cs new : List ℕ) → IsKept h cs → 0 < length cs → length new ≡ length cs → IsTree (length new / 2) new → IsKept h new
kept_again h cs new kept some same tree =
    let e : length new / 2 ≡ 2 ^ h = ap (λ z. z / 2) same ∙ half-is (2 ^ h) cs (kept.tree some).bare in
    record {
      height = kept.height;
      tree = λ _. subst (λ z. IsTree z new) e tree;
    }

pub kept_even : (h : ℕ) (cs : List ℕ) → IsKept h cs → length (leaves cs) ≡ length cs / 2
kept_even h [] kept = refl
kept_even h (c ∷ cs) kept =
    let len = (kept.tree (omega arith)).bare.len in
    let l = length-drop (length (c ∷ cs) / 2) (c ∷ cs) in
    omega arith

-- a tree that has no room for some number is less than half as large as one that has
power-low : (g h : ℕ) → 2 ^ g < 2 ^ h → 2 * 2 ^ g ≤ 2 ^ h
power-low g h less = elim (cases_lt g h) [
  | inl low ↦ let p = pow-suc 2 g in let most = pow-le-pow_right {n = 2} (omega arith) {i = g + 1} {j = h} (omega arith) in let e : 2 ^ (g + 1) ≡ 2 * 2 ^ g = (let s : g + 1 ≡ suc g = omega arith in ap (λ z. 2 ^ z) s ∙ omega arith) in omega arith
  | inr past ↦ let most = pow-le-pow_right {n = 2} (omega arith) {i = h} {j = g} past in absurd (omega arith)
]

pub kept_doubles : (g h n : ℕ) (cs : List ℕ) → IsKept g cs → length cs / 2 < n → n ≤ 2 ^ h → 2 * (length cs / 2) ≤ 2 ^ h
kept_doubles g h n [] kept less most = omega arith
kept_doubles g h n (c ∷ cs) kept less most =
    let e = half-is (2 ^ g) (c ∷ cs) (kept.tree (omega arith)).bare in
    let low = power-low g h (omega arith) in
    omega arith

-- the root counts the numbers
pub kept_first : (h n : ℕ) (cs : List ℕ) → IsKept h cs → 1 < length cs → n ≡ slice_index cs 1 → n ≡ length (numbers 0 (leaves cs))
kept_first h n cs kept some e = e ∙ root-length (2 ^ h) cs (kept.tree (omega arith))

pub kept_none : (h : ℕ) (cs : List ℕ) → IsKept h cs → length cs ≤ 1 → 0 ≡ length (numbers 0 (leaves cs))
kept_none h [] kept few = sym (ap (λ (z : List ℕ). length z) (empty 0))
kept_none h (c ∷ cs) kept few = let len = (kept.tree (omega arith)).bare.len in absurd (omega arith)

pub kept_most : (h : ℕ) (cs : List ℕ) → IsKept h cs → length (numbers 0 (leaves cs)) ≤ length cs / 2
kept_most h cs kept = let e = kept_even h cs kept in let most = numbers-most 0 (leaves cs) in omega arith

pub kept_numbers : (h k : ℕ) (cs : List ℕ) → IsKept h cs → k < length (numbers 0 (leaves cs)) → IsTree (2 ^ h) cs
kept_numbers h k [] kept l = let e : length (numbers 0 (leaves [])) ≡ 0 = ap (λ (z : List ℕ). length z) (empty 0) in absurd (omega arith)
kept_numbers h k (c ∷ cs) kept l = kept.tree (omega arith)

pub kept_within : (h k : ℕ) (cs : List ℕ) → IsKept h cs → k < length (numbers 0 (leaves cs)) → k < slice_index cs 1
kept_within h k cs kept l = let e = root-length (2 ^ h) cs (kept_numbers h k cs kept l) in omega arith

pub kept_room : (h k : ℕ) (cs : List ℕ) → IsKept h cs → k < length (numbers 0 (leaves cs)) → length cs / 2 ≡ 2 ^ h
kept_room h k cs kept l = half-is (2 ^ h) cs (kept_numbers h k cs kept l).bare

-- the least is below the room
between-first : (a b x : ℕ) (ns : List ℕ) → Between a b ns → slice_get ns 0 ≡ Some x → x < b
between-first a b x [] p e = absurd (none-some x e)
between-first a b x (n ∷ ns) p e = let p1 = p.1 in let same : n ≡ x = same_Some n x e in omega arith

pub kept_least : (h x : ℕ) (cs : List ℕ) → IsKept h cs → slice_get (numbers 0 (leaves cs)) 0 ≡ Some x → x < length cs / 2
kept_least h x cs kept first =
    let e = kept_even h cs kept in
    let below = between-first 0 (0 + length (leaves cs)) x (numbers 0 (leaves cs)) (numbers-between 0 (leaves cs)) first in
    omega arith

-- past the room there is nothing to take out
pub kept_removed : (h x : ℕ) (cs : List ℕ) → IsKept h cs → length cs / 2 ≤ x → removed x (numbers 0 (leaves cs)) ≡ numbers 0 (leaves cs)
kept_removed h x cs kept l =
    let e = kept_even h cs kept in
    removed_none x 0 (0 + length (leaves cs)) (numbers 0 (leaves cs)) (inr (omega arith)) (numbers-between 0 (leaves cs))

-- a list that is written back whole, and the set that it stands for then
written_back : (old new : List ℕ) (n : ℕ) → n ≡ length old → length new ≡ length old → take n (new ++ drop (length new) old) ≡ new
written_back old new n e same = take-append-le n new (drop (length new) old) (omega arith) ∙ take_all n new (omega arith)

pub set_again : (h n : ℕ) (old new : List ℕ) (least : Option ℕ) → IsKept h old → n ≡ length old → length new ≡ length old → 0 < length old → IsTree (length new / 2) new
    → least ≡ slice_get (numbers 0 (leaves new)) 0 → IsSet h (take n (new ++ drop (length new) old)) least
set_again h n old new least kept e same some tree first =
    subst (λ z. IsSet h z least) (sym (written_back old new n e same)) (record { kept = kept_again h old new kept some same tree; first = first })
