-- A tree of counts whose nodes are added up one by one, what its root counts, and the way down from it.
use Rattle.std.proofs.Common.{◌≡◌, ◌≢◌, ℕ, zero, suc, ◌+◌, ◌-◌, ◌*◌, ◌/◌, ◌^◌, ◌<◌, ◌≤◌, Bool, true, false, List, [], ◌∷◌, ◌++◌, length, take, drop, set, replicate, sum, Some, slice_get, slice_index, refl, arith, append_assoc, ap, sym, subst, ◌∙◌, inl, inr}
use Rattle.std.proofs.lemmas.Bool.{cases_eq, cases_lt}
use mir.Val.{bool_byte}
use Rattle.std.proofs.lemmas.List.{set-get_or, drop_at, length-set, length-append, length-replicate, length-drop, get_or-set_same, get_or-set_other, get_or-replicate, get_or-append_right, get_or_append_left, get_or-drop, get_or_past, take_all, drop-set-lt, drop-set-add}
use Rattle.std.proofs.lemmas.List.Sums.{sum_by_more, sum_by-take-drop, sum_by-append}
use Rattle.std.proofs.Math.Seq.{take-add}
use Rattle.std.proofs.Math.Nat.{pow-suc, pow-le-pow_right}
use Rattle.rx_rank.specs.Counts.{numbers, leaves, IsSum, IsNextTo, IsLate, IsBare, IsTree}
use Rattle.rx_rank.specs.Numbers.{marked}
use Rattle.rx_rank.proofs.Leaves.{numbers-length, numbers-at, numbers-more, numbers-set}

-- two counts below a node fit where no node counts more than it can have leaves
small-sum : (i a b n : ℕ) → 0 < i → (2 * i) * a < n → (2 * i + 1) * b < n → i * (a + b) < n
small-sum i a b n from l r = omega arith

times-least : (i s n : ℕ) → 0 < i → i * s < n → s < n
times-least zero s n from l = absurd (omega arith)
times-least (suc i) s n from l = omega arith

pub below-small : (half i : ℕ) (cs : List ℕ) → IsBare half cs → 0 < i → i * (slice_index cs (2 * i) + slice_index cs (2 * i + 1)) < 2 * half
below-small half i cs bare from =
    small-sum i (slice_index cs (2 * i)) (slice_index cs (2 * i + 1)) (2 * half) from (bare.small (2 * i) (omega arith)) (bare.small (2 * i + 1) (omega arith))

pub fits : (half i : ℕ) (cs : List ℕ) → IsBare half cs → 0 < i → slice_index cs (2 * i) + slice_index cs (2 * i + 1) < 2 ^ 32
fits half i cs bare from =
    let few = bare.few in
    let less = times-least i (slice_index cs (2 * i) + slice_index cs (2 * i + 1)) (2 * half) from (below-small half i cs bare from) in
    omega arith

-- a leaf or a node written anew
bit-small : (i v n : ℕ) → i < n → v ≤ 1 → i * v < n
bit-small i zero n l b = omega arith
bit-small i (suc zero) n l b = omega arith
bit-small i (suc (suc v)) n l b = absurd (omega arith)

bare-set : (half i v : ℕ) (cs : List ℕ) → IsBare half cs → i < 2 * half → (half ≤ i → v ≤ 1) → i * v < 2 * half → IsBare half (set cs i v)
bare-set half i v cs bare below bit small =
    let len = bare.len in
    record {
      len = length-set cs i v ∙ bare.len;
      few = bare.few;
      bits = λ j from. elim (cases_eq j i) [
        | inl e ↦ subst (λ z. slice_index (set cs i v) z ≤ 1) (sym e) (subst (λ z. z ≤ 1) (sym (get_or-set_same cs i v 0 (omega arith))) (bit (omega arith)))
        | inr ne ↦ subst (λ z. z ≤ 1) (sym (get_or-set_other cs i j v 0 ne)) (bare.bits j from)
      ];
      small = λ j from. elim (cases_eq j i) [
        | inl e ↦ subst (λ z. z * slice_index (set cs i v) z < 2 * half) (sym e) (subst (λ z. i * z < 2 * half) (sym (get_or-set_same cs i v 0 (omega arith))) small)
        | inr ne ↦ subst (λ z. j * z < 2 * half) (sym (get_or-set_other cs i j v 0 ne)) (bare.small j from)
      ];
    }

pub bare-leaf : (half i v : ℕ) (cs : List ℕ) → IsBare half cs → i < 2 * half → v ≤ 1 → IsBare half (set cs i v)
bare-leaf half i v cs bare below bit = bare-set half i v cs bare below (λ _. bit) (bit-small i v (2 * half) below bit)

bare-node : (half i : ℕ) (cs : List ℕ) → IsBare half cs → 0 < i → i < half → IsBare half (set cs i (slice_index cs (2 * i) + slice_index cs (2 * i + 1)))
bare-node half i cs bare from below = bare-set half i _ cs bare (omega arith) (λ past. absurd (omega arith)) (below-small half i cs bare from)

-- a sum stays where no node of it is written anew, and is there where it is written
sum-stays : (i v j : ℕ) (cs : List ℕ) → j ≢ i → 2 * j ≢ i → 2 * j + 1 ≢ i → IsSum cs j → IsSum (set cs i v) j
sum-stays i v j cs a b c s =
    get_or-set_other cs i j v 0 a
    ∙ s
    ∙ ap (λ z. z + slice_index cs (2 * j + 1)) (sym (get_or-set_other cs i (2 * j) v 0 b))
    ∙ ap (λ z. slice_index (set cs i v) (2 * j) + z) (sym (get_or-set_other cs i (2 * j + 1) v 0 c))

sum-made : (i : ℕ) (cs : List ℕ) → 0 < i → i < length cs → IsSum (set cs i (slice_index cs (2 * i) + slice_index cs (2 * i + 1))) i
sum-made i cs from below =
    let v : ℕ = slice_index cs (2 * i) + slice_index cs (2 * i + 1) in
    get_or-set_same cs i v 0 below
    ∙ ap (λ z. z + slice_index cs (2 * i + 1)) (sym (get_or-set_other cs i (2 * i) v 0 (λ e. omega (arith, e))))
    ∙ ap (λ z. slice_index (set cs i v) (2 * i) + z) (sym (get_or-set_other cs i (2 * i + 1) v 0 (λ e. omega (arith, e))))

sum-next : (half i j : ℕ) (cs : List ℕ) → IsBare half cs → 0 < i → i < half → (j ≢ i → IsSum cs j) → 2 * j ≢ i → 2 * j + 1 ≢ i → IsSum (set cs i (slice_index cs (2 * i) + slice_index cs (2 * i + 1))) j
sum-next half i j cs bare from below s b c =
    let len = bare.len in
    elim (cases_eq j i) [
      | inl e ↦ subst (λ z. IsSum (set cs i (slice_index cs (2 * i) + slice_index cs (2 * i + 1))) z) (sym e) (sum-made i cs from (omega arith))
      | inr ne ↦ sum-stays i _ j cs ne b c (s ne)
    ]

-- on the way up from a leaf, all is added up but what lies above the node at i
pub record IsUp (half i : ℕ) (start cs : List ℕ) : Type 0 where
  pub bare : IsBare half cs
  pub from : 0 < i
  pub below : i < 2 * half
  pub sums : (j : ℕ) → 0 < j → j < half → j ≢ i / 2 → IsSum cs j
  pub same : drop half cs ≡ drop half start

pub up-begins : (half i v : ℕ) (cs : List ℕ) → IsTree half cs → half ≤ i → i < 2 * half → v ≤ 1 → IsUp half i (set cs i v) (set cs i v)
up-begins half i v cs tree from below bit =
    record {
      bare = bare-leaf half i v cs tree.bare below bit;
      from = omega arith;
      below = below;
      sums = λ j low high ne. sum-stays i v j cs (λ e. omega (arith, e)) (λ e. omega (arith, e, ne)) (λ e. omega (arith, e, ne)) (tree.sums j low high);
      same = refl;
    }

pub up-goes_on : (half i : ℕ) (start cs : List ℕ) → IsUp half i start cs → 1 < i → IsUp half (i / 2) start (set cs (i / 2) (slice_index cs (2 * (i / 2)) + slice_index cs (2 * (i / 2) + 1)))
up-goes_on half i start cs up more =
    let below = up.below in
    let h : i / 2 < half = omega arith in
    let low : 0 < i / 2 = omega arith in
    record {
      bare = bare-node half (i / 2) cs up.bare low h;
      from = low;
      below = omega arith;
      sums = λ j from high ne. sum-next half (i / 2) j cs up.bare low h (λ other. up.sums j from high other) (λ e. omega (arith, e, ne)) (λ e. omega (arith, e, ne));
      same = drop-set-lt half cs (i / 2) _ h ∙ up.same;
    }

-- on that way the node above the one at i is late by one
next-more : (s : Bool) (a b c v : ℕ) → IsNextTo s b v → a ≡ b + c → IsNextTo s a (v + c)
next-more true a b c v n e = let n' : v ≡ b + 1 = n in omega arith
next-more false a b c v n e = let n' : b ≡ v + 1 = n in omega arith

late-made : (s : Bool) (i v : ℕ) (cs : List ℕ) → 1 < i → i < length cs → IsSum cs (i / 2) → IsNextTo s (slice_index cs i) v → IsLate s (set cs i v) (i / 2)
late-made s i v cs more below sum next =
    let above : ℕ = i / 2 in
    let here : slice_index (set cs i v) i ≡ v = get_or-set_same cs i v 0 below in
    let top : slice_index (set cs i v) above ≡ slice_index cs above = get_or-set_other cs i above v 0 (λ e. omega (arith, e)) in
    elim (cases_eq i (2 * above)) [
      | inl e ↦
          let l : slice_index (set cs i v) (2 * above) ≡ v = ap (λ z. slice_index (set cs i v) z) (sym e) ∙ here in
          let r : slice_index (set cs i v) (2 * above + 1) ≡ slice_index cs (2 * above + 1) = get_or-set_other cs i (2 * above + 1) v 0 (λ o. omega (arith, o)) in
          let old : slice_index cs (2 * above) ≡ slice_index cs i = ap (λ z. slice_index cs z) (sym e) in
          let sums : slice_index (set cs i v) (2 * above) + slice_index (set cs i v) (2 * above + 1) ≡ v + slice_index cs (2 * above + 1) = omega arith in
          subst (λ z. IsNextTo s z (slice_index (set cs i v) (2 * above) + slice_index (set cs i v) (2 * above + 1))) (sym top)
          (subst (λ z. IsNextTo s (slice_index cs above) z) (sym sums) (next-more s (slice_index cs above) (slice_index cs i) (slice_index cs (2 * above + 1)) v next (omega arith)))
      | inr ne ↦
          let odd : i ≡ 2 * above + 1 = omega (arith, ne) in
          let l : slice_index (set cs i v) (2 * above) ≡ slice_index cs (2 * above) = get_or-set_other cs i (2 * above) v 0 (λ o. ne (sym o)) in
          let r : slice_index (set cs i v) (2 * above + 1) ≡ v = ap (λ z. slice_index (set cs i v) z) (sym odd) ∙ here in
          let old : slice_index cs (2 * above + 1) ≡ slice_index cs i = ap (λ z. slice_index cs z) (sym odd) in
          let sums : slice_index (set cs i v) (2 * above) + slice_index (set cs i v) (2 * above + 1) ≡ v + slice_index cs (2 * above) = omega arith in
          subst (λ z. IsNextTo s z (slice_index (set cs i v) (2 * above) + slice_index (set cs i v) (2 * above + 1))) (sym top)
          (subst (λ z. IsNextTo s (slice_index cs above) z) (sym sums) (next-more s (slice_index cs above) (slice_index cs i) (slice_index cs (2 * above)) v next (omega arith)))
    ]

leaf-next : (s : Bool) (a n : ℕ) → a ≤ 1 → n ≡ bool_byte s → a ≢ n → IsNextTo s a n
leaf-next true a n most e ne = let e' : n ≡ 1 = e in omega (arith, ne)
leaf-next false a n most e ne = let e' : n ≡ 0 = e in omega (arith, ne)

pub late-begins : (s : Bool) (half i n : ℕ) (cs : List ℕ) → IsTree half cs → half ≤ i → i < 2 * half → n ≡ bool_byte s → slice_index cs i ≢ n → 1 < i → IsLate s (set cs i n) (i / 2)
late-begins s half i n cs tree from below e ne more =
    let len = tree.bare.len in
    late-made s i n cs more (omega arith) (tree.sums (i / 2) (omega arith) (omega arith)) (leaf-next s (slice_index cs i) n (tree.bare.bits i from) e ne)

pub late-goes_on : (s : Bool) (half i : ℕ) (start cs : List ℕ) → IsUp half i start cs → 1 < i → IsLate s cs (i / 2) → 1 < i / 2
    → IsLate s (set cs (i / 2) (slice_index cs (2 * (i / 2)) + slice_index cs (2 * (i / 2) + 1))) (i / 2 / 2)
late-goes_on s half i start cs up more late again =
    let len = up.bare.len in
    let below = up.below in
    late-made s (i / 2) _ cs again (omega arith) (up.sums (i / 2 / 2) (omega arith) (omega arith) (λ e. omega (arith, e))) late

-- on the way down to the root, all is added up from the node at i on
pub record IsDown (half i : ℕ) (start cs : List ℕ) : Type 0 where
  pub bare : IsBare half cs
  pub from : 0 < i
  pub most : i ≤ half
  pub sums : (j : ℕ) → i ≤ j → j < half → IsSum cs j
  pub same : drop half cs ≡ drop half start

pub some-half : (half : ℕ) (cs : List ℕ) → IsBare half cs → 0 < half
some-half half cs bare = let s = bare.small 1 (omega arith) in omega arith

pub down-goes_on : (half i : ℕ) (start cs : List ℕ) → IsDown half i start cs → 1 < i → IsDown half (i - 1) start (set cs (i - 1) (slice_index cs (2 * (i - 1)) + slice_index cs (2 * (i - 1) + 1)))
down-goes_on half i start cs down more =
    let most = down.most in
    let h : i - 1 < half = omega arith in
    let low : 0 < i - 1 = omega arith in
    record {
      bare = bare-node half (i - 1) cs down.bare low h;
      from = low;
      most = omega arith;
      sums = λ j from high. sum-next half (i - 1) j cs down.bare low h (λ other. down.sums j (omega (arith, other)) high) (λ e. omega (arith, e)) (λ e. omega (arith, e));
      same = drop-set-lt half cs (i - 1) _ h ∙ down.same;
    }

-- what the nodes before i count
pub front : ℕ → List ℕ → ℕ
front i cs = sum (take i cs)

front-more : (i : ℕ) (cs : List ℕ) → i < length cs → front (i + 1) cs ≡ front i cs + slice_index cs i
unfolding front
front-more i cs below = sum_by_more (λ x. x) cs i 0 below

front-at : (i j : ℕ) (cs : List ℕ) → i ≡ j → front i cs ≡ front j cs
front-at i j cs e = ap (λ z. front z cs) e

-- before the nodes below a node stands what stands before it, and the root once more
front-below : (half i : ℕ) (cs : List ℕ) → IsTree half cs → i < half → front (2 * (i + 1)) cs ≡ front (i + 1) cs + slice_index cs 1
front-below half zero cs tree below =
    let len = tree.bare.len in
    front-more 1 cs (omega arith)
front-below half (suc i) cs tree below =
    let len = tree.bare.len in
    let before = front-below half i cs tree (omega arith) in
    let a = front-more (2 * (i + 1)) cs (omega arith) in
    let b = front-more (2 * (i + 1) + 1) cs (omega arith) in
    let c = front-more (i + 1) cs (omega arith) in
    let s = tree.sums (i + 1) (omega arith) (omega arith) in
    let d = front-at (2 * (suc i + 1)) (2 * (i + 1) + 1 + 1) cs (omega arith) in
    let e = front-at (suc i + 1) (i + 1 + 1) cs (omega arith) in
    omega arith

front-twice : (half i : ℕ) (cs : List ℕ) → IsTree half cs → 0 < i → i ≤ half → front (2 * i) cs ≡ front i cs + slice_index cs 1
front-twice half zero cs tree from below = absurd (omega arith)
front-twice half (suc i) cs tree from below =
    let e = front-below half i cs tree (omega arith) in
    let a = front-at (2 * suc i) (2 * (i + 1)) cs (omega arith) in
    let b = front-at (suc i) (i + 1) cs (omega arith) in
    omega arith

-- the root counts what the leaves count
root-counts : (half : ℕ) (cs : List ℕ) → IsTree half cs → sum (drop half cs) ≡ slice_index cs 1
unfolding front
root-counts half cs tree =
    let len = tree.bare.len in
    let whole = sum_by-take-drop (λ x. x) cs half in
    let all : sum (take (2 * half) cs) ≡ sum cs = ap (λ (z : List ℕ). sum z) (take_all (2 * half) cs (omega arith)) in
    let twice : sum (take (2 * half) cs) ≡ sum (take half cs) + slice_index cs 1 = front-twice half half cs tree (some-half half cs tree.bare) (omega arith) in
    omega arith

pub half-is : (half : ℕ) (cs : List ℕ) → IsBare half cs → length cs / 2 ≡ half
half-is half cs bare = let len = bare.len in omega arith

leaf-bits : (half : ℕ) (cs : List ℕ) → IsBare half cs → (i : ℕ) → slice_index (drop half cs) i ≤ 1
leaf-bits half cs bare i = subst (λ z. z ≤ 1) (sym (get_or-drop half cs i 0)) (bare.bits (half + i) (omega arith))

pub root-length : (half : ℕ) (cs : List ℕ) → IsTree half cs → slice_index cs 1 ≡ length (numbers 0 (leaves cs))
root-length half cs tree =
    sym (ap (λ z. length (numbers 0 (drop z cs))) (half-is half cs tree.bare)
    ∙ numbers-length 0 (drop half cs) (leaf-bits half cs tree.bare)
    ∙ root-counts half cs tree)

-- on the way down to the k-th number, d levels below the root: what is left of k is to be found below the node at i
pub record IsNear (h d k i left : ℕ) (cs : List ℕ) : Type 0 where
  pub level : d ≤ h
  pub from : 2 ^ d ≤ i
  pub below : i < 2 * 2 ^ d
  pub within : left < slice_index cs i
  pub before : front i cs + left ≡ front (2 ^ d) cs + k

-- a level below
pub record IsNext (h d i : ℕ) (cs : List ℕ) : Type 0 where
  pub power : 2 ^ (d + 1) ≡ 2 * 2 ^ d
  pub inside : i < 2 ^ h
  pub from : 0 < i
  pub sum : IsSum cs i

pub next : (h d k i left : ℕ) (cs : List ℕ) → IsTree (2 ^ h) cs → IsNear h d k i left cs → d < h → IsNext h d i cs
next h d k i left cs tree near more =
    let p : 2 ^ (d + 1) ≡ 2 * 2 ^ d = (let e : d + 1 ≡ suc d = omega arith in let p = pow-suc 2 d in ap (λ z. 2 ^ z) e ∙ (omega arith)) in
    let most = pow-le-pow_right {n = 2} (omega arith) {i = d + 1} {j = h} (omega arith) in
    let some = pow-le-pow_right {n = 2} (omega arith) {i = 0} {j = d} (omega arith) in
    let low = near.from in
    let high = near.below in
    let inside : i < 2 ^ h = omega arith in
    let from : 0 < i = omega arith in
    record {
      power = p;
      inside = inside;
      from = from;
      sum = tree.sums i from inside;
    }

near-twice : (h d k i left : ℕ) (cs : List ℕ) → IsTree (2 ^ h) cs → IsNear h d k i left cs → d < h → front (2 * i) cs + left ≡ front (2 ^ (d + 1)) cs + k
near-twice h d k i left cs tree near more =
    let n = next h d k i left cs tree near more in
    let inside = n.inside in
    let low = near.from in
    let some = pow-le-pow_right {n = 2} (omega arith) {i = 0} {j = d} (omega arith) in
    let here = front-twice (2 ^ h) i cs tree n.from (omega arith) in
    let top = front-twice (2 ^ h) (2 ^ d) cs tree (omega arith) (omega arith) in
    let at = front-at (2 ^ (d + 1)) (2 * 2 ^ d) cs n.power in
    let before = near.before in
    omega arith

pub near-left : (h d k i left : ℕ) (cs : List ℕ) → IsTree (2 ^ h) cs → IsNear h d k i left cs → d < h → left < slice_index cs (2 * i) → IsNear h (d + 1) k (2 * i) left cs
near-left h d k i left cs tree near more within =
    let n = next h d k i left cs tree near more in
    let power = n.power in
    let low = near.from in
    let high = near.below in
    record {
      level = omega arith;
      from = omega arith;
      below = omega arith;
      within = within;
      before = near-twice h d k i left cs tree near more;
    }

pub near-right : (h d k i left : ℕ) (cs : List ℕ) → IsTree (2 ^ h) cs → IsNear h d k i left cs → d < h → slice_index cs (2 * i) ≤ left → IsNear h (d + 1) k (2 * i + 1) (left - slice_index cs (2 * i)) cs
near-right h d k i left cs tree near more past =
    let n = next h d k i left cs tree near more in
    let power = n.power in
    let low = near.from in
    let high = near.below in
    let inside = n.inside in
    let len = tree.bare.len in
    let within = near.within in
    let s = n.sum in
    let one = front-more (2 * i) cs (omega arith) in
    let twice = near-twice h d k i left cs tree near more in
    record {
      level = omega arith;
      from = omega arith;
      below = omega arith;
      within = omega arith;
      before = omega arith;
    }

pub near-ends : (h k i left x : ℕ) (cs : List ℕ) → IsTree (2 ^ h) cs → IsNear h h k i left cs → x ≡ i - length cs / 2 → slice_get (numbers 0 (leaves cs)) k ≡ Some x
unfolding front
near-ends h k i left x cs tree near e =
    let half : ℕ = 2 ^ h in
    let at = half-is half cs tree.bare in
    let low = near.from in
    let within = near.within in
    let bit = tree.bare.bits i near.from in
    let i' : i ≡ half + x = omega arith in
    let one : 0 < slice_index (drop half cs) x = (let g : slice_index (drop half cs) x ≡ slice_index cs i = get_or-drop half cs x 0 ∙ ap (λ z. slice_index cs z) (sym i') in omega arith) in
    let parts : sum (take i cs) ≡ sum (take half cs) + sum (take x (drop half cs)) =
    ap (λ z. sum (take z cs)) i' ∙ ap (λ (z : List ℕ). sum z) (take-add half x cs) ∙ sum_by-append (λ z. z) (take half cs) (take x (drop half cs)) in
    let before : sum (take i cs) + left ≡ sum (take half cs) + k = near.before in
    let same : sum (take x (drop half cs)) ≡ k = omega arith in
    let x0 : 0 + x ≡ x = omega arith in
    ap (λ z. slice_get (numbers 0 (drop z cs)) k) at
    ∙ numbers-at 0 x k (drop half cs) (leaf-bits half cs tree.bare) same one
    ∙ ap (λ z. Some z) x0

-- nodes that count nothing before leaves
pub bare-made : (half : ℕ) (zs : List ℕ) → 0 < half → half ≤ 2 ^ 31 → length zs ≡ half → ((i : ℕ) → slice_index zs i ≤ 1) → IsBare half (replicate half 0 ++ zs)
bare-made half zs some few len bits =
    let front_zeros : List ℕ = replicate half 0 in
    let r : length front_zeros ≡ half = length-replicate half 0 in
    let all : length (front_zeros ++ zs) ≡ 2 * half = (let l : length (front_zeros ++ zs) ≡ length front_zeros + length zs = length-append front_zeros zs in omega arith) in
    let high : (i : ℕ) → half ≤ i → slice_index (replicate half 0 ++ zs) i ≤ 1 = λ i from. subst (λ z. z ≤ 1) (sym (get_or-append_right (replicate half 0) zs half i 0 r from)) (bits (i - half)) in
    record {
      len = all;
      few = few;
      bits = high;
      small = λ i from. elim (cases_lt i half) [
        | inl low ↦ subst (λ z. i * z < 2 * half) (sym (get_or_append_left (replicate half 0) zs 0 i (omega arith) ∙ get_or-replicate half i 0 0 low)) (omega arith)
        | inr past ↦ elim (cases_lt i (2 * half)) [
          | inl inside ↦ bit-small i (slice_index (replicate half 0 ++ zs) i) (2 * half) inside (high i past)
          | inr out ↦ subst (λ z. i * z < 2 * half) (sym (get_or_past (replicate half 0 ++ zs) i 0 (omega arith))) (omega arith)
        ]
      ];
    }

pub power-some : (h : ℕ) → 0 < 2 ^ h
power-some h = pow-le-pow_right {n = 2} (omega arith) {i = 0} {j = h} (omega arith)

pub power-most : (h : ℕ) → h < 32 → 2 ^ h ≤ 2 ^ 31
power-most h below = pow-le-pow_right {n = 2} (omega arith) {i = h} {j = 31} (omega arith)

-- what is written where a tree is made for more numbers
pub grown-is : (n m k : ℕ) (a b c d xs : List ℕ) → a ≡ [] → b ≡ take n a ++ replicate (n - m) 0 → m ≡ length a → c ≡ b ++ xs → d ≡ take (2 * n) c ++ replicate (2 * n - k) 0 → k ≡ length c
    → length xs ≤ n → d ≡ replicate n 0 ++ (xs ++ replicate (n - length xs) 0)
grown-is n m k a b c d xs ea eb em ec ed ek few =
    let zeros : List ℕ = replicate n 0 in
    let l : length zeros ≡ n = length-replicate n 0 in
    let la : length a ≡ 0 = ap (λ (z : List ℕ). length z) ea in
    let m0 : n - m ≡ n = omega arith in
    let b' : b ≡ zeros = eb ∙ ap (λ (z : List ℕ). z ++ replicate (n - m) 0) (take_all n a (omega arith) ∙ ea) ∙ ap (λ z. replicate z 0) m0 in
    let c' : c ≡ zeros ++ xs = ec ∙ ap (λ (z : List ℕ). z ++ xs) b' in
    let lc : length c ≡ n + length xs = (let e : length (zeros ++ xs) ≡ length zeros + length xs = length-append zeros xs in ap (λ (z : List ℕ). length z) c' ∙ omega arith) in
    let rest : 2 * n - k ≡ n - length xs = omega arith in
    ed
    ∙ ap (λ (z : List ℕ). z ++ replicate (2 * n - k) 0) (take_all (2 * n) c (omega arith) ∙ c')
    ∙ ap (λ z. (zeros ++ xs) ++ replicate z 0) rest
    ∙ append_assoc zeros xs (replicate (n - length xs) 0)

pub leaves-fit : (n : ℕ) (cs : List ℕ) → length cs ≤ 2 * n → (0 < length cs → IsTree (length cs / 2) cs) → length (leaves cs) ≤ n
leaves-fit n [] less tree = omega arith
leaves-fit n (c ∷ cs) less tree =
    let t = tree (omega arith) in
    let len = t.bare.len in
    let l = length-drop (length (c ∷ cs) / 2) (c ∷ cs) in
    omega arith

leaves-bits : (cs : List ℕ) → (0 < length cs → IsTree (length cs / 2) cs) → (i : ℕ) → slice_index (leaves cs) i ≤ 1
leaves-bits [] tree i = subst (λ z. z ≤ 1) (sym (get_or_past (leaves []) i 0 (omega arith))) (omega arith)
leaves-bits (c ∷ cs) tree i = leaf-bits (length (c ∷ cs) / 2) (c ∷ cs) (tree (omega arith)).bare i

more-bits : (m : ℕ) (xs : List ℕ) → ((i : ℕ) → slice_index xs i ≤ 1) → (i : ℕ) → slice_index (xs ++ replicate m 0) i ≤ 1
more-bits m xs bits i = elim (cases_lt i (length xs)) [
  | inl low ↦ subst (λ z. z ≤ 1) (sym (get_or_append_left xs (replicate m 0) 0 i low)) (bits i)
  | inr past ↦ subst (λ z. z ≤ 1) (sym (get_or-append_right xs (replicate m 0) (length xs) i 0 refl past)) (elim (cases_lt (i - length xs) m) [
    | inl here ↦ subst (λ z. z ≤ 1) (sym (get_or-replicate m (i - length xs) 0 0 here)) (omega arith)
    | inr out ↦ let zeros : List ℕ = replicate m 0 in let l : length zeros ≡ m = length-replicate m 0 in subst (λ z. z ≤ 1) (sym (get_or_past zeros (i - length xs) 0 (omega arith))) (omega arith)
  ])
]

grown-len : (n : ℕ) (xs : List ℕ) → length xs ≤ n → length (xs ++ replicate (n - length xs) 0) ≡ n
grown-len n xs few =
    let zeros : List ℕ = replicate (n - length xs) 0 in
    let l : length zeros ≡ n - length xs = length-replicate (n - length xs) 0 in
    let a : length (xs ++ zeros) ≡ length xs + length zeros = length-append xs zeros in
    omega arith

pub grown-bare : (n : ℕ) (cs d : List ℕ) → 0 < n → n ≤ 2 ^ 31 → length cs ≤ 2 * n → (0 < length cs → IsTree (length cs / 2) cs)
    → d ≡ replicate n 0 ++ (leaves cs ++ replicate (n - length (leaves cs)) 0) → IsBare (length d / 2) d
grown-bare n cs d some few less tree e =
    let zs : List ℕ = leaves cs ++ replicate (n - length (leaves cs)) 0 in
    let whole : List ℕ = replicate n 0 ++ zs in
    let bare : IsBare n whole = bare-made n zs some few (grown-len n (leaves cs) (leaves-fit n cs less tree)) (more-bits (n - length (leaves cs)) (leaves cs) (leaves-bits cs tree)) in
    subst (λ (z : List ℕ). IsBare (length z / 2) z) (sym e) (subst (λ z. IsBare z whole) (sym (half-is n whole bare)) bare)

pub grown-numbers : (n : ℕ) (cs d us : List ℕ) → 0 < n → n ≤ 2 ^ 31 → length cs ≤ 2 * n → (0 < length cs → IsTree (length cs / 2) cs)
    → d ≡ replicate n 0 ++ (leaves cs ++ replicate (n - length (leaves cs)) 0) → leaves us ≡ leaves d → numbers 0 (leaves us) ≡ numbers 0 (leaves cs)
grown-numbers n cs d us some few less tree e same =
    let zs : List ℕ = leaves cs ++ replicate (n - length (leaves cs)) 0 in
    let whole : List ℕ = replicate n 0 ++ zs in
    let bare : IsBare n whole = bare-made n zs some few (grown-len n (leaves cs) (leaves-fit n cs less tree)) (more-bits (n - length (leaves cs)) (leaves cs) (leaves-bits cs tree)) in
    ap (λ (z : List ℕ). numbers 0 z) same
    ∙ ap (λ (z : List ℕ). numbers 0 (leaves z)) e
    ∙ ap (λ z. numbers 0 (drop z whole)) (half-is n whole bare)
    ∙ ap (λ (z : List ℕ). numbers 0 z) (drop_at (replicate n 0) zs n (length-replicate n 0))
    ∙ numbers-more 0 (n - length (leaves cs)) (leaves cs)

-- a number whose leaf is written anew, or stays as it is
mark-set : (s : Bool) (x n half : ℕ) (cs : List ℕ) → IsBare half cs → x < half → n ≡ bool_byte s → numbers 0 (drop half (set cs (half + x) n)) ≡ marked s x (numbers 0 (drop half cs))
mark-set s x n half cs bare below b =
    let len = bare.len in
    let l = length-drop half cs in
    ap (λ (z : List ℕ). numbers 0 z) (drop-set-add half cs x n) ∙ numbers-set s x n (drop half cs) (omega arith) b

pub mark-same : (s : Bool) (x n half : ℕ) (cs : List ℕ) → IsBare half cs → x < half → n ≡ bool_byte s → slice_index cs (half + x) ≡ n → numbers 0 (drop half cs) ≡ marked s x (numbers 0 (drop half cs))
mark-same s x n half cs bare below b at =
    ap (λ (z : List ℕ). numbers 0 (drop half z)) (sym (set-get_or cs (half + x) 0) ∙ ap (λ z. set cs (half + x) z) at) ∙ mark-set s x n half cs bare below b

pub up-marked : (s : Bool) (x n h i : ℕ) (cs us : List ℕ) → IsBare (length cs / 2) cs → h ≡ length cs / 2 → x < length cs / 2 → n ≡ bool_byte s → IsUp h i (set cs (length cs / 2 + x) n) us
    → numbers 0 (leaves us) ≡ marked s x (numbers 0 (leaves cs))
up-marked s x n h i cs us bare e below b up =
    ap (λ z. numbers 0 (drop z us)) (half-is h us up.bare)
    ∙ ap (λ (z : List ℕ). numbers 0 z) up.same
    ∙ ap (λ z. numbers 0 (drop z (set cs (length cs / 2 + x) n))) e
    ∙ mark-set s x n (length cs / 2) cs bare below b
