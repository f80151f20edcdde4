-- The places that are dead in the tree to which a history folds are those whose deaths stand in it.
use Rattle.std.proofs.Common.{◌≡◌, ℕ, zero, suc, ◌+◌, ◌*◌, ◌/◌, ◌%◌, ◌^◌, ◌<◌, ◌==◌, ◌||◌, cond, Bool, true, false, length, List, [], ◌∷◌, slice_index_or, slice_set, Option, Some, None, is_some, refl, sym, ap, ◌∙◌, arith}
use Rattle.std.specs.Int.{bit_at}
use Rattle.std.proofs.Math.Bool.{or-true}
use Rattle.std.proofs.lemmas.Bool.{eqb-true, eqb-false}
use Rattle.std.proofs.lemmas.List.{get_or-set_same, get_or-set_other, length-set}
use Rattle.std.proofs.lemmas.Nat.Bits.{bit_at-zero, bit_at-suc, bit_at_lowest}
use Rattle.rx_rules.proofs.Common.{has_bit, Tree, made, made_act, opening, fold_from, tree_of}
use Rattle.rx_base.proofs.Bools.{same-or-false}
use Rattle.rx_rules.specs.declared.entries.Entry.{Entry}
use Rattle.rx_rules.specs.declared.entries.Entry.TheVariants.{Step, Root, Death, Join}
use Rattle.rx_chronicle.specs.Told.{dies_in}
use Rattle.rx_objects.specs.Shown.{dead_bits}
use Rattle.rx_tree_laws.proofs.Histories.{no_dead, dead-act}

-- The number of the dead.

low_bit : (d : Option ℕ) (n : ℕ) → (bit_at (cond (is_some d) 1 0 + 2 * n) 0 == 1) ≡ is_some d
low_bit None n = let e : (0 + 2 * n) % 2 ≡ 0 = omega arith in ap (λ (k : ℕ). k == 1) (bit_at_lowest (0 + 2 * n) ∙ e)
low_bit (Some k) n = let e : (1 + 2 * n) % 2 ≡ 1 = omega arith in ap (λ (k : ℕ). k == 1) (bit_at_lowest (1 + 2 * n) ∙ e)

half : (d : Option ℕ) (n : ℕ) → (cond (is_some d) 1 0 + 2 * n) / 2 ≡ n
half None n = omega arith
half (Some k) n = omega arith

pub bit_is : (ds : List (Option ℕ)) (p : ℕ) → has_bit (dead_bits ds) p ≡ is_some (slice_index_or ds p None)
bit_is [] p = ap (λ (k : ℕ). k == 1) (bit_at-zero p)
bit_is (d ∷ ds) zero = low_bit d (dead_bits ds)
bit_is (d ∷ ds) (suc p) = ap (λ (k : ℕ). k == 1) (bit_at-suc (cond (is_some d) 1 0 + 2 * dead_bits ds) p ∙ ap (λ (n : ℕ). bit_at n p) (half d (dead_bits ds))) ∙ bit_is ds p

twice : (d : Option ℕ) (n k : ℕ) → n < 2 ^ k → cond (is_some d) 1 0 + 2 * n < 2 ^ suc k
twice None n k l = omega (arith, l)
twice (Some d) n k l = omega (arith, l)

pub few_bits : (ds : List (Option ℕ)) → dead_bits ds < 2 ^ length ds
few_bits [] = omega arith
few_bits (d ∷ ds) = twice d (dead_bits ds) (length ds) (few_bits ds)

-- The dead of a tree.

length_now : (n : ℕ) (T : Tree) (e : Entry) → length (made n T e).dead ≡ length T.dead
length_now n T (Step t act batch) = ap length (dead-act T t act)
length_now n T (Root lost masked thrown) = refl
length_now n T (Death d) = length-set T.dead d.0 (Some n)
length_now n T (Join p) = refl

length_from : (n : ℕ) (T : Tree) (es : List Entry) → length (fold_from n T es).dead ≡ length T.dead
length_from n T [] = refl
length_from n T (e ∷ es) = length_from (suc n) (made n T e) es ∙ length_now n T e

struck : (ds : List (Option ℕ)) (n d p : ℕ) (later : Bool) → p < length ds → (b : Bool) → (d == p) ≡ b
    → (is_some (slice_index_or (slice_set ds d (Some n)) p None) || later) ≡ (is_some (slice_index_or ds p None) || (b || later))
struck ds n d p later low true e =
    let same : d ≡ p = eqb-true d p e in
    ap (λ (o : Option ℕ). is_some o || later) (ap (λ (k : ℕ). slice_index_or (slice_set ds k (Some n)) p None) same ∙ get_or-set_same ds p (Some n) None low) ∙ sym (or-true (is_some (slice_index_or ds p None)))
struck ds n d p later low false e = ap (λ (o : Option ℕ). is_some o || later) (get_or-set_other ds d p (Some n) None (λ v. eqb-false d p e (sym v)))

dead_from : (n : ℕ) (T : Tree) (es : List Entry) (p : ℕ) → p < length T.dead
    → is_some (slice_index_or (fold_from n T es).dead p None) ≡ (is_some (slice_index_or T.dead p None) || dies_in p es)
dead_from n T [] p low = same-or-false (is_some (slice_index_or T.dead p None))
dead_from n T (Step t act batch ∷ es) p low =
    dead_from (suc n) (made_act T t act) es p (let e = length_now n T (Step t act batch) in omega (arith, low, e))
    ∙ ap (λ (ds : List (Option ℕ)). is_some (slice_index_or ds p None) || dies_in p es) (dead-act T t act)
dead_from n T (Root lost masked thrown ∷ es) p low = dead_from (suc n) (made n T (Root lost masked thrown)) es p low
dead_from n T (Join q ∷ es) p low = dead_from (suc n) (made n T (Join q)) es p low
dead_from n T (Death d ∷ es) p low =
    dead_from (suc n) (made n T (Death d)) es p (let e = length_now n T (Death d) in omega (arith, low, e))
    ∙ struck T.dead n d.0 p (dies_in p es) low (d.0 == p) refl

pub dead_as_told : (places : ℕ) (es : List Entry) (p : ℕ) → p < 16 → has_bit (dead_bits (tree_of places es).dead) p ≡ dies_in p es
dead_as_told places es p low =
    bit_is (tree_of places es).dead p
    ∙ (dead_from 0 (opening places) es p low
    ∙ ap (λ (o : Option ℕ). is_some o || dies_in p es) (no_dead 16 p))

pub dead_few : (places : ℕ) (es : List Entry) → dead_bits (tree_of places es).dead < 65536
dead_few places es =
    let l = few_bits (tree_of places es).dead in
    let e : length (tree_of places es).dead ≡ 16 = length_from 0 (opening places) es in
    let f : 2 ^ length (tree_of places es).dead ≡ 65536 = ap (λ (k : ℕ). 2 ^ k) e in
    omega (arith, l, f)
