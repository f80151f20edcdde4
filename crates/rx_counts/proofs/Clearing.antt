-- The cells of sums that a death hits, that are added, and that are given away.
use Rattle.std.proofs.Common.{◌≡◌, ℕ, zero, suc, ◌<◌, ◌≤◌, ◌+◌, ◌^◌, Bool, true, false, cond, ◌&&◌, ◌==◌, List, length, slice_index_or, refl, sym, ap, ◌∙◌, subst, arith, ⊎_elim}
use Rattle.std.proofs.lemmas.Bool.{eq-eqb, ne_eqb, cases_eq, cases_lt}
use Rattle.std.proofs.lemmas.List.{length-replicate}
use Rattle.std.proofs.Math.Bool.{and-false, and-true}
use Rattle.rx_base.proofs.Bits.{no_bit}
use Rattle.rx_rules.proofs.Common.{PlaceId, is_hit}
use Rattle.rx_rules.specs.declared.tasks.Where.{Where}
use Rattle.rx_counts.specs.declared.record.Sums.{Sums}
use Rattle.rx_counts.specs.Stands.{table_size, is_inside, slot}
use Rattle.rx_counts.specs.Inside.Opening.{IsZero}
use Rattle.rx_counts.specs.Inside.Dying.{hits_cell, hit_sum, hits, IsNothing}
use Rattle.rx_counts.proofs.Slots.{slot_below, hits_slot, none_out}
use Rattle.rx_counts.proofs.NewRecord.{zero_count}

pub sum_rises : (p d : ℕ) (xs : List ℕ) (n m : ℕ) → n ≤ m → hit_sum p d xs n ≤ hit_sum p d xs m
sum_rises p d xs n zero le = let e : n ≡ 0 = omega arith in subst (λ (i : ℕ). hit_sum p d xs i ≤ 0) (sym e) (omega arith)
sum_rises p d xs n (suc m) le =
    ⊎_elim
    (λ (lt : n < suc m). let a : hit_sum p d xs n ≤ hit_sum p d xs m = sum_rises p d xs n m (omega arith) in omega arith)
    (λ (ge : suc m ≤ n). let e : n ≡ suc m = omega arith in subst (λ (i : ℕ). hit_sum p d xs i ≤ hit_sum p d xs (suc m)) (sym e) (omega arith))
    (cases_lt n (suc m))

-- one more cell stays within the sum
pub sum_fits : (p d : ℕ) (xs : List ℕ) (n : ℕ) → n < length xs → hits p d xs < 2 ^ 32 → hit_sum p d xs n + cond (hits_cell p d n) (slice_index_or xs n 0) 0 < 2 ^ 32
sum_fits p d xs n lt small = let a : hit_sum p d xs (suc n) ≤ hits p d xs = sum_rises p d xs (suc n) (length xs) (omega arith) in omega arith

pub sum_on : (p d : ℕ) (xs : List ℕ) (n : ℕ) → hit_sum p d xs n + cond (hits_cell p d n) (slice_index_or xs n 0) 0 ≡ hit_sum p d xs (n + 1)
sum_on p d xs n = ap (hit_sum p d xs) (let e : suc n ≡ n + 1 = omega arith in e)

-- the cells after one turn
pub cleared_below : (p d i k : ℕ) (rs ps qs : List ℕ) → ((m : ℕ) → m < i → slice_index_or ps m 0 ≡ cond (hits_cell p d m) 0 (slice_index_or rs m 0)) → ((m : ℕ) → i ≤ m → slice_index_or ps m 0 ≡ slice_index_or rs m 0) → ((m : ℕ) → slice_index_or qs m 0 ≡ cond (hits_cell p d m && (m == i)) 0 (slice_index_or ps m 0)) → k < i + 1 → slice_index_or qs k 0 ≡ cond (hits_cell p d k) 0 (slice_index_or rs k 0)
cleared_below p d i k rs ps qs below above now lt =
    ⊎_elim
    (λ (e : k ≡ i). now k ∙ ap (λ b. cond (hits_cell p d k && b) 0 (slice_index_or ps k 0)) (eq-eqb k i e) ∙ ap (λ b. cond b 0 (slice_index_or ps k 0)) (and-true (hits_cell p d k)) ∙ ap (cond (hits_cell p d k) 0) (above k (omega arith)))
    (λ (e : k ≡ i → ⊥). now k ∙ ap (λ b. cond (hits_cell p d k && b) 0 (slice_index_or ps k 0)) (ne_eqb k i e) ∙ ap (λ b. cond b 0 (slice_index_or ps k 0)) (and-false (hits_cell p d k)) ∙ below k (lower k i e lt))
    (cases_eq k i)
  where
    lower : (m i : ℕ) → (m ≡ i → ⊥) → m < i + 1 → m < i
    lower m i apart lt = ⊎_elim (λ (a : m < i). a) (λ (b : i ≤ m). absurd (apart (omega arith))) (cases_lt m i)

pub cleared_above : (p d i k : ℕ) (rs ps qs : List ℕ) → ((m : ℕ) → i ≤ m → slice_index_or ps m 0 ≡ slice_index_or rs m 0) → ((m : ℕ) → slice_index_or qs m 0 ≡ cond (hits_cell p d m && (m == i)) 0 (slice_index_or ps m 0)) → i + 1 ≤ k → slice_index_or qs k 0 ≡ slice_index_or rs k 0
cleared_above p d i k rs ps qs above now le = now k ∙ ap (λ b. cond (hits_cell p d k && b) 0 (slice_index_or ps k 0)) (ne_eqb k i (λ e. absurd (omega arith))) ∙ ap (λ b. cond b 0 (slice_index_or ps k 0)) (and-false (hits_cell p d k)) ∙ above k (omega arith)

-- what a death leaves of each place and each pair
pub struck_cells : (d : PlaceId) (n : ℕ) (xs ys : List ℕ) → length xs ≡ table_size n → length ys ≡ length xs → ((k : ℕ) → k < length xs → slice_index_or ys k 0 ≡ cond (hits_cell n d.0 k) 0 (slice_index_or xs k 0)) → (w : Where) → slice_index_or ys (slot n w) 0 ≡ cond (is_hit d w) 0 (slice_index_or xs (slot n w) 0)
struck_cells d n xs ys len same cells w =
    (elim (is_inside n w) as (λ b. is_inside n w ≡ b → slice_index_or ys (slot n w) 0 ≡ cond (is_hit d w) 0 (slice_index_or xs (slot n w) 0)) [
      | true ↦ λ e.
          cells (slot n w) (subst (λ (m : ℕ). slot n w < m) (sym len) (slot_below n w e))
          ∙ ap (λ b. cond b 0 (slice_index_or xs (slot n w) 0)) (hits_slot d n w e)
      | false ↦ λ e.
          none_out n ys w (same ∙ len) e
          ∙ sym (ap (cond (is_hit d w) 0) (none_out n xs w len e) ∙ same_zero (is_hit d w))
    ]) refl
  where
    same_zero : (b : Bool) → ◌≡◌ {A = ℕ} (cond b 0 0) 0
    same_zero true = refl
    same_zero false = refl

pub nothing_is : (q : Sums) → IsZero 0 q → IsNothing q
nothing_is q z =
    record {
      cells = ap length z.counts ∙ length-replicate {A = ℕ} (table_size 0) 0 ∙ ap table_size (sym z.places);
      counts = λ w. zero_count 0 q w z;
      total = z.total;
      orphans = z.orphans;
      masked = z.masked;
      lost = λ p low. no_bit q.lost.0 p z.lost;
    }
