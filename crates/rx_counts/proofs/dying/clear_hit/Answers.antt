use Rattle.std.proofs.Common.{◌≡◌, ◌∙◌, sym, ap, subst, ℕ, ◌<◌, ◌+◌, ◌^◌, cond, slice_index_or, arith, rules}
use Rattle.rx_counts.specs.Inside.Dying.{hits_cell, hit_sum}
use Rattle.rx_counts.proofs.Clearing.{sum_fits, sum_on, cleared_below, cleared_above}
use Rattle.rx_counts.proofs.dying.clear_hit.Goals as goal

pub overflow_add-sum : goal.overflow_add-sum
overflow_add-sum c =
    let had : c.clear_one-sum.result ≡ cond (hits_cell c.args.places c.args.d.0 c.loop-cell.cell) (slice_index_or c.args.counts.now c.loop-cell.cell 0) 0 = c.clear_one-sum.ensures.had ∙ ap (λ (v : ℕ). cond (hits_cell c.args.places c.args.d.0 c.loop-cell.cell) v 0) (c.loop-cell.invariant.above c.loop-cell.cell (omega arith)) in
    let small : c.loop-cell.sum + c.clear_one-sum.result < 2 ^ 32 = subst (λ (v : ℕ). v < 2 ^ 32) (sym (ap (λ (v : ℕ). v + c.clear_one-sum.result) c.loop-cell.invariant.sum ∙ ap (λ (v : ℕ). hit_sum c.args.places c.args.d.0 c.args.counts.now c.loop-cell.cell + v) had)) (sum_fits c.args.places c.args.d.0 c.args.counts.now c.loop-cell.cell (subst (λ (n : ℕ). c.loop-cell.cell < n) c.len-cell-end.ensures c.loop-cell-test.true) c.requires.0) in
    search rules

pub loop-cell-preserved : goal.loop-cell-preserved
loop-cell-preserved c =
    let had : c.clear_one-sum.result ≡ cond (hits_cell c.args.places c.args.d.0 c.loop-cell.cell) (slice_index_or c.args.counts.now c.loop-cell.cell 0) 0 = c.clear_one-sum.ensures.had ∙ ap (λ (v : ℕ). cond (hits_cell c.args.places c.args.d.0 c.loop-cell.cell) v 0) (c.loop-cell.invariant.above c.loop-cell.cell (omega arith)) in
    record {
      len = c.clear_one-sum.ensures.len ∙ c.loop-cell.invariant.len;
      sum = ap (λ (v : ℕ). v + c.clear_one-sum.result) c.loop-cell.invariant.sum ∙ ap (λ (v : ℕ). hit_sum c.args.places c.args.d.0 c.args.counts.now c.loop-cell.cell + v) had ∙ sum_on c.args.places c.args.d.0 c.args.counts.now c.loop-cell.cell;
      below = λ k lt. cleared_below c.args.places c.args.d.0 c.loop-cell.cell k c.args.counts.now c.loop-cell.counts c.clear_one-sum.new.counts c.loop-cell.invariant.below c.loop-cell.invariant.above c.clear_one-sum.ensures.cleared lt;
      above = λ k le. cleared_above c.args.places c.args.d.0 c.loop-cell.cell k c.args.counts.now c.loop-cell.counts c.clear_one-sum.new.counts c.loop-cell.invariant.above c.clear_one-sum.ensures.cleared le;
    }
