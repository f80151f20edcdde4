use Rattle.std.proofs.Common.{arith, ◌≡◌, ◌+◌, ◌*◌, ◌-◌, ◌/◌, ◌<◌, ◌≤◌, ℕ, List, length, slice_index, refl, ap, subst, sym, ◌∙◌}
use Rattle.rx_rank.proofs.Adding.{IsNear, next, near-left, near-right, near-ends}
use Rattle.rx_rank.proofs.counts.nth.Goals.{then-left-count, else-left-count}
use Rattle.rx_rank.proofs.counts.nth.Goals as goal

pub bounds-counts-i : goal.bounds-counts-i
bounds-counts-i c =
    let n = next c.args.height c.levels._level c.args.k c.levels.i c.levels.left c.args.counts.now c.requires.tree c.levels.invariant c.levels-test.true in
    let inside = n.inside in
    let len = c.requires.tree.bare.len in
    omega arith

pub levels-preserved : goal.levels-preserved
levels-preserved c =
    let h : ℕ = c.args.height in
    let d : ℕ = c.levels._level in
    let i : ℕ = c.levels.i in
    let left : ℕ = c.levels.left in
    let cs : List ℕ = c.args.counts.now in
    let at : i * 2 ≡ 2 * i = omega arith in
    elim c.if-left-count.branch [
      | then-left-count w ↦
          let past : slice_index cs (2 * i) ≤ left = subst (λ z. slice_index cs z ≤ left) at w.if-left-count.true in
          let there : c.if-left-count.i ≡ 2 * i + 1 = w.i-is ∙ ap (λ z. z + 1) at in
          let rest : c.if-left-count.left ≡ left - slice_index cs (2 * i) = w.left-is ∙ ap (λ z. left - slice_index cs z) at in
          subst (λ z. IsNear h (d + 1) c.args.k z c.if-left-count.left cs) (sym there)
          (subst (λ z. IsNear h (d + 1) c.args.k (2 * i + 1) z cs) (sym rest)
          (near-right h d c.args.k i left cs c.requires.tree c.levels.invariant c.levels-test.true past))
      | else-left-count w ↦
          let below : left < slice_index cs (2 * i) = subst (λ z. left < slice_index cs z) at w.if-left-count.false in
          let there : c.if-left-count.i ≡ 2 * i = w.i-is ∙ at in
          subst (λ z. IsNear h (d + 1) c.args.k z c.if-left-count.left cs) (sym there)
          (subst (λ z. IsNear h (d + 1) c.args.k (2 * i) z cs) (sym w.left-is)
          (near-left h d c.args.k i left cs c.requires.tree c.levels.invariant c.levels-test.true below))
    ]

pub returns-clause-at : goal.returns-clause-at
returns-clause-at c =
    let h : ℕ = c.args.height in
    let cs : List ℕ = c.args.counts.now in
    let i : ℕ = c.levels.i in
    let level = c.levels.invariant.level in
    let last : h ≤ c.levels._level = c.levels-test.false in
    let all : c.levels._level ≡ h = omega arith in
    near-ends h c.args.k i c.levels.left (i - length cs / 2) cs c.requires.tree (subst (λ z. IsNear h z c.args.k i c.levels.left cs) all c.levels.invariant) refl
