use Rattle.std.proofs.Common.{◌≡◌, ◌<◌, ◌≤◌, ◌+◌, length, ap, ◌∙◌, arith, rules, Some, vec_len, slice_set}
use Rattle.rx_plan.specs.Inside.Kept.{padded}
use Rattle.rx_plan.proofs.Kept.{set-kept, more-kept}
use Rattle.rx_plan.proofs.variables.write.Goals.{then-len-i+in_ok-resize, else-len-i}
use Rattle.rx_plan.proofs.variables.write.Goals as goal

pub returns-clause-ok : goal.returns-clause-ok
returns-clause-ok c =
    let old = c.args.values.now in
    let same : padded c.if-len-i.values.items ≡ padded old.items = elim c.if-len-i.branch [
      | then-len-i+in_ok-resize w ↦
          let k : c.args.i + 1 ≤ 32 = omega arith in
          let h : vec_len old ≤ c.args.i + 1 = omega arith in
          ap (λ v. padded v.items) w.values-is ∙ ap padded w.in_ok-resize.ensures.items
          ∙ more-kept old.items (vec_len old) (c.args.i + 1) (search rules) h k
      | else-len-i w ↦ ap (λ v. padded v.items) w.values-is
    ] in
    let there : c.args.i < length c.if-len-i.values.items = elim c.if-len-i.branch [
      | then-len-i+in_ok-resize w ↦
          let n : vec_len c.if-len-i.values ≡ c.args.i + 1 = ap (λ v. vec_len v) w.values-is ∙ w.in_ok-resize.ensures.len in
          omega arith
      | else-len-i w ↦
          let n : vec_len c.if-len-i.values ≡ vec_len old = ap (λ v. vec_len v) w.values-is in
          omega arith
    ] in
    set-kept c.if-len-i.values.items c.args.i (Some c.args.v) there ∙ ap (λ ys. slice_set ys c.args.i (Some c.args.v)) same
