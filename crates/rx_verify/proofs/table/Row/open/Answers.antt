use Rattle.std.proofs.Common.{ℕ, suc, ◌≡◌, ◌<◌, ◌≤◌, ◌-◌, length, arith, rules, subst, sym, ◌∙◌, ap, List, replicate, slice_set, Some, refl}
use Rattle.std.proofs.lemmas.List.{length-set, length-replicate, get_or_read}
use Rattle.rx_verify.specs.Inside.Rows.{RowFrom}
use Rattle.rx_verify.proofs.Rows.{row_at_end, row_passed, row_more, none_counts}
use Rattle.rx_verify.proofs.table.Row.open.Goals as goal

pub loop-e-init : goal.loop-e-init
loop-e-init c =
    let j = c.args.journal.now.events in
    let filled : c.in_ok-next.next.items ≡ replicate c.len-2.result c.len-none.result = search rules in
    let none : c.in_ok-first.first.items ≡ replicate c.tasks_of.result c.len-none.result = search rules in
    let nexts : c.in_ok-next.next.items ≡ replicate (length j) (length j) =
    filled ∙ (ap (λ (n : ℕ). replicate n c.len-none.result) c.len-2.ensures ∙ ap (λ (n : ℕ). replicate (length j) n) c.len-none.ensures) in
    let firsts : c.in_ok-first.first.items ≡ replicate c.tasks_of.result (length j) = none ∙ ap (λ (n : ℕ). replicate c.tasks_of.result n) c.len-none.ensures in
    let room : length c.in_ok-first.first.items ≡ c.tasks_of.result = ap length firsts ∙ length-replicate c.tasks_of.result (length j) in (
      λ t e lt is. subst (λ (n : ℕ). t < n) (sym room) (c.tasks_of.ensures.enough t e lt is),
      subst (λ (n : ℕ). RowFrom j c.args.tasks n c.in_ok-first.first.items c.in_ok-next.next.items) (sym c.len-e.ensures)
          (subst (λ (l : List ℕ). RowFrom j c.args.tasks (length j) c.in_ok-first.first.items l) (sym nexts)
          (subst (λ (l : List ℕ). RowFrom j c.args.tasks (length j) l (replicate (length j) (length j))) (sym firsts) (row_at_end j c.args.tasks c.tasks_of.result))),
    )

pub loop-e-preserved-then-task-len : goal.loop-e-preserved-then-task-len
loop-e-preserved-then-task-len c =
    let j = c.args.journal.now.events in
    let q = c.loop-e.e - 1 in
    let last : c.loop-e.e ≡ suc q = omega arith in
    let firsts = c.loop-e.first.items in
    let ok = c.loop-e.first.ok.0 in
    let within : c.in-Done.task.0 < length firsts = omega (arith, ok) in
    let same : length (slice_set firsts c.in-Done.task.0 q) ≡ length firsts = length-set firsts c.in-Done.task.0 q in (
      λ t e lt is. subst (λ (n : ℕ). t < n) (sym same) (c.loop-e.invariant.0 t e lt is),
      row_more j c.args.tasks c.loop-e.e q c.index.result.now firsts c.loop-e.next.items c.in-Done.task _ _ _ (c.item.ensures ∙ ap Some c.in-Done.is) last within
          (get_or_read firsts c.in-Done.task.0 c.index.result.now within c.index.ensures (length j)) c.loop-e.invariant.1,
    )

pub loop-e-preserved-else-task-len : goal.loop-e-preserved-else-task-len
loop-e-preserved-else-task-len c =
    let j = c.args.journal.now.events in
    let q = c.loop-e.e - 1 in
    let last : c.loop-e.e ≡ suc q = omega arith in
    let ok = c.loop-e.first.ok.0 in
    let out : length c.loop-e.first.items ≤ c.in-Done.task.0 = omega (arith, ok) in
    let at = c.item.ensures ∙ ap Some c.in-Done.is in (
      c.loop-e.invariant.0,
      row_passed j c.args.tasks c.loop-e.e q c.loop-e.first.items c.loop-e.next.items _ at last
          (none_counts j c.args.tasks q (length c.loop-e.first.items) c.in-Done.task _ _ _ at c.loop-e.invariant.0 out) c.loop-e.invariant.1,
    )

pub loop-e-preserved : goal.loop-e-preserved
loop-e-preserved c =
    let last : c.loop-e.e ≡ suc (c.loop-e.e - 1) = omega arith in (
      c.loop-e.invariant.0,
      row_passed c.args.journal.now.events c.args.tasks c.loop-e.e (c.loop-e.e - 1) c.loop-e.first.items c.loop-e.next.items _ (c.item.ensures ∙ ap Some c.in_default.is) last
          (λ t lt. refl) c.loop-e.invariant.1,
    )

pub returns : goal.returns
returns c =
    let end : c.loop-e.e ≡ 0 = omega arith in
    subst (λ (n : ℕ). RowFrom c.args.journal.now.events c.args.tasks n c.loop-e.first.items c.loop-e.next.items) end c.loop-e.invariant.1
