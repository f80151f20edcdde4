use Rattle.std.proofs.Common.{arith, inl, inr}
use Rattle.std.proofs.lemmas.Option.{slice_get_within}
use Rattle.rx_verify.proofs.Rows.{enough_more, task_there, no_task_there}
use Rattle.rx_verify.proofs.table.tasks_of.Goals as goal
use Rattle.rx_verify.proofs.table.tasks_of.Goals.{in-Done+then-task-tasks+then-count-task, in-Done+else-task-tasks, in_default}

pub loop-e-preserved : goal.loop-e-preserved
loop-e-preserved c =
    let j = c.args.journal.now.events in
    let few = c.loop-e.invariant.0 in
    elim c.match-item.branch [
      | in-Done+then-task-tasks+then-count-task w ↦ (
        omega arith,
        enough_more j c.args.tasks c.loop-e.e c.loop-e.count c.match-item.count c.loop-e.invariant.1 (omega arith)
            (λ t lt is. let same = task_there j c.loop-e.e t _ _ _ _ _ c.item.ensures w.in-Done.is is in omega (arith, same)),
      )
      | in-Done+else-task-tasks w ↦ (
        omega arith,
        enough_more j c.args.tasks c.loop-e.e c.loop-e.count c.match-item.count c.loop-e.invariant.1 (omega arith)
            (λ t lt is. let same = task_there j c.loop-e.e t _ _ _ _ _ c.item.ensures w.in-Done.is is in elim w.else-task-tasks.either [
              | inl h ↦ omega (arith, h.0, h.1, same)
              | inr h ↦ absurd (omega (arith, h, same))
            ]),
      )
      | in_default w ↦ (
        omega arith,
        enough_more j c.args.tasks c.loop-e.e c.loop-e.count c.match-item.count c.loop-e.invariant.1 (omega arith)
            (λ t lt is. absurd (no_task_there j c.loop-e.e t _ _ c.item.ensures w.in_default.is is)),
      )
    ]

pub returns-clause-enough : goal.returns-clause-enough
returns-clause-enough c = λ t e lt is. let below = slice_get_within c.args.journal.now.events e _ is.3 in c.loop-e.invariant.1 t e (omega (arith, below)) lt is
