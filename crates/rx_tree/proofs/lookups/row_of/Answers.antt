use Rattle.std.proofs.Common.{ltb, sym, ◌∙◌, arith, rules}
use Rattle.std.proofs.lemmas.List.Sorted.{IsPartitionPoint-from_clause}
use Rattle.rx_tree.proofs.Falling.{parted, first_found, none_found, is_other}
use Rattle.rx_tree.proofs.lookups.row_of.Goals.{else-i-tasks-via-then-i-tasks+else-eq, else-i-tasks-via-else-i-tasks}
use Rattle.rx_tree.proofs.lookups.row_of.Goals as goal

pub returns-then-eq-clause-found : goal.returns-then-eq-clause-found
returns-then-eq-clause-found c =
    first_found (λ x. x.number.0) c.args.t.0 c.args.tasks.now c.partition_point-i.result _ c.requires c.if-i-tasks.true (sym c.eq.ensures ∙ c.if-eq.true)

pub returns-else-i-tasks-clause-none : goal.returns-else-i-tasks-clause-none
returns-else-i-tasks-clause-none c =
    let point = IsPartitionPoint-from_clause (λ x. ltb c.args.t.0 x.number.0) _ _ c.partition_point-i.ensures.partitioned (parted (λ x. x.number.0) c.args.t.0 c.args.tasks.now c.requires) (λ a r q k. search rules) in
    none_found (λ x. x.number.0) c.args.t.0 c.args.tasks.now c.partition_point-i.result c.requires point
    (λ within d.
    elim c.else-i-tasks.branch [
      | else-i-tasks-via-then-i-tasks+else-eq w ↦ is_other (λ x. x.number.0) c.args.t.0 c.args.tasks.now c.partition_point-i.result d _ within (sym w.eq.ensures ∙ w.if-eq.false)
      | else-i-tasks-via-else-i-tasks w ↦ absurd (omega (arith, w.if-i-tasks, within))
    ])
