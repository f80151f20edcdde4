use Rattle.std.proofs.Common.{ltb, sym, ◌∙◌, arith, rules}
use Rattle.std.proofs.lemmas.List.Sorted.{IsPartitionPoint-from_clause}
use Rattle.rx_tree.proofs.Falling.{parted, first_found, none_found, is_other}
use Rattle.rx_tree.proofs.lookups.scope_row.Goals.{else-i-scopes-via-then-i-scopes+else-eq, else-i-scopes-via-else-i-scopes}
use Rattle.rx_tree.proofs.lookups.scope_row.Goals as goal

pub returns-then-eq-clause-found : goal.returns-then-eq-clause-found
returns-then-eq-clause-found c =
    first_found (λ g. g.number.0) c.args.s.0 c.args.scopes.now c.partition_point-i.result _ c.requires c.if-i-scopes.true (sym c.eq.ensures ∙ c.if-eq.true)

pub returns-else-i-scopes-clause-none : goal.returns-else-i-scopes-clause-none
returns-else-i-scopes-clause-none c =
    let point = IsPartitionPoint-from_clause (λ g. ltb c.args.s.0 g.number.0) _ _ c.partition_point-i.ensures.partitioned (parted (λ g. g.number.0) c.args.s.0 c.args.scopes.now c.requires) (λ a r q k. search rules) in
    none_found (λ g. g.number.0) c.args.s.0 c.args.scopes.now c.partition_point-i.result c.requires point
    (λ within d.
    elim c.else-i-scopes.branch [
      | else-i-scopes-via-then-i-scopes+else-eq w ↦ is_other (λ g. g.number.0) c.args.s.0 c.args.scopes.now c.partition_point-i.result d _ within (sym w.eq.ensures ∙ w.if-eq.false)
      | else-i-scopes-via-else-i-scopes w ↦ absurd (omega (arith, w.if-i-scopes, within))
    ])
