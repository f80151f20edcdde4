use Rattle.std.proofs.Common.{rules, ltb}
use Rattle.std.proofs.lemmas.List.Sorted.{IsPartitionPoint-from_clause, IsPartitionedBy-ltb}
use Rattle.rx_heap.proofs.Finding.{All-before, from_point}
use Rattle.rx_heap.proofs.holes.count_before.Goals as goal

pub returns-clause-before : goal.returns-clause-before
returns-clause-before c =
    let hs = c.args.holes.now in
    let point = IsPartitionPoint-from_clause (λ h. ltb h.start c.args.start) _ _ c.partition_point.ensures.partitioned (IsPartitionedBy-ltb (λ h. h.start) hs c.args.start c.requires) (λ a r q k. search rules) in
    All-before (λ h. h.start) c.args.start hs _ point

pub returns-clause-after : goal.returns-clause-after
returns-clause-after c = λ d lt.
    let hs = c.args.holes.now in
    let point = IsPartitionPoint-from_clause (λ h. ltb h.start c.args.start) _ _ c.partition_point.ensures.partitioned (IsPartitionedBy-ltb (λ h. h.start) hs c.args.start c.requires) (λ a r q k. search rules) in
    from_point (λ h. h.start) c.args.start hs _ _ d point (search rules) lt
