use Rattle.std.proofs.Common.{ltb, arith, rules}
use Rattle.std.proofs.lemmas.List.Sorted.{IsPartitionPoint-from_clause, IsPartitionedBy-ltb}
use Rattle.rx_heap.specs.Inside.Longest.{group_of}
use Rattle.rx_heap.proofs.Finding.{groups_rise, All-either, longest_found}
use Rattle.rx_heap.proofs.holes.fitting_in.Goals as goal

pub returns-then-n-hole-clause-before : goal.returns-then-n-hole-clause-before
returns-then-n-hole-clause-before c =
    let hs = c.args.holes.now in
    let point = IsPartitionPoint-from_clause (λ h. ltb (group_of h) c.args.group) _ _ c.partition_point-first.ensures.partitioned (IsPartitionedBy-ltb group_of hs c.args.group (groups_rise hs c.requires.rising)) (λ a r q k. search rules) in
    All-either c.args.group c.args.n _ _ c.loop-i.most hs point c.loop-i.invariant.0 c.loop-i.invariant.1

pub returns-after-loop-i-clause-longest : goal.returns-after-loop-i-clause-longest
returns-after-loop-i-clause-longest c =
    let hs = c.args.holes.now in
    let point = IsPartitionPoint-from_clause (λ h. ltb (group_of h) c.args.group) _ _ c.partition_point-first.ensures.partitioned (IsPartitionedBy-ltb group_of hs c.args.group (groups_rise hs c.requires.rising)) (λ a r q k. search rules) in
    longest_found c.args.group _ c.loop-i.i _ hs c.requires.rising point c.loop-i.invariant.1 (λ lt. let out = c.loop-i-test.false in absurd (omega arith))

pub returns-then-group-hole-clause-longest : goal.returns-then-group-hole-clause-longest
returns-then-group-hole-clause-longest c =
    let hs = c.args.holes.now in
    let point = IsPartitionPoint-from_clause (λ h. ltb (group_of h) c.args.group) _ _ c.partition_point-first.ensures.partitioned (IsPartitionedBy-ltb group_of hs c.args.group (groups_rise hs c.requires.rising)) (λ a r q k. search rules) in
    longest_found c.args.group _ c.loop-i.i _ hs c.requires.rising point c.loop-i.invariant.1 (λ lt. c.if-group-hole.true)
