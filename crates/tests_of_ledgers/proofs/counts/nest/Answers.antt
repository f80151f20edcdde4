use Rattle.std.proofs.Common.{◌+◌, List, subst}
use Rattle.rx_rules.proofs.Common.{Fault, made_act}
use Rattle.rx_rules.specs.declared.entries.Act.TheVariants.{Wait}
use Rattle.rx_counts.specs.Stands.{StandsFor}
use Rattle.rx_counts.specs.Inside.Nesting.{task, scope, opens, starts}
use Rattle.rx_counts.proofs.Nested.{opened_nest, started_nest}
use Rattle.tests_of_ledgers.proofs.counts.nest.Goals as goal

pub open_finish-requires : goal.open_finish-requires
open_finish-requires c = let (T, s, n) = c.requires.stands in (0, T, s, n.may_open)

pub spawn-requires : goal.spawn-requires
spawn-requires c =
    let (T, s, n) = c.requires.stands in
    (0, opens T c.args.n, opened_nest T c.args.n n c.in_ok-_scope._scope (StandsFor c.open_finish.new.self 0) (c.in_ok-_scope.ensures 0 T s n.may_open), n.may_start)

pub wait-requires : goal.wait-requires
wait-requires c =
    let (T, s, n) = c.requires.stands in
    let s1 : StandsFor c.open_finish.new.self 0 (opens T c.args.n) = opened_nest T c.args.n n c.in_ok-_scope._scope (StandsFor c.open_finish.new.self 0) (c.in_ok-_scope.ensures 0 T s n.may_open) in
    let s2 : StandsFor c.spawn.new.self 0 (starts T c.args.n) = started_nest T c.args.n n c.in_ok-_born._born (StandsFor c.spawn.new.self 0) (c.in_ok-_born.ensures.replies 0 (opens T c.args.n) s1 n.may_start).0 in
    (0, starts T c.args.n, s2, n.may_wait)

pub returns : goal.returns
returns c = λ T s n.
    let s1 : StandsFor c.open_finish.new.self 0 (opens T c.args.n) = opened_nest T c.args.n n c.in_ok-_scope._scope (StandsFor c.open_finish.new.self 0) (c.in_ok-_scope.ensures 0 T s n.may_open) in
    let s2 : StandsFor c.spawn.new.self 0 (starts T c.args.n) = started_nest T c.args.n n c.in_ok-_born._born (StandsFor c.spawn.new.self 0) (c.in_ok-_born.ensures.replies 0 (opens T c.args.n) s1 n.may_start).0 in
    subst (λ (faults : List Fault). StandsFor c.wait.new.self 0 (made_act (starts T c.args.n) (task c.args.n) (Wait (scope (c.args.n + 1)) faults))) c.open.ensures (c.in_default.ensures 0 (starts T c.args.n) s2 n.may_wait).made
