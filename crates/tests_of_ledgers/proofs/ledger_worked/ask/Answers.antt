use Rattle.std.proofs.Common.{arith, ◌<◌, ◌+◌, ◌^◌, length}
use Rattle.tests_of_ledgers.proofs.ledger_worked.ask.Goals as goal

pub returns-clause-numbers : goal.returns-clause-numbers
returns-clause-numbers g c =
    let k = c.apply-reply.new.self in
    let e = c.len-count.ensures in
    let few : length k.entries + 1 < 2 ^ 31 = omega (arith, e) in
    c.numbers_are_left.ensures k.setup.places k.entries few

pub returns-clause-goes : goal.returns-clause-goes
returns-clause-goes g c =
    let k = c.apply-reply.new.self in
    let e = c.len-count.ensures in
    let few : length k.entries + 1 < 2 ^ 31 = omega (arith, e) in
    c.calls_go_on.ensures c.args.keeper.now k c.args.op c.apply-reply.result c.is_history.ensures c.requires c.apply-reply.ensures (c.numbers_are_left.ensures k.setup.places k.entries few)
