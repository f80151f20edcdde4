use Rattle.std.proofs.Common.{arith, length-append, ap, length, ◌++◌}
use Rattle.rx_answers.proofs.Heads.{head-of-pair, one-head}
use Rattle.rx_answers.proofs.pair.split_pair.Goals as goal

pub returns-else-size-rest-clause-none : goal.returns-else-size-rest-clause-none
returns-else-size-rest-clause-none c = λ e script trace pair.
    let one = one-head c.naturals_have_one_text.ensures c.args.bytes.now c.in_ok-size.rest.now (script ++ trace) c.in_ok-size.size (length script) c.in_ok-size.ensures.some (head-of-pair c.args.bytes.now script trace pair) in
    let below = c.if-size-rest.false in
    omega (arith, below, one.0, ap length one.1, length-append script trace)
