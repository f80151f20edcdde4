use Rattle.std.proofs.Common.{◌∙◌, ◌&&◌, nat_lt, rules, arith}
use Rattle.rx_objects.specs.Ledger.{is_root_done}
use Rattle.rx_objects.proofs.Stepping.{stepped, unasked}
use Rattle.rx_objects.proofs.ledger.answer.Goals as goal

pub returns-then-not-has_numbers : goal.returns-then-not-has_numbers
returns-then-not-has_numbers c = unasked c.args.keeper.now c.args.request

pub apply-reply-requires : goal.apply-reply-requires
apply-reply-requires c =
    let few = c.has_numbers.ensures (search rules) in
    let same = c.len-len.ensures in
    c.requires (omega (arith, few, same))

pub returns : goal.returns
returns c =
    let lens = c.is_freed-freed.ensures ∙ (λ i. is_root_done c.apply-reply.result && nat_lt (c.len-len.ensures i) (c.len.ensures i)) in
    stepped _ _ _ _ _ c.apply-reply.ensures c.is_history.ensures lens
