use Rattle.std.proofs.Common.{sym, arith}
use Rattle.rx_syntax.proofs.Lists.{too-great}
use Rattle.rx_syntax.proofs.lexer.number.Goals as goal

pub returns-then-value-digit : goal.returns-then-value-digit
returns-then-value-digit c =
    sym (too-great _ c.loop-b.b-index c.loop-b.value c.from-digit.result (omega arith) c.if-not-is_ascii_digit.ensures.value c.loop-b.invariant.value c.from-digit.ensures c.if-value-digit.true)
