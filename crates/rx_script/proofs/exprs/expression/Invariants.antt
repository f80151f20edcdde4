use Rattle.std.proofs.Common.{◌+◌, ◌≤◌, length}
use Rattle.rx_script.specs.Inside.Exprs.{expr}
use Rattle.rx_script.specs.Inside.Pieces.{Grows}
use Rattle.rx_script.specs.Inside.Turns.{ExprReads}
use Rattle.rx_script.proofs.exprs.expression.Given as goal

abbrev pub invariant-tokens : goal.invariant-tokens
invariant-tokens l =
    Grows l.fn.exprs.items l.exprs.items
    × ExprReads l.exprs.items l.pairs.items l.turn l.rest (expr l.tokens)
    × (length l.exprs.items + length l.rest ≤ length l.fn.exprs.items + length l.tokens)

abbrev pub decreases-tokens : goal.decreases-tokens
decreases-tokens l = length l.rest
