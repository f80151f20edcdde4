use Rattle.std.proofs.Common.{◌≡◌, ◌≤◌, false, length}
use Rattle.rx_syntax.specs.Lexical.{skipped}
use Rattle.rx_syntax.proofs.lexer.skip.Given as goal

-- what is left after the rest is what is left after all
abbrev pub invariant-gap : goal.invariant-gap
invariant-gap l = record { left : skipped l.in_comment l.rest ≡ skipped false l.bytes; shorter : length l.rest ≤ length l.bytes }

abbrev pub decreases-gap : goal.decreases-gap
decreases-gap l = length l.rest
