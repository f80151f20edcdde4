use Rattle.std.proofs.Common.{◌≡◌, ◌≤◌, drop}
use Rattle.std.specs.Str.{all_ascii_digits}
use Rattle.std.specs.Str.Parse.{digits_value_after, digits_value}
use Rattle.rx_syntax.specs.Lexical.{most}
use Rattle.rx_syntax.proofs.lexer.number.Given as goal

-- the value so far, with the digits that are left, is the whole value
abbrev pub invariant-loop-b : goal.invariant-loop-b
invariant-loop-b l = record { small : l.value ≤ most; value : digits_value_after 10 l.value (drop l.b-index l.run) ≡ digits_value 10 l.run; digits : all_ascii_digits (drop l.b-index l.run) ≡ all_ascii_digits l.run }
