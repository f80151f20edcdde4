use Rattle.std.proofs.Common.{◌≡◌, ◌+◌, drop}
use Rattle.std.specs.List.{prefix_len}
use Rattle.rx_syntax.specs.Lexical.{is_word_byte}
use Rattle.rx_syntax.proofs.lexer.run_len.Given as goal

-- the run so far and the run that is left are the whole
abbrev pub invariant-loop-b : goal.invariant-loop-b
invariant-loop-b l = record { here : l.len ≡ l.b-index; whole : l.len + prefix_len is_word_byte (drop l.b-index l.bytes) ≡ prefix_len is_word_byte l.bytes }
