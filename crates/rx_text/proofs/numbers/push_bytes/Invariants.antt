use Rattle.std.proofs.Common.{◌≡◌, ◌+◌, ◌++◌, drop, vec_len, vec_capacity}
use Rattle.rx_text.proofs.numbers.push_bytes.Given as goal

-- what is written and what is left are the whole
abbrev pub invariant-loop-byte : goal.invariant-loop-byte
invariant-loop-byte l = record { whole : l.out.items ++ drop l.byte-index l.bytes ≡ l.fn.out.items ++ l.bytes; len : vec_len l.out ≡ vec_len l.fn.out + l.byte-index; capacity : vec_capacity l.out ≡ vec_capacity l.fn.out }
