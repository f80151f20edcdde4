use Rattle.std.proofs.Common.{◌≡◌, ◌+◌, ◌-◌, ◌*◌, ◌≤◌, ◌++◌, drop, length, vec_len, vec_capacity}
use Rattle.std.specs.List.{flat_map}
use Rattle.rx_text.specs.Paths.{path_text, dotted}
use Rattle.rx_text.proofs.paths.push_numbers.Given as goal

-- what is written and what is left are the whole, and there is room for what is left
abbrev pub invariant-loop-n : goal.invariant-loop-n
invariant-loop-n l = record { whole : l.out.items ++ flat_map dotted (drop l.n-index l.rest) ≡ l.fn.out.items ++ path_text l.numbers; room : vec_len l.out + (length l.rest - l.n-index) * 13 ≤ vec_capacity l.out }
