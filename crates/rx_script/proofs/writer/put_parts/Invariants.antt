use Rattle.std.proofs.Common.{◌≡◌, ◌++◌, length, reverse}
use Rattle.rx_script.proofs.writer.put_parts.Given as goal

abbrev pub invariant-parts : goal.invariant-parts
invariant-parts l = l.parts.items ++ reverse l.left ≡ l.fn.parts.items ++ reverse l.more

abbrev pub decreases-parts : goal.decreases-parts
decreases-parts l = length l.left
