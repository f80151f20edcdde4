use Rattle.std.proofs.Common.{length}
use Rattle.rx_fields.proofs.Taking.{AreAll}
use Rattle.rx_lines.specs.Lines.{fault_word}
use Rattle.rx_lines.proofs.lines.read_faults.Given as goal

-- the faults so far and those that are left are all
abbrev pub invariant-faults : goal.invariant-faults
invariant-faults l = AreAll fault_word l.thrown l.words l.initial.words

abbrev pub decreases-faults : goal.decreases-faults
decreases-faults l = length l.words
