use Rattle.std.proofs.Common.{◌≡◌, ◌++◌, length}
use Rattle.rx_fields.specs.Inside.FieldWords.{fault_of}
use Rattle.rx_fields.specs.Inside.Readers.{many}
use Rattle.rx_fields.proofs.parts.thrown_part.Given as goal

-- the faults so far and those that are left are all
abbrev pub invariant-faults : goal.invariant-faults
invariant-faults l =
    (l.thrown ++ (many (fault_of l.places) l.words).0 ≡ (many (fault_of l.places) l.initial.words).0)
    × ((many (fault_of l.places) l.words).1 ≡ (many (fault_of l.places) l.initial.words).1)

abbrev pub decreases-faults : goal.decreases-faults
decreases-faults l = length l.words
