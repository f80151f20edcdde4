use Rattle.std.proofs.Common.{◌≡◌, ◌++◌, length}
use Rattle.rx_fields.specs.Inside.FieldWords.{path_of}
use Rattle.rx_fields.specs.Inside.Readers.{many}
use Rattle.rx_fields.proofs.parts.batch_part.Given as goal

-- the paths so far and those that are left are all
abbrev pub invariant-paths : goal.invariant-paths
invariant-paths l =
    (l.batch ++ (many path_of l.words).0 ≡ (many path_of l.initial.words).0)
    × ((many path_of l.words).1 ≡ (many path_of l.initial.words).1)

abbrev pub decreases-paths : goal.decreases-paths
decreases-paths l = length l.words
