use Rattle.std.proofs.Common.{◌≡◌, ◌++◌, length, option_map}
use Rattle.rx_fields.specs.Words.{pieces}
use Rattle.rx_fields.specs.Inside.FieldWords.{naturals_of}
use Rattle.rx_fields.proofs.items.path.Given as goal

-- the numbers so far and those of what is left are all
abbrev pub invariant-numbers : goal.invariant-numbers
invariant-numbers l = option_map (λ ns. l.numbers ++ ns) (naturals_of (pieces 46 l.rest)) ≡ naturals_of (pieces 46 l.word)

abbrev pub decreases-numbers : goal.decreases-numbers
decreases-numbers l = length l.rest
