use Rattle.std.proofs.Common.{refl, arith}
use Rattle.std.specs.Fmt.{digits}
use Rattle.rx_answers.specs.Pair.{WorkedPair}
use Rattle.rx_answers.proofs.parts.worked_pair_is_one.Goals as goal

worked : WorkedPair
unfolding digits
worked = record { short = omega arith; whole = refl }

pub returns : goal.returns
returns c = worked
