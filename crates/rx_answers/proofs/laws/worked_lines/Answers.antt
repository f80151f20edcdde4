use Rattle.std.proofs.Common.{refl}
use Rattle.std.specs.Fmt.{digits}
use Rattle.rx_answers.specs.Laws.{WorkedLines}
use Rattle.rx_answers.proofs.laws.worked_lines.Goals as goal

worked : WorkedLines
unfolding digits
worked = (refl, refl)

pub returns : goal.returns
returns c = worked
