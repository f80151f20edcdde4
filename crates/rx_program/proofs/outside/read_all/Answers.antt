use Rattle.std.proofs.Common.{◌++◌, take, arith}
use Rattle.std.proofs.lemmas.Grind.{common_steps}
use Rattle.rx_program.proofs.Known.{consumes-more}
use Rattle.rx_program.proofs.outside.read_all.Goals as goal

pub returns-in_err-extend_from_slice-in-Ok-clause-taken : goal.returns-in_err-extend_from_slice-in-Ok-clause-taken
returns-in_err-extend_from_slice-in-Ok-clause-taken g c = (
  c.reads.bytes.items ++ take c.in-Ok.count c.read.new.buf,
  consumes-more _ _ _ _ _ c.reads.invariant.took c.in-Ok.ensures.bytes.0,
  grind (arith, common_steps),
)
