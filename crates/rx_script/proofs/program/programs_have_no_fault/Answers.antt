use Rattle.rx_script.proofs.Programs.{no-program-fault}
use Rattle.rx_script.proofs.program.programs_have_no_fault.Goals as goal

pub returns : goal.returns
returns c = no-program-fault c.no_fault_in_script.ensures c.one_script.ensures
