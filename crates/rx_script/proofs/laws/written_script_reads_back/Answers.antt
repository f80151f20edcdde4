use Rattle.rx_script.proofs.OneScript.{written-reads-back}
use Rattle.rx_script.proofs.laws.written_script_reads_back.Goals as goal

pub returns : goal.returns
returns c = written-reads-back
