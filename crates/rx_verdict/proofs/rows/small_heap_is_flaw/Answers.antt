use Rattle.rx_verdict.proofs.WorkedPairs.{small_heap_is_flaw}
use Rattle.rx_verdict.proofs.rows.small_heap_is_flaw.Goals as goal

pub returns : goal.returns
returns c = small_heap_is_flaw
