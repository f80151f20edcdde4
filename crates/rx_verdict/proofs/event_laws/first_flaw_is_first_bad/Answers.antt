use Rattle.rx_verdict.proofs.Judged.{flaw_is_bad}
use Rattle.rx_verdict.proofs.event_laws.first_flaw_is_first_bad.Goals as goal

pub returns : goal.returns
returns c = flaw_is_bad
