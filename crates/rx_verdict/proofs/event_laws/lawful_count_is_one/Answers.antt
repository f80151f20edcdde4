use Rattle.rx_verdict.proofs.Counts.{lawful_count_is_one}
use Rattle.rx_verdict.proofs.event_laws.lawful_count_is_one.Goals as goal

pub returns : goal.returns
returns c = lawful_count_is_one
