use Rattle.rx_runs.proofs.Events.{few_events}
use Rattle.rx_runs.proofs.few_events_are_told.Goals as goal

pub returns : goal.returns
returns c = few_events
