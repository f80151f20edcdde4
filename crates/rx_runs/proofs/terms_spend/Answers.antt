use Rattle.rx_runs.proofs.Costs.{spends}
use Rattle.rx_runs.proofs.terms_spend.Goals as goal

pub returns : goal.returns
returns c = spends
