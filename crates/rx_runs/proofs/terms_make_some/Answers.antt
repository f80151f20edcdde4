use Rattle.rx_runs.proofs.SomeWords.{comes_some}
use Rattle.rx_runs.proofs.terms_make_some.Goals as goal

pub returns : goal.returns
returns c = comes_some
