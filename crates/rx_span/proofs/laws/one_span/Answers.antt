use Rattle.rx_span.proofs.Picked.{one-span}
use Rattle.rx_span.proofs.laws.one_span.Goals as goal

pub returns : goal.returns
returns c = one-span
