use Rattle.rx_base.proofs.Bits.{has_bit-or}
use Rattle.rx_counts.proofs.dying.either.Goals as goal

pub returns : goal.returns
returns c = λ p low. has_bit-or c.args.a.0 c.args.b.0 p
