use Rattle.rx_base.proofs.Bits.{with_bit}
use Rattle.rx_base.proofs.place_set.PlaceSet.with.Goals as goal

pub returns : goal.returns
returns c = λ q h. with_bit c.args.self.0 c.args.p.0 q c.requires
