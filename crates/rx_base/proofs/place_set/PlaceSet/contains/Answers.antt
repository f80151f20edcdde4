use Rattle.rx_base.proofs.Members.{member-bit}
use Rattle.rx_base.proofs.place_set.PlaceSet.contains.Goals as goal

pub returns-clause-member : goal.returns-clause-member
returns-clause-member c = member-bit c.args.self c.args.p.0 c.requires
