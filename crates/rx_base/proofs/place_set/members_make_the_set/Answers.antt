use Rattle.rx_base.proofs.Members.{same-sets}
use Rattle.rx_base.proofs.place_set.members_make_the_set.Goals as goal

pub returns : goal.returns
returns c = same-sets
