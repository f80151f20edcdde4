use Rattle.rx_words.proofs.Moments.{one-moment-order}
use Rattle.rx_words.proofs.laws.joins_have_one_order.Goals as goal

pub returns : goal.returns
returns c = one-moment-order
