use Rattle.rx_mail.proofs.Onced as onced
use Rattle.rx_mail.proofs.laws.taken_as_sent.Goals as goal

pub returns : goal.returns
returns g c = onced.taken_as_sent
