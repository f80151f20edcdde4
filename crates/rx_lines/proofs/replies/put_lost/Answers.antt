use Rattle.rx_lines.proofs.Telling.{with_none}
use Rattle.rx_lines.proofs.replies.put_lost.Goals as goal

pub returns-then-not-lost : goal.returns-then-not-lost
returns-then-not-lost g c = rw c.if-not-lost.true (λ w f text now. with_none w f _ _ _ text now)

pub returns : goal.returns
returns g c = rw c.if-not-lost.false c.put.ensures
