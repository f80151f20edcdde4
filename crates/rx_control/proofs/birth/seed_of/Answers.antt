use Rattle.rx_control.proofs.Starting.{body-is}
use Rattle.rx_control.proofs.birth.seed_of.Goals as goal

pub returns-clause-seed : goal.returns-clause-seed
returns-clause-seed c = λ s t x k. body-is c.args.stmt c.body_of.result c.body_of.ensures s t x k
