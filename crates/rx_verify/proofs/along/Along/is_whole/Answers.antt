use Rattle.std.proofs.Common.{sym, ◌∙◌}
use Rattle.std.proofs.lemmas.Bool.{true≢false}
use Rattle.rx_verify.proofs.GoingAlong.{whole_only}
use Rattle.rx_verify.proofs.along.Along.is_whole.Goals as goal

pub returns-else-self : goal.returns-else-self
returns-else-self c = λ batch so_far g. (λ t. absurd (true≢false (sym t ∙ c.if-self.false)), λ e. (whole_only batch so_far c.args.self.now g e).0)
