use Rattle.rx_verify.proofs.Audited.{tells_end}
use Rattle.rx_verify.proofs.audit.Audit.has_ended.Goals as goal

pub returns-clause-ends : goal.returns-clause-ends
returns-clause-ends g c = λ U es h. tells_end g.L.FinishLedger.stands U es c.args.self.now h
