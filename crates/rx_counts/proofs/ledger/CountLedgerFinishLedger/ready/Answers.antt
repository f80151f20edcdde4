use Rattle.std.proofs.Common.{◌∙◌, sym}
use Rattle.rx_counts.proofs.Readying.{ready_struck, ready_some, ready_none}
use Rattle.rx_counts.proofs.ledger.CountLedgerFinishLedger.ready.Goals as goal

pub returns-then-is_some : goal.returns-then-is_some
returns-then-is_some c = λ room T s may. ready_struck c.args.self.now T c.args.who c.blow_there.result s may c.blow_there.ensures (sym c.is_some.ensures ∙ c.if-is_some.true)

pub returns-in-Some : goal.returns-in-Some
returns-in-Some c = λ room T s may. ready_some c.args.self.now T c.args.who c.blow_there.result c.in-Some.kept.now s may c.blow_there.ensures (sym c.is_some.ensures ∙ c.if-is_some.false) c.in-Some.ensures

pub returns-in-None : goal.returns-in-None
returns-in-None c = λ room T s may. absurd (ready_none c.args.self.now T c.args.who c.blow_there.result s may c.blow_there.ensures (sym c.is_some.ensures ∙ c.if-is_some.false) c.in-None.ensures)
