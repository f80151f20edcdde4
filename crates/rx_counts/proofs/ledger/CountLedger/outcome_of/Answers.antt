use Rattle.std.proofs.Common.{◌∙◌}
use Rattle.rx_counts.proofs.Hindering.{Outcomes, hindered, outcome, not_missing, quiet_now, zero_of}
use Rattle.rx_counts.proofs.ledger.CountLedger.outcome_of.Goals as goal

pub returns-in-None : goal.returns-in-None
returns-in-None c = λ room T s i. absurd (not_missing c.args.self.now T c.args.s s i c.in-None.ensures)

pub returns-then-kept-gt0 : goal.returns-then-kept-gt0
returns-then-kept-gt0 c = λ room T s i. hindered c.args.self.now T c.args.s c.in-Some.kept.now c.hindrance.result s i c.in-Some.ensures c.if-kept-gt0.true c.hindrance.ensures

pub returns-in-Ok : goal.returns-in-Ok
returns-in-Ok c = λ room T s i.
    let o : Outcomes T c.args.s c.in-Some.kept.now = outcome c.args.self.now T c.args.s c.in-Some.kept.now s i c.in-Some.ensures (zero_of _ c.if-kept-gt0.false) in
    (record { is_quiet = o.still; places = o.places; count = o.masked; faults = c.in-Ok.ensures ∙ o.faults }, o.orphans)

pub returns-in-Err : goal.returns-in-Err
returns-in-Err c = λ room T s i. quiet_now c.args.self.now T c.args.s c.in-Some.kept.now s i c.in-Some.ensures (zero_of _ c.if-kept-gt0.false)
