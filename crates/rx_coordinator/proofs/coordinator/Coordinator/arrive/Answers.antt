use Rattle.std.proofs.Common.{arith, sym, ◌∙◌}
use Rattle.rx_rules.proofs.Common.{tree_of}
use Rattle.rx_coordinator.specs.declared.requests.Request.TheVariants.{Arrive}
use Rattle.rx_coordinator.proofs.Allowing.{may_arrive, used_up}
use Rattle.rx_coordinator.proofs.Acting.{away_seat}
use Rattle.rx_coordinator.proofs.coordinator.Coordinator.arrive.Goals as goal

pub returns-then-is_full : goal.returns-then-is_full
returns-then-is_full c = λ p es st.
    let away = away_seat c.args.self.now p es st c.args.task c.in-Some.seat (sym c.away.ensures ∙ c.in-Some.is) in
    (may_arrive (tree_of p es) c.args.task c.in-Some.seat away, used_up c.args.self.now p es st (c.is_full.ensures.0 c.if-is_full.true) (Arrive c.args.task) (omega arith), st)
