use Rattle.std.proofs.Common.{◌≡◌, length, arith, sym, ◌∙◌, inl}
use Rattle.std.proofs.lemmas.Bool.{true≢false}
use Rattle.rx_rules.proofs.Common.{tree_of}
use Rattle.rx_coordinator.proofs.Asking.{live_seat}
use Rattle.rx_coordinator.proofs.Allowing.{may_spawn}
use Rattle.rx_coordinator.proofs.Acting.{no_spawn}
use Rattle.rx_coordinator.proofs.coordinator.Coordinator.refuse_start.Goals as goal

pub returns-then-not-has_place : goal.returns-then-not-has_place
returns-then-not-has_place c = λ p es st. (no_spawn (tree_of p es) c.args.task c.args.to (λ low. true≢false (sym ((c.has_place.ensures p es st).1 low) ∙ c.if-not-has_place.true)), st)

pub returns : goal.returns
returns c = λ p es st.
    let live = live_seat c.args.self.now p es st c.args.task c.in-Some._seat (sym c.live.ensures ∙ c.in-Some.is) in
    let few = c.requires.full in
    let same : c.args.self.now.entries ≡ length es = st.count in
    (may_spawn (tree_of p es) c.args.task c.in-Some._seat live c.args.to ((c.has_place.ensures p es st).0 c.if-not-has_place.false), inl (omega (arith, few, same)), st)
