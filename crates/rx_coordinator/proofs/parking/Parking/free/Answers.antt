use Rattle.std.proofs.Common.{refl, ℕ, ◌≡◌, ◌≤◌, ◌<◌, Some, None, sym, ◌∙◌, ap, subst, inl, inr, arith, ◌≢◌}
use Rattle.rx_rules.proofs.Common.{tree_of}
use Rattle.rx_coordinator.specs.declared.waiters.Waiter.{Waiter}
use Rattle.rx_coordinator.specs.Waiters.{waiter_at}
use Rattle.rx_coordinator.specs.Parking.{HasToWait, PassedBy}
use Rattle.rx_coordinator.proofs.Moves.{kept, passed_same, passed_gone}
use Rattle.rx_coordinator.proofs.Rows.{none_here, freed_here, freed_before, freed_after, passes_on, short_on}
use Rattle.rx_coordinator.proofs.parking.Parking.free.Goals as goal

pub turns-init : goal.turns-init
turns-init c = record { on = λ p es k. k; rows = λ p es k m. inl refl }

pub returns-in_default : goal.returns-in_default
returns-in_default c = λ p es k.
    let on = c.turns.invariant.on p es k in
    let h = none_here p es c.args.self.now c.turns.self on (c.turns.invariant.rows p es k) c.in_default.ensures in
    (kept c.turns.self.core c.turns.self.waiters _ p es on.stands (record { there = on.all.there; wait = λ n who e. inr (h.0 n who e) }), h.1)

pub retry-requires-clause-parks : goal.retry-requires-clause-parks
retry-requires-clause-parks c = (let r = c.requires in (r.0, r.1, c.turns.invariant.on r.0 r.1 r.2))

pub returns-in-Freed : goal.returns-in-Freed
returns-in-Freed c = λ p es k.
    let on = c.turns.invariant.on p es k in
    let rows = c.turns.invariant.rows p es k in
    let a = c.in-Freed.ensures.parks p es on in
    let us = c.retry.new.self.waiters in
    let s = c.in-Some.scope in
    let next = c.in-Some.ensures in
    let h = freed_here p es c.args.self.now c.turns.self on rows s c.in-Some.waiter next us a.1 in
    (h.0, h.1, a.0, freed_before p es c.args.self.now c.turns.self on rows s c.in-Some.waiter next us a.1, freed_after p es c.args.self.now c.turns.self on rows s c.in-Some.waiter next us a.1)

pub returns-in-Short : goal.returns-in-Short
returns-in-Short c = λ p es k.
    let a = c.in-Short.ensures.parks p es (c.turns.invariant.on p es k) in
    (a.0, short_on p es c.args.self.now c.turns.self (c.turns.invariant.rows p es k) c.retry.new.self.waiters a.1)

pub returns : goal.returns
returns c = λ p es k. (c.turns.invariant.on p es k, short_on p es c.args.self.now c.turns.self (c.turns.invariant.rows p es k) c.turns.self.waiters (λ m. refl))

pub turns-preserved : goal.turns-preserved
turns-preserved c =
    record {
      on = λ p es k. (c.in-Passed.ensures.parks p es (c.turns.invariant.on p es k)).0;
      rows = λ p es k.
          passes_on p es c.args.self.now c.turns.self c.retry.new.self (c.turns.invariant.rows p es k) c.in-Some.scope c.in-Some.waiter c.in-Some.ensures
          (c.in-Passed.ensures.later refl) (c.in-Passed.ensures.parks p es (c.turns.invariant.on p es k)).1;
    }
