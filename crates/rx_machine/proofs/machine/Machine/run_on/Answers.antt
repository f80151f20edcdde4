use Rattle.std.proofs.Common.{◌≤◌, ◌+◌, Option, subst, arith}
use Rattle.rx_runs.specs.Steps.{steps}
use Rattle.rx_history.specs.declared.step.Next.{Next}
use Rattle.rx_machine.specs.Inside.Requests.{AfterStep}
use Rattle.rx_machine.proofs.Stepping.{same, same-twice, few-now}
use Rattle.rx_machine.proofs.Requested.{any_err}
use Rattle.rx_machine.proofs.machine.Machine.run_on.Goals as goal

pub step-requires : goal.step-requires
step-requires g c =
    let game = c.requires.game in
    let r = c.loop-made.invariant.1 game.0 game.1 game.2 game.3 game.4 game.5 in
    record { game = (game.0, game.1, game.2, r.0, game.4, r.1) }

pub unreachable-requires : goal.unreachable-requires
unreachable-requires g c =
    let game = c.requires.game in
    let r = c.loop-made.invariant.1 game.0 game.1 game.2 game.3 game.4 game.5 in
    omega (arith, r.2, c.loop-made-test.false)

pub loop-made-init : goal.loop-made-init
loop-made-init g c =
    (same c.args.self.now, λ code U k q G a. (q, a, few-now a c.few_steps_are_left.ensures c.going_sinks.ensures a.but.shares.on.few))

pub loop-made-preserved : goal.loop-made-preserved
loop-made-preserved g c = (
  same-twice c.args.self.now c.loop-made.self c.step.new.self c.loop-made.invariant.0 c.step.ensures.same,
  λ code U k q G a.
      let r = c.loop-made.invariant.1 code U k q G a in
      let on = subst (λ (o : Option Next). AfterStep c.args.p.now.script code U c.step.new.self k c.args.i c.args.here r.0 c.step.new.mover G o) c.in-None.is (c.in_ok-next.ensures.next code U k r.0 G r.1) in
      let was : steps r.0.term + c.loop-made._made ≤ 300000 = r.2 in
      let less : steps on.0.term + 1 ≤ steps r.0.term = on.2 in
      (on.0, on.1, omega (arith, was, less)),
)

pub returns-in-Some-clause-next : goal.returns-in-Some-clause-next
returns-in-Some-clause-next g c = λ code U k q G a.
    let r = c.loop-made.invariant.1 code U k q G a in
    let on = subst (λ (o : Option Next). AfterStep c.args.p.now.script code U c.step.new.self k c.args.i c.args.here r.0 c.step.new.mover G o) c.in-Some.is (c.in_ok-next.ensures.next code U k r.0 G r.1) in
    (r.0, on.0, on.1)

pub returns-in-Some-clause-same : goal.returns-in-Some-clause-same
returns-in-Some-clause-same g c = same-twice c.args.self.now c.loop-made.self c.step.new.self c.loop-made.invariant.0 c.step.ensures.same

pub returns-in_err-next-clause-refused : goal.returns-in_err-next-clause-refused
returns-in_err-next-clause-refused g c = any_err c.from_residual.result (λ code U k q G a.
    let r = c.loop-made.invariant.1 code U k q G a in
    c.in_err-next.ensures.refused code U k r.0 G r.1)
