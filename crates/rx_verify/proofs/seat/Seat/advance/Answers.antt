use Rattle.std.proofs.Common.{◌≡◌, ℕ, ◌<◌, ◌≤◌, ◌+◌, Option, subst, sym, arith}
use Rattle.rx_finish.specs.declared.ledger.Caller.{Caller}
use Rattle.rx_runs.specs.Steps.{steps}
use Rattle.rx_history.specs.Events.{events_of}
use Rattle.rx_verify.specs.declared.seat.Seat.{Seat}
use Rattle.rx_verify.specs.declared.seat.Stop.{Stop}
use Rattle.rx_verify.specs.Inside.Steps.{AfterStep}
use Rattle.rx_verify.proofs.Walking.{no_walk, walked_twice}
use Rattle.rx_verify.proofs.seat.Seat.advance.Goals as goal

-- a walk is of one task
same_task : (old new : Seat) (tasks : ℕ) → new.who ≡ old.who → old.who.task.0 < tasks → new.who.task.0 < tasks
same_task old new tasks same lt = subst (λ (w : Caller). w.task.0 < tasks) (sym same) lt

pub loop-made-init : goal.loop-made-init
loop-made-init c = λ tasks is lt z left s.
    let few = s.few in
    (z, left, no_walk c.args.p.now.script (events_of c.args.journals.now) c.args.self.now z left s, omega (arith, few), λ batch g. g)

pub step-requires : goal.step-requires
step-requires c =
    let q = c.requires in
    let r = c.loop-made.invariant q.0 q.1 q.2 q.3 q.4 q.5 in
    (q.0, q.1, same_task c.args.self.now c.loop-made.self q.0 r.2.who q.2, r.0, r.1, r.2.stood)

pub unreachable-requires : goal.unreachable-requires
unreachable-requires c =
    let q = c.requires in
    let r = c.loop-made.invariant q.0 q.1 q.2 q.3 q.4 q.5 in
    omega (arith, r.3, c.loop-made-test.false)

pub returns-in-Some : goal.returns-in-Some
returns-in-Some c = λ tasks is lt z left s.
    let r = c.loop-made.invariant tasks is lt z left s in
    let on = subst (λ (o : Option Stop). AfterStep c.args.p.now.script (events_of c.args.journals.now) c.loop-made.self c.step.new.self c.loop-made.along c.step.new.along r.0 r.1 o) c.in-Some.is (c.in_ok-stop.ensures tasks is (same_task c.args.self.now c.loop-made.self tasks r.2.who lt) r.0 r.1 r.2.stood) in
    (r.0, r.1, walked_twice c.args.p.now.script (events_of c.args.journals.now) c.args.self.now c.loop-made.self c.step.new.self z r.0 r.0 left r.1 r.1 r.2 on.0, on.1, λ batch g. on.2 batch (r.4 batch g))

pub loop-made-preserved : goal.loop-made-preserved
loop-made-preserved c = λ tasks is lt z left s.
    let r = c.loop-made.invariant tasks is lt z left s in
    let on = subst (λ (o : Option Stop). AfterStep c.args.p.now.script (events_of c.args.journals.now) c.loop-made.self c.step.new.self c.loop-made.along c.step.new.along r.0 r.1 o) c.in-None.is (c.in_ok-stop.ensures tasks is (same_task c.args.self.now c.loop-made.self tasks r.2.who lt) r.0 r.1 r.2.stood) in
    let was : steps r.0.term + c.loop-made._made ≤ 300000 = r.3 in
    let less : steps on.0.term + 1 ≤ steps r.0.term = on.3 in
    (on.0, on.1, walked_twice c.args.p.now.script (events_of c.args.journals.now) c.args.self.now c.loop-made.self c.step.new.self z r.0 on.0 left r.1 on.1 r.2 on.2, omega (arith, was, less), λ batch g. on.4 batch (r.4 batch g))
