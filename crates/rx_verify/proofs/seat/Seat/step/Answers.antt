use Rattle.std.proofs.Common.{◌≡◌, Bool, sym, subst}
use Rattle.rx_rules.proofs.Common.{PlaceId}
use Rattle.rx_history.specs.Next.{next_of}
use Rattle.rx_verdict.specs.Walks.{next_does, Halts}
use Rattle.rx_verify.specs.Inside.Steps.{AfterCall}
use Rattle.rx_history.specs.Events.{events_of}
use Rattle.rx_history.specs.declared.step.Next.TheVariants.{Local, Cell}
use Rattle.rx_verify.proofs.Walking.{no_walk, told_next, walked_local}
use Rattle.rx_verify.proofs.seat.Seat.step.Goals as goal

pub returns-in_ok-local-in-Local : goal.returns-in_ok-local-in-Local
returns-in_ok-local-in-Local c = λ tasks is lt z left s.
    let e = told_next c.args.p.now.script (events_of c.args.journals.now) c.args.self.now z left Local s (c.in-Local.ensures z.term s.term) in
    let on = c.in_ok-local-in-Local.ensures z.term s.term in
    walked_local c.args.p.now.script (events_of c.args.journals.now) c.args.self.now _ c.args.along.now _ z left c.terms_sink.ensures c.local_steps_tell_no_places.ensures s e on.0 on.1 on.2

pub returns-then-branch : goal.returns-then-branch
returns-then-branch c = λ tasks is lt z left s.
    let e = told_next c.args.p.now.script (events_of c.args.journals.now) c.args.self.now z left _ s (c.in-Cell.ensures z.term s.term) in
    subst (λ (b : Bool). AfterCall c.args.p.now.script (events_of c.args.journals.now) c.args.self.now c.call.new.self c.args.along.now c.call.new.along z left b) c.if-branch.true
    (c.in_ok-call-in-Cell.ensures tasks is lt z left s e)

pub returns-else-branch : goal.returns-else-branch
returns-else-branch c = λ tasks is lt z left s.
    let e = told_next c.args.p.now.script (events_of c.args.journals.now) c.args.self.now z left _ s (c.in-Cell.ensures z.term s.term) in
    let on = subst (λ (b : Bool). AfterCall c.args.p.now.script (events_of c.args.journals.now) c.args.self.now c.call.new.self c.args.along.now c.call.new.along z left b) c.if-branch.false
    (c.in_ok-call-in-Cell.ensures tasks is lt z left s e) in
    let home : c.args.self.now.home ≡ c.call.new.self.home = sym on.0.home in
    (on.0, ((c.in-Cell.op, subst (λ (p : PlaceId). next_of (next_does p z) ≡ Cell c.in-Cell.op) home e), subst (λ (p : PlaceId). Halts p z left) home on.1), on.2)

pub returns-in-Book : goal.returns-in-Book
returns-in-Book c = λ tasks is lt z left s. (
  no_walk c.args.p.now.script (events_of c.args.journals.now) c.args.self.now z left s,
  told_next c.args.p.now.script (events_of c.args.journals.now) c.args.self.now z left _ s (c.in-Book.ensures z.term s.term),
  λ batch g. g,
)

pub returns-in-Done : goal.returns-in-Done
returns-in-Done c = λ tasks is lt z left s. (
  no_walk c.args.p.now.script (events_of c.args.journals.now) c.args.self.now z left s,
  told_next c.args.p.now.script (events_of c.args.journals.now) c.args.self.now z left _ s (c.in-Done.ensures z.term s.term),
  λ batch g. g,
)
