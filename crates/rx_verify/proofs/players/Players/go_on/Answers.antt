use Rattle.std.proofs.Common.{◌≡◌, ℕ, List, Some, slice_get, refl, ap, sym, subst}
use Rattle.std.specs.Global.{Box}
use Rattle.rx_rules.proofs.Common.{TaskId, Fault}
use Rattle.rx_rules.specs.declared.entries.Act.{Act}
use Rattle.rx_rules.specs.declared.entries.Act.TheVariants.{End}
use Rattle.rx_tree_laws.proofs.Histories.{fold_reached}
use Rattle.rx_syntax.specs.Shape.{Shape}
use Rattle.rx_verify.specs.declared.players.Players.{Players}
use Rattle.rx_verify.specs.declared.players.Slot.TheVariants.{Here}
use Rattle.rx_verify.specs.declared.seat.Seat.{Seat}
use Rattle.rx_verify.specs.Reaching.{Granted, IsMade, TaskMakesAct, Ready}
use Rattle.rx_verify.proofs.AdmitPlayers.{landed}
use Rattle.rx_verify.proofs.Reaching.{asks_so, ends_so, goes_after}
use Rattle.rx_verify.proofs.players.Players.go_on.Goals as goal

pub land-requires-clause-away : goal.land-requires-clause-away
land-requires-clause-away c =
    let r = c.requires.ready in
    let m = subst (λ (v : Act). TaskMakesAct c.args.p.now.script r.1 r.2 r.3 c.args.number c.args.self.now r.5.awaits.players.seats c.args.task r.4 v) c.in-Arrive.is r.5.makes in
    (m.0, m.1)

pub returns-in-Arrive : goal.returns-in-Arrive
returns-in-Arrive c = λ code U es js batch a f.
    let shape = c.args.p.now.script in
    let m = subst (λ (v : Act). TaskMakesAct shape U es js c.args.number c.args.self.now a.awaits.players.seats c.args.task batch v) c.in-Arrive.is a.makes in
    let l = c.land.ensures m.0 m.1 in
    landed shape code U es js c.args.number c.args.self.now c.args.task c.args.act.now batch a.awaits f fold_reached c.land.new.self m.0 l.0 c.in-Arrive.place _ (λ u ne. ne) c.seats_arrive.ensures m.1 c.in-Arrive.is m.2
    l.3 (ap (λ (v : Players). v.parents.items) l.1) refl l.2 (ap (λ (v : Players). v.table) l.1) (ap (λ (v : Players). v.marks) l.1)

-- what it is granted for, with the act that it is
here_in : (shape : Shape) (i : ℕ) (ps : Players) (task : TaskId) (act : Act) (thrown : List Fault) → act ≡ End thrown → Granted shape i ps task act → (seat : Box Seat) × (slice_get ps.slots.items task.0 ≡ Some (Here seat))
here_in shape i ps task act thrown is r =
    let h = ends_so shape r.0 r.1 r.2 r.3 i ps task thrown r.4 (subst (λ (v : Act). Ready shape r.0 r.1 r.2 r.3 i ps task v r.4) is r.5) in
    (h.stops.seat, h.stops.slot)

pub end-requires-clause-here : goal.end-requires-clause-here
end-requires-clause-here c = here_in c.args.p.now.script c.args.number c.args.self.now c.args.task c.args.act.now c.in-End.thrown c.in-End.is c.requires.ready

pub end-requires-clause-ready : goal.end-requires-clause-ready
end-requires-clause-ready c =
    (c.args.p.now.script, c.args.number, subst (λ (v : Act). Granted c.args.p.now.script c.args.number c.args.self.now c.args.task v) c.in-End.is c.requires.ready)

pub returns-in-End : goal.returns-in-End
returns-in-End c =
    subst (λ (v : Act). IsMade c.args.p.now.script c.args.number c.args.self.now c.end.new.self c.args.task v c.end.result) (sym c.in-End.is) (c.end.ensures c.args.p.now.script c.args.number)

pub resume-requires-clause-here : goal.resume-requires-clause-here
resume-requires-clause-here c =
    let r = c.requires.ready in
    let a = asks_so c.args.p.now.script r.0 r.1 r.2 r.3 c.args.number c.args.self.now c.args.task c.args.act.now r.4 r.5 (goes_after c.args.act.now c.in_default.not-Arrive c.in_default.not-End) in
    (a.1.stops.seat, a.1.stops.slot)

pub resume-requires-clause-goes : goal.resume-requires-clause-goes
resume-requires-clause-goes c = goes_after c.args.act.now c.in_default.not-Arrive c.in_default.not-End
