use Rattle.std.proofs.Common.{◌≡◌, Some, None, ◌∙◌, ap, sym, subst, inl, refl}
use Rattle.rx_history.specs.Logs.{Log}
use Rattle.rx_machine.specs.declared.machine.Machine.{Machine}
use Rattle.rx_machine.proofs.Halting.{nothing-told}
use Rattle.rx_machine.proofs.Requested.{on_ok, on_err, any_err}
use Rattle.rx_machine.proofs.SeatTaken.{has-work, lands, acts}
use Rattle.rx_machine.specs.Slots.{IsWork}
use Rattle.rx_machine.specs.Inside.Acts.{IsRoused}
use Rattle.rx_machine.proofs.machine.Machine.move_task.Goals as goal

pub take_seat-requires : goal.take_seat-requires
take_seat-requires g c = c.requires.game.4.inside

pub arrive-requires-clause-game : goal.arrive-requires-clause-game
arrive-requires-clause-game g c =
    let w = c.requires.game in
    let at = sym c.take_seat.ensures.taken ∙ c.in-Some.is in
    (c.args.p.now.script, w.0, w.1, w.2, w.3, lands c.args.p.now.script w.0 w.1 c.args.self.now (record c.args.self.now { seats = c.take_seat.new.seats }) w.2 c.args.i c.in-Travel.from c.in-Travel.to c.in-Some.seat w.3 w.4 at (record { same = refl; left = c.take_seat.ensures.left }) c.in-Travel.is)

pub rouse-requires : goal.rouse-requires
rouse-requires g c =
    let w = c.requires.game in
    let at = sym c.take_seat.ensures.taken ∙ c.in-Some.is in
    let work = has-work c.args.p.now.script w.0 w.1 c.args.self.now w.2 c.args.i c.in-Some.seat w.3 w.4 at in
    (work.0, subst (λ (l : Log). IsWork c.args.p.now.script l.entries work.0 c.in-Some.seat.work) (sym c.history-history.ensures) work.1)

pub act-requires-clause-game : goal.act-requires-clause-game
act-requires-clause-game g c =
    let w = c.requires.game in
    let at = sym c.take_seat.ensures.taken ∙ c.in-Some.is in
    let roused = subst (λ (l : Log). IsRoused c.args.p.now.script l.entries c.in-Some.seat c.in_ok-mover-in-At.mover) c.history-history.ensures c.in_ok-mover-in-At.ensures in
    let a = acts c.args.p.now.script w.0 w.1 c.args.self.now (record c.args.self.now { seats = c.take_seat.new.seats; idle = c.rouse.new.idle }) w.2 c.args.i c.in-At.here c.in-Some.seat c.in_ok-mover-in-At.mover w.3 c.games_come.ensures c.reached_is_sound.ensures w.4 at (record { same = refl; left = c.take_seat.ensures.left }) c.in-At.is roused in
    (w.0, w.1, w.2, a.0, w.3, a.1)

pub unreachable-requires : goal.unreachable-requires
unreachable-requires g c =
    let e = sym c.in-None.is ∙ (c.take_seat.ensures.taken ∙ c.requires.game.4.at) in
    let f : None ≡ Some c.requires.game.4.seat = e in
    cc

pub returns-in-Travel-clause-made : goal.returns-in-Travel-clause-made
returns-in-Travel-clause-made g c = on_ok c.arrive.result (λ h code U k G t.
    let at = sym c.take_seat.ensures.taken ∙ c.in-Some.is in
    h c.args.p.now.script code U k G (lands c.args.p.now.script code U c.args.self.now (record c.args.self.now { seats = c.take_seat.new.seats }) k c.args.i c.in-Travel.from c.in-Travel.to c.in-Some.seat G t at (record { same = refl; left = c.take_seat.ensures.left }) c.in-Travel.is)) c.arrive.ensures.made

pub returns-in-Travel-clause-refused : goal.returns-in-Travel-clause-refused
returns-in-Travel-clause-refused g c = on_err c.arrive.result (λ same code U k G t.
    let at = sym c.take_seat.ensures.taken ∙ c.in-Some.is in
    nothing-told (lands c.args.p.now.script code U c.args.self.now (record c.args.self.now { seats = c.take_seat.new.seats }) k c.args.i c.in-Travel.from c.in-Travel.to c.in-Some.seat G t at (record { same = refl; left = c.take_seat.ensures.left }) c.in-Travel.is) c.arrive.new.self same) c.arrive.ensures.refused

pub returns-in-Travel-clause-setup : goal.returns-in-Travel-clause-setup
returns-in-Travel-clause-setup g c = on_err c.arrive.result (λ same. ap (λ (x : Machine g.row.L.Denot). x.chronicle.setup) same) c.arrive.ensures.refused

pub returns-in_ok-mover-in-At-clause-made : goal.returns-in_ok-mover-in-At-clause-made
returns-in_ok-mover-in-At-clause-made g c = on_ok c.act.result (λ h code U k G t.
    let at = sym c.take_seat.ensures.taken ∙ c.in-Some.is in
    let roused = subst (λ (l : Log). IsRoused c.args.p.now.script l.entries c.in-Some.seat c.in_ok-mover-in-At.mover) c.history-history.ensures c.in_ok-mover-in-At.ensures in
    let a = acts c.args.p.now.script code U c.args.self.now (record c.args.self.now { seats = c.take_seat.new.seats; idle = c.rouse.new.idle }) k c.args.i c.in-At.here c.in-Some.seat c.in_ok-mover-in-At.mover G c.games_come.ensures c.reached_is_sound.ensures t at (record { same = refl; left = c.take_seat.ensures.left }) c.in-At.is roused in
    h code U k a.0 G a.1) c.act.ensures.made

pub returns-in_ok-mover-in-At-clause-refused : goal.returns-in_ok-mover-in-At-clause-refused
returns-in_ok-mover-in-At-clause-refused g c = on_err c.act.result (λ h code U k G t.
    let at = sym c.take_seat.ensures.taken ∙ c.in-Some.is in
    let roused = subst (λ (l : Log). IsRoused c.args.p.now.script l.entries c.in-Some.seat c.in_ok-mover-in-At.mover) c.history-history.ensures c.in_ok-mover-in-At.ensures in
    let a = acts c.args.p.now.script code U c.args.self.now (record c.args.self.now { seats = c.take_seat.new.seats; idle = c.rouse.new.idle }) k c.args.i c.in-At.here c.in-Some.seat c.in_ok-mover-in-At.mover G c.games_come.ensures c.reached_is_sound.ensures t at (record { same = refl; left = c.take_seat.ensures.left }) c.in-At.is roused in
    h code U k a.0 G a.1) c.act.ensures.refused

pub returns-in_err-mover-in-At-clause-refused : goal.returns-in_err-mover-in-At-clause-refused
returns-in_err-mover-in-At-clause-refused g c = any_err c.from_residual.result (λ code U k G t. inl (t.can.holds.shares.entries, inl t.can.holds.stores))
