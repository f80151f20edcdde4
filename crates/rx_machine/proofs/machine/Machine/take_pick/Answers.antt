use Rattle.std.proofs.Common.{arith, ◌≡◌, List, Option, length, refl, ap, ◌∙◌}
use Rattle.rx_rules.proofs.Common.{tree_in}
use Rattle.rx_history.specs.Logs.{Log}
use Rattle.rx_machine.specs.declared.seat.Seat.{Seat}
use Rattle.rx_machine.specs.Slots.{seat_at}
use Rattle.rx_machine.proofs.Readying.{ready_slots}
use Rattle.rx_machine.proofs.BeforeTurn.{releasing, taken}
use Rattle.rx_machine.proofs.Landed.{root-out, finished}
use Rattle.rx_machine.proofs.Noting.{has-moved, room-left, inside-still, went-on}
use Rattle.rx_machine.proofs.Halting.{refused-same, refused-stopped}
use Rattle.rx_machine.proofs.Requested.{any_err}
use Rattle.rx_machine.proofs.machine.Machine.take_pick.Goals as goal

pub no_memory-requires : goal.no_memory-requires
no_memory-requires g c =
    let w = c.requires.game in
    let none : length c.args.self.now.ready.members ≡ 0 = omega (arith, c.len.ensures.len, c.if-len-eq0.true) in
    root-out (releasing c.reached_is_sound.ensures c.none_enabled_is_quiet.ensures w.3 none) c.in-Err.fault c.in-Err.ensures.refused

pub returns-in-Ok-clause-ended : goal.returns-in-Ok-clause-ended
returns-in-Ok-clause-ended g c = λ e code U G quietly.
    let none : length c.args.self.now.ready.members ≡ 0 = omega (arith, c.len.ensures.len, c.if-len-eq0.true) in
    finished (releasing c.reached_is_sound.ensures c.none_enabled_is_quiet.ensures quietly none) _ (g.P.Picks.number c.args.picks.now 0) refl c.in-Ok.ensures.done

pub returns-in-Err-clause-refused : goal.returns-in-Err-clause-refused
returns-in-Err-clause-refused g c = λ code U G quietly.
    refused-same c.args.p.now.script code U c.args.self.now (record c.args.self.now { chronicle = c.root.new.self }) (g.P.Picks.number c.args.picks.now 0) G c.games_go_on.ensures quietly.can.holds quietly.can.unreleased (ap (λ (l : Log). l.entries) c.in-Err.ensures.same) refl

pub move_task-requires-clause-game : goal.move_task-requires-clause-game
move_task-requires-clause-game g c =
    let w = c.requires.game in
    let m = c.args.self.now in
    let k = g.P.Picks.number c.args.picks.now 0 in (
      w.0,
      w.1,
      k,
      w.2,
      taken c.args.p.now.script w.0 w.1 m w.2 m.ready.members k c.chosen-i.result c.reached_is_sound.ensures w.3
          (ready_slots c.args.p.now.script w.2.entries (tree_in w.1 w.2) w.2.players m.seats.items m.ready.members w.3.can.holds.seats w.3.ready) c.chosen-i.ensures.taken,
    )

pub returns-in_err-move_task-clause-refused : goal.returns-in_err-move_task-clause-refused
returns-in_err-move_task-clause-refused g c = any_err c.from_residual.result (λ code U G quietly.
    let m = c.args.self.now in
    let k = g.P.Picks.number c.args.picks.now 0 in
    let t = taken c.args.p.now.script code U m G m.ready.members k c.chosen-i.result c.reached_is_sound.ensures quietly
    (ready_slots c.args.p.now.script G.entries (tree_in U G) G.players m.seats.items m.ready.members quietly.can.holds.seats quietly.ready) c.chosen-i.ensures.taken
    in
    refused-stopped c.args.p.now.script code U m c.move_task.new.self k G c.games_go_on.ensures quietly.can.holds quietly.can.unreleased (c.in_err-move_task.ensures.refused code U k G t))

pub note_tasks-requires-clause-room : goal.note_tasks-requires-clause-room
note_tasks-requires-clause-room g c =
    let w = c.requires.game in
    let m = c.args.self.now in
    let k = g.P.Picks.number c.args.picks.now 0 in
    let t = taken c.args.p.now.script w.0 w.1 m w.2 m.ready.members k c.chosen-i.result c.reached_is_sound.ensures w.3
    (ready_slots c.args.p.now.script w.2.entries (tree_in w.1 w.2) w.2.players m.seats.items m.ready.members w.3.can.holds.seats w.3.ready) c.chosen-i.ensures.taken
    in
    room-left c.args.p.now.script w.0 w.1 m c.move_task.new.self k c.chosen-i.result w.2 t (c.in_ok-move_task.ensures.made w.0 w.1 k w.2 t) c.in_ok-move_task.ensures.tasks c.requires.slots

pub under_of-under-requires : goal.under_of-under-requires
under_of-under-requires g c =
    let w = c.requires.game in
    let m = c.args.self.now in
    let k = g.P.Picks.number c.args.picks.now 0 in
    let t = taken c.args.p.now.script w.0 w.1 m w.2 m.ready.members k c.chosen-i.result c.reached_is_sound.ensures w.3
    (ready_slots c.args.p.now.script w.2.entries (tree_in w.1 w.2) w.2.players m.seats.items m.ready.members w.3.can.holds.seats w.3.ready) c.chosen-i.ensures.taken
    in
    (t.seat, ap (λ (xs : List (Option Seat)). seat_at xs c.chosen-i.result) c.deref.ensures.value ∙ t.at)

pub note_tasks-requires-clause-inside : goal.note_tasks-requires-clause-inside
note_tasks-requires-clause-inside g c =
    let w = c.requires.game in
    let m = c.args.self.now in
    let k = g.P.Picks.number c.args.picks.now 0 in
    let t = taken c.args.p.now.script w.0 w.1 m w.2 m.ready.members k c.chosen-i.result c.reached_is_sound.ensures w.3
    (ready_slots c.args.p.now.script w.2.entries (tree_in w.1 w.2) w.2.players m.seats.items m.ready.members w.3.can.holds.seats w.3.ready) c.chosen-i.ensures.taken
    in
    inside-still c.args.p.now.script w.0 w.1 m c.move_task.new.self k c.chosen-i.result w.2 t (c.in_ok-move_task.ensures.made w.0 w.1 k w.2 t)

pub note_tasks-requires-clause-game : goal.note_tasks-requires-clause-game
note_tasks-requires-clause-game g c =
    let w = c.requires.game in
    let m = c.args.self.now in
    let k = g.P.Picks.number c.args.picks.now 0 in
    let t = taken c.args.p.now.script w.0 w.1 m w.2 m.ready.members k c.chosen-i.result c.reached_is_sound.ensures w.3
    (ready_slots c.args.p.now.script w.2.entries (tree_in w.1 w.2) w.2.players m.seats.items m.ready.members w.3.can.holds.seats w.3.ready) c.chosen-i.ensures.taken
    in
    let a = c.in_ok-move_task.ensures.made w.0 w.1 k w.2 t in
    let size : c.len-before.result ≡ length m.seats.items = omega (arith, c.len-before.ensures, m.seats.ok.0) in (
      c.args.p.now.script,
      w.0,
      w.1,
      k,
      w.2,
      a.0,
      has-moved c.args.p.now.script w.0 w.1 m c.move_task.new.self k c.chosen-i.result c.under_of-under.result c.len-before.result w.2 c.games_come.ensures c.fold_is_reached.ensures t w.3.ready a c.in_ok-move_task.ensures.tasks (λ seat at. c.under_of-under.ensures seat (ap (λ (xs : List (Option Seat)). seat_at xs c.chosen-i.result) c.deref.ensures.value ∙ at)) size,
    )

pub returns-clause-moved : goal.returns-clause-moved
returns-clause-moved g c = λ e. (
  λ code U G quietly.
      let m = c.args.self.now in
      let k = g.P.Picks.number c.args.picks.now 0 in
      let t = taken c.args.p.now.script code U m G m.ready.members k c.chosen-i.result c.reached_is_sound.ensures quietly
      (ready_slots c.args.p.now.script G.entries (tree_in U G) G.players m.seats.items m.ready.members quietly.can.holds.seats quietly.ready) c.chosen-i.ensures.taken
      in
      let a = c.in_ok-move_task.ensures.made code U k G t in
      let size : c.len-before.result ≡ length m.seats.items = omega (arith, c.len-before.ensures, m.seats.ok.0) in
      let h = has-moved c.args.p.now.script code U m c.move_task.new.self k c.chosen-i.result c.under_of-under.result c.len-before.result G c.games_come.ensures c.fold_is_reached.ensures t quietly.ready a c.in_ok-move_task.ensures.tasks (λ seat at. c.under_of-under.ensures seat (ap (λ (xs : List (Option Seat)). seat_at xs c.chosen-i.result) c.deref.ensures.value ∙ at)) size in
      went-on c.args.p.now.script code U c.move_task.new.self c.note_tasks.new.self k c.chosen-i.result c.under_of-under.result c.len-before.result G a.0 h c.note_tasks.ensures.same (c.note_tasks.ensures.ready c.args.p.now.script code U k G a.0 h),
  c.chosen-i.ensures.later,
)
