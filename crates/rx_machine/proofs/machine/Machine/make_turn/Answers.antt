use Rattle.std.proofs.Common.{arith, rules, ◌<◌, ◌^◌, ℕ, List, length, refl, true, false, ap, ◌∙◌, sym, subst}
use Rattle.rx_kills.specs.Least.{entry_of}
use Rattle.rx_rules.proofs.Common.{tree_in}
use Rattle.rx_machine.specs.Picking.{AreEnabled}
use Rattle.rx_machine.proofs.BeforeTurn.{falling, calm, can-turn, counted}
use Rattle.rx_machine.proofs.Noting.{roomy-can}
use Rattle.rx_machine.proofs.Halting.{refused-same}
use Rattle.rx_machine.proofs.Requested.{on_errs, any_err}
use Rattle.rx_machine.proofs.machine.Machine.make_turn.Goals as goal

pub overflow_cast-tasks : goal.overflow_cast-tasks
overflow_cast-tasks g c =
    let w = c.requires.game in
    let can = can-turn c.args.p.now.script w.0 w.1 c.args.self.now w.2 c.games_come.ensures c.fold_is_reached.ensures w.3.seated w.3.unreleased in
    let few = can.numbers.tasks in
    let slots = w.3.seated.shares.slots in
    let bound : c.len.result < 2 ^ 32 = omega (arith, few, slots, c.len.ensures, c.args.self.now.seats.ok.0) in
    search rules

pub overflow_add-tasks : goal.overflow_add-tasks
overflow_add-tasks g c =
    let w = c.requires.game in
    let can = can-turn c.args.p.now.script w.0 w.1 c.args.self.now w.2 c.games_come.ensures c.fold_is_reached.ensures w.3.seated w.3.unreleased in
    let few = can.numbers.tasks in
    let slots = w.3.seated.shares.slots in
    let bound : c.len.result < 2 ^ 31 = omega (arith, few, slots, c.len.ensures, c.args.self.now.seats.ok.0) in
    omega (arith, bound)

pub pass-requires-clause-game : goal.pass-requires-clause-game
pass-requires-clause-game g c =
    let w = c.requires.game in
    let can = roomy-can c.args.p.now.script w.0 w.1 c.args.self.now c.room.new.self c.room-2.new.self w.2 c.games_come.ensures c.fold_is_reached.ensures c.in_ok-at.ensures.told w.3 in (
      c.args.p.now.script,
      w.0,
      w.1,
      w.2,
      falling (entry_of c.in-Some.due) c.games_come.ensures can c.in-Some.ensures.due,
      subst (λ (ns : List ℕ). AreEnabled (tree_in w.1 w.2) ns) (sym c.in_ok-room.ensures.members) w.3.ready,
    )

pub take_pick-requires-clause-ready : goal.take_pick-requires-clause-ready
take_pick-requires-clause-ready g c = record { room = c.in_ok-at.ensures.room; calm = c.in-None.ensures.none }

pub take_pick-requires-clause-game : goal.take_pick-requires-clause-game
take_pick-requires-clause-game g c =
    let w = c.requires.game in
    let can = roomy-can c.args.p.now.script w.0 w.1 c.args.self.now c.room.new.self c.room-2.new.self w.2 c.games_come.ensures c.fold_is_reached.ensures c.in_ok-at.ensures.told w.3 in
    let ready = subst (λ (ns : List ℕ). AreEnabled (tree_in w.1 w.2) ns) (sym c.in_ok-room.ensures.members) w.3.ready in
    (w.0, w.1, w.2, calm c.games_come.ensures can c.in-None.ensures.none ready)

pub returns-in-Some-clause-moved : goal.returns-in-Some-clause-moved
returns-in-Some-clause-moved g c = λ e. (
  false,
  λ code U G h.
      let can = roomy-can c.args.p.now.script code U c.args.self.now c.room.new.self c.room-2.new.self G c.games_come.ensures c.fold_is_reached.ensures c.in_ok-at.ensures.told h in
      let ready = subst (λ (ns : List ℕ). AreEnabled (tree_in U G) ns) (sym c.in_ok-room.ensures.members) h.ready in
      c.pass.ensures c.args.p.now.script code U (g.P.Picks.number c.args.picks.now 0) G (falling (entry_of c.in-Some.due) c.games_come.ensures can c.in-Some.ensures.due) ready,
  λ j. refl,
)

pub returns-in-None-clause-moved : goal.returns-in-None-clause-moved
returns-in-None-clause-moved g c = λ e.
    let moved = c.take_pick.ensures.moved e in (
      true,
      λ code U G h.
          let can = roomy-can c.args.p.now.script code U c.args.self.now c.room.new.self c.room-2.new.self G c.games_come.ensures c.fold_is_reached.ensures c.in_ok-at.ensures.told h in
          let ready = subst (λ (ns : List ℕ). AreEnabled (tree_in U G) ns) (sym c.in_ok-room.ensures.members) h.ready in
          moved.0 code U G (calm c.games_come.ensures can c.in-None.ensures.none ready),
      moved.1,
    )

pub returns-in-None-clause-ended : goal.returns-in-None-clause-ended
returns-in-None-clause-ended g c = λ e code U G h.
    let can = roomy-can c.args.p.now.script code U c.args.self.now c.room.new.self c.room-2.new.self G c.games_come.ensures c.fold_is_reached.ensures c.in_ok-at.ensures.told h in
    let ready = subst (λ (ns : List ℕ). AreEnabled (tree_in U G) ns) (sym c.in_ok-room.ensures.members) h.ready in
    c.take_pick.ensures.ended e code U G (calm c.games_come.ensures can c.in-None.ensures.none ready)

pub returns-in-None-clause-refused : goal.returns-in-None-clause-refused
returns-in-None-clause-refused g c = on_errs c.take_pick.result (λ told same code U G h.
    let can = roomy-can c.args.p.now.script code U c.args.self.now c.room.new.self c.room-2.new.self G c.games_come.ensures c.fold_is_reached.ensures c.in_ok-at.ensures.told h in
    let ready = subst (λ (ns : List ℕ). AreEnabled (tree_in U G) ns) (sym c.in_ok-room.ensures.members) h.ready in
    let counts = counted c.args.p.now.script code U c.args.self.now G c.games_come.ensures c.fold_is_reached.ensures c.reached_is_sound.ensures h in
    record {
      begun = told code U G (calm c.games_come.ensures can c.in-None.ensures.none ready);
      ready = ap length (same ∙ c.in_ok-room.ensures.members) ∙ counts;
    }) c.take_pick.ensures.refused c.take_pick.ensures.ready

pub returns-in_err-at-clause-refused : goal.returns-in_err-at-clause-refused
returns-in_err-at-clause-refused g c = any_err c.from_residual.result (λ code U G h. record {
  begun = refused-same c.args.p.now.script code U c.args.self.now (record c.args.self.now { chronicle = c.room.new.self }) (g.P.Picks.number c.args.picks.now 0) G c.games_go_on.ensures h.seated h.unreleased c.in_err-at.ensures.told.0 refl;
  ready = counted c.args.p.now.script code U c.args.self.now G c.games_come.ensures c.fold_is_reached.ensures c.reached_is_sound.ensures h;
})

pub returns-in_err-room-clause-refused : goal.returns-in_err-room-clause-refused
returns-in_err-room-clause-refused g c = any_err c.from_residual-in_err-room.result (λ code U G h. record {
  begun = refused-same c.args.p.now.script code U c.args.self.now (record c.args.self.now { chronicle = c.room.new.self; ready = c.room-2.new.self }) (g.P.Picks.number c.args.picks.now 0) G c.games_go_on.ensures h.seated h.unreleased c.in_ok-at.ensures.told.0 refl;
  ready =
      ap length c.in_err-room.ensures.members
      ∙ counted c.args.p.now.script code U c.args.self.now G c.games_come.ensures c.fold_is_reached.ensures c.reached_is_sound.ensures h;
})
