use Rattle.std.proofs.Common.{rules, ◌≤◌, not, length, ap, ◌∙◌, sym, subst}
use Rattle.rx_base.proofs.Options.{none-of, some-of}
use Rattle.rx_rules.proofs.Common.{tree_in}
use Rattle.rx_rank.specs.Numbers.{marked}
use Rattle.rx_machine.specs.declared.machine.Machine.{Machine}
use Rattle.rx_machine.specs.Slots.{seat_at}
use Rattle.rx_machine.specs.Holds.{CanTurn}
use Rattle.rx_machine.specs.Picking.{slot_able}
use Rattle.rx_machine.proofs.Able.{seat_here, none_at}
use Rattle.rx_machine.proofs.Noting.{noted-one, noted-two, can-same}
use Rattle.rx_machine.proofs.machine.Machine.note_tasks.Goals as goal

pub note_end-requires-clause-ended : goal.note_end-requires-clause-ended
note_end-requires-clause-ended g c = none_at c.args.self.now.seats.items c.args.i c.index.result.now c.requires.inside c.index.ensures (none-of c.index.result.now (c.is_none.ensures ∙ ap not c.if-is_none.true))

pub returns-then-is_none-clause-ready : goal.returns-then-is_none-clause-ready
returns-then-is_none-clause-ready g c = λ shape code U k G H h. c.note_end.ensures.ready c.args.before shape code U k G H h

pub note-requires-then-before-len-clause-game : goal.note-requires-then-before-len-clause-game
note-requires-then-before-len-clause-game g c =
    let w = c.requires.game in
    (w.0, w.1, w.2, w.5, subst (λ (x : Machine g.row.L.Denot). CanTurn w.0 w.1 w.2 x w.5) (sym c.note.ensures.same) (can-same w.0 w.1 w.2 c.args.self.now c.note.new.self.ready w.5 w.6.can))

pub returns-then-before-len-clause-ready : goal.returns-then-before-len-clause-ready
returns-then-before-len-clause-ready g c = λ shape code U k G H h.
    let m = c.args.self.now in
    let some = some-of c.index.result.now (c.is_none.ensures ∙ ap not c.if-is_none.false) in
    let at = seat_here m.seats.items c.args.i c.index.result.now some.0 c.requires.inside c.index.ensures some.1 in
    let can = subst (λ (x : Machine g.row.L.Denot). CanTurn shape code U x H) (sym c.note.ensures.same) (can-same shape code U m c.note.new.self.ready H h.can) in
    noted-two shape code U m k c.args.i c.args.under c.args.before G H c.reached_is_sound.ensures h c.others_stay_enabled.ensures some.0 at c.note-then-before-len.new.self.ready.members
    (c.note-then-before-len.ensures.members shape code U H can
    ∙ (ap (λ (x : Machine g.row.L.Denot). marked (slot_able (tree_in U H) (seat_at x.seats.items c.args.before)) c.args.before c.note.new.self.ready.members) c.note.ensures.same
    ∙ ap (marked (slot_able (tree_in U H) (seat_at m.seats.items c.args.before)) c.args.before) (c.note.ensures.members shape code U H h.can)))

pub returns-else-before-len-clause-ready : goal.returns-else-before-len-clause-ready
returns-else-before-len-clause-ready g c = λ shape code U k G H h.
    let m = c.args.self.now in
    let some = some-of c.index.result.now (c.is_none.ensures ∙ ap not c.if-is_none.false) in
    let at = seat_here m.seats.items c.args.i c.index.result.now some.0 c.requires.inside c.index.ensures some.1 in
    let few : length m.seats.items ≤ c.args.before = search rules in
    noted-one shape code U m k c.args.i c.args.under c.args.before G H c.reached_is_sound.ensures h c.others_stay_enabled.ensures some.0 at few c.note.new.self.ready.members (c.note.ensures.members shape code U H h.can)
