use Rattle.std.proofs.Common.{ap, ◌∙◌, sym, subst}
use Rattle.rx_rules.proofs.Common.{tree_in}
use Rattle.rx_rank.specs.Numbers.{marked}
use Rattle.rx_machine.specs.declared.machine.Machine.{Machine}
use Rattle.rx_machine.specs.Slots.{seat_at}
use Rattle.rx_machine.specs.Holds.{CanTurn}
use Rattle.rx_machine.specs.Picking.{slot_able}
use Rattle.rx_machine.proofs.Noting.{can-same, end-way, noted-alone, noted-end}
use Rattle.rx_machine.proofs.machine.Machine.note_end.Goals as goal

pub nearest_opener-requires : goal.nearest_opener-requires
nearest_opener-requires g c =
    let before = c.requires.game.0 in
    let w = c.requires.game.1 in
    record {
      game = (
        w.0,
        w.1,
        w.2,
        w.5,
        subst (λ (x : Machine g.row.L.Denot). CanTurn w.0 w.1 w.2 x w.5) (sym c.note.ensures.same) (can-same w.0 w.1 w.2 c.args.self.now c.note.new.self.ready w.5 w.6.can),
        end-way w.0 w.1 w.2 c.args.self.now w.3 c.args.i c.args.under before w.4 w.5 c.reached_is_sound.ensures w.6 c.way_up_stays.ensures c.requires.ended,
      );
    }

pub note-requires-in-Some-clause-game : goal.note-requires-in-Some-clause-game
note-requires-in-Some-clause-game g c =
    let before = c.requires.game.0 in
    let w = c.requires.game.1 in
    (w.0, w.1, w.2, w.5, subst (λ (x : Machine g.row.L.Denot). CanTurn w.0 w.1 w.2 x w.5) (sym c.note.ensures.same) (can-same w.0 w.1 w.2 c.args.self.now c.note.new.self.ready w.5 w.6.can))

pub returns-in-Some-clause-ready : goal.returns-in-Some-clause-ready
returns-in-Some-clause-ready g c = λ before shape code U k G H h.
    let m = c.args.self.now in
    let can = subst (λ (x : Machine g.row.L.Denot). CanTurn shape code U x H) (sym c.note.ensures.same) (can-same shape code U m c.note.new.self.ready H h.can) in
    let way = end-way shape code U m k c.args.i c.args.under before G H c.reached_is_sound.ensures h c.way_up_stays.ensures c.requires.ended in
    noted-end shape code U m k c.args.i c.args.under before G H c.reached_is_sound.ensures h c.end_frees_one.ensures c.requires.ended c.in-Some.opener
    (sym (c.nearest_opener.ensures.nearest shape code U H can way) ∙ c.in-Some.is)
    c.note-in-Some.new.self.ready.members
    (c.note-in-Some.ensures.members shape code U H can
    ∙ (ap (λ (x : Machine g.row.L.Denot). marked (slot_able (tree_in U H) (seat_at x.seats.items c.in-Some.opener.0)) c.in-Some.opener.0 c.note.new.self.ready.members) c.note.ensures.same
    ∙ ap (marked (slot_able (tree_in U H) (seat_at m.seats.items c.in-Some.opener.0)) c.in-Some.opener.0) (c.note.ensures.members shape code U H h.can)))

pub returns-in-None-clause-ready : goal.returns-in-None-clause-ready
returns-in-None-clause-ready g c = λ before shape code U k G H h.
    let m = c.args.self.now in
    let can = subst (λ (x : Machine g.row.L.Denot). CanTurn shape code U x H) (sym c.note.ensures.same) (can-same shape code U m c.note.new.self.ready H h.can) in
    let way = end-way shape code U m k c.args.i c.args.under before G H c.reached_is_sound.ensures h c.way_up_stays.ensures c.requires.ended in
    noted-alone shape code U m k c.args.i c.args.under before G H c.reached_is_sound.ensures h c.end_frees_one.ensures c.requires.ended
    (sym (c.nearest_opener.ensures.nearest shape code U H can way) ∙ c.in-None.is)
    c.note.new.self.ready.members (c.note.ensures.members shape code U H h.can)
