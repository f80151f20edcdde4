use Rattle.std.proofs.Common.{ap, ◌∙◌, sym, not}
use Rattle.rx_rules.proofs.Common.{Tree, tree_in}
use Rattle.rx_finish.specs.Callers.{MayAskRelease}
use Rattle.rx_finish.specs.Calls.{is_ready}
use Rattle.rx_machine.specs.Picking.{slot_able}
use Rattle.rx_machine.proofs.Acted.{of-told, tree-is}
use Rattle.rx_machine.proofs.Able.{seat_here, slot_here, waiter_asks, ready_enabled, moving_enabled}
use Rattle.rx_machine.proofs.machine.Machine.is_able.Goals as goal

pub ready-requires : goal.ready-requires
ready-requires g c =
    let game = c.requires.game in
    let T = tree_in game.2 game.3 in
    let h = game.4 in
    let seat = c.in-Some.seat in
    let at = seat_here c.args.self.now.seats.items c.args.i c.index.result.now seat c.requires.inside c.index.ensures c.in-Some.is in
    let s = slot_here game.0 game.3.entries T game.3.players c.args.i _ seat at (h.holds.seats c.args.i) in
    of-told (λ (V : Tree). MayAskRelease V seat.who) h.holds.shares (waiter_asks s.3 c.waiter_has_scope.ensures h.reached h.numbers c.if-not-seat.false)

pub returns-else-not-seat : goal.returns-else-not-seat
returns-else-not-seat g c = λ shape code U G h.
    let T = tree_in U G in
    let seat = c.in-Some.seat in
    let at = seat_here c.args.self.now.seats.items c.args.i c.index.result.now seat c.requires.inside c.index.ensures c.in-Some.is in
    let s = slot_here shape G.entries T G.players c.args.i _ seat at (h.holds.seats c.args.i) in
    c.ready.ensures
    ∙ (ap (λ (V : Tree). is_ready V seat.who) (tree-is h.holds.shares) ∙ (ready_enabled s.3 c.if-not-seat.false ∙ ap (slot_able T) (sym at)))

pub returns-then-not-seat : goal.returns-then-not-seat
returns-then-not-seat g c = λ shape code U G h.
    let T = tree_in U G in
    let seat = c.in-Some.seat in
    let at = seat_here c.args.self.now.seats.items c.args.i c.index.result.now seat c.requires.inside c.index.ensures c.in-Some.is in
    let s = slot_here shape G.entries T G.players c.args.i _ seat at (h.holds.seats c.args.i) in
    ap (λ b. not b) c.if-not-seat.true ∙ (sym (moving_enabled s.3 c.if-not-seat.true) ∙ ap (slot_able T) (sym at))
