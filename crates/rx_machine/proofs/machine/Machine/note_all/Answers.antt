use Rattle.std.proofs.Common.{rules, arith, ◌≡◌, ◌≤◌, ℕ, List, Bool, length, inl, inr, ap, ◌∙◌, sym, subst}
use Rattle.rx_rules.proofs.Common.{Block, Given, Game, tree_in}
use Rattle.rx_syntax.specs.Shape.{Shape}
use Rattle.rx_rank.specs.Numbers.{Ascends, marked}
use Rattle.rx_machine.specs.declared.machine.Machine.{Machine}
use Rattle.rx_machine.specs.Slots.{seat_at}
use Rattle.rx_machine.specs.Holds.{CanTurn}
use Rattle.rx_machine.specs.Picking.{slot_able, is_listed}
use Rattle.rx_machine.proofs.Finding.{same_or_not}
use Rattle.rx_machine.proofs.Readying.{marked_same, marked_other, ascends_marked}
use Rattle.rx_machine.proofs.Noting.{can-same}
use Rattle.rx_machine.proofs.machine.Machine.note_all.Goals as goal

pub note-requires-clause-game : goal.note-requires-clause-game
note-requires-clause-game g c =
    let w = c.requires.game in
    (w.0, w.1, w.2, w.3, subst (λ (x : Machine g.row.L.Denot). CanTurn w.0 w.1 w.2 x w.3) (sym c.loop-i.invariant.0) (can-same w.0 w.1 w.2 c.args.self.now c.loop-i.self.ready w.3 w.4))

pub loop-i-preserved : goal.loop-i-preserved
loop-i-preserved g c =
    let m = c.args.self.now in
    let i : ℕ = c.loop-i.i in
    let old : List ℕ = c.loop-i.self.ready.members in
    let able : Given → Game → Bool = λ U G. slot_able (tree_in U G) (seat_at m.seats.items i) in
    let told : (shape : Shape) (code : Block) (U : Given) (G : Game) → CanTurn shape code U m G → c.note.new.self.ready.members ≡ marked (able U G) i old = λ shape code U G h.
    c.note.ensures.members shape code U G (subst (λ (x : Machine g.row.L.Denot). CanTurn shape code U x G) (sym c.loop-i.invariant.0) (can-same shape code U m c.loop-i.self.ready G h))
    ∙ ap (λ (x : Machine g.row.L.Denot). marked (slot_able (tree_in U G) (seat_at x.seats.items i)) i old) c.loop-i.invariant.0
    in
    let w = c.requires.game in
    let first = told w.0 w.1 w.2 w.3 w.4 in (
      c.note.ensures.same ∙ ap (λ (x : Machine g.row.L.Denot). record x { ready = c.note.new.self.ready }) c.loop-i.invariant.0,
      c.note.ensures.room ∙ c.loop-i.invariant.1,
      λ a. subst (Ascends 0) (sym first) (ascends_marked (able w.2 w.3) i old (c.loop-i.invariant.2 a)),
      λ shape code U G h n low.
          ap (is_listed n) (told shape code U G h)
          ∙ elim (same_or_not n i) [
            | inl e ↦ subst (λ (v : ℕ). is_listed v (marked (able U G) i old) ≡ slot_able (tree_in U G) (seat_at m.seats.items v)) (sym e) (marked_same (able U G) i old)
            | inr apart ↦ marked_other (able U G) i n old apart ∙ c.loop-i.invariant.3 shape code U G h n (omega (arith, low, apart))
          ],
      λ n high. ap (is_listed n) first ∙ (marked_other (able w.2 w.3) i n old (λ e. omega (arith, e, high)) ∙ c.loop-i.invariant.4 n (omega (arith, high))),
    )

pub returns-clause-noted : goal.returns-clause-noted
returns-clause-noted g c = λ shape code U G h n low.
    let beyond : length c.args.self.now.seats.items ≤ c.loop-i.i = search rules in
    c.loop-i.invariant.3 shape code U G h n (omega (arith, low, beyond))
