use Rattle.std.proofs.Common.{rules, ◌≡◌, Option, None, [], ◌∷◌, sym, ap, ◌∙◌, subst}
use mathlib.Core.Option.{none}
use Rattle.atomic_table.specs.Table.{Me, Allows, step}
use Rattle.rx_book.specs.declared.steps.Hand.{Hand}
use Rattle.rx_book.specs.Latched.{holding, closing, Latched, Ends}
use Rattle.rx_book.proofs.Latches.{closes}
use Rattle.rx_book.proofs.keyed_lock.Lock.close.Goals as goal

pub store-requires : goal.store-requires
store-requires g c =
    let t = c.self.inside.table.shared in
    let seat = c.turn.inside.seat in
    let key : seat.me.0.key ≡ t.key = ap (λ l. l.key) (c.turn.view_is ∙ (c.requires ∙ sym c.self.view_is)) in
    let me : seat.me ≡ (holding t.key, (0, None) ∷ []) = λ i. ((c.turn.invariant.0 ∙ ap holding key) i, c.turn.invariant.1 i) in (
      search rules,
      search rules,
      subst (λ (m : Me (Option g.row.T.Denot) (Hand g.row.K.Denot)). Allows (Latched g.F.Fact.holds t.key) t.table_id.slots seat.id m 0 (λ _. 3) (λ _. Ends closing (step t.table_id.slots 0 3 0 none) m 3)) (sym me) (closes g.F.Fact.holds t.key t.table_id.slots seat.id (search rules)),
    )
