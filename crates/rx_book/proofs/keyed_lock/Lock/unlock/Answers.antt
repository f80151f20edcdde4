use Rattle.std.proofs.Common.{rules, ◌≡◌, Option, Some, [], ◌∷◌, sym, ap, ◌∙◌, subst}
use mathlib.Core.Option.{none}
use Rattle.atomic_table.specs.Table.{Me, Allows, step, rest}
use Rattle.rx_book.specs.declared.steps.Hand.{Hand}
use Rattle.rx_book.specs.Latched.{idle, holding, Latched, Ends}
use Rattle.rx_book.proofs.Latches.{unlocks}
use Rattle.rx_book.proofs.keyed_lock.Lock.unlock.Goals as goal

pub swap-found-requires : goal.swap-found-requires
swap-found-requires g c =
    let t = c.self.inside.table.shared in
    let turn = c.turn.inside in
    let key : turn.seat.me.0.key ≡ t.key = ap (λ l. l.key) (c.turn.view_is ∙ (c.requires.own ∙ sym c.self.view_is)) in
    let hand : turn.seat.me.0 ≡ holding t.key = c.turn.invariant.0 ∙ ap holding key in
    let me : c.exchange-gone.new.seat.me ≡ (holding t.key, (0, Some c.args.value) ∷ []) =
    c.exchange-gone.ensures.3 ∙ (λ i. (hand i, (0, Some c.args.value) ∷ rest (c.turn.invariant.1 i))) in (
      search rules,
      search rules,
      subst (λ (m : Me (Option g.row.T.Denot) (Hand g.row.K.Denot)). Allows (Latched g.F.Fact.holds t.key) t.table_id.slots c.exchange-gone.new.seat.id m 0 (λ _. 0) (Ends idle (step t.table_id.slots 0 0 0 none) m)) (sym me)
          (unlocks g.F.Fact.holds t.key t.table_id.slots c.exchange-gone.new.seat.id c.args.value (search rules) (subst (λ (k : g.row.K.Denot). g.F.Fact.holds k c.args.value) (ap (λ l. l.key) (sym c.self.view_is)) c.requires.fact)),
    )
