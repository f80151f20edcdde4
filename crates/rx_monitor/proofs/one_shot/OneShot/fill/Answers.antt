use Rattle.std.proofs.Common.{rules, ◌≡◌, Option, Some, None, [], ◌∷◌, sym, ap, ◌∙◌, subst}
use mathlib.Core.Option.{none}
use Rattle.atomic_table.specs.Table.{Me, Allows, step, rest}
use Rattle.atomic_table.specs.declared.shared.Seat.{Seat}
use Rattle.rx_monitor.specs.declared.summary.Summary.{Summary}
use Rattle.rx_monitor.specs.declared.shown_list.View.{View}
use Rattle.rx_monitor.specs.declared.one_shot.Hand.{Hand}
use Rattle.rx_monitor.specs.declared.one_shot.Label.{Label}
use Rattle.rx_monitor.specs.Inside.Pages.{IsNote}
use Rattle.rx_monitor.specs.Inside.OneShots.{reaching, OneShotKept, Reached}
use Rattle.rx_monitor.proofs.OneShots.{reaches, fills}
use Rattle.rx_monitor.proofs.one_shot.OneShot.fill.Goals as goal

abbrev Sat : Type 0
Sat = Me (Option (Seat Summary View)) (Hand Label)

pub load-requires : goal.load-requires
load-requires c =
    let t = c.args.self.now.table.shared in (
      search rules,
      search rules,
      subst (λ (m : Sat). Allows (OneShotKept IsNote t.key) t.table_id.slots c.args.filler.id m 0 (λ n. n) (Reached (step t.table_id.slots 0 0 0 none) m)) (sym c.requires.own.1) (reaches IsNote t.key t.table_id.slots c.args.filler.id),
    )

pub exchange-gone-requires : goal.exchange-gone-requires
exchange-gone-requires c = (search rules, (None, (let out = c.load.ensures.2 in ap (λ m. m.1) out ∙ ap (λ l. (0, None) ∷ rest l) (sym (ap (λ m. m.1) out)))))

pub store-requires : goal.store-requires
store-requires c =
    let t = c.args.self.now.table.shared in
    let key : c.args.filler.me.0.key ≡ t.key = ap (λ m. m.0.key) c.requires.own.1 in
    let out : c.load.new.seat.me ≡ (reaching t.key, (0, None) ∷ []) = c.load.ensures.2 ∙ ap (λ k. (reaching k, (0, None) ∷ [])) key in
    let me : c.exchange-gone.new.seat.me ≡ (reaching t.key, (0, Some c.args.note) ∷ []) = c.exchange-gone.ensures.3 ∙ ap (λ m. (m.0, (0, Some c.args.note) ∷ rest m.1)) out in (
      search rules,
      search rules,
      subst (λ (m : Sat). Allows (OneShotKept IsNote t.key) t.table_id.slots c.exchange-gone.new.seat.id m 0 (λ _. 1) (λ _ _. Unit {0})) (sym me)
          (fills IsNote t.key t.table_id.slots c.exchange-gone.new.seat.id c.args.note (search rules) c.requires.note),
    )
