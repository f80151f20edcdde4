use Rattle.std.proofs.Common.{rules, ℕ, Option, Some, List, ◌∷◌, sym, ap, ◌∙◌, subst, eqb}
use mathlib.Core.Option.{none}
use prog.Atomic.{either}
use Rattle.atomic_table.specs.Table.{Me, Allows, step, rest}
use Rattle.atomic_table.specs.declared.shared.Seat.{Seat}
use Rattle.rx_monitor.specs.declared.summary.Summary.{Summary}
use Rattle.rx_monitor.specs.declared.shown_list.View.{View}
use Rattle.rx_monitor.specs.declared.one_shot.Hand.{Hand}
use Rattle.rx_monitor.specs.declared.one_shot.Label.{Label}
use Rattle.rx_monitor.specs.Inside.Pages.{IsNote}
use Rattle.rx_monitor.specs.Inside.OneShots.{OneShotKept, Took}
use Rattle.rx_monitor.proofs.OneShots.{sits, empties}
use Rattle.rx_monitor.proofs.one_shot.OneShot.take.Goals as goal

pub load_new_seat-seat-requires : goal.load_new_seat-seat-requires
load_new_seat-seat-requires c = (search rules, sits IsNote _ _)

pub compare_exchange-found-requires : goal.compare_exchange-found-requires
compare_exchange-found-requires c =
    let t = c.args.self.now.table.shared in
    let seat = c.load_new_seat-seat.result.1 in (
      search rules,
      search rules,
      subst (λ (m : Me (Option (Seat Summary View)) (Hand Label)). Allows (OneShotKept IsNote t.key) t.table_id.slots seat.id m 0 (λ n. either (eqb n 1) 2 n) (Took IsNote (step t.table_id.slots 0 1 2 none) m)) (sym c.load_new_seat-seat.ensures.2) (empties IsNote t.key t.table_id.slots seat.id),
    )

pub exchange-requires : goal.exchange-requires
exchange-requires c =
    let took = c.compare_exchange-found.ensures.2.0 (search rules) in
    let out = ap (λ m. m.1) took.2 in (
      search rules,
      (Some took.0, out ∙ ap (λ (l : List (ℕ × Option (Seat Summary View))). (0, Some took.0) ∷ rest l) (sym out)),
    )
