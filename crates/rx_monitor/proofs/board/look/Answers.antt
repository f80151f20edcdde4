use Rattle.std.proofs.Common.{sym, ap, ◌∙◌, subst}
use Rattle.std.specs.Arc.{arc_value}
use Rattle.left_right.specs.Sides.{view}
use Rattle.rx_monitor.specs.declared.page.Page.{Page}
use Rattle.rx_monitor.specs.Inside.Holding.{IsLook}
use Rattle.rx_monitor.proofs.Ties.{sees}
use Rattle.rx_monitor.proofs.Looks.{look_is}
use Rattle.rx_monitor.proofs.board.look.Goals.{in-Some, in-None}
use Rattle.rx_monitor.proofs.board.look.Goals as goal

pub enter_as-requires : goal.enter_as-requires
enter_as-requires c = sees _ _

pub returns-after-take-clause-note : goal.returns-after-take-clause-note
returns-after-take-clause-note c =
    let tie = view c.args.reader.place in
    elim c.match-take.branch [
      | in-Some w ↦ subst (IsLook tie) (sym w.taken-is) (look_is c.deref-entry.result.now (arc_value c.in-Ok.reading.part.value.entry) w.in-Some.note tie (c.deref-entry.ensures ∙ ap (λ (p : Page). arc_value p.entry) c.get-page.ensures) w.in-Some.ensures c.in-Ok.ensures.1.1)
      | in-None w ↦ subst (IsLook tie) (sym w.taken-is) tt
    ]
