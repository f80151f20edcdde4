use Rattle.std.proofs.Common.{ap, sym, ◌∙◌}
use Rattle.rx_monitor.specs.Inside.Pages.{board_of}
use Rattle.rx_monitor.specs.Inside.Ties.{label_of}
use Rattle.rx_monitor.proofs.Ties.{names}
use Rattle.rx_monitor.proofs.Beginnings.{fold_ends}
use Rattle.rx_monitor.proofs.board.publish.Goals as goal

pub publish_as-writer-requires : goal.publish_as-writer-requires
publish_as-writer-requires g c next is =
    names _ _ c.append.new.self.desk.shown.value next
    (ap board_of (is ∙ fold_ends _ _ _ _ c.args.entry c.in-Ok.ensures.pending) ∙ (c.requires ∙ ap board_of (ap label_of (ap (λ d. d.shown.value) (sym c.append.ensures.desk)))))
