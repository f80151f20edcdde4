use Rattle.std.proofs.Common.{ap, sym, ◌∙◌, ◌≡◌, subst}
use Rattle.std.specs.Arc.{arc_value}
use Rattle.left_right.specs.Sides.{view}
use Rattle.rx_monitor.specs.declared.page.Posted.{Posted}
use Rattle.rx_monitor.specs.Inside.Pages.{board_of}
use Rattle.rx_monitor.specs.Inside.Ties.{label_of, IsOf}
use Rattle.rx_monitor.proofs.Ties.{admits, names, forks, merges}
use Rattle.rx_monitor.proofs.Beginnings.{fold_none, ok_of}
use Rattle.rx_monitor.proofs.board.pair.Goals as goal

pub publish_as-writer-requires : goal.publish_as-writer-requires
publish_as-writer-requires g c next is = names _ _ c.in_ok-writer.writer.desk.shown.value next (ap board_of (is ∙ fold_none _ _ _ c.in_ok-writer.ensures.1))

pub reader-made-requires : goal.reader-made-requires
reader-made-requires g c = admits

pub tell-note-requires : goal.tell-note-requires
tell-note-requires g c = forks _ _

pub learn-requires-clause-rule : goal.learn-requires-clause-rule
learn-requires-clause-rule g c = merges _ _ _ _

pub returns-clause-reader : goal.returns-clause-reader
returns-clause-reader g c =
    let now = c.publish_as-writer.result.0 in
    let rule : IsOf (board_of (label_of now.desk.shown.value)) (view now.desk.place) = ok_of _ _ c.publish_as-writer.result.1 _ c.in-Ok.is c.publish_as-writer.ensures.rule in
    let values = ok_of _ _ c.publish_as-writer.result.1 _ c.in-Ok.is c.publish_as-writer.ensures.values in
    let old : label_of c.in_ok-writer.writer.desk.shown.value ≡ (arc_value c.args.entry.now).one_shot.table.shared.key = ap label_of c.in_ok-writer.ensures.0 ∙ ap (λ (e : Posted). e.one_shot.table.shared.key) c.in_ok-try_clone.ensures in
    let label : label_of now.desk.shown.value ≡ (arc_value c.args.entry.now).one_shot.table.shared.key = values.0 ∙ (fold_none _ _ _ c.in_ok-writer.ensures.1 ∙ old) in
    subst (λ z. IsOf z (view c.learn.new.self.place)) (ap board_of label) (subst (IsOf _) (sym (c.learn.ensures.1 ∙ c.tell-note.ensures.given.1)) rule)
