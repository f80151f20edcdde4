use Rattle.std.proofs.Common.{rules, ap, ◌∙◌, ◌≡◌, subst}
use Rattle.std.specs.Arc.{arc_value}
use Rattle.left_right.specs.Sides.{view}
use Rattle.rx_monitor.specs.Inside.Pages.{board_of}
use Rattle.rx_monitor.specs.Inside.Ties.{IsOf}
use Rattle.rx_monitor.proofs.Holds.{writes_opened, reads_opened}
use Rattle.rx_monitor.proofs.board.Board.open.Goals as goal

pub invariant_of-board_writer : goal.invariant_of-board_writer
invariant_of-board_writer g c =
    let board : c.in_ok-shown_list.mark.table_id ≡ (arc_value c.in_ok-shown_list-2.shown_list).table.shared.table_id = search rules in
    let named : board_of (arc_value c.in_ok-entry.entry).one_shot.table.shared.key ≡ c.in_ok-shown_list.mark.table_id = ap (λ s. s.table_id) c.in_ok-entry.ensures.label.0 in
    writes_opened c.in_ok-writer.writer (λ w. w.desk.shown.value) _ c.in_ok-shown_list.mark c.note-seat.new.seat c.args.first c.in_ok-shown_list.ensures.1
    (c.note-seat.ensures.same.0 ∙ (c.note.ensures.same.0 ∙ (c.append.ensures.0 ∙ board)))
    (c.note-seat.ensures.same.1 ∙ (c.note.ensures.same.1 ∙ c.append.ensures.1))
    (c.in_ok-writer.ensures.writer ∙ (named ∙ board))

pub invariant_of-board_reader : goal.invariant_of-board_reader
invariant_of-board_reader g c =
    let board : c.in_ok-shown_list.mark.table_id ≡ (arc_value c.in_ok-other.other).table.shared.table_id = search rules in
    let named : board_of (arc_value c.in_ok-entry.entry).one_shot.table.shared.key ≡ c.in_ok-shown_list.mark.table_id = ap (λ s. s.table_id) c.in_ok-entry.ensures.label.0 in
    reads_opened _ _ c.in_ok-shown_list.mark c.note.new.seat c.note-seat.result c.args.first c.in_ok-writer.reader c.in_ok-shown_list.ensures.1
    (c.note.ensures.same.1 ∙ c.append.ensures.1)
    (c.note-seat.ensures.note.0 ∙ (c.note.ensures.same.0 ∙ (c.append.ensures.0 ∙ board)))
    c.note-seat.ensures.note.1
    (subst (λ z. IsOf z (view c.in_ok-writer.reader.place)) (named ∙ board) c.in_ok-writer.ensures.reader)
