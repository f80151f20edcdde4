-- What a page that `left_right` shows says, and the tie of its readers to one board.
use Rattle.std.specs.Prelude.{◌≡◌, false, List, [], ◌∷◌, ◌++◌}
use Rattle.atomic_table.specs.Seated.{TableId}
use Rattle.rx_monitor.specs.declared.summary.Summary.{Summary}
use Rattle.rx_monitor.specs.declared.shown_list.View.{View}
use Rattle.rx_monitor.specs.declared.one_shot.Label.{Label}
use Rattle.atomic_table.specs.declared.shared.Seat.{Seat}

-- the board that a label names
abbrev pub board_of : Label → TableId
board_of k = k.before.value.table_id

-- the list that the summary of the label ends
abbrev pub list_of : Label → List Summary
list_of k = k.before.value.me.0.seen ++ k.summary ∷ []

-- a seat at the board of the label, which has seen the list of the label and no more
abbrev pub IsNote : Label → Seat Summary View → Type 0
IsNote k n = (n.table_id ≡ board_of k) × (n.me ≡ (record { marked = false; seen = list_of k; also = [] }, []))
