-- The tie of the handles of one `left_right` to one board.
use Rattle.std.specs.Prelude.{◌≡◌, ℕ, List, Some, None}
use Rattle.std.specs.Arc.{arc_value}
use mathlib.Core.Option.{some}
use lib.ListN.{get_elem?}
use Rattle.atomic_table.specs.Seated.{TableId}
use Rattle.atomic_table.specs.declared.shared.Seat.{Seat}
use Rattle.std.specs.declared.snapshot.Snapshot.{Snapshot}
use Rattle.rx_monitor.specs.declared.summary.Summary.{Summary}
use Rattle.rx_monitor.specs.declared.shown_list.View.{View}
use Rattle.rx_monitor.specs.declared.one_shot.Label.{Label}
use Rattle.rx_monitor.specs.declared.page.Page.{Page}
use Rattle.rx_monitor.specs.declared.page.Tie.{Tie}
use Rattle.rx_monitor.specs.Inside.Pages.{board_of}

-- the label of a page
abbrev pub label_of : Page → Label
label_of p = (arc_value p.entry).one_shot.table.shared.key

-- no board is known
abbrev pub untied : Tie
untied = record { board = None }

-- this board is known
abbrev pub IsOf : TableId → Tie → Type 0
IsOf z t = (b : Snapshot (Seat Summary View)) × (t.board ≡ Some b) × (b.value.table_id ≡ z)

-- each handle that knows a board knows the board of the page
abbrev pub Tied : Page → List Tie → Type 0
Tied p ties = (id : ℕ) (t : Tie) → get_elem? ties id ≡ some t → (z : TableId) → IsOf z t → z ≡ board_of (label_of p)

-- the page is of the board that was known, and it still is
abbrev pub IsSeen : Tie → Page → Tie → Type 0
IsSeen v p w = (w ≡ v) × ((z : TableId) → IsOf z v → z ≡ board_of (label_of p))
