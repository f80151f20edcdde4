-- What the writer and the reader of a board hold.
use Rattle.std.specs.Prelude.{◌≡◌, ℕ, true, false, Option, Some, [], length, IfSome}
use Rattle.atomic_table.specs.Seated.{TableId}
use Rattle.atomic_table.specs.declared.shared.Seat.{Seat}
use Rattle.rx_monitor.specs.declared.summary.Summary.{Summary}
use Rattle.rx_monitor.specs.declared.shown_list.View.{View}
use Rattle.rx_monitor.specs.declared.page.Page.{Page}
use Rattle.rx_monitor.specs.declared.page.Tie.{Tie}
use Rattle.rx_monitor.specs.Boards.{EndsWith}
use Rattle.rx_monitor.specs.Inside.Pages.{board_of}
use Rattle.rx_monitor.specs.Inside.Ties.{label_of, IsOf}

-- the seat with the mark at the board z, and a writer whose page is of that board
abbrev pub Writes : {W : Type 0} → (W → Page) → TableId → Seat Summary View → Option W → Type 0
Writes {W} page z mark writer = (mark.table_id ≡ z) × (mark.me ≡ (record { marked = true; seen = mark.me.0.seen; also = [] }, []))
    × ((w : W) × (writer ≡ Some w) × (board_of (label_of (page w)) ≡ z))

-- a seat at the board z, and a reader that is tied to that board
abbrev pub Reads : {R : Type 0} → (R → Tie) → TableId → Seat Summary View → Option R → Type 0
Reads {R} tie z spot reader = (spot.table_id ≡ z) × (spot.me ≡ (record { marked = false; seen = spot.me.0.seen; also = [] }, []))
    × ((r : R) × (reader ≡ Some r) × IsOf z (tie r))

-- what a look at the page finds, by a reader with this tie: a note of the board, with the last item of its list and how many there are
abbrev pub IsLook : Tie → Option (Seat Summary View × Summary × ℕ) → Type 0
IsLook t found =
    IfSome found (λ f. ((z : TableId) → IsOf z t → f.0.table_id ≡ z) × (f.0.me.1 ≡ []) × EndsWith f.0.me.0.seen f.1
    × (f.2 ≡ length f.0.me.0.seen))
