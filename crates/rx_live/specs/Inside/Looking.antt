-- What a run's reader leaves.
use Rattle.std.specs.Prelude.{◌≡◌, ℕ, length, Option, Some, None, IfOk}
use Rattle.atomic_table.specs.Seated.{TableId}
use Rattle.rx_monitor.specs.Boards.{StandInOrder}
use Rattle.rx_live.specs.declared.watching.Looker.{Looker}
use Rattle.rx_live.specs.declared.watching.Looked.{Looked}

-- as many snapshots as were to be made, which stand in the list that the reader has seen, in order
abbrev pub HasLooked : Looker → Looked → Type 0
HasLooked before after =
    (after.reader.board ≡ before.reader.board)
    × IfOk after.items (λ v. (length v.items ≡ before.count) × StandInOrder after.reader.list 0 v.items)

-- so it is where there is a reader
abbrev pub HaveLooked : Option Looker → Option Looked → Type 0
HaveLooked None after = Unit {0}
HaveLooked (Some before) None = ⊥
HaveLooked (Some before) (Some after) = HasLooked before after

-- there is a reader of this board, and it has made n snapshots
abbrev pub EndsLooked : Option TableId → ℕ → Option Looked → Type 0
EndsLooked board n None = ⊥
EndsLooked board n (Some after) =
    (board ≡ Some after.reader.board) × IfOk after.items (λ v. (length v.items ≡ n) × StandInOrder after.reader.list 0 v.items)
