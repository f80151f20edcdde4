-- The tasks that are enabled, by number.
use Rattle.std.specs.Prelude.{◌≡◌, ℕ, ◌==◌, Bool, false, List, Option, Some, None}
use Rattle.std.specs.List.{list_any}
use Rattle.rx_rules.specs.Tree.{Tree}
use Rattle.rx_rules.specs.Picked.{is_enabled}
use Rattle.rx_tree_laws.specs.Enabling.{able}
use Rattle.rx_rank.specs.Numbers.{Ascends}
use Rattle.rx_machine.specs.declared.seat.Seat.{Seat}
use Rattle.rx_machine.specs.Slots.{row_of}

-- the task of a slot is enabled
abbrev pub slot_able : Tree → Option Seat → Bool
slot_able T None = false
slot_able T (Some seat) = is_enabled T (row_of seat)

-- the number is in the list
abbrev pub is_listed : ℕ → List ℕ → Bool
is_listed n ns = list_any (λ m. m == n) ns

-- the numbers are those of the enabled tasks, in ascending order
abbrev pub AreEnabled : Tree → List ℕ → Type 0
AreEnabled T ns = Ascends 0 ns × ((n : ℕ) → is_listed n ns ≡ able T (record { 0 = n }))
