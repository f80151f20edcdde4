-- What a table of events tells.
use Rattle.std.specs.Prelude.{◌≡◌, ℕ, suc, ◌<◌, List, Option, Some, None, length, slice_get, slice_index_or}
use Rattle.rx_rules.specs.declared.events.Cell.{Cell}
use Rattle.rx_rules.specs.declared.events.PlaceEvent.{PlaceEvent}
use Rattle.rx_rules.specs.declared.events.PlaceEvent.TheVariants.{Done}
use Rattle.rx_rules.specs.Plays.{journal_at}
use Rattle.rx_verify.specs.declared.table.Row.{Row}
use Rattle.rx_verify.specs.declared.table.EventTable.{EventTable}
use Rattle.rx_verify.specs.Events.{IsFirst}

-- the position that a row has for the first event of task t, and for the next of the same task after event e: that of the journal's
-- end where it has none
abbrev pub row_first : Option Row → ℕ → ℕ
row_first None t = 0
row_first (Some row) t = slice_index_or row.first.items t (length row.next.items)

abbrev pub row_after : Option Row → ℕ → ℕ
row_after None e = 0
row_after (Some row) e = slice_index_or row.next.items e (length row.next.items)

-- those that the table has for the journal of place p
abbrev pub first_in : EventTable → ℕ → ℕ → ℕ
first_in table p t = row_first (slice_get table.rows.items p) t

abbrev pub after_in : EventTable → ℕ → ℕ → ℕ
after_in table p e = row_after (slice_get table.rows.items p) e

-- the table is that of these journals, for the tasks below a number
pub record TableIs (js : List (List PlaceEvent)) (tasks : ℕ) (table : EventTable) : Type 0 where
  pub first : (p t : ℕ) → t < tasks → IsFirst t (journal_at js p) 0 (first_in table p t)
  pub after : (p e t stamp : ℕ) (cell : Cell) (path : List ℕ) → t < tasks
      → slice_get (journal_at js p) e ≡ Some (Done (record { 0 = t }) stamp cell path)
      → IsFirst t (journal_at js p) (suc e) (after_in table p e)
