-- What the row of one journal tells.
use Rattle.std.specs.Prelude.{◌≡◌, ℕ, suc, ◌<◌, ◌≤◌, List, length, slice_index_or}
use Rattle.rx_rules.specs.declared.events.PlaceEvent.{PlaceEvent}
use Rattle.rx_verify.specs.declared.table.Row.{Row}
use Rattle.rx_verify.specs.Events.{IsFirst, IsOf}

-- for the events from a position on: the first of each task, and after each event the next of the same task
pub record RowFrom (j : List PlaceEvent) (tasks from : ℕ) (firsts nexts : List ℕ) : Type 0 where
  pub size : length nexts ≡ length j
  pub first : (t : ℕ) → t < tasks → IsFirst t j from (slice_index_or firsts t (length j))
  pub next : (t e : ℕ) → from ≤ e → t < tasks → IsOf t j e → IsFirst t j (suc e) (slice_index_or nexts e (length j))

-- for all events
abbrev pub RowIs : List PlaceEvent → ℕ → Row → Type 0
RowIs j tasks row = RowFrom j tasks 0 row.first.items row.next.items
