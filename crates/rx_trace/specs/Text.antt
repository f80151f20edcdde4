-- The text of a trace: what the run was given, its entries, and the events of each place.
use Rattle.std.specs.Prelude.{ℕ, List, ◌++◌, codes}
use Rattle.std.specs.List.{flat_map}
use Rattle.rx_base.specs.declared.ids.Kill.{Kill}
use Rattle.rx_rules.specs.declared.entries.Entry.{Entry}
use Rattle.rx_rules.specs.declared.events.PlaceEvent.{PlaceEvent}
use Rattle.rx_rules.specs.Run.{Given}
use Rattle.rx_trace.specs.EntryLines.{entry_lines}
use Rattle.rx_trace.specs.EventLines.{journals_lines}
use Rattle.rx_trace.specs.Fields.{natural_field, kill_field}

-- the places and the words of each one's heap
abbrev pub sizes_line : ℕ → ℕ → List ℕ
sizes_line places heap = codes "places" ++ natural_field places ++ codes " heap" ++ natural_field heap ++ codes "\n"

-- the kills in their order
abbrev pub kills_line : List Kill → List ℕ
kills_line kills = codes "kills" ++ flat_map kill_field kills ++ codes "\n"

-- the moments of the joins in their order
abbrev pub joins_line : List ℕ → List ℕ
joins_line joins = codes "joins" ++ flat_map natural_field joins ++ codes "\n"

-- what the run was given
unfoldable pub setup_lines : Given → List ℕ
setup_lines setup = sizes_line setup.places setup.heap ++ kills_line setup.kills ++ joins_line setup.joins

-- the whole text
unfoldable pub trace_text : Given → List Entry → List (List PlaceEvent) → List ℕ
trace_text setup entries journals =
    codes "rx10 trace 2\n" ++ setup_lines setup ++ codes "history\n" ++ entry_lines 0 entries ++ journals_lines 0 journals ++ codes "done\n"
