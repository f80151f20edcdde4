-- The pages of a ledger, seen as the list of their slots.
use Rattle.std.specs.Prelude.{List, Option}
use Rattle.std.specs.Global.{Box}
use Rattle.rx_counts.specs.declared.record.Record.{Record}
use Rattle.rx_counts.specs.declared.pages.Pages.TheInside.{Inside}
use Rattle.rx_counts.specs.Inside.Paging.{lists, slots_of, Filled}

abbrev pub slots : Inside → List (Option (Box Record))
slots t = slots_of (lists t.pages.items) t.count

abbrev pub AreFilled : Inside → Type 0
AreFilled t = Filled (lists t.pages.items) t.count
