-- What the snapshots of a run tell.
use Rattle.std.specs.Prelude.{◌≡◌, ℕ, ◌+◌, List, length}
use Rattle.rx_rules.specs.declared.entries.Entry.{Entry}
use Rattle.rx_monitor.specs.declared.summary.Summary.{Summary}
use Rattle.rx_monitor.specs.Boards.{EndsWith}
use Rattle.rx_monitor.specs.Sums.{AreSums, NeverShrinks}
use Rattle.rx_objects.specs.Shown.{summary_of}

-- n snapshots and one more of a run with these entries: each is the summary of as many of the first entries as it says, none is of fewer
-- than the one before, and the last is that of all
pub record IsWatchOf (n places : ℕ) (es : List Entry) (items : List Summary) : Type 0 where
  pub count : length items ≡ n + 1
  pub sums : AreSums (summary_of places es) items
  pub rises : NeverShrinks 0 items
  pub last : EndsWith items (summary_of places es (length es))
