use Rattle.std.proofs.Common.{◌≡◌, ◌≤◌, ◌++◌, reverse, length}
use Rattle.rx_history.specs.Events.{events_of}
use Rattle.rx_store.proofs.Journals.{told_by}
use Rattle.rx_store.proofs.stores.journals_of.Given as goal

abbrev pub invariant-loop-store : goal.invariant-loop-store
invariant-loop-store l = (events_of l.journals ++ told_by (reverse l.left.items) ≡ told_by l.fn.stores.items) × (length l.left.items ≤ l.journals.spare)

abbrev pub decreases-loop-store : goal.decreases-loop-store
decreases-loop-store l = length l.left.items
