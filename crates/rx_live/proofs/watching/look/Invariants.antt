use Rattle.std.proofs.Common.{◌≡◌, length}
use Rattle.rx_monitor.specs.Boards.{StandInOrder}
use Rattle.rx_live.proofs.watching.look.Given as goal

abbrev pub invariant-loop-n : goal.invariant-loop-n
invariant-loop-n g l = (length l.items.items ≡ l.n) × (l.reader.board ≡ l.fn.looker.reader.board) × StandInOrder l.reader.list 0 l.items.items
