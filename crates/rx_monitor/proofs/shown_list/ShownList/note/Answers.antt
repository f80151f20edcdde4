use Rattle.std.proofs.Common.{rules}
use Rattle.rx_monitor.proofs.ShownLists.{notes}
use Rattle.rx_monitor.proofs.shown_list.ShownList.note.Goals as goal

pub split_seat-requires : goal.split_seat-requires
split_seat-requires c = (search rules, search rules, notes _ _)
