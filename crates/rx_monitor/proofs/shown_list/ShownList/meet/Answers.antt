use Rattle.std.proofs.Common.{rules}
use Rattle.rx_monitor.proofs.ShownLists.{meets, settles}
use Rattle.rx_monitor.proofs.shown_list.ShownList.meet.Goals as goal

pub join_seat-requires : goal.join_seat-requires
join_seat-requires c = (search rules, search rules, search rules, search rules, meets _ _ _ _)

pub load-requires : goal.load-requires
load-requires c = (search rules, search rules, settles _ _ _)
