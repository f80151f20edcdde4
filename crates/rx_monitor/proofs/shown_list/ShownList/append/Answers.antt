use Rattle.std.proofs.Common.{rules}
use Rattle.rx_monitor.proofs.ShownLists.{grows}
use Rattle.rx_monitor.proofs.shown_list.ShownList.append.Goals as goal

pub compare_exchange_with-requires : goal.compare_exchange_with-requires
compare_exchange_with-requires c = (search rules, search rules, grows _ _ _ _ c.requires.1)
