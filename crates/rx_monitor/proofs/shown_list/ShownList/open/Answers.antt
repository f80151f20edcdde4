use Rattle.rx_monitor.proofs.ShownLists.{opens}
use Rattle.rx_monitor.proofs.shown_list.ShownList.open.Goals as goal

pub of_words-requires : goal.of_words-requires
of_words-requires c = opens
