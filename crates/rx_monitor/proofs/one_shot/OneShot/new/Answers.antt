use Rattle.rx_monitor.specs.Inside.Pages.{IsNote}
use Rattle.rx_monitor.proofs.OneShots.{opens}
use Rattle.rx_monitor.proofs.one_shot.OneShot.new.Goals as goal

pub vacant-requires : goal.vacant-requires
vacant-requires c = opens IsNote _
