use Rattle.std.proofs.Common.{sym, subst}
use Rattle.rx_monitor.specs.declared.summary.Summary.{Summary}
use Rattle.rx_monitor.specs.Boards.{MayFollow}
use Rattle.rx_objects.proofs.showing.put_up.Goals as goal

pub show-requires : goal.show-requires
show-requires g c = λ x ends. subst (λ (s : Summary). MayFollow x s) (sym c.summary.ensures) (c.requires.follows x ends)
