use Rattle.std.proofs.Common.{List, subst, sym}
use Rattle.rx_rules.proofs.Common.{Kill}
use Rattle.rx_history.specs.KillOrder.{IsAscending, ComesLast}
use Rattle.rx_history.proofs.Ascending.{ascending-push}
use Rattle.rx_history.proofs.setup.KillList.push.Goals as goal

pub invariant_of-self-2 : goal.invariant_of-self-2
invariant_of-self-2 c =
    subst IsAscending (sym c.in_ok-push.ensures.items)
    (ascending-push c.self.inside.kills.items c.args.item c.self.invariant (subst (λ (ks : List Kill). ComesLast ks c.args.item) (sym c.self.view_is) c.requires))
