use Rattle.std.proofs.Common.{ℕ, List, subst, sym}
use Rattle.rx_history.specs.JoinOrder.{NeverFalls, IsAtLeastLast}
use Rattle.rx_history.proofs.Rising.{rising-push}
use Rattle.rx_history.proofs.setup.JoinList.push.Goals as goal

pub invariant_of-self-2 : goal.invariant_of-self-2
invariant_of-self-2 c =
    subst NeverFalls (sym c.in_ok-push.ensures.items)
    (rising-push c.self.inside.moments.items c.args.item c.self.invariant (subst (λ (es : List ℕ). IsAtLeastLast es c.args.item) (sym c.self.view_is) c.requires))
