use Rattle.std.proofs.Common.{ap, ◌∙◌}
use Rattle.rx_activities.specs.declared.hand.Hand.{Hand}
use Rattle.rx_activities.proofs.activity.activity_with.Goals as goal

pub returns-in-Ok : goal.returns-in-Ok
returns-in-Ok g c = c.activity_of.ensures ∙ ap (λ (h : Hand). h.place) c.in-Ok.ensures.hand
