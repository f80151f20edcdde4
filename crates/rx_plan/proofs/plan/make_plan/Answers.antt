use Rattle.std.proofs.Common.{◌∙◌, ap}
use Rattle.rx_rules.proofs.Common.{ref_in}
use Rattle.rx_plan.proofs.Plans.{set-plan, get-plan, put-plan}
use Rattle.rx_plan.proofs.plan.make_plan.Goals as goal

pub returns-in-Set : goal.returns-in-Set
returns-in-Set c t h = set-plan _ _ _ _ _ _ _ t (rw c.in-Set.is at h) c.evaluate.ensures (c.plan_set.ensures _ _)

pub returns-in-Get : goal.returns-in-Get
returns-in-Get c t h =
    get-plan _ _ _ _ _ _ _ _ _ t (rw c.in-Get.is at h) c.evaluate-index.ensures (c.reference.ensures ∙ ap ref_in c.get.ensures) (c.plan_get.ensures _ _)

pub returns-in-Put : goal.returns-in-Put
returns-in-Put c t h =
    put-plan _ _ _ _ _ _ _ _ _ _ t (rw c.in-Put.is at h) c.evaluate-index-in-Put.ensures c.evaluate-word.ensures (c.reference-in-Put.ensures ∙ ap ref_in c.get-in-Put.ensures) (c.plan_put.ensures _ _)
