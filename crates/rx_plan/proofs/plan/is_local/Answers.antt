use Rattle.rx_plan.proofs.Plans.{set-local, throw-local, if-local, repeat-local, try-local}
use Rattle.rx_plan.proofs.plan.is_local.Goals as goal

pub returns-in-Set : goal.returns-in-Set
returns-in-Set c y s t vars here x rest h = set-local s _ _ t vars here x rest (rw c.in-Set.is at h)

pub returns-in-Throw : goal.returns-in-Throw
returns-in-Throw c y s t vars here x rest h = throw-local s _ t vars here x rest (rw c.in-Throw.is at h)

pub returns-in-If : goal.returns-in-If
returns-in-If c y s t vars here x rest h = if-local s _ _ _ t vars here x rest (rw c.in-If.is at h)

pub returns-in-Repeat : goal.returns-in-Repeat
returns-in-Repeat c y s t vars here x rest h = repeat-local s _ _ t vars here x rest (rw c.in-Repeat.is at h)

pub returns-in-Try : goal.returns-in-Try
returns-in-Try c y s t vars here x rest h = try-local s _ _ _ t vars here x rest (rw c.in-Try.is at h)
