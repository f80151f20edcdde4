-- What the steps of an activity change.
use Rattle.std.specs.Prelude.{◌≡◌}
use Rattle.rx_rules.specs.Terms.{Term, does}
use Rattle.rx_check.specs.Checked.{Checked}
use Rattle.rx_history.specs.declared.step.Next.{Next}
use Rattle.rx_control.specs.Stands.{StandsFor}
use Rattle.rx_history.specs.Next.{next_of}
use Rattle.rx_activities.specs.declared.hand.Hand.{Hand}

-- nothing is changed but the control and the statements that it has begun
pub record OnlySteps (a b : Hand) : Type 0 where
  pub ticket : b.ticket ≡ a.ticket
  pub place : b.place ≡ a.place
  pub made : b.made ≡ a.made
  pub pass : b.pass ≡ a.pass
  pub seat : b.seat ≡ a.seat
  pub told : b.told ≡ a.told

-- this is the activity's next step
abbrev pub IsNext : Checked → Hand → Next → Type 0
IsNext p a next = (t : Term) → StandsFor p.script a.control.value t → next ≡ next_of (does a.control.value.vars a.place.0 t)
