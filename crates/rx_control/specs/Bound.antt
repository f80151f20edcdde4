-- A local step of a term leaves fewer steps.
use Rattle.std.specs.Prelude.{ℕ, ◌<◌}
use Rattle.rx_rules.specs.Terms.{Does, Local}
use Rattle.rx_runs.specs.Steps.{steps}

-- a local step leaves fewer than so many steps
abbrev pub StepFalls : ℕ → Does → Type 0
StepFalls n (Local left vars) = steps left < n
StepFalls n _ = Unit {0}
