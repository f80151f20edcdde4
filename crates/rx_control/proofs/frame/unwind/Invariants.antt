use Rattle.std.proofs.Common.{ℕ, List, Some, vec_len}
use Rattle.rx_rules.proofs.Common.{Fault}
use Rattle.rx_control.specs.Levels.{Level}
use Rattle.rx_syntax.specs.Shape.{Shape}
use Rattle.rx_control.specs.Stands.{FramesStand}
use Rattle.rx_control.proofs.Settling.{Leads}
use Rattle.rx_control.proofs.frame.unwind.Given as goal

abbrev pub invariant-frames : goal.invariant-frames
invariant-frames l = (s : Shape) (base : List ℕ) (levels : List Level) (faults : List Fault) → FramesStand s base l.fn.frames.items levels → Leads s base l.frames.items (Some faults) levels

abbrev pub decreases-frames : goal.decreases-frames
decreases-frames l = vec_len l.frames
