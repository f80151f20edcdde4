use Rattle.std.proofs.Common.{ℕ, ◌<◌, ◌≤◌, ◌+◌}
use Rattle.rx_rules.proofs.Common.{Player, Cells}
use Rattle.rx_runs.specs.Steps.{steps}
use Rattle.rx_history.specs.Events.{events_of}
use Rattle.rx_verify.specs.Table.{TableIs}
use Rattle.rx_verify.specs.Along.{KeepsAlong}
use Rattle.rx_verify.specs.Stood.{Stood, Walked}
use Rattle.rx_verify.proofs.seat.Seat.advance.Given as goal

abbrev pub invariant-loop-made : goal.invariant-loop-made
invariant-loop-made l =
    (tasks : ℕ) → TableIs (events_of l.journals) tasks l.table → l.initial.self.who.task.0 < tasks → (z : Player) (left : Cells) → Stood l.p.script (events_of l.journals) l.initial.self z left → (y : Player) × (rest : Cells)
    × Walked l.p.script (events_of l.journals) l.initial.self l.self z left y rest × (steps y.term + l._made ≤ 300000) × KeepsAlong l.initial.along l.along z y
