use Rattle.std.proofs.Common.{◌≤◌, ◌+◌, ℕ}
use Rattle.rx_rules.proofs.Common.{Block, Given, Game, Player}
use Rattle.rx_runs.specs.Steps.{steps}
use Rattle.rx_machine.specs.Holds.{Acting}
use Rattle.rx_machine.specs.Inside.Requests.{OnlyStores}
use Rattle.rx_machine.proofs.machine.Machine.run_on.Given as goal

abbrev pub invariant-loop-made : goal.invariant-loop-made
invariant-loop-made g l =
    OnlyStores l.initial.self l.self
    × ((code : Block) (U : Given) (k : ℕ) (q : Player) (G : Game) → Acting l.p.script code U l.initial.self k l.i l.here q l.initial.mover G → (r : Player) × Acting l.p.script code U l.self k l.i l.here r l.mover G × (steps r.term + l._made ≤ 300000))
