use Rattle.std.proofs.Common.{◌≡◌, ◌+◌, ℕ}
use Rattle.rx_rules.proofs.Common.{Block, Given, Game}
use Rattle.rx_machine.specs.Holds.{MachineInvariant}
use Rattle.rx_machine.proofs.Whole.{RunTo}
use Rattle.rx_machine.proofs.machine.Machine.run.Given as goal

-- so many of the turns have used a pick
abbrev pub invariant-loop-made : goal.invariant-loop-made
invariant-loop-made g l =
    (used : ℕ)
    × ((j : ℕ) → g.P.Picks.number l.picks j ≡ g.P.Picks.number l.initial.picks (used + j))
    × ((code : Block) (U : Given) (G : Game) → MachineInvariant l.p.script code U l.initial.self G → RunTo l.p.script code U (g.P.Picks.number l.initial.picks) G l.self l._made used)
