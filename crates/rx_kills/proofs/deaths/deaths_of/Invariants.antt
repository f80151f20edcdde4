use Rattle.std.proofs.Common.{take}
use Rattle.rx_kills.specs.Deaths.{AreDeaths}
use Rattle.rx_kills.proofs.deaths.deaths_of.Given as goal

abbrev pub invariant-loop-i : goal.invariant-loop-i
invariant-loop-i l = AreDeaths (take l.i l.history.entries) l.deaths
