use Rattle.std.proofs.Common.{take}
use Rattle.rx_history.specs.Setups.{given}
use Rattle.rx_history.specs.Events.{events_of}
use Rattle.rx_kills.specs.Deaths.{AreDeaths}
use Rattle.rx_verify.specs.Inside.Passing.{PassIs}
use Rattle.rx_verify.proofs.verifying.first_flaw.Given as goal

abbrev pub invariant-loop-i : goal.invariant-loop-i
invariant-loop-i g l =
    record {
      passed : PassIs g.L.FinishLedger.stands l.program.script (given l.history.setup) l.history.entries (events_of l.journals) l.i l.audit l.players;
      deaths : AreDeaths (take l.i l.history.entries) l.deaths;
    }
