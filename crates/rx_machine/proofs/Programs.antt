-- What a checked script gives to a run.
use Rattle.std.proofs.Common.{◌≤◌}
use Rattle.rx_rules.proofs.Common.{Block, work, Given, Proper}
use Rattle.rx_syntax.specs.Grammar.{AllInRange}
use Rattle.rx_control.proofs.SomeWords.{makes-some}
use Rattle.rx_machine.specs.Holds.{RunsOn}

-- under a proper setup a machine runs on with it
pub runs-on : (code : Block) (U : Given) → Proper U → AllInRange code → work code ≤ 100000 → RunsOn code U
runs-on code U proper fits few = record { proper = proper; few = few; makes = makes-some code fits }
