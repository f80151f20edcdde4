-- What the words of the command ask for.
use Rattle.std.specs.Prelude.{◌≤◌}
use Rattle.rx10_coordinator.specs.declared.command.Command.{Command}
use Rattle.rx10_coordinator.specs.declared.command.Command.TheVariants.{Serve}
use Rattle.rx10_coordinator.specs.declared.command.Said.{Said}
use Rattle.rx10_coordinator.specs.declared.command.Said.TheVariants.{Places}

-- the places are 1 to 16
abbrev pub IsCommand : Command → Type 0
IsCommand (Serve n log) = (1 ≤ n) × (n ≤ 16)
IsCommand _ = Unit {0}

-- so are those that one option asks for
abbrev pub IsSaid : Said → Type 0
IsSaid (Places n) = (1 ≤ n) × (n ≤ 16)
IsSaid _ = Unit {0}
