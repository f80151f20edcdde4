-- Which commands take a pair.
use Rattle.std.specs.Prelude.{Bool, true, false}
use Rattle.rx_words.specs.declared.command.Command.{Command}
use Rattle.rx_words.specs.declared.command.Command.TheVariants.{Verify, Span}

-- the source of the command is a pair of a script and a trace, and not a script alone
abbrev pub takes : Command → Bool
takes Verify = true
takes Span = true
takes _ = false
