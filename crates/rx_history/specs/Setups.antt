-- What a setup is to the rules.
use Rattle.std.specs.Prelude.{ℕ, ◌-◌}
use Rattle.rx_rules.specs.Tree.{Tree}
use Rattle.rx_rules.specs.Run.{Given, in_all}
use Rattle.rx_history.specs.declared.setup.Setup.{Setup}

-- what the setup gives a run
abbrev pub given : Setup → Given
given s = record { places = s.places; heap = s.heap; kills = s.kills; joins = s.joins }

-- how many places have still to join
abbrev pub to_join : Given → Tree → ℕ
to_join U T = in_all U - T.places
