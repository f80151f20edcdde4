-- What a plan starts with.
use Rattle.std.specs.Prelude.{Bool, true, false, List, [], ◌∷◌}
use Rattle.rx_rules.specs.declared.entries.Entry.{Entry}
use Rattle.rx_rules.specs.declared.entries.Entry.TheVariants.{Join}
use Rattle.rx_rules.specs.Run.{Event}

-- the entry is a join
abbrev pub is_join : Entry → Bool
is_join (Join p) = true
is_join _ = false

-- the plan starts with a join
abbrev pub starts_with_join : List Event → Bool
starts_with_join [] = false
starts_with_join (x ∷ xs) = is_join x.entry
