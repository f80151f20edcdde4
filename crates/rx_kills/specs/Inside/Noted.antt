-- Deaths noted, entry by entry.
use Rattle.std.specs.Prelude.{ℕ, cond, is_none, List, Option, Some, slice_index_or, slice_set}
use Rattle.rx_rules.specs.declared.entries.Entry.{Entry}
use Rattle.rx_rules.specs.declared.entries.Entry.TheVariants.{Death}

-- the deaths with entry n, where it is the first death of its place
abbrev pub with_death : List (Option ℕ) → ℕ → Entry → List (Option ℕ)
with_death deaths n (Death d) = cond (is_none (slice_index_or deaths d.0 (Some 0))) (slice_set deaths d.0 (Some n)) deaths
with_death deaths n _ = deaths
