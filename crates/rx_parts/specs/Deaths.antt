-- Which entry shows a death in a book.
use Rattle.std.specs.Prelude.{ℕ, cond, nat_le, Option, Some, None}
use Rattle.rx_rules.specs.declared.entries.Entry.{Entry}
use Rattle.rx_rules.specs.declared.entries.Entry.TheVariants.{Death}

-- the place whose death the entry is; a book shows the places 0 to 15
abbrev pub place_shown : Entry → Option ℕ
place_shown (Death d) = cond (nat_le d.0 15) (Some d.0) None
place_shown _ = None
