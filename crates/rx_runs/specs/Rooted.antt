-- Where the release of the root may stand in a history that goes on.
use Rattle.std.specs.Prelude.{◌≡◌, List, [], ◌∷◌}
use Rattle.rx_rules.specs.declared.entries.Entry.{Entry}
use Rattle.rx_rules.specs.declared.entries.Entry.TheVariants.{Root}

-- no entry follows a release of the root
abbrev pub RootIsLast : List Entry → Type 0
RootIsLast [] = Unit {0}
RootIsLast (Root lost masked thrown ∷ es) = es ≡ []
RootIsLast (e ∷ es) = RootIsLast es
