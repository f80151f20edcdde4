-- What notes tell of the scopes that stand.
use Rattle.std.specs.Prelude.{◌≡◌, ◌≢◌, List, Some}
use Rattle.rx_rules.specs.declared.tasks.Scope.{Scope}
use Rattle.rx_rules.specs.declared.entries.Entry.{Entry}
use Rattle.rx_rules.specs.Fold.{tree_of}
use Rattle.rx_rules.specs.Run.{Given, Folds}
use Rattle.rx_tree_laws.specs.Sound.{Each}
use Rattle.rx_chronicle.specs.Told.{opener_told, parent_told}

-- unless it is the root, the scope's opener and its parent are as the entries tell
abbrev pub IsNoted : List Entry → Scope → Type 0
IsNoted es g = g.number.0 ≢ 0 → (g.opener ≡ Some (opener_told es g.number)) × (g.parent ≡ Some (parent_told es g.number))

-- so it is with each scope of the tree to which they fold
abbrev pub NotesTell : Type 0
NotesTell = (U : Given) (es : List Entry) → Folds U es → Each (IsNoted es) (tree_of U.places es).scopes
