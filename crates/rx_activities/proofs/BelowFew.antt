-- There are 1 to 16 places in each history. (Belongs into rx_rules or rx_tree_laws.)
use Rattle.std.proofs.Common.{◌≡◌, ℕ, ◌≤◌, List, length, arith}
use Rattle.rx_rules.specs.declared.entries.Entry.{Entry}
use Rattle.rx_rules.proofs.Common.{opening, tree_of, Given, Folds}
use Rattle.rx_rules.proofs.Append.{fold-places}
use Rattle.rx_rules.proofs.Widths.{limit-tree}
use Rattle.rx_tree_laws.proofs.Histories.{fold_reached}
use Rattle.rx_tree_laws.proofs.Reached.{sound}

pub few_there : (U : Given) (es : List Entry) → Folds U es → (tree_of U.places es).places ≤ 16
few_there U es folds =
    let wide : length (tree_of U.places es).dead ≡ 16 = limit-tree U.places es in
    let within = (sound (fold_reached U.places es folds.some folds.few folds.allowed)).few in
    omega (arith, wide, within)

pub some_there : (U : Given) (es : List Entry) → Folds U es → 1 ≤ (tree_of U.places es).places
some_there U es folds =
    let some = folds.some in
    let e = fold-places 0 (opening U.places) es in
    omega (arith, some, e)
