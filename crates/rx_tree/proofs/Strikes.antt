-- One turn of the loop that strikes each task.
use Rattle.std.proofs.Common.{◌≡◌, ℕ, ◌+◌, ◌<◌, List, ◌++◌, map, take, drop, length, get_or, set, ap, ◌∙◌, arith}
use Rattle.std.proofs.lemmas.List.{get_or_default}
use Rattle.std.proofs.lemmas.List.Edits.{map_over_more}
use Rattle.rx_rules.specs.declared.tasks.Task.{Task}
use Rattle.rx_rules.specs.declared.tasks.Blow.{Blow}
use Rattle.rx_rules.proofs.Common.{hit}

pub one_more : (b : Blow) (xs ys : List Task) (i : ℕ) (d r : Task) → i < length xs → length ys ≡ length xs → ys ≡ map (hit b) (take i xs) ++ drop i xs → r ≡ hit b (get_or ys i d) → set ys i r ≡ map (hit b) (take (i + 1) xs) ++ drop (i + 1) xs
one_more b xs ys i d r h len inv e =
    let inside : i < length ys = omega arith in
    ap (set ys i) e ∙ map_over_more (hit b) xs ys i (get_or ys i d) h inv (get_or_default ys i d (get_or ys i d) inside)
