use Rattle.std.proofs.Common.{◌≡◌, ◌++◌, ℕ, List, drop}
use Rattle.rx_rules.proofs.Common.{told}
use Rattle.rx_span.specs.Inside.Copied.{AreCopied}
use Rattle.rx_span.proofs.paths.statements.Given as goal

-- those of the entries so far are copied
abbrev pub invariant-loop-i : goal.invariant-loop-i
invariant-loop-i l =
    (xs : List (List ℕ)) × AreCopied xs l.copies × (xs ++ told (drop l.i l.history.entries) ≡ told l.history.entries)

-- and those of the batch so far
abbrev pub invariant-loop-k : goal.invariant-loop-k
invariant-loop-k l =
    (done : List (List ℕ)) → AreCopied done l.initial.copies → (xs : List (List ℕ)) × AreCopied xs l.copies × (xs ++ drop l.k l.batch ≡ done ++ l.batch)
