use Rattle.std.proofs.Common.{◌≡◌, ◌++◌, ℕ, List, length, map}
use Rattle.rx_span.specs.Inside.Copied.{joined}
use Rattle.rx_span.proofs.paths.cut.Given as goal

-- the paths so far, and the numbers of those that are left
abbrev pub invariant-loop-i : goal.invariant-loop-i
invariant-loop-i l =
    (xs : List (List ℕ)) → l.numbers ≡ joined xs → l.lengths ≡ map length xs
    → (left : List (List ℕ)) × (xs ≡ map (λ p. p.now) l.paths.items ++ left) × (l.rest ≡ joined left) × (length l.paths.items ≡ l.i)
