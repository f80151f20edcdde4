use Rattle.std.proofs.Common.{◌≡◌, ℕ, List, ◌++◌, map}
use Rattle.rx_span.specs.Inside.Kept.{IsKept, Linked}
use Rattle.rx_span.proofs.links.read.Given as goal

-- what was read, and then the rest, is the chain
abbrev pub invariant-loop-rest : goal.invariant-loop-rest
invariant-loop-rest l =
    (cs : List (List (List ℕ))) (c : List (List ℕ)) → Linked cs (map (λ p. p.now) l.paths) l.links → IsKept cs l.fn.longest c → (d : List (List ℕ)) × IsKept cs l.rest d × (c ≡ l.chain ++ d)

abbrev pub decreases-loop-rest : goal.decreases-loop-rest
decreases-loop-rest l = l.rest.length
