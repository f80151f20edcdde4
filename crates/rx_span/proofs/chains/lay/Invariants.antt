use Rattle.std.proofs.Common.{◌≡◌, ℕ, ◌+◌, ◌-◌, ◌≤◌, ◌++◌, ◌∷◌, suc, length, take, replicate}
use Rattle.rx_span.specs.Inside.Kept.{none}
use Rattle.rx_span.proofs.chains.lay.Given as goal

abbrev pub invariant-loop-rows : goal.invariant-loop-rows
invariant-loop-rows l =
    (k : ℕ) × (l.from + suc k ≤ l.len) × (l.from + suc k ≡ length l.rows.items) × (l.rows.items ≡ take l.from l.fn.rows.items ++ l.fn.passed ∷ replicate k none)

abbrev pub decreases-loop-rows : goal.decreases-loop-rows
decreases-loop-rows l = l.len - length l.rows.items
