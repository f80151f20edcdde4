use Rattle.std.proofs.Common.{◌≡◌, ◌&&◌, ℕ, ◌<◌, take}
use Rattle.std.specs.List.{list_any}
use Rattle.rx_rules.proofs.Common.{has_bit, was_lost_at}
use Rattle.rx_tree.specs.Inside.Removal.{holds_scope}
use Rattle.rx_tree.proofs.removal.lost_places.Given as goal

abbrev pub invariant-loop-x : goal.invariant-loop-x
invariant-loop-x l =
    (q : ℕ) → q < 16 → has_bit l.lost.0 q ≡ list_any (λ x. holds_scope l.fn.inside x.under && was_lost_at q x) (take l.x-index l.tasks)
