-- Ids with the same number are the same.
use Rattle.std.proofs.Common.{◌≡◌, ℕ, ap}
use Rattle.rx_base.specs.declared.ids.PlaceId.{PlaceId}
use Rattle.rx_base.specs.declared.ids.ScopeId.{ScopeId}
use Rattle.rx_base.specs.declared.ids.TaskId.{TaskId}

pub place-is : (a b : PlaceId) → a.0 ≡ b.0 → a ≡ b
place-is a b e = ap (λ (n : ℕ). let q : PlaceId = record { 0 = n } in q) e

pub scope-is : (a b : ScopeId) → a.0 ≡ b.0 → a ≡ b
scope-is a b e = ap (λ (n : ℕ). let q : ScopeId = record { 0 = n } in q) e

pub task-is : (a b : TaskId) → a.0 ≡ b.0 → a ≡ b
task-is a b e = ap (λ (n : ℕ). let q : TaskId = record { 0 = n } in q) e
