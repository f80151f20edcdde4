-- How the statements that a task has begun since its last entry go along with the batch of its next.
use Rattle.std.specs.Prelude.{◌≡◌, ℕ, ◌≤◌, true, false, List, ◌++◌, length, take}
use Rattle.rx_rules.specs.Picked.{Player}
use Rattle.rx_verify.specs.declared.along.Along.{Along}

-- these were begun so far: they are as many of the first of the batch, or no front of it
pub record GoesAlong (batch : List (List ℕ)) (along : Along) (so_far : List (List ℕ)) : Type 0 where
  pub paths : along.paths.now ≡ batch
  pub few : along.count ≤ length batch
  pub same : along.same ≡ true → so_far ≡ take along.count batch
  pub other : along.same ≡ false → (more : List (List ℕ)) → batch ≡ so_far ++ more → ⊥

-- from one player of a task to another, without an entry between them
abbrev pub KeepsAlong : Along → Along → Player → Player → Type 0
KeepsAlong old new z y = (batch : List (List ℕ)) → GoesAlong batch old z.batch → GoesAlong batch new y.batch
