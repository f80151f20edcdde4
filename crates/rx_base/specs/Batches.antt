-- The paths of a batch.
use Rattle.std.specs.Prelude.{ℕ, List, [], ◌∷◌}
use Rattle.rx_base.specs.declared.lists.Paths.{Paths}
use Rattle.rx_base.specs.declared.lists.Paths.TheVariants.{Zero, One, More}

-- the paths in their order
abbrev pub batched : Paths → List (List ℕ)
batched Zero = []
batched (One first) = first.value ∷ []
batched (More paths) = paths.value.items
