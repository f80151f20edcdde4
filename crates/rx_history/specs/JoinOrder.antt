-- Lists of moments in their order.
use Rattle.std.specs.Prelude.{ℕ, ◌≤◌, List, [], ◌∷◌}
use Rattle.rx_rules.specs.Run.{AreJoins}

-- no moment is below the one before it
abbrev pub NeverFalls : List ℕ → Type 0
NeverFalls es = AreJoins 0 es

-- the moment is at least the last of the list
abbrev pub IsAtLeastLast : List ℕ → ℕ → Type 0
IsAtLeastLast [] moment = Unit {0}
IsAtLeastLast (e ∷ []) moment = e ≤ moment
IsAtLeastLast (e ∷ f ∷ es) moment = IsAtLeastLast (f ∷ es) moment
