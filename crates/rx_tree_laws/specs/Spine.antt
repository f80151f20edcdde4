-- The scopes that a task has open stand in its term.
use Rattle.std.specs.Prelude.{◌≡◌, List, [], ◌∷◌}
use Rattle.rx_rules.specs.declared.tasks.Kind.{Kind}
use Rattle.rx_rules.specs.declared.tasks.Kind.TheVariants.{Finish}
use Rattle.rx_rules.specs.Terms.{Term, Empty, Run, Raise, Turns, Trying, Body, Held}

-- no scope is open anywhere in the term
abbrev pub NoScopeOpen : Term → Type 0
NoScopeOpen Empty = Unit {0}
NoScopeOpen (Run stmt x rest) = NoScopeOpen rest
NoScopeOpen (Raise faults) = Unit {0}
NoScopeOpen (Turns body x k times rest) = NoScopeOpen rest
NoScopeOpen (Trying inside dead_only handler x rest) = NoScopeOpen inside × NoScopeOpen rest
NoScopeOpen (Body inside rest) = ⊥
NoScopeOpen (Held rest) = ⊥

-- the open scopes are of these kinds, the outermost first; a task that waits does so at the innermost one
abbrev pub Spine : Term → List Kind → Type 0
Spine Empty ks = ks ≡ []
Spine (Run stmt x rest) ks = (ks ≡ []) × NoScopeOpen rest
Spine (Raise faults) ks = ks ≡ []
Spine (Turns body x k times rest) ks = (ks ≡ []) × NoScopeOpen rest
Spine (Trying inside dead_only handler x rest) ks = Spine inside ks × NoScopeOpen rest
Spine (Body inside rest) [] = ⊥
Spine (Body inside rest) (k ∷ ks) = (k ≡ Finish) × Spine inside ks × NoScopeOpen rest
Spine (Held rest) [] = ⊥
Spine (Held rest) (k ∷ []) = NoScopeOpen rest
Spine (Held rest) (k ∷ j ∷ ks) = ⊥
