-- A term as a stack of levels, the innermost first.
use Rattle.std.specs.Prelude.{ℕ, Bool, List, [], ◌∷◌, Option, Some, None}
use Rattle.rx_base.specs.declared.values.Fault.{Fault}
use Rattle.rx_rules.specs.Code.{Block, Nothing, Then}
use Rattle.rx_rules.specs.Terms.{Term, Empty, Raise, Turns, Trying, Body, Held, items_from}

-- what a task has still to run at one level
pub data Level : Type 0 where
  -- the statements of a block that are left, the path of the block, and the position of the first
  More : (left : Block) (path : List ℕ) (next : ℕ) → Level
  -- the turns that are left
  Again : (body : Block) (path : List ℕ) (turn times : ℕ) → Level
  -- what is above stands in the body of a try
  Tried : (dead_only : Bool) (handler : Block) (path : List ℕ) → Level
  -- what is above stands in the body of a finish
  Inside : Level
  -- the task waits at a scope
  Waiting : Level

-- the items up to the next try or finish
abbrev pub seq : List Level → Term
seq [] = Empty
seq (More left x i ∷ s) = items_from left x i (seq s)
seq (Again body x k times ∷ s) = Turns body x k times (seq s)
seq (Tried dead_only handler x ∷ s) = Empty
seq (Inside ∷ s) = Empty
seq (Waiting ∷ s) = Held (seq s)

-- a term in the tries and finishes of a stack
abbrev pub wrap : Term → List Level → Term
wrap t [] = t
wrap t (More left x i ∷ s) = wrap t s
wrap t (Again body x k times ∷ s) = wrap t s
wrap t (Tried dead_only handler x ∷ s) = wrap (Trying t dead_only handler x (seq s)) s
wrap t (Inside ∷ s) = wrap (Body t (seq s)) s
wrap t (Waiting ∷ s) = wrap t s

-- the term of a stack, on which faults may have been raised
abbrev pub term_of : Option (List Fault) → List Level → Term
term_of None s = wrap (seq s) s
term_of (Some faults) s = wrap (Raise faults) s

-- the next step stands at the front: a block has a statement left, and what is raised stands at a try, a finish or outermost
abbrev pub Settled : Option (List Fault) → List Level → Type 0
Settled None [] = Unit {0}
Settled None (More Nothing x i ∷ s) = ⊥
Settled None (More (Then stmt more) x i ∷ s) = Unit {0}
Settled None (Again body x k times ∷ s) = Unit {0}
Settled None (Tried dead_only handler x ∷ s) = Unit {0}
Settled None (Inside ∷ s) = Unit {0}
Settled None (Waiting ∷ s) = Unit {0}
Settled (Some faults) [] = Unit {0}
Settled (Some faults) (More left x i ∷ s) = ⊥
Settled (Some faults) (Again body x k times ∷ s) = ⊥
Settled (Some faults) (Tried dead_only handler x ∷ s) = Unit {0}
Settled (Some faults) (Inside ∷ s) = Unit {0}
Settled (Some faults) (Waiting ∷ s) = ⊥
