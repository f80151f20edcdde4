-- A term waits at a scope exactly where `Held` stands at its front.
use Rattle.std.specs.Prelude.{Bool, true, false}
use Rattle.rx_rules.specs.Terms.{Term, Empty, Run, Raise, Turns, Trying, Body, Held}

-- the task waits at a scope
abbrev pub is_held : Term → Bool
is_held (Trying inside dead_only handler x rest) = is_held inside
is_held (Body inside rest) = is_held inside
is_held (Held rest) = true
is_held _ = false

-- nowhere in the term does a task wait
abbrev pub Unheld : Term → Type 0
Unheld Empty = Unit {0}
Unheld (Run stmt x rest) = Unheld rest
Unheld (Raise faults) = Unit {0}
Unheld (Turns body x k times rest) = Unheld rest
Unheld (Trying inside dead_only handler x rest) = Unheld inside × Unheld rest
Unheld (Body inside rest) = Unheld inside × Unheld rest
Unheld (Held rest) = ⊥

-- a task waits at the front of the term at most
abbrev pub HeldInFront : Term → Type 0
HeldInFront Empty = Unit {0}
HeldInFront (Run stmt x rest) = Unheld rest
HeldInFront (Raise faults) = Unit {0}
HeldInFront (Turns body x k times rest) = Unheld rest
HeldInFront (Trying inside dead_only handler x rest) = HeldInFront inside × Unheld rest
HeldInFront (Body inside rest) = HeldInFront inside × Unheld rest
HeldInFront (Held rest) = Unheld rest
