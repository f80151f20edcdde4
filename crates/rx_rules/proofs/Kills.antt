-- The order of kills.
use Rattle.std.proofs.Common.{ℕ, ◌<◌, ◌≤◌, List, [], ◌∷◌, inl, inr, arith}
use Rattle.rx_rules.proofs.Common.{Kill, ComesAfter, Event, IsDue, NoneDue}
use Rattle.rx_rules.specs.declared.entries.Entry.{Entry}

-- what comes after a later kill comes after the earlier one
pub further : (a b c : Kill) → ComesAfter a b → ComesAfter b c → ComesAfter a c
further a b c (inl x) (inl y) = inl (omega arith)
further a b c (inl x) (inr y) = let e = y.0 in inl (omega arith)
further a b c (inr x) (inl y) = let e = x.0 in inl (omega arith)
further a b c (inr x) (inr y) = let e = x.0 in let f = y.0 in let g = x.1 in let h = y.1 in inr (omega arith, omega arith)

-- what is due is not free of what is due
pub due-not : (n : ℕ) (e : Entry) (xs : List Event) → IsDue n e xs → NoneDue n xs → ⊥
due-not n e [] h k = h
due-not n e (x ∷ xs) h k = let low : x.moment ≤ n = h.1 in let high : n < x.moment = k in absurd (omega arith)
