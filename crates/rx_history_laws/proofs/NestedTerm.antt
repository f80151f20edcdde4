-- The scopes that a task has open, in its term: the paths of their statements, the outermost first.
use Rattle.std.proofs.Common.{◌≡◌, ℕ, suc, Bool, true, false, cond, List, [], ◌∷◌, ◌++◌, Some, refl, subst, inl, inr}
use Rattle.rx_rules.proofs.Common.{Fault, Block, Nothing, Then, Stmt, At, Finish, Term, Empty, Run, Raise, Turns, Trying, Body, Held, Vars, Does, at, items_from, does, begins, granted, stmt_granted, body_granted, replaced, after_it}
use Rattle.rx_rules.proofs.StepRules.{StepRule, sets, takes_first, takes_other, repeats, tries, turns_over, turns_on, try_over, caught, uncaught, in_try, asks_in_try, waits, waits_raised, in_body, asks_in_body, releases, rule_of}
use Rattle.rx_history_laws.proofs.Paths.{Starts}
use Rattle.rx_history_laws.proofs.TermOrder.{Todo, Later, Sorted, Shrinks, Moved, IfLocal, items-todo, begins-todo, fine-moved, fails-moved, granted-moved, in-at, asking-if, moved_by}

-- each of the list begins with x
abbrev pub AllFrom : List ℕ → List (List ℕ) → Type 0
AllFrom x [] = Unit {0}
AllFrom x (p ∷ ps) = Starts x p × AllFrom x ps

abbrev pub Nested : Term → List (List ℕ) → Type 0
Nested Empty [] = Unit {0}
Nested Empty (p ∷ ps) = ⊥
Nested (Raise faults) [] = Unit {0}
Nested (Raise faults) (p ∷ ps) = ⊥
Nested (Run stmt x rest) [] = Nested rest []
Nested (Run stmt x rest) (p ∷ ps) = ⊥
Nested (Turns body x k times rest) [] = Nested rest []
Nested (Turns body x k times rest) (p ∷ ps) = ⊥
Nested (Trying inside dead_only handler x rest) ps = Nested inside ps × Nested rest [] × AllFrom (at x 0) ps
Nested (Body inside rest) [] = ⊥
Nested (Body inside rest) (p ∷ ps) = Nested inside ps × Nested rest [] × ((y : List ℕ) → Todo inside y → Starts p y) × Later p rest × AllFrom p ps
Nested (Held rest) [] = ⊥
Nested (Held rest) (p ∷ []) = Nested rest [] × Later p rest
Nested (Held rest) (p ∷ q ∷ ps) = ⊥

pub items-nested : (b : Block) (x : List ℕ) (i : ℕ) (rest : Term) → Nested rest [] → Nested (items_from b x i rest) []
items-nested Nothing x i rest n = n
items-nested (Then first more) x i rest n = items-nested more x (suc i) rest n

abbrev Flat : Term → Type 0
Flat t = Nested t []

-- where none is open, a local step opens none
flat_by : {vars : Vars} {here : ℕ} {t : Term} {d : Does} → StepRule vars here t d → Flat t → IfLocal Flat d
flat_by (sets z) n = n
flat_by (takes_first {first = first} {x = x} {rest = rest}) n = items-nested first (at x 0) 0 rest n
flat_by (takes_other {other = other} {x = x} {rest = rest}) n = items-nested other (at x 1) 0 rest n
flat_by repeats n = n
flat_by (tries {body = body} {x = x}) n = (items-nested body (at x 0) 0 Empty tt, n, tt)
flat_by turns_over n = n
flat_by (turns_on {body = body} {x = x} {k = k} {times = times} {rest = rest} left) n = items-nested body (at x k) 0 (Turns body x (suc k) times rest) n
flat_by try_over n = n.1
flat_by (caught {handler = handler} {x = x} {rest = rest}) n = items-nested handler (at x 1) 0 rest n.1
flat_by (in_try m) n = (flat_by m n.0, n.1, n.2)
flat_by (asks_in_try g a m) n = flat_by m n.0
flat_by (in_body m) n = absurd n
flat_by (asks_in_body g a m) n = absurd n
flat_by _ n = tt

body_nests : (p : List ℕ) (ps : List (List ℕ)) (inside after rest : Term) → Nested (Body inside rest) (p ∷ ps) → Shrinks inside after → Nested after ps → Nested (Body after rest) (p ∷ ps)
body_nests p ps inside after rest n s m = (m, n.1, λ y h. n.2 y (s y h), n.3, n.4)

nested_by : {vars : Vars} {here : ℕ} {t : Term} {d : Does} → StepRule vars here t d → (ps : List (List ℕ)) → Sorted t → Nested t ps → IfLocal (λ u. Nested u ps) d
nested_by (in_try m) ps s n = (nested_by m ps s.0 n.0, n.1, n.2)
nested_by (in_body m) [] s n = absurd n
nested_by (in_body {inside = inside} {left = left} {rest = rest} m) (p ∷ ps) s n =
    let k : Moved inside left = moved_by m s.0 in body_nests p ps inside left rest n k.shrinks (nested_by m ps s.0 n.0)
nested_by {d = d} (asks_in_try g a m) ps s n = asking-if (λ u. Nested u ps) d a
nested_by {d = d} (asks_in_body g a m) ps s n = asking-if (λ u. Nested u ps) d a
nested_by waits ps s n = tt
nested_by waits_raised ps s n = tt
nested_by releases ps s n = tt
nested_by try_over (p ∷ ps) s n = absurd n.0
nested_by caught (p ∷ ps) s n = absurd n.0
nested_by uncaught (p ∷ ps) s n = absurd n.0
nested_by rule [] s n = flat_by rule n
nested_by rule (p ∷ ps) s n = absurd n

-- a local step leaves the open scopes
pub local-nested : (vars : Vars) (here : ℕ) (t : Term) (ps : List (List ℕ)) → Sorted t → Nested t ps → IfLocal (λ u. Nested u ps) (does vars here t)
local-nested vars here t ps s n = nested_by (rule_of vars here t) ps s n

-- so does an answer of the store
pub fine-nested : (t : Term) (x : List ℕ) (ps : List (List ℕ)) → begins t ≡ Some x → Sorted t → Nested t ps → Nested (replaced t (after_it t)) ps
fine-nested (Run stmt z rest) x [] e s n = n
fine-nested (Run stmt z rest) x (p ∷ ps) e s n = absurd n
fine-nested (Trying inside dead_only handler z rest) x ps e s n = (fine-nested inside x ps e s.0 n.0, n.1, n.2)
fine-nested (Body inside rest) x [] e s n = absurd n
fine-nested (Body inside rest) x (p ∷ ps) e s n =
    body_nests p ps inside (replaced inside (after_it inside)) rest n (fine-moved inside x e s.0).shrinks (fine-nested inside x ps e s.0 n.0)
fine-nested _ x ps e s n = cc

pub fails-nested : (t : Term) (x : List ℕ) (faults : List Fault) (ps : List (List ℕ)) → begins t ≡ Some x → Sorted t → Nested t ps → Nested (replaced t (Raise faults)) ps
fails-nested (Run stmt z rest) x faults [] e s n = tt
fails-nested (Run stmt z rest) x faults (p ∷ ps) e s n = absurd n
fails-nested (Trying inside dead_only handler z rest) x faults ps e s n = (fails-nested inside x faults ps e s.0 n.0, n.1, n.2)
fails-nested (Body inside rest) x faults [] e s n = absurd n
fails-nested (Body inside rest) x faults (p ∷ ps) e s n =
    body_nests p ps inside (replaced inside (Raise faults)) rest n (fails-moved inside x faults e s.0).shrinks (fails-nested inside x faults ps e s.0 n.0)
fails-nested _ x faults ps e s n = cc

-- what a term begins lies within each scope that it has open
abbrev pub EachStarts : List (List ℕ) → List ℕ → Type 0
EachStarts [] z = Unit {0}
EachStarts (p ∷ ps) z = Starts p z × EachStarts ps z

pub begun-inside : (t : Term) (z : List ℕ) (ps : List (List ℕ)) → begins t ≡ Some z → Nested t ps → EachStarts ps z
begun-inside (Run stmt x rest) z [] e n = tt
begun-inside (Run stmt x rest) z (p ∷ ps) e n = absurd n
begun-inside (Trying inside dead_only handler x rest) z ps e n = begun-inside inside z ps e n.0
begun-inside (Body inside rest) z [] e n = absurd n
begun-inside (Body inside rest) z (p ∷ ps) e n = (n.2 z (begins-todo inside z e), begun-inside inside z ps e n.0)
begun-inside _ z ps e n = cc

-- A request that is granted: a statement that opens a scope adds its path at the inner end.

abbrev opens_scope : Stmt → Bool
opens_scope (Finish body) = true
opens_scope (At place body) = true
opens_scope _ = false

abbrev pub opens_one : Term → Bool
opens_one (Run stmt x rest) = opens_scope stmt
opens_one (Trying inside dead_only handler x rest) = opens_one inside
opens_one (Body inside rest) = opens_one inside
opens_one _ = false

abbrev pub grown : Bool → List (List ℕ) → List ℕ → List (List ℕ)
grown y ps x = cond y (ps ++ x ∷ []) ps

pub from-last : (x : List ℕ) (ps : List (List ℕ)) (p : List ℕ) → AllFrom x ps → Starts x p → AllFrom x (ps ++ p ∷ [])
from-last x [] p a h = (h, tt)
from-last x (q ∷ ps) p a h = (a.0, from-last x ps p a.1 h)

pub from-parts : (x : List ℕ) (ps : List (List ℕ)) (p : List ℕ) → AllFrom x (ps ++ p ∷ []) → AllFrom x ps × Starts x p
from-parts x [] p a = (tt, a.0)
from-parts x (q ∷ ps) p a = let r = from-parts x ps p a.1 in ((a.0, r.0), r.1)

from-grown : (y : Bool) (z : List ℕ) (ps : List (List ℕ)) (x : List ℕ) → AllFrom z ps → Starts z x → AllFrom z (grown y ps x)
from-grown true z ps x a h = from-last z ps x a h
from-grown false z ps x a h = a

grown_in : (y : Bool) (p : List ℕ) (ps : List (List ℕ)) (x : List ℕ) → p ∷ grown y ps x ≡ grown y (p ∷ ps) x
grown_in true p ps x = refl
grown_in false p ps x = refl

stmt-grown : (stmt : Stmt) (x : List ℕ) (rest : Term) → Flat rest → Later x rest → Nested (stmt_granted stmt x rest) (grown (opens_scope stmt) [] x)
stmt-grown (Finish body) x rest n l = (
  items-nested body x 0 Empty tt,
  n,
  λ y h. elim (items-todo body x 0 Empty y h) [
    | inl m ↦ (in-at x m.0 y m.2).0
    | inr r ↦ absurd r
  ],
  l,
  tt,
)
stmt-grown (At place body) x rest n l = (n, l)
stmt-grown _ x rest n l = n

pub goes_on : (inside after rest : Term) (z : List ℕ) → begins inside ≡ Some z → Body after rest ≡ body_granted inside after rest
goes_on Empty after rest z e = cc
goes_on (Raise faults) after rest z e = cc
goes_on _ after rest z e = refl

pub granted-nested : (faults : List Fault) (t : Term) (x : List ℕ) (ps : List (List ℕ)) → begins t ≡ Some x → Sorted t → Nested t ps → Nested (granted faults t) (grown (opens_one t) ps x)
granted-nested faults (Run stmt z rest) x [] e s n =
    let same : z ≡ x = cc in subst (λ v. Nested (stmt_granted stmt z rest) (grown (opens_scope stmt) [] v)) same (stmt-grown stmt z rest n s.1)
granted-nested faults (Run stmt z rest) x (p ∷ ps) e s n = absurd n
granted-nested faults (Trying inside dead_only handler z rest) x ps e s n = (granted-nested faults inside x ps e s.0 n.0, n.1, from-grown (opens_one inside) (at z 0) ps x n.2 (s.1 x (begins-todo inside x e)))
granted-nested faults (Body inside rest) x [] e s n = absurd n
granted-nested faults (Body inside rest) x (p ∷ ps) e s n =
    subst (λ u. Nested u (grown (opens_one inside) (p ∷ ps) x)) (goes_on inside (granted faults inside) rest x e)
    (subst (Nested (Body (granted faults inside) rest)) (grown_in (opens_one inside) p ps x)
    (granted-nested faults inside x ps e s.0 n.0, n.1, λ y h. n.2 y ((granted-moved faults inside s.0).shrinks y h), n.3, from-grown (opens_one inside) p ps x n.4 (n.2 x (begins-todo inside x e))))
granted-nested faults _ x ps e s n = cc
