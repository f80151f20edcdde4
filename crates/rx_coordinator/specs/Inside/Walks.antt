-- The walk from a scope up to the first one for which someone waits.
use Rattle.std.specs.Prelude.{◌≡◌, ◌⊎◌, ℕ, ◌<◌, ◌==◌, true, cond, List, Option, Some, None}
use Rattle.rx_base.specs.declared.ids.ScopeId.{ScopeId}
use Rattle.rx_base.specs.declared.ids.PlaceId.{PlaceId}
use Rattle.rx_rules.specs.declared.entries.Entry.{Entry}
use Rattle.rx_rules.specs.Tree.{Tree, on_chain, quiet}
use Rattle.rx_rules.specs.Fold.{tree_of}
use Rattle.rx_coordinator.specs.declared.waiters.Waiter.{Waiter}
use Rattle.rx_coordinator.specs.declared.waiters.Waiters.{Waiters}
use Rattle.rx_coordinator.specs.declared.waiters.Due.{Due}
use Rattle.rx_coordinator.specs.declared.requests.Answer.{Answer}
use Rattle.rx_coordinator.specs.declared.requests.Answer.TheVariants.{NotYet, NoMemory}
use Rattle.rx_coordinator.specs.declared.parking.Retried.{Retried}
use Rattle.rx_coordinator.specs.declared.parking.Retried.TheVariants.{Freed, Passed, Short}
use Rattle.rx_coordinator.specs.Stands.{IsReplyTo, May}
use Rattle.rx_coordinator.specs.Waiters.{waiter_at, ScopeIsDue}
use Rattle.rx_coordinator.specs.Parking.{WaiterIsThere, IsThere, scope_numbered, request_of, answer_to}

-- each scope on the chain from `from` for which someone waits is on the chain from `to`
abbrev pub AllAbove : Tree → Waiters → ScopeId → ScopeId → Type 0
AllAbove T ws from to =
    (n : ℕ) (who : Waiter) → waiter_at ws n ≡ Some who → on_chain T (scope_numbered n) from ≡ true → on_chain T (scope_numbered n) to ≡ true

-- someone waits for the scope, and for none between; or no one waits on the whole chain
abbrev pub Nearest : Tree → Waiters → ScopeId → Option ScopeId → Type 0
Nearest T ws from (Some c) = ((who : Waiter) × (waiter_at ws c.0 ≡ Some who)) × AllAbove T ws from c
Nearest T ws from None = (n : ℕ) (who : Waiter) → waiter_at ws n ≡ Some who → on_chain T (scope_numbered n) from ≡ true → ⊥

-- who waits does so there, and stands unstruck, or is due
pub record AllThere (T : Tree) (ws : Waiters) (due : Due) : Type 0 where
  pub there : (n : ℕ) (who : Waiter) → waiter_at ws n ≡ Some who → WaiterIsThere T n who
  pub unstruck : (n : ℕ) (who : Waiter) → waiter_at ws n ≡ Some who → ScopeIsDue due n ⊎ IsThere T who

-- each scope on the chain that is quiet and for which someone waits is due
abbrev pub AllDue : Tree → Waiters → ScopeId → Due → Type 0
AllDue T ws from due =
    (n : ℕ) (who : Waiter) → waiter_at ws n ≡ Some who → on_chain T (scope_numbered n) from ≡ true → quiet T (scope_numbered n) ≡ true
    → ScopeIsDue due n

-- the first scope that is due and for which someone waits, or there is none
abbrev pub NextDue : Waiters → Due → Option (ScopeId × Waiter) → Type 0
NextDue ws due (Some x) =
    ScopeIsDue due x.0.0 × (waiter_at ws x.0.0 ≡ Some x.1) × ((n : ℕ) → ScopeIsDue due n → n < x.0.0 → waiter_at ws n ≡ None)
NextDue ws due None = (n : ℕ) → ScopeIsDue due n → waiter_at ws n ≡ None

-- no row has changed, or that of one scope was taken away
abbrev pub IsSame : Waiters → Waiters → Type 0
IsSame ws us = (m : ℕ) → waiter_at us m ≡ waiter_at ws m

abbrev pub IsLeft : ℕ → Waiters → Waiters → Type 0
IsLeft n ws us = (m : ℕ) → waiter_at us m ≡ cond (m == n) None (waiter_at ws m)

-- who asked again is released and waits no more, or has to wait on, or may not ask any more and waits no more
abbrev pub RetriedIs : ℕ → List Entry → ℕ → Waiter → Retried → Waiters → (List Entry → Type 0) → Waiters → Type 0
RetriedIs p es n who (Freed o) ws S us = IsReplyTo p es (request_of who) (answer_to who o) S × IsLeft n ws us
RetriedIs p es n who Passed ws S us =
    S es × (IsSame ws us ⊎ ((May (tree_of p es) (request_of who) → ⊥) × IsLeft n ws us))
RetriedIs p es n who Short ws S us = S es × IsSame ws us

-- who has to wait is put to those who wait, or memory ran out
abbrev pub ParkedIs : ScopeId → Waiter → PlaceId → Waiters → Answer → Waiters → Type 0
ParkedIs s who place ws (NotYet q) us = (q ≡ place) × ((n : ℕ) → waiter_at us n ≡ cond (n == s.0) (Some who) (waiter_at ws n))
ParkedIs s who place ws NoMemory us = (n : ℕ) → waiter_at us n ≡ waiter_at ws n
ParkedIs s who place ws _ us = ⊥
