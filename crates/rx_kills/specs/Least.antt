-- What is planned in its order, and which event of a plan is the least.
use Rattle.std.specs.Prelude.{◌≡◌, ◌⊎◌, ℕ, ◌<◌, ◌≤◌, List, [], ◌∷◌, All, Contains}
use Rattle.rx_rules.specs.declared.entries.Entry.{Entry}
use Rattle.rx_rules.specs.declared.entries.Entry.TheVariants.{Death, Join}
use Rattle.rx_rules.specs.Run.{Event, IsDue, NoneDue}
use Rattle.rx_kills.specs.declared.schedule.Due.{Due}
use Rattle.rx_kills.specs.declared.schedule.Due.TheVariants.{Join as Joins, Death as Dies}

-- the entry of what is due
abbrev pub entry_of : Due → Entry
entry_of (Joins p) = Join p
entry_of (Dies p) = Death p

-- at one moment joins come before deaths, and each of the two by place
abbrev pub EntryAfter : Entry → Entry → Type 0
EntryAfter (Join p) (Join q) = p.0 < q.0
EntryAfter (Join p) (Death q) = Unit {0}
EntryAfter (Death p) (Join q) = ⊥
EntryAfter (Death p) (Death q) = p.0 < q.0
EntryAfter _ _ = ⊥

-- the second event comes after the first: by moment, joins before deaths, and by place
abbrev pub EventAfter : Event → Event → Type 0
EventAfter a b = (a.moment < b.moment) ⊎ ((a.moment ≡ b.moment) × EntryAfter a.entry b.entry)

-- each event comes after the one before it, and the first after this one
abbrev pub EventsAfter : Event → List Event → Type 0
EventsAfter a [] = Unit {0}
EventsAfter a (x ∷ xs) = EventAfter a x × EventsAfter x xs

-- each event comes after the one before it
abbrev pub EventsAscend : List Event → Type 0
EventsAscend [] = Unit {0}
EventsAscend (x ∷ xs) = EventsAfter x xs

-- the event stands in the plan, and each other one comes after it
pub record IsLeast (event : Event) (plan : List Event) : Type 0 where
  pub stands : Contains plan event
  pub least : All (λ x. (x ≡ event) ⊎ EventAfter event x) plan

-- the entry is that of the least event, whose moment is reached where the history has n entries
abbrev pub IsLeastDue : ℕ → Entry → List Event → Type 0
IsLeastDue n entry plan = (event : Event) × (event.entry ≡ entry) × (event.moment ≤ n) × IsLeast event plan

-- no event's moment is reached there
abbrev pub NoneReached : ℕ → List Event → Type 0
NoneReached n plan = All (λ x. n < x.moment) plan

-- what is due is the entry of the least event, whose moment is reached
abbrev pub DueIsLeast : Type 0
DueIsLeast = (n : ℕ) (entry : Entry) (plan : List Event) → EventsAscend plan → IsDue n entry plan → IsLeastDue n entry plan

-- where nothing is due, no moment of the plan is reached
abbrev pub NoneIsReached : Type 0
NoneIsReached = (n : ℕ) (plan : List Event) → EventsAscend plan → NoneDue n plan → NoneReached n plan
