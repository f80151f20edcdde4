-- What a step of a task tells: which statement begins with it, which store it asks, and for which place it starts a task.
use Rattle.std.specs.Prelude.{◌≡◌, ℕ, ◌<◌, List, Option, Some, None}
use Rattle.rx_rules.specs.Terms.{Does, Local, Makes, Gets, Puts, Forgets, Calls, Spawns, Waits, Releases, Done}

-- the statement that begins, where a request or a store call is made
abbrev pub BeginsStatement : Does → Option (List ℕ) → Type 0
BeginsStatement (Local left vars) b = Unit {0}
BeginsStatement (Waits faults) b = Unit {0}
BeginsStatement Releases b = Unit {0}
BeginsStatement (Done faults) b = Unit {0}
BeginsStatement _ b = (x : List ℕ) × (b ≡ Some x)

-- no statement begins where a task waits, releases or ends
abbrev pub Silent : Does → Option (List ℕ) → Type 0
Silent (Waits faults) b = b ≡ None
Silent Releases b = b ≡ None
Silent (Done faults) b = b ≡ None
Silent _ b = Unit {0}

-- the store is that of this place, and the name that waits is that of the statement
abbrev pub CallSo : ℕ → Does → Option ℕ → Type 0
CallSo here (Makes name words) o = o ≡ Some name
CallSo here (Gets name target index) o = (target.home.0 ≡ here) × (o ≡ Some name)
CallSo here (Puts target index value) o = target.home.0 ≡ here
CallSo here (Forgets target) o = target.home.0 ≡ here
CallSo here _ o = Unit {0}

-- what is started is started for a place that exists
abbrev pub Targets : ℕ → Does → Type 0
Targets places (Calls place) = place < places
Targets places (Spawns place) = place < places
Targets places _ = Unit {0}
