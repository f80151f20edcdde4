-- Which request a told step is.
use Rattle.std.proofs.Common.{◌≡◌, ℕ, ℤ, List, refl, ap}
use Rattle.rx_rules.proofs.Common.{PlaceId, Fault, Does, Local, Opens, Calls, Spawns, Waits, Releases, Prints, Counts, Done}
use Rattle.rx_history.specs.declared.step.Want.TheVariants.{Open, At, Spawn, Wait, Release, Print, Census}
use Rattle.rx_history.specs.declared.step.Next.TheVariants.{Book, Done as Ended}
use Rattle.rx_history.specs.Next.{next_of}

pub asks_open : (d : Does) → next_of d ≡ Book Open → d ≡ Opens
asks_open Opens h = refl
asks_open _ h = cc

pub asks_call : (d : Does) (to : PlaceId) → next_of d ≡ Book (At to) → d ≡ Calls to.0
asks_call (Calls place) to h = let e : record { 0 = place } ≡ to = cc in ap (λ (q : PlaceId). Calls q.0) e
asks_call _ to h = cc

pub asks_spawn : (d : Does) (to : PlaceId) → next_of d ≡ Book (Spawn to) → d ≡ Spawns to.0
asks_spawn (Spawns place) to h = let e : record { 0 = place } ≡ to = cc in ap (λ (q : PlaceId). Spawns q.0) e
asks_spawn _ to h = cc

pub asks_wait : (d : Does) → next_of d ≡ Book Wait → (fs : List Fault) × (d ≡ Waits fs)
asks_wait (Waits faults) h = (faults, refl)
asks_wait _ h = absurd (let f : ⊥ = cc in f)

pub asks_release : (d : Does) → next_of d ≡ Book Release → d ≡ Releases
asks_release Releases h = refl
asks_release _ h = cc

pub asks_print : (d : Does) (value : ℤ) → next_of d ≡ Book (Print value) → d ≡ Prints value
asks_print (Local left vars) z h = cc
asks_print _ z h = cc

pub asks_census : (d : Does) → next_of d ≡ Book Census → (name : ℕ) × (d ≡ Counts name)
asks_census (Counts name) h = (name, refl)
asks_census _ h = absurd (let f : ⊥ = cc in f)

pub asks_end : (d : Does) → next_of d ≡ Ended → (fs : List Fault) × (d ≡ Done fs)
asks_end (Done faults) h = (faults, refl)
asks_end _ h = absurd (let f : ⊥ = cc in f)
