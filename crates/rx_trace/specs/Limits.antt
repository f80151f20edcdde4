-- The limits of a trace text.
use Rattle.std.specs.Prelude.{◌≡◌, ℕ, ◌+◌, ◌<◌, ◌≤◌, ◌^◌, List, [], ◌∷◌, length, FitsSigned}
use Rattle.std.specs.Int.{w64}
use Rattle.std.specs.List.{AllByRecursion}
use Rattle.rx_base.specs.declared.ids.GlobalRef.{GlobalRef}
use Rattle.rx_base.specs.declared.values.Fault.{Fault}
use Rattle.rx_base.specs.declared.values.Fault.TheVariants.{Dead, Thrown}
use Rattle.rx_rules.specs.declared.entries.Act.{Act}
use Rattle.rx_rules.specs.declared.entries.Act.TheVariants.{Open, At, Spawn, Arrive, Wait, Release, End, Print, Census}
use Rattle.rx_rules.specs.declared.entries.Entry.{Entry}
use Rattle.rx_rules.specs.declared.entries.Entry.TheVariants.{Step, Root, Death, Join}
use Rattle.rx_rules.specs.declared.events.Cell.{Cell}
use Rattle.rx_rules.specs.declared.events.Cell.TheVariants.{Make, MakeFull, Get, Put, Forget, GetRefused, PutRefused, ForgetStale}
use Rattle.rx_rules.specs.declared.events.PlaceEvent.{PlaceEvent}
use Rattle.rx_rules.specs.declared.events.PlaceEvent.TheVariants.{Done, Close}
use Rattle.rx_rules.specs.Run.{Given, in_all, Proper}

-- a number without a sign
abbrev pub IsShort : ℕ → Type 0
IsShort n = n < 2 ^ 32

-- a path has 1 to 65 numbers
abbrev pub FitsPath : List ℕ → Type 0
FitsPath path = (1 ≤ length path) × (length path ≤ 65) × AllByRecursion IsShort path

-- a fault names a place that there is, or a number of 64 bits
abbrev pub FitsFault : ℕ → Fault → Type 0
FitsFault places (Dead p) = p.0 < places
FitsFault places (Thrown value) = FitsSigned w64 value
FitsFault places _ = Unit {0}

-- the numbers of an act; in a set of places bit p stands for place p
abbrev pub FitsAct : ℕ → Act → Type 0
FitsAct places (Open scope parent path) = IsShort scope.0 × IsShort parent.0 × FitsPath path
FitsAct places (At from to scope parent callee path) =
    IsShort scope.0 × IsShort parent.0 × IsShort callee.0 × (from.0 < places) × (to.0 < places) × FitsPath path
FitsAct places (Spawn child scope from to path) =
    IsShort child.0 × IsShort scope.0 × (from.0 < places) × (to.0 < places) × FitsPath path
FitsAct places (Arrive place) = place.0 < places
FitsAct places (Wait scope thrown) = IsShort scope.0 × AllByRecursion (FitsFault places) thrown
FitsAct places (Release scope lost masked thrown) =
    IsShort scope.0 × (lost.0 < 2 ^ places) × IsShort masked × AllByRecursion (FitsFault places) thrown
FitsAct places (End thrown) = AllByRecursion (FitsFault places) thrown
FitsAct places (Print value path) = FitsSigned w64 value × FitsPath path
FitsAct places (Census count path) = (1 ≤ count) × (count ≤ 16) × FitsPath path

-- the numbers of an entry
abbrev pub FitsEntry : ℕ → Entry → Type 0
FitsEntry places (Step task act batch) = IsShort task.0 × FitsAct places act × AllByRecursion FitsPath batch
FitsEntry places (Root lost masked thrown) = (lost.0 < 2 ^ places) × IsShort masked × AllByRecursion (FitsFault places) thrown
FitsEntry places (Death place) = place.0 < places
FitsEntry places (Join place) = place.0 < places

-- a reference to a block of this place
abbrev pub FitsBlock : ℕ → GlobalRef → Type 0
FitsBlock home block = (block.home.0 ≡ home) × IsShort block.start × IsShort block.generation

-- the numbers of a store call at this place
abbrev pub FitsCell : ℕ → Cell → Type 0
FitsCell home (Make words start generation) = IsShort words × IsShort start × IsShort generation
FitsCell home (MakeFull words) = IsShort words
FitsCell home (Get target index value) = FitsBlock home target × FitsSigned w64 index × FitsSigned w64 value
FitsCell home (Put target index value) = FitsBlock home target × FitsSigned w64 index × FitsSigned w64 value
FitsCell home (Forget target) = FitsBlock home target
FitsCell home (GetRefused target index stale) = FitsBlock home target × FitsSigned w64 index
FitsCell home (PutRefused target index value stale) = FitsBlock home target × FitsSigned w64 index × FitsSigned w64 value
FitsCell home (ForgetStale target) = FitsBlock home target

-- the numbers of an event
abbrev pub FitsEvent : ℕ → PlaceEvent → Type 0
FitsEvent home (Done task stamp cell path) = IsShort task.0 × IsShort stamp × FitsCell home cell × FitsPath path
FitsEvent home (Close stamp) = IsShort stamp

-- the numbers of the journals of places p, p + 1, ..
abbrev pub FitJournals : ℕ → List (List PlaceEvent) → Type 0
FitJournals p [] = Unit {0}
FitJournals p (j ∷ js) = AllByRecursion (FitsEvent p) j × FitJournals (p + 1) js

-- a setup that is proper, and each moment at most 1,000,000
abbrev pub FitsSetup : Given → Type 0
FitsSetup setup = Proper setup × AllByRecursion (λ k. k.moment ≤ 1000000) setup.kills × AllByRecursion (λ e. e ≤ 1000000) setup.joins

-- what a trace text can tell
pub record IsWithin (setup : Given) (entries : List Entry) (journals : List (List PlaceEvent)) : Type 0 where
  pub setup_fits : FitsSetup setup
  pub numbered : length entries ≤ 2 ^ 32
  pub entries_fit : AllByRecursion (FitsEntry (in_all setup)) entries
  pub one_each : length journals ≡ in_all setup
  pub journals_fit : FitJournals 0 journals
