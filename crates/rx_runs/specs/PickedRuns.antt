-- Picked runs are whole runs.
use Rattle.std.specs.Prelude.{◌≡◌, ℕ, ◌<◌, ◌^◌, ◌%◌, Bool, List, [], ◌∷◌, map}
use Rattle.rx_base.specs.declared.place_set.PlaceSet.{PlaceSet}
use Rattle.rx_rules.specs.declared.entries.Act.{Act}
use Rattle.rx_rules.specs.declared.entries.Act.TheVariants.{Release}
use Rattle.rx_rules.specs.declared.entries.Entry.{Entry}
use Rattle.rx_rules.specs.declared.entries.Entry.TheVariants.{Step, Root, Death, Join}
use Rattle.rx_rules.specs.declared.events.PlaceEvent.{PlaceEvent}
use Rattle.rx_rules.specs.Code.{Block}
use Rattle.rx_rules.specs.Run.{Given, Proper, NoRoot, IsRun}
use Rattle.rx_rules.specs.Picked.{Game, Turn, Turns, IsPicked, start_game}

-- under a proper setup a picked run is a run
abbrev pub PickedIsRun : Type 0
PickedIsRun = (code : Block) (U : Given) (picks : ℕ → ℕ) (es : List Entry) (js : List (List PlaceEvent)) → Proper U
    → IsPicked code U picks es js → IsRun code U es js

-- the set of places of an act has 16 bits, as its type has them
abbrev pub ActFits : Act → Type 0
ActFits (Release s lost masked thrown) = lost.0 < 2 ^ 16
ActFits _ = Unit {0}

-- the same of each entry
abbrev pub SetsFit : List Entry → Type 0
SetsFit [] = Unit {0}
SetsFit (Step t act batch ∷ es) = ActFits act × SetsFit es
SetsFit (Root lost masked thrown ∷ es) = (lost.0 < 2 ^ 16) × SetsFit es
SetsFit (Death d ∷ es) = SetsFit es
SetsFit (Join p ∷ es) = SetsFit es

-- the set with the bits of the 16 places alone, which has the same members
abbrev pub plain_set : PlaceSet → PlaceSet
plain_set s = record { 0 = s.0 % 2 ^ 16 }

abbrev pub plain_act : Act → Act
plain_act (Release s lost masked thrown) = Release s (plain_set lost) masked thrown
plain_act act = act

-- the entry whose set of places is such a set
abbrev pub plain : Entry → Entry
plain (Step t act batch) = Step t (plain_act act) batch
plain (Root lost masked thrown) = Root (plain_set lost) masked thrown
plain (Death d) = Death d
plain (Join p) = Join p

-- One script, setup and list of picks give at most one history, but for bits of sets that stand for no place, and one list of
-- journals.
abbrev pub OnePickedRun : Type 0
OnePickedRun = (code : Block) (U : Given) (picks : ℕ → ℕ) (es fs : List Entry) (js ks : List (List PlaceEvent))
    → Proper U → IsPicked code U picks es js → IsPicked code U picks fs ks
    → (map plain es ≡ map plain fs) × (js ≡ ks)

-- a run uses at most as many picks as it has turns: picks after those change nothing
abbrev pub FewPicks : Type 0
FewPicks = (U : Given) (picks others : ℕ → ℕ) (n : ℕ) (G G' : Game) → ((i : ℕ) → i < n → picks i ≡ others i)
    → Turns U picks n 0 G G' → Turns U others n 0 G G'

-- from each game that turns have made and that has not ended a turn can be made, whatever the pick
abbrev pub NextTurn : Type 0
NextTurn = (code : Block) (U : Given) (picks : ℕ → ℕ) (n : ℕ) (G : Game) → Proper U → Turns U picks n 0 (start_game code U) G
    → NoRoot G.entries → (k : ℕ) → (used : Bool) × (G' : Game) × Turn U k G used G'

-- so for each script, proper setup and list of picks there is a picked run, with sets of places of 16 bits
abbrev pub HasPickedRun : Type 0
HasPickedRun = (code : Block) (U : Given) (picks : ℕ → ℕ) → Proper U → (es : List Entry) × (js : List (List PlaceEvent))
    × IsPicked code U picks es js × SetsFit es
