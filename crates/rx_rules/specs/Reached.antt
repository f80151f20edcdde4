-- The trees that can be reached.
use Rattle.std.specs.Prelude.{ℕ, suc, ◌<◌, ◌≤◌, List, Option, Some, None, All}
use Rattle.rx_base.specs.declared.ids.TaskId.{TaskId}
use Rattle.rx_base.specs.declared.ids.PlaceId.{PlaceId}
use Rattle.rx_base.specs.declared.place_set.PlaceSet.{PlaceSet}
use Rattle.rx_base.specs.declared.values.Fault.{Fault}
use Rattle.rx_rules.specs.declared.entries.Entry.TheVariants.{Root, Death, Join}
use Rattle.rx_rules.specs.declared.tasks.Blow.{Blow}
use Rattle.rx_rules.specs.declared.entries.Act.{Act}
use Rattle.rx_rules.specs.Tree.{Tree, the_root}
use Rattle.rx_rules.specs.Entries.{AllowedAct, Allowed, made_act, strike, without}
use Rattle.rx_rules.specs.Fold.{wide_opening}

-- an earlier death, if there is one
abbrev pub IsOlder : ℕ → Option ℕ → Type 0
IsOlder n None = Unit {0}
IsOlder n (Some old) = old < n

-- the trees that come from the opening tree by allowed entries, where the numbers of deaths may be any that rise
pub data Reached : Tree → Type 0 where
  opens : {limit : ℕ} (places : ℕ) → 1 ≤ places → places ≤ limit → Reached (wide_opening limit places)
  acts : {T : Tree} (t : TaskId) (act : Act) → Reached T → AllowedAct T t act → Reached (made_act T t act)
  ends : {T : Tree} (lost : PlaceSet) (masked : ℕ) (thrown : List Fault) → Reached T → Allowed T (Root lost masked thrown)
      → Reached (without T the_root)
  dies : {T : Tree} (b : Blow) → Reached T → Allowed T (Death b.place) → All (IsOlder b.entry) T.dead → Reached (strike b T)
  joins : {T : Tree} (p : PlaceId) → Reached T → Allowed T (Join p) → Reached (record T { places = suc T.places })
