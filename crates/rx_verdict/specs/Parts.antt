-- A part of a run with one entry more: the four questions that the pass asks of each entry.
use Rattle.std.specs.Prelude.{◌≡◌, ℕ, suc, ◌≤◌, List, [], ◌∷◌, ◌++◌, length, take, Some, slice_get}
use Rattle.rx_rules.specs.declared.entries.Entry.{Entry}
use Rattle.rx_rules.specs.declared.entries.Entry.TheVariants.{Step}
use Rattle.rx_rules.specs.declared.events.PlaceEvent.{PlaceEvent}
use Rattle.rx_rules.specs.Code.{Block}
use Rattle.rx_rules.specs.Entries.{Allowed}
use Rattle.rx_rules.specs.Fold.{tree_of}
use Rattle.rx_rules.specs.Plays.{Starts}
use Rattle.rx_rules.specs.Run.{Given, NoRoot, plan_of}
use Rattle.rx_runs.specs.Segments.{plan_left, InTime}
use Rattle.rx_verdict.specs.Makes.{Made}
use Rattle.rx_verdict.specs.Verdicts.{Part}

-- Entry e, after these: the tree allows it, no entry before it releases the root, it is the death or join that is due or stands
-- where none is, and all terms make their entries with it.
pub record GoesOn (code : Block) (U : Given) (es : List Entry) (js : List (List PlaceEvent)) (e : Entry) : Type 0 where
  pub allowed : Allowed (tree_of U.places es) e
  pub no_root : NoRoot es
  pub in_time : InTime (length es) (plan_left (plan_of U) es) e
  pub starts : Starts
  pub made : Made code U.places (es ++ e ∷ []) js starts

-- the first i + 1 entries are a part of a run exactly where the first i are and entry i goes on from them
abbrev pub PartGoesOn : Type 0
PartGoesOn =
    (code : Block) (U : Given) (es : List Entry) (js : List (List PlaceEvent)) (i : ℕ) (e : Entry) → slice_get es i ≡ Some e
    → (Part code U es js i → GoesOn code U (take i es) js e → Part code U es js (suc i))
    × (Part code U es js (suc i) → GoesOn code U (take i es) js e)

-- no entries are a part of a run, and fewer of the first entries are one where more are
abbrev pub PartBegins : Type 0
PartBegins =
    (code : Block) (U : Given) (es : List Entry) (js : List (List PlaceEvent)) → Part code U es js 0
    × ((m n : ℕ) → m ≤ n → Part code U es js n → Part code U es js m)

-- the entry is of no task
abbrev pub IsQuiet : Entry → Type 0
IsQuiet (Step t act batch) = ⊥
IsQuiet _ = Unit {0}
