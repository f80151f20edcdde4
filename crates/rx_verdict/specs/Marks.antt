-- What the marks of the pass over the entries on the events are read from: where a task stands after so many entries, which of its
-- entries are to come, and that all entries are made.
use Rattle.std.specs.Prelude.{length, ◌≡◌, ℕ, suc, ◌≤◌, List, [], ◌∷◌, take, drop, Some, slice_get}
use Rattle.std.specs.List.{cons_option}
use Rattle.rx_base.specs.declared.ids.PlaceId.{PlaceId}
use Rattle.rx_rules.specs.declared.entries.Entry.{Entry}
use Rattle.rx_rules.specs.declared.events.Cell.{Cell}
use Rattle.rx_rules.specs.declared.events.PlaceEvent.{PlaceEvent}
use Rattle.rx_rules.specs.declared.events.PlaceEvent.TheVariants.{Done}
use Rattle.rx_rules.specs.Code.{Block}
use Rattle.rx_rules.specs.Fold.{AllAllowed, opening}
use Rattle.rx_rules.specs.Picked.{Player}
use Rattle.rx_rules.specs.Plays.{Cells, Moves, Starts, journal_at, birth_of, move_of, moves_from}
use Rattle.rx_rules.specs.Run.{Given}
use Rattle.rx_rules.specs.Terms.{Term, Vars}
use Rattle.rx_verdict.specs.Makes.{Made, StampRule}
use Rattle.rx_verdict.specs.Passes.{IsAt, IsAway}
use Rattle.rx_verdict.specs.Verdicts.{HasCause}

-- one more than the number of the last of these entries, or `low` where there is none
abbrev pub after : ℕ → Moves → ℕ
after low [] = low
after low (m ∷ moves) = after (suc m.0) moves

-- one more than the number of the last of these entries that concerns task t: of its own or of its birth
abbrev pub low_of : List Entry → ℕ → ℕ
low_of es t = after (birth_of es t).low (moves_from 0 es t)

-- the place for which task t was started
abbrev pub home_of : List Entry → ℕ → PlaceId
home_of es t = (birth_of es t).to

-- after i entries task t has come to the player z, and these events are left
pub record StandsAt (code : Block) (places : ℕ) (es : List Entry) (js : List (List PlaceEvent)) (i t : ℕ) (z : Player) (left : Cells)
    : Type 0 where
  pub starts : Starts
  pub made : Made code places (take i es) js starts
  pub start : Term × Vars
  pub begins : slice_get starts t ≡ Some start
  pub seat : IsAt starts (take i es) js t start z left

-- all entries are allowed and made
pub record WholePass (code : Block) (U : Given) (es : List Entry) (js : List (List PlaceEvent)) : Type 0 where
  pub some : 1 ≤ U.places
  pub few : U.places ≤ 16
  pub allowed : AllAllowed 0 (opening U.places) es
  pub starts : Starts
  pub made : Made code U.places es js starts

-- The entries to come of a task, one entry at a time: where entry n is e, they are those after it, and it if it is the task's;
-- after the last there is none.
abbrev pub EntriesToCome : Type 0
EntriesToCome =
    (es : List Entry) (n t : ℕ)
    → ((e : Entry) → slice_get es n ≡ Some e
    → moves_from n (drop n es) t ≡ cons_option (move_of n t e) (moves_from (suc n) (drop (suc n) es) t))
    × (length es ≤ n → moves_from n (drop n es) t ≡ [])

-- no event of a task has its cause that travels still
abbrev pub AwayEvent : Type 0
AwayEvent =
    (rule : StampRule) (code : Block) (U : Given) (es : List Entry) (js : List (List PlaceEvent)) (t p e stamp : ℕ) (cell : Cell)
    (path : List ℕ) → IsAway es t → slice_get (journal_at js p) e ≡ Some (Done (record { 0 = t }) stamp cell path)
    → HasCause rule code U es js p e → ⊥
