-- The pass over the entries, one task at a time: where a task's term stands after so many entries and events, and what that
-- tells of its next entry.
use Rattle.std.specs.Prelude.{◌≡◌, ℕ, List, [], ◌∷◌, Some}
use Rattle.rx_base.specs.declared.ids.PlaceId.{PlaceId}
use Rattle.rx_rules.specs.declared.entries.Act.{Act}
use Rattle.rx_rules.specs.declared.events.Cell.{Cell}
use Rattle.rx_rules.specs.Terms.{Term, Vars, Answer, answered, vars_after, Does, Local, Opens, Calls as Asks, Spawns, Waits, Releases}
use Rattle.rx_rules.specs.Terms.{Prints, Counts, does, begins}
use Rattle.rx_rules.specs.Plays.{Cells, Moves, Starts, Tells, Fits, StartsSo, begun}
use Rattle.rx_rules.specs.Picked.{Player, acted}

-- what a player does next
abbrev pub next_does : PlaceId → Player → Does
next_does here a = does a.vars here.0 a.term

-- From one player and its events to another and the events that are left, by making these entries. A player is a task that
-- stands somewhere in its run: what it has still to run, what it knows, and the statements begun since its last entry.
pub data Walks (starts : Starts) (here : PlaceId) : Player → Cells → Moves → Player → Cells → Type 0 where
  stays : {a : Player} {cells : Cells} → Walks starts here a cells [] a cells
  local : {a z : Player} {cells left : Cells} {moves : Moves} {after : Term} {vars : Vars} → next_does here a ≡ Local after vars
      → Walks starts here (record { term = after; vars = vars; batch = begun a.term a.batch }) cells moves z left
      → Walks starts here a cells moves z left
  stores : {a z : Player} {cells left : Cells} {moves : Moves} {stamp : ℕ} {cell : Cell} {x : List ℕ} (answer : Answer)
      → Tells (next_does here a) here cell answer → begins a.term ≡ Some x → Walks starts here (record {
        term = answered answer a.term;
        vars = vars_after answer a.vars;
        batch = begun a.term a.batch;
      }) cells moves z left
      → Walks starts here a ((stamp, cell, x) ∷ cells) moves z left
  asks : {a z : Player} {cells left : Cells} {moves : Moves} {n : ℕ} {act : Act}
      → Fits here a.term (next_does here a) act → StartsSo starts a.term a.vars act
      → Walks starts here (acted here a act) cells moves z left → Walks starts here a cells ((n, act, a.batch) ∷ moves) z left

-- the term waits for the ledger
abbrev pub AsksLedger : Does → Type 0
AsksLedger Opens = Unit {0}
AsksLedger (Asks place) = Unit {0}
AsksLedger (Spawns place) = Unit {0}
AsksLedger (Waits faults) = Unit {0}
AsksLedger Releases = Unit {0}
AsksLedger (Prints value) = Unit {0}
AsksLedger (Counts name) = Unit {0}
AsksLedger _ = ⊥

-- the next event, if there is one, does not answer the player's call
abbrev pub Halts : PlaceId → Player → Cells → Type 0
Halts here z [] = Unit {0}
Halts here z ((stamp, cell, x) ∷ left) = (answer : Answer) → Tells (next_does here z) here cell answer → begins z.term ≡ Some x → ⊥
