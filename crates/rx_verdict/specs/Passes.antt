-- What the pass over the entries keeps for a task after so many entries, its seat: it travels still; or it has come somewhere in
-- its run, with these events left; or it has ended.
use Rattle.std.specs.Prelude.{◌≡◌, ℕ, true, List, [], ◌∷◌, ◌++◌}
use Rattle.rx_base.specs.declared.values.Fault.{Fault}
use Rattle.rx_rules.specs.declared.entries.Act.TheVariants.{End}
use Rattle.rx_rules.specs.declared.entries.Entry.{Entry}
use Rattle.rx_rules.specs.declared.events.PlaceEvent.{PlaceEvent}
use Rattle.rx_rules.specs.Terms.{Term, Vars}
use Rattle.rx_rules.specs.Picked.{Player}
use Rattle.rx_rules.specs.Plays.{Cells, Moves, Starts, birth_of, moves_from, travels}
use Rattle.rx_runs.specs.Games.{fresh}
use Rattle.rx_verdict.specs.Makes.{AfterLanding, cells_of}
use Rattle.rx_verdict.specs.Walks.{Walks}

-- it travels and has no entry
abbrev pub IsAway : List Entry → ℕ → Type 0
IsAway es t = (travels (birth_of es t) ≡ true) × (moves_from 0 es t ≡ [])

-- it has walked from its start to z, over all its entries and so many events
abbrev pub IsAt : Starts → List Entry → List (List PlaceEvent) → ℕ → Term × Vars → Player → Cells → Type 0
IsAt starts es js t s z left =
    AfterLanding es t (λ low moves. Walks starts (birth_of es t).to (fresh s) (cells_of es js t) moves z left) ⊥

-- its last entry is its end
abbrev pub HasEnded : List Entry → ℕ → Type 0
HasEnded es t =
    AfterLanding es t
    (λ low moves. (before : Moves) × (n : ℕ) × (faults : List Fault) × (batch : List (List ℕ))
    × (moves ≡ before ++ (n, End faults, batch) ∷ []))
    ⊥
