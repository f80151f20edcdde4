-- Segments of what a task plays.
use Rattle.rx_rules.proofs.Common.{Vars, PlaceId, Fault, Term, Done, does, Plays, started_by}
use Rattle.std.proofs.Common.{◌≡◌, ℕ, ◌≤◌, List, [], ◌∷◌, ◌++◌}
use Rattle.rx_rules.specs.declared.entries.Act.{Act}
use Rattle.rx_rules.specs.declared.entries.Act.TheVariants.{End}
use Rattle.rx_rules.specs.declared.events.Cell.{Cell}
use Rattle.rx_rules.specs.Plays as rules
use Rattle.rx_runs.specs.Segments.{Stand, StandGoes, stays, local, stores, asks}

-- one after another
pub joined : {starts : List (Term × Vars)} {here : PlaceId} {a b z : Stand} {cells more_cells : List (ℕ × Cell × List ℕ)} {moves more : List (ℕ × Act × List (List ℕ))} → StandGoes starts here a cells moves b → StandGoes starts here b more_cells more z → StandGoes starts here a (cells ++ more_cells) (moves ++ more) z
joined stays q = q
joined (local e p) q = local e (joined p q)
joined (stores answer le tells b p) q = stores answer le tells b (joined p q)
joined (asks le fits so p) q = asks le fits so (joined p q)

-- a task that stops where it stands has played
pub stopped : {starts : List (Term × Vars)} {here : PlaceId} {a z : Stand} {cells : List (ℕ × Cell × List ℕ)} {moves : List (ℕ × Act × List (List ℕ))} → StandGoes starts here a cells moves z → Plays starts here a.low a.vars a.term a.batch cells moves
stopped stays = rules.stops
stopped (local e p) = rules.local e (stopped p)
stopped (stores answer le tells b p) = rules.stores answer le tells b (stopped p)
stopped (asks le fits so p) = rules.asks le fits so (stopped p)

-- a task that ends where it stands has played
pub ended : {starts : List (Term × Vars)} {here : PlaceId} {a z : Stand} {cells : List (ℕ × Cell × List ℕ)} {moves : List (ℕ × Act × List (List ℕ))} (n : ℕ) (faults : List Fault) → StandGoes starts here a cells moves z → z.low ≤ n → does z.vars here.0 z.term ≡ Done faults → Plays starts here a.low a.vars a.term a.batch cells (moves ++ (n, End faults, z.batch) ∷ [])
ended n faults stays le e = rules.ends le e
ended n faults (local f p) le e = rules.local f (ended n faults p le e)
ended n faults (stores answer less tells b p) le e = rules.stores answer less tells b (ended n faults p le e)
ended n faults (asks less fits so p) le e = rules.asks less fits so (ended n faults p le e)
