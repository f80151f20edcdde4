-- What a task has played, under a longer list of starts and in a longer history.
use Rattle.rx_rules.proofs.Common.{Vars, TaskId, PlaceId, Term, child, Birth, Plays, BeginsWithArrival, started_by, Player}
use Rattle.rx_rules.specs.declared.entries.Act.{Act}
use Rattle.rx_rules.specs.declared.entries.Act.TheVariants.{Open, At as Calls, Spawn, Arrive, Wait, Release, End, Print, Census}
use Rattle.rx_rules.specs.declared.events.Cell.{Cell}
use Rattle.std.proofs.Common.{◌≡◌, ℕ, ◌≤◌, Bool, true, false, List, [], ◌∷◌, Option, Some, None, slice_get, arith}
use Rattle.rx_rules.specs.declared.entries.Act.{Act}
use Rattle.rx_rules.specs.declared.entries.Act.TheVariants.{Open, At as Calls, Spawn, Arrive, Wait, Release, End, Print, Census}
use Rattle.rx_rules.specs.declared.events.Cell.{Cell}
use Rattle.rx_rules.specs.Plays as rules
use Rattle.rx_runs.specs.Segments.{Stand, StandGoes, stays, local, stores, asks}
use Rattle.rx_runs.specs.Games.{TaskSo, away, going, over}

-- each start of the one stands in the other
abbrev pub Keeps : List (Term × Vars) → List (Term × Vars) → Type 0
Keeps starts more = (n : ℕ) (x : Term × Vars) → slice_get starts n ≡ Some x → slice_get more n ≡ Some x

abbrev pub SoFor : List (Term × Vars) → Term → Vars → Option TaskId → Type 0
SoFor starts t vars o = elim o [ Some c ↦ slice_get starts c.0 ≡ Some (child t, vars) | None ↦ Unit {0} ]

so_wider : (starts more : List (Term × Vars)) → Keeps starts more → (t : Term) (vars : Vars) (o : Option TaskId) → SoFor starts t vars o → SoFor more t vars o
so_wider starts more keeps t vars None h = h
so_wider starts more keeps t vars (Some c) h = keeps c.0 (child t, vars) h

pub goes_wider : {starts : List (Term × Vars)} (more : List (Term × Vars)) → Keeps starts more → {here : PlaceId} {a z : Stand} {cells : List (ℕ × Cell × List ℕ)} {moves : List (ℕ × Act × List (List ℕ))} → StandGoes starts here a cells moves z → StandGoes more here a cells moves z
goes_wider more keeps stays = stays
goes_wider more keeps (local e p) = local e (goes_wider more keeps p)
goes_wider more keeps (stores answer le tells b p) = stores answer le tells b (goes_wider more keeps p)
goes_wider {starts = starts} more keeps (asks {a = a} {act = act} le fits so p) = asks le fits (so_wider starts more keeps a.term a.vars (started_by act) so) (goes_wider more keeps p)

pub plays_wider : {starts : List (Term × Vars)} (more : List (Term × Vars)) → Keeps starts more → {here : PlaceId} {low : ℕ} {vars : Vars} {t : Term} {batch : List (List ℕ)} {cells : List (ℕ × Cell × List ℕ)} {moves : List (ℕ × Act × List (List ℕ))} → Plays starts here low vars t batch cells moves → Plays more here low vars t batch cells moves
plays_wider more keeps (rules.local e p) = rules.local e (plays_wider more keeps p)
plays_wider more keeps (rules.stores answer le tells b p) = rules.stores answer le tells b (plays_wider more keeps p)
plays_wider {starts = starts} more keeps (rules.asks {vars = vars} {t = t} {act = act} le fits so p) = rules.asks le fits (so_wider starts more keeps t vars (started_by act) so) (plays_wider more keeps p)
plays_wider more keeps (rules.ends le e) = rules.ends le e
plays_wider more keeps rules.stops = rules.stops

begins_wider : (starts more : List (Term × Vars)) → Keeps starts more → (here : PlaceId) (travels : Bool) (low : ℕ) (vars : Vars) (t : Term) (cells : List (ℕ × Cell × List ℕ)) (moves : List (ℕ × Act × List (List ℕ))) → BeginsWithArrival starts here travels low vars t cells moves → BeginsWithArrival more here travels low vars t cells moves
begins_wider starts more keeps here false low vars t cells moves h = plays_wider more keeps h
begins_wider starts more keeps here true low vars t cells [] h = h
begins_wider starts more keeps here true low vars t cells ((n, Arrive p, batch) ∷ moves) h = (h.0, plays_wider more keeps h.1)
begins_wider starts more keeps here true low vars t cells ((n, Open s r x, batch) ∷ moves) h = h
begins_wider starts more keeps here true low vars t cells ((n, Calls from to s r c x, batch) ∷ moves) h = h
begins_wider starts more keeps here true low vars t cells ((n, Spawn c s from to x, batch) ∷ moves) h = h
begins_wider starts more keeps here true low vars t cells ((n, Wait s thrown, batch) ∷ moves) h = h
begins_wider starts more keeps here true low vars t cells ((n, Release s lost masked thrown, batch) ∷ moves) h = h
begins_wider starts more keeps here true low vars t cells ((n, End thrown, batch) ∷ moves) h = h
begins_wider starts more keeps here true low vars t cells ((n, Print value x, batch) ∷ moves) h = h
begins_wider starts more keeps here true low vars t cells ((n, Census places x, batch) ∷ moves) h = h

-- a task that another's entry does not concern
pub task_on : {starts : List (Term × Vars)} (more : List (Term × Vars)) → Keeps starts more → {size : ℕ} (larger : ℕ) → size ≤ larger → {b : Birth} {start : Term × Vars} {cells : List (ℕ × Cell × List ℕ)} {moves : List (ℕ × Act × List (List ℕ))} {p : Player} → TaskSo starts size b start cells moves p → TaskSo more larger b start cells moves p
task_on more keeps larger le (away t m c e low) = away t m c e (omega arith)
task_on more keeps larger le (going low now rest l g top) = going low now rest l (goes_wider more keeps g) (omega arith)
task_on {starts = starts} more keeps larger le {b = b} {start = start} {cells = cells} {moves = moves} (over e h) = over e (begins_wider starts more keeps b.to (rules.travels b) b.low start.1 start.0 cells moves h)
