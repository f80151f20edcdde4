-- The step of the pass at a request and at an end, whole.
use Rattle.std.proofs.Common.{◌≡◌, Bool, ℕ, ◌+◌, List, [], ◌∷◌, ◌++◌, length, Option, Some, None, slice_get, refl, ap, sym, subst, arith, ⊎_elim}
use Rattle.std.proofs.lemmas.List.{append-nil}
use Rattle.rx_rules.proofs.Common.{PlaceId, TaskId, Fault, Block, Term, Vars, Done, child, tree_of, births, births_of, Player, acted, Cells, Moves, Starts, StartsSo, birth_of, started_by, travels, moves_from}
use Rattle.rx_rules.specs.declared.entries.Act.{Act}
use Rattle.rx_rules.specs.declared.entries.Act.TheVariants.{End}
use Rattle.rx_rules.specs.declared.entries.Entry.{Entry}
use Rattle.rx_rules.specs.declared.entries.Entry.TheVariants.{Step}
use Rattle.rx_rules.specs.declared.events.PlaceEvent.{PlaceEvent}
use Rattle.rx_runs.specs.AnyAnswers.{AsksStore}
use Rattle.rx_runs.specs.Games.{fresh}
use Rattle.rx_rules.proofs.Numbers.{next-tree}
use Rattle.rx_verdict.specs.Makes as parts
use Rattle.rx_verdict.specs.Makes.{Made, Landing, cells_of}
use Rattle.rx_verdict.specs.Walks as walks
use Rattle.rx_verdict.specs.Walks.{Walks, next_does, AsksLedger, Halts}
use Rattle.rx_verdict.specs.Passes.{IsAt, HasEnded}
use Rattle.rx_verdict.specs.Seats.{IsRequest, main_start}
use Rattle.rx_verdict.proofs.Once.{landing_map}
use Rattle.rx_verdict.proofs.Births.{starts}
use Rattle.rx_verdict.proofs.Walking.{MakesFrom, IsAsked, at_request, at_end, at_halt, walk_on}
use Rattle.rx_verdict.proofs.Passing.{Grown, Stage, entry_is_made, player_makes, player_only, player_goes_on, player_ends}
use Rattle.rx_base.proofs.Elements.{get-last}

pub no_start : (act : Act) (d c : TaskId) → started_by act ≡ Some d → started_by act ≡ Some c → d ≡ c
no_start act d c e f = cc (e, f)

-- the list of starts after the act, by the player
module _ (code : Block) (places : ℕ) (es : List Entry) (js : List (List PlaceEvent)) (from : Starts) (t : TaskId) (act : Act) (batch : List (List ℕ)) (s : Term × Vars) (g : Stage code places es js from t act batch s) (z : Player) where
  grow : (o : Option TaskId) → started_by act ≡ o → (more : Starts) × Grown from act more × StartsSo more z.term z.vars act
  grow None e = (from, subst (λ (o : Option TaskId). elim o as (λ _. Type 0) [ Some c ↦ (x : Term × Vars) × (from ≡ from ++ x ∷ []) | None ↦ from ≡ from ]) (sym e) refl, subst (λ (o : Option TaskId). elim o as (λ _. Type 0) [ Some c ↦ slice_get from c.0 ≡ Some (child z.term, z.vars) | None ↦ Unit {0} ]) (sym e) tt)
  grow (Some c) e =
      let x : Term × Vars = (child z.term, z.vars) in
      let next : (tree_of places es).next_task ≡ 1 + births es = next-tree places es in
      let size : length from ≡ 1 + births es = g.made.all in
      let at : c.0 ≡ length from =
      ⊎_elim
      (λ (r : (d : TaskId) × (started_by act ≡ Some d) × (d.0 ≡ (tree_of places es).next_task) × (births_of (Step t act batch) ≡ 1)).
      let same : r.0.0 ≡ c.0 = ap (λ (y : TaskId). y.0) (no_start act r.0 c r.1 e) in let d = r.2 in omega (arith, same, d, next, size))
      (λ (r : (started_by act ≡ None) × (births_of (Step t act batch) ≡ 0)). absurd (let f = r.0 in let h : ⊥ = cc (e, f) in h))
      (starts (tree_of places es) t act batch g.next) in
      let more : Starts = from ++ x ∷ [] in (
        more,
        subst (λ (o : Option TaskId). elim o as (λ _. Type 0) [ Some c ↦ (x : Term × Vars) × (more ≡ from ++ x ∷ []) | None ↦ more ≡ from ]) (sym e) (x, refl),
        subst (λ (o : Option TaskId). elim o as (λ _. Type 0) [ Some c ↦ slice_get more c.0 ≡ Some (child z.term, z.vars) | None ↦ Unit {0} ]) (sym e) (get-last from x c.0 at),
      )

-- At a request: all terms make the entry exactly where it is the request. Then there is one list of starts more, and the player
-- goes on.
pub request_decides : (code : Block) (places : ℕ) (es : List Entry) (js : List (List PlaceEvent)) (from : Starts) (t : TaskId) (act : Act) (batch : List (List ℕ)) (s : Term × Vars) (z : Player) (left : Cells) → Stage code places es js from t act batch s → IsAt from es js t.0 s z left → AsksLedger (next_does (birth_of es t.0).to z) → (IsRequest es t act batch z → (more : Starts) × Grown from act more × Made code places (es ++ Step t act batch ∷ []) js more × IsAt more (es ++ Step t act batch ∷ []) js t.0 s (acted (birth_of es t.0).to z act) left) × ((others : Starts) → Made code places (es ++ Step t act batch ∷ []) js others → IsRequest es t act batch z)
request_decides code places es js from t act batch s z left g at asks = (
  λ k.
      let here = (birth_of es t.0).to in
      let m = grow code places es js from t act batch s g z (started_by act) refl in
      let asked : IsAsked m.0 here z (length es, act, batch) = (k.0, k.1, m.2) in
      let one : MakesFrom m.0 here z left ((length es, act, batch) ∷ []) left = (at_request m.0 here z left (length es, act, batch) asks).0 asked in
      (m.0, m.1, entry_is_made code places es js from t act batch s g m.0 m.1 (player_makes code places es js from t act batch s g m.0 m.1 z left left at one), player_goes_on code places es js from t act batch s g m.0 m.1 z left at asked),
  λ others made.
      let here = (birth_of es t.0).to in
      let one = player_only code places es js from t act batch s g others z left at made in
      let asked : IsAsked others here z (length es, act, batch) = (at_request others here z left (length es, act, batch) asks).1 one.0 one.1 in
      (asked.0, asked.1),
)

still : (from : Starts) (act : Act) (faults : List Fault) → act ≡ End faults → Grown from act from
still from act faults e = subst (λ (a : Act). Grown from a from) (sym e) refl

-- at an end: exactly where the entry is that end, with the player's batch
pub end_decides : (code : Block) (places : ℕ) (es : List Entry) (js : List (List PlaceEvent)) (from : Starts) (t : TaskId) (act : Act) (batch : List (List ℕ)) (s : Term × Vars) (z : Player) (left : Cells) (faults : List Fault) → Stage code places es js from t act batch s → IsAt from es js t.0 s z left → next_does (birth_of es t.0).to z ≡ Done faults → ((batch ≡ z.batch) × (act ≡ End faults) → Made code places (es ++ Step t act batch ∷ []) js from × HasEnded (es ++ Step t act batch ∷ []) t.0) × ((others : Starts) → Made code places (es ++ Step t act batch ∷ []) js others → (batch ≡ z.batch) × (act ≡ End faults))
end_decides code places es js from t act batch s z left faults g at done = (
  λ k.
      let here = (birth_of es t.0).to in
      let grown : Grown from act from = still from act faults k.1 in
      let one : MakesFrom from here z left ((length es, act, batch) ∷ []) left = (at_end from here z left (length es, act, batch) faults done).0 (k.0, k.1) in (
        entry_is_made code places es js from t act batch s g from grown (player_makes code places es js from t act batch s g from grown z left left at one),
        subst (λ (a : Act). HasEnded (es ++ Step t a batch ∷ []) t.0) (sym k.1) (player_ends code places es js from t faults batch s z left (subst (λ (a : Act). Stage code places es js from t a batch s) k.1 g) at),
      ),
  λ others made.
      let here = (birth_of es t.0).to in
      let one = player_only code places es js from t act batch s g others z left at made in
      (at_end others here z left (length es, act, batch) faults done).1 one.0 one.1,
)

-- before the first entry one term is at its birth, and task 0 stands at its start
pub opening_stands : (code : Block) (places : ℕ) (js : List (List PlaceEvent)) → Made code places [] js (main_start code places ∷ []) × IsAt (main_start code places ∷ []) [] js 0 (main_start code places) (fresh (main_start code places)) (cells_of [] js 0)
opening_stands code places js = (record { main = refl; all = refl; each = ((cells_of [] js 0, parts.stops), tt) }, walks.stays)

landing_walks : (starts : Starts) (here : PlaceId) (a z y : Player) (cells left rest : Cells) → Walks starts here z left [] y rest → (b : Bool) (low : ℕ) (moves : Moves) → Landing (λ low moves. Walks starts here a cells moves z left) ⊥ b low moves → Landing (λ low moves. Walks starts here a cells moves y rest) ⊥ b low moves
landing_walks starts here a z y cells left rest w b low moves h =
    landing_map (λ low moves. Walks starts here a cells moves z left) (λ low moves. Walks starts here a cells moves z left) (λ low moves. Walks starts here a cells moves y rest) ⊥ ⊥ ⊥
    (λ low moves v u. subst (λ (m : Moves). Walks starts here a cells m y rest) (append-nil moves) (walk_on starts here v w)) (λ v u. v) b low moves h h

-- between two entries a task walks on by local steps and by events that answer its store calls
pub seat_walks : (starts : Starts) (es : List Entry) (js : List (List PlaceEvent)) (t : ℕ) (s : Term × Vars) (z y : Player) (left rest : Cells) → IsAt starts es js t s z left → Walks starts (birth_of es t).to z left [] y rest → IsAt starts es js t s y rest
seat_walks starts es js t s z y left rest at w = landing_walks starts (birth_of es t).to (fresh s) z y (cells_of es js t) left rest w (travels (birth_of es t)) (birth_of es t).low (moves_from 0 es t) at

-- where its store call has no event that answers it, no terms make an entry of this task
pub halt_decides : (code : Block) (places : ℕ) (es : List Entry) (js : List (List PlaceEvent)) (from others : Starts) (t : TaskId) (act : Act) (batch : List (List ℕ)) (s : Term × Vars) (z : Player) (left : Cells) → Stage code places es js from t act batch s → IsAt from es js t.0 s z left → AsksStore (next_does (birth_of es t.0).to z) → Halts (birth_of es t.0).to z left → Made code places (es ++ Step t act batch ∷ []) js others → ⊥
halt_decides code places es js from others t act batch s z left g at asks halts made =
    let one = player_only code places es js from t act batch s g others z left at made in
    at_halt others (birth_of es t.0).to z left one.0 (length es, act, batch) asks halts one.1
