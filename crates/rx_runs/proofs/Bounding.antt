-- No run is longer than what its script, its plan and the main task's end cost.
use Rattle.std.proofs.Common.{◌≡◌, ◌≢◌, ℕ, zero, suc, ◌+◌, ◌*◌, ◌<◌, ◌≤◌, ◌%◌, Bool, true, false, cond, List, [], ◌∷◌, ◌++◌, length, slice_get, slice_set, Option, Some, None, refl, ap, ◌∙◌, sym, subst, arith}
use Rattle.std.proofs.lemmas.Bool.{or_right}
use Rattle.std.proofs.lemmas.List.{append-nil}
use Rattle.std.proofs.lemmas.List.Folds.{list_any-append}
use Rattle.rx_rules.proofs.Common.{PlaceId, TaskId, Fault, Block, work, Empty, items, granted, child, Tree, AllowedAct, Moves, Birth, birth_of, moves_from, travels, started_by, brought, Given, Event, in_all, plan_of, IsDue, rest_of, Player, Game, Turn, start_game, enabled, tree_in, acted, child_of, NoRoot}
use Rattle.rx_rules.specs.declared.tasks.Where.{Where}
use Rattle.rx_rules.specs.declared.tasks.Where.TheVariants.{At, Travel}
use Rattle.rx_rules.specs.declared.tasks.Task.{Task}
use Rattle.rx_rules.specs.declared.entries.Act.{Act}
use Rattle.rx_rules.specs.declared.entries.Act.TheVariants.{Open, At as Calls, Spawn, Arrive, Wait, Release, End, Print, Census}
use Rattle.rx_rules.specs.declared.entries.Entry.{Entry}
use Rattle.rx_rules.specs.declared.entries.Entry.TheVariants.{Step, Root, Death, Join}
use Rattle.rx_rules.specs.Picked as picked
use Rattle.rx_rules.specs.Picked.{Turns}
use Rattle.rx_rules.proofs.Numbers.{next-tree}
use Rattle.rx_runs.specs.Costs.{cost, started_cost}
use Rattle.rx_runs.specs.Ties.{is_end, has_end, RowSo}
use Rattle.rx_runs.specs.Games.{GameOk, PlayerSo}
use Rattle.rx_runs.proofs.Pushes.{birth-push}
use Rattle.rx_runs.proofs.Pairs.{pairs-get, pairs-length, set_same}
use Rattle.rx_runs.proofs.Told.{Told, told, StartsAt}
use Rattle.rx_runs.proofs.Rows.{row-found}
use Rattle.rx_runs.proofs.Planned.{IsPlanned, due_planned}
use Rattle.rx_runs.proofs.Tying.{no_move, no_move_joins}
use Rattle.rx_runs.proofs.Journals.{longer}
use Rattle.rx_runs.proofs.Keeping.{picked_row, root_not, turn_keeps}
use Rattle.rx_runs.proofs.Theorem.{turn_grows}
use Rattle.rx_runs.proofs.Plans.{plan_few}
use Rattle.rx_runs.proofs.Opening.{starts_ok}
use Rattle.rx_runs.proofs.Weighing.{share}
use Rattle.rx_runs.proofs.Costs.{cost_items, entry_spends, going_spends}
use Rattle.rx_runs.specs.Bounds.{TurnsBounded, EntriesBounded}

abbrev pub is_away : Birth → Moves → Bool
is_away b [] = travels b
is_away b (m ∷ ms) = false

abbrev pub one_more : Bool → ℕ
one_more b = cond b 1 0

-- what a task may still make, its arrival and its end with it
abbrev pub owed : Birth → Moves → Player → ℕ
owed b moves p = cond (has_end moves) 0 (1 + cost p.term + one_more (is_away b moves))

abbrev pub owes : List Entry → ℕ → List Player → ℕ
owes es n [] = 0
owes es n (p ∷ ps) = owed (birth_of es n) (moves_from 0 es n) p + owes es (suc n) ps

abbrev Same : List Entry → List Entry → ℕ → Type 0
Same es fs m = (birth_of fs m ≡ birth_of es m) × (moves_from 0 fs m ≡ moves_from 0 es m)

owed_same : (es fs : List Entry) (m : ℕ) (p : Player) → Same es fs m → owed (birth_of fs m) (moves_from 0 fs m) p ≡ owed (birth_of es m) (moves_from 0 es m) p
owed_same es fs m p h = ap (λ (b : Birth). owed b (moves_from 0 fs m) p) h.0 ∙ ap (λ (ms : Moves). owed (birth_of es m) ms p) h.1

owes-map : (es fs : List Entry) (n : ℕ) (ps : List Player) → ((m : ℕ) → n ≤ m → m < n + length ps → Same es fs m) → owes fs n ps ≡ owes es n ps
owes-map es fs n [] f = refl
owes-map es fs n (p ∷ ps) f =
    let a : owed (birth_of fs n) (moves_from 0 fs n) p ≡ owed (birth_of es n) (moves_from 0 es n) p = owed_same es fs n p (f n (omega arith) (omega arith)) in
    let b : owes fs (suc n) ps ≡ owes es (suc n) ps = owes-map es fs (suc n) ps (λ m le low. f m (omega arith) (omega arith)) in
    omega (arith, a, b)

owes-set : (es fs : List Entry) (n k c : ℕ) (ps : List Player) (p q : Player) → slice_get ps k ≡ Some p → ((m : ℕ) → n + k ≢ m → m < n + length ps → Same es fs m) → owed (birth_of fs (n + k)) (moves_from 0 fs (n + k)) q + c ≤ owed (birth_of es (n + k)) (moves_from 0 es (n + k)) p → owes fs n (slice_set ps k q) + c ≤ owes es n ps
owes-set es fs n k c [] p q h f le = cc
owes-set es fs n zero c (v ∷ ps) p q h f le =
    let same : v ≡ p = cc in
    let z : n + 0 ≡ n = omega arith in
    let first : owed (birth_of fs n) (moves_from 0 fs n) q + c ≤ owed (birth_of es n) (moves_from 0 es n) v = subst (λ (w : Player). owed (birth_of fs n) (moves_from 0 fs n) q + c ≤ owed (birth_of es n) (moves_from 0 es n) w) (sym same) (subst (λ (i : ℕ). owed (birth_of fs i) (moves_from 0 fs i) q + c ≤ owed (birth_of es i) (moves_from 0 es i) p) z le) in
    let b : owes fs (suc n) ps ≡ owes es (suc n) ps = owes-map es fs (suc n) ps (λ m l low. f m (λ e. omega arith) (omega arith)) in
    omega (arith, first, b)
owes-set es fs n (suc k) c (v ∷ ps) p q h f le =
    let z : n + suc k ≡ suc n + k = omega arith in
    let a : owed (birth_of fs n) (moves_from 0 fs n) v ≡ owed (birth_of es n) (moves_from 0 es n) v = owed_same es fs n v (f n (λ e. omega arith) (omega arith)) in
    let b : owes fs (suc n) (slice_set ps k q) + c ≤ owes es (suc n) ps = owes-set es fs (suc n) k c ps p q h (λ m o low. f m (λ e. o (omega arith)) (omega arith)) (subst (λ (i : ℕ). owed (birth_of fs i) (moves_from 0 fs i) q + c ≤ owed (birth_of es i) (moves_from 0 es i) p) z le) in
    omega (arith, a, b)

owed_most : (b : Birth) (moves : Moves) (p : Player) → owed b moves p ≤ cost p.term + 2
owed_most b moves p = either (has_end moves) (is_away b moves) where
  either : (v w : Bool) → cond v 0 (1 + cost p.term + one_more w) ≤ cost p.term + 2
  either true w = omega arith
  either false true = omega arith
  either false false = omega arith

owed_new : (b : Birth) (moves : Moves) (m : ℕ × Act × List (List ℕ)) (p : Player) → owed b (moves ++ m ∷ []) p ≤ cost p.term + 1
owed_new b [] m p = either (has_end (m ∷ [])) where
  either : (v : Bool) → cond v 0 (1 + cost p.term + 0) ≤ cost p.term + 1
  either true = omega arith
  either false = omega arith
owed_new b (n ∷ moves) m p = either (has_end (n ∷ moves ++ m ∷ [])) where
  either : (v : Bool) → cond v 0 (1 + cost p.term + 0) ≤ cost p.term + 1
  either true = omega arith
  either false = omega arith

owed_old : (b : Birth) (moves : Moves) (p : Player) → has_end moves ≡ false → cost p.term + 1 ≤ owed b moves p
owed_old b moves p h = rw h (omega arith)

owes-push : (es : List Entry) (n : ℕ) (ps : List Player) (p : Player) → owes es n (ps ++ p ∷ []) ≤ owes es n ps + (cost p.term + 2)
owes-push es n [] p = let a : owed (birth_of es n) (moves_from 0 es n) p ≤ cost p.term + 2 = owed_most (birth_of es n) (moves_from 0 es n) p in omega (arith, a)
owes-push es n (v ∷ ps) p = let a : owes es (suc n) (ps ++ p ∷ []) ≤ owes es (suc n) ps + (cost p.term + 2) = owes-push es (suc n) ps p in omega (arith, a)

children_owe : (es : List Entry) (ps : List Player) (r : Player) (o : Option TaskId) → owes es 0 (ps ++ (elim o as (λ _. List Player) [ Some c ↦ record { term = child r.term; vars = r.vars; batch = [] } ∷ [] | None ↦ [] ])) ≤ owes es 0 ps + share started_cost (child r.term) o
children_owe es ps r None = let e : owes es 0 (ps ++ []) ≡ owes es 0 ps = ap (owes es 0) (append-nil ps) in omega (arith, e)
children_owe es ps r (Some c) = owes-push es 0 ps (record { term = child r.term; vars = r.vars; batch = [] })

starts_at : (size : ℕ) (T : Tree) (t : TaskId) (act : Act) → T.next_task ≡ size → AllowedAct T t act → StartsAt size act
starts_at size T t (Open s r x) e may = tt
starts_at size T t (Calls from to s r c x) e may = may.asks.3 ∙ e
starts_at size T t (Spawn c s from to x) e may = may.asks.1 ∙ e
starts_at size T t (Arrive p) e may = tt
starts_at size T t (Wait s thrown) e may = tt
starts_at size T t (Release s lost masked thrown) e may = tt
starts_at size T t (End thrown) e may = tt
starts_at size T t (Print value x) e may = tt
starts_at size T t (Census places x) e may = tt

pub one_less : (n : ℕ) (e : Entry) (xs : List Event) → IsDue n e xs → length (rest_of xs) + 1 ≤ length xs
one_less n e [] h = absurd h
one_less n e (x ∷ xs) h = omega arith

-- a death and a join are of no task
planned_same : (es : List Entry) (e : Entry) (m : ℕ) → IsPlanned e → Same es (es ++ e ∷ []) m
planned_same es (Death d) m h = (birth-push 0 es (Death d) m refl, no_move es d m)
planned_same es (Join p) m h = (birth-push 0 es (Join p) m refl, no_move_joins es p m)
planned_same es (Step t act batch) m h = absurd h
planned_same es (Root lost masked thrown) m h = absurd h

module _ (code : Block) (U : Given) (G : Game) (ok : GameOk code U G) where
  next_one : (tree_in U G).next_task ≡ length ok.starts
  next_one = next-tree U.places G.entries ∙ sym ok.all

  step_pays : (t : TaskId) (act : Act) (batch : List (List ℕ)) (p q : Player) (c : ℕ) → StartsAt (length ok.starts) act → t.0 < length ok.starts → slice_get G.players t.0 ≡ Some p → owed (birth_of G.entries t.0) (moves_from 0 G.entries t.0 ++ (length G.entries, act, batch) ∷ []) q + c ≤ owed (birth_of G.entries t.0) (moves_from 0 G.entries t.0) p → owes (G.entries ++ Step t act batch ∷ []) 0 (slice_set G.players t.0 q) + c ≤ owes G.entries 0 G.players
  step_pays t act batch p q c at low player le =
      let fs : List Entry = G.entries ++ Step t act batch ∷ [] in
      let d : Told (length ok.starts) G.entries fs t act batch = told (length ok.starts) G.entries t act batch at in
      let long : length ok.starts ≡ length G.players = pairs-length (PlayerSo ok.starts G.entries G.journals) 0 ok.starts G.players ok.each in
      let z : 0 + t.0 ≡ t.0 = omega arith in
      let now : owed (birth_of fs t.0) (moves_from 0 fs t.0) q ≡ owed (birth_of G.entries t.0) (moves_from 0 G.entries t.0 ++ (length G.entries, act, batch) ∷ []) q = ap (λ (b : Birth). owed b (moves_from 0 fs t.0) q) (d.births t.0 low) ∙ ap (λ (ms : Moves). owed (birth_of G.entries t.0) ms q) d.own in
      let less : owed (birth_of fs t.0) (moves_from 0 fs t.0) q + c ≤ owed (birth_of G.entries t.0) (moves_from 0 G.entries t.0) p = subst (λ (v : ℕ). v + c ≤ owed (birth_of G.entries t.0) (moves_from 0 G.entries t.0) p) (sym now) le in
      owes-set G.entries fs 0 t.0 c G.players p q player (λ m o l. (d.births m (omega arith), d.moves m (λ v. o (z ∙ v))))
      (subst (λ (i : ℕ). owed (birth_of fs i) (moves_from 0 fs i) q + c ≤ owed (birth_of G.entries i) (moves_from 0 G.entries i) p) (sym z) less)

  -- an entry is paid by the task that makes it
  pays_move : (i : ℕ) (x : Task) (here : PlaceId) (p r : Player) (act : Act) → slice_get (enabled (tree_in U G)) i ≡ Some x → x.place ≡ At here → slice_get G.players x.number.0 ≡ Some p → cost r.term ≤ cost p.term → cost (granted (brought act) r.term) + share started_cost (child r.term) (started_by act) + 1 ≤ cost r.term → AllowedAct (tree_in U G) x.number act → owes (G.entries ++ Step x.number act r.batch ∷ []) 0 (slice_set G.players x.number.0 (acted here r act) ++ child_of r act) + 1 ≤ owes G.entries 0 G.players
  pays_move i x here p r act pick at player walk fit may =
      let t : TaskId = x.number in
      let last : Player = acted here r act in
      let fs : List Entry = G.entries ++ Step t act r.batch ∷ [] in
      let b : Birth = birth_of G.entries t.0 in
      let ms : Moves = moves_from 0 G.entries t.0 in
      let found = picked_row (in_all U) (length ok.starts) G.entries (tree_in U G) i x ok.ties pick in
      let old : cost p.term + 1 ≤ owed b ms p = owed_old b ms p found.1.going in
      let new : owed b (ms ++ (length G.entries, act, r.batch) ∷ []) last ≤ cost (granted (brought act) r.term) + 1 = owed_new b ms (length G.entries, act, r.batch) last in
      let set : owes fs 0 (slice_set G.players t.0 last) + (share started_cost (child r.term) (started_by act) + 1) ≤ owes G.entries 0 G.players = step_pays t act r.batch p last (share started_cost (child r.term) (started_by act) + 1) (starts_at (length ok.starts) (tree_in U G) t act next_one may) found.0 player (omega (arith, old, new, walk, fit)) in
      let more : owes fs 0 (slice_set G.players t.0 last ++ child_of r act) ≤ owes fs 0 (slice_set G.players t.0 last) + share started_cost (child r.term) (started_by act) = children_owe fs (slice_set G.players t.0 last) r (started_by act) in
      omega (arith, set, more)

  pays_end : (i : ℕ) (x : Task) (p : Player) (faults : List Fault) (batch : List (List ℕ)) → slice_get (enabled (tree_in U G)) i ≡ Some x → slice_get G.players x.number.0 ≡ Some p → owes (G.entries ++ Step x.number (End faults) batch ∷ []) 0 G.players + 1 ≤ owes G.entries 0 G.players
  pays_end i x p faults batch pick player =
      let t : TaskId = x.number in
      let b : Birth = birth_of G.entries t.0 in
      let ms : Moves = moves_from 0 G.entries t.0 in
      let found = picked_row (in_all U) (length ok.starts) G.entries (tree_in U G) i x ok.ties pick in
      let old : cost p.term + 1 ≤ owed b ms p = owed_old b ms p found.1.going in
      let m : ℕ × Act × List (List ℕ) = (length G.entries, End faults, batch) in
      let over : has_end (ms ++ m ∷ []) ≡ true = list_any-append is_end ms (m ∷ []) ∙ or_right (has_end ms) (has_end (m ∷ [])) refl in
      let none : owed b (ms ++ m ∷ []) p ≡ 0 = ap (λ (v : Bool). cond v 0 (1 + cost p.term + one_more (is_away b (ms ++ m ∷ [])))) over in
      let set : owes (G.entries ++ Step t (End faults) batch ∷ []) 0 (slice_set G.players t.0 p) + 1 ≤ owes G.entries 0 G.players = step_pays t (End faults) batch p p 1 tt found.0 player (omega (arith, old, none)) in
      subst (λ (ps : List Player). owes (G.entries ++ Step t (End faults) batch ∷ []) 0 ps + 1 ≤ owes G.entries 0 G.players) (set_same G.players t.0 p player) set

  pays_arrival : (t : TaskId) (p from : PlaceId) (o : Player) → t.0 < length ok.starts → RowSo G.entries t.0 (Travel from p) → slice_get G.players t.0 ≡ Some o → owes (G.entries ++ Step t (Arrive p) [] ∷ []) 0 G.players + 1 ≤ owes G.entries 0 G.players
  pays_arrival t p from o low row player =
      let b : Birth = birth_of G.entries t.0 in
      let ms : Moves = moves_from 0 G.entries t.0 in
      let m : ℕ × Act × List (List ℕ) = (length G.entries, Arrive p, []) in
      let new : owed b (ms ++ m ∷ []) o ≤ cost o.term + 1 = owed_new b ms m o in
      let empty : owed b ms o ≡ 1 + cost o.term + one_more (travels b) = ap (λ (v : Moves). owed b v o) row.place.2 in
      let one : one_more (travels b) ≡ 1 = ap one_more row.place.1 in
      let set : owes (G.entries ++ Step t (Arrive p) [] ∷ []) 0 (slice_set G.players t.0 o) + 1 ≤ owes G.entries 0 G.players = step_pays t (Arrive p) [] o o 1 tt low player (omega (arith, new, empty, one)) in
      subst (λ (ps : List Player). owes (G.entries ++ Step t (Arrive p) [] ∷ []) 0 ps + 1 ≤ owes G.entries 0 G.players) (set_same G.players t.0 o player) set

-- what is made, what is owed and what is left of the plan never grow
abbrev pub total : Game → ℕ
total G = length G.entries + owes G.entries 0 G.players + length G.plan

pub turn_pays : (code : Block) (U : Given) (k : ℕ) (used : Bool) (G G' : Game) → GameOk code U G → Turn U k G used G' → NoRoot G'.entries → total G' ≤ total G
turn_pays code U k used G G' ok (picked.due e now) h =
    let fs : List Entry = G.entries ++ e ∷ [] in
    let planned : IsPlanned e = due_planned (length G.entries) (in_all U) (tree_in U G).places G.entries G.plan e now ok.plan in
    let same : owes fs 0 G.players ≡ owes G.entries 0 G.players = owes-map G.entries fs 0 G.players (λ m le low. planned_same G.entries e m planned) in
    let size : length fs ≡ suc (length G.entries) = longer G.entries e in
    let less : length (rest_of G.plan) + 1 ≤ length G.plan = one_less (length G.entries) e G.plan now in
    omega (arith, same, size, less)
turn_pays code U k used G G' ok (picked.arrives x p takes may) h =
    let t : TaskId = x.number in
    let found = row-found t may.task (length ok.starts) G.entries (tree_in U G).tasks may.stands may.unstruck ok.ties.rows in
    let row : RowSo G.entries t.0 (Travel may.asks.0 p) = subst (λ (w : Where). RowSo G.entries t.0 w) may.asks.1 found.1 in
    let both = pairs-get 0 t.0 ok.starts G.players found.0 ok.each in
    let paid : owes (G.entries ++ Step t (Arrive p) [] ∷ []) 0 G.players + 1 ≤ owes G.entries 0 G.players = pays_arrival code U G ok t p may.asks.0 both.right found.0 row both.at_right in
    let size : length (G.entries ++ Step t (Arrive p) [] ∷ []) ≡ suc (length G.entries) = longer G.entries (Step t (Arrive p) []) in
    omega (arith, paid, size)
turn_pays code U k used G G' ok (picked.moves x here p q S Z j act takes at player store goes fits may) h =
    let paid : owes G'.entries 0 G'.players + 1 ≤ owes G.entries 0 G.players = pays_move code U G ok (k % length (enabled (tree_in U G))) x here p q act takes.1 at player (going_spends goes) (entry_spends q.vars here q.term act fits) may in
    let size : length (G.entries ++ Step x.number act q.batch ∷ []) ≡ suc (length G.entries) = longer G.entries (Step x.number act q.batch) in
    omega (arith, paid, size)
turn_pays code U k used G G' ok (picked.ends x here p q S Z j faults takes at player store goes done may) h =
    let paid : owes (G.entries ++ Step x.number (End faults) q.batch ∷ []) 0 G.players + 1 ≤ owes G.entries 0 G.players = pays_end code U G ok (k % length (enabled (tree_in U G))) x p faults q.batch takes.1 player in
    let size : length (G.entries ++ Step x.number (End faults) q.batch ∷ []) ≡ suc (length G.entries) = longer G.entries (Step x.number (End faults) q.batch) in
    omega (arith, paid, size)
turn_pays code U k used G G' ok (picked.root lost masked thrown none_due empty may) h = absurd (root_not G.entries lost masked thrown h)

turns_pay : (code : Block) (U : Given) (picks : ℕ → ℕ) (n j : ℕ) (G G' : Game) → GameOk code U G → Turns U picks n j G G' → length G'.entries ≤ total G + 1
turns_pay code U picks n j G G' ok picked.none = omega arith
turns_pay code U picks n j G G' ok (picked.more free t picked.none) =
    let grown = turn_grows U _ _ G G' t in
    let size : length G'.entries ≡ suc (length G.entries) = ap length grown.1 ∙ longer G.entries grown.0 in
    omega (arith, size)
turns_pay code U picks n j G G'' ok (picked.more {G' = G'} free t (picked.more now u ts)) =
    let one : total G' ≤ total G = turn_pays code U _ _ G G' ok t now in
    let rest : length G''.entries ≤ total G' + 1 = turns_pay code U picks _ _ G' G'' (turn_keeps code U _ _ G G' ok t now) (picked.more now u ts) in
    omega (arith, one, rest)

-- each turn makes one entry
pub turns_make : (U : Given) (picks : ℕ → ℕ) (n j : ℕ) (G G' : Game) → Turns U picks n j G G' → length G'.entries ≡ n + length G.entries
turns_make U picks n j G G' picked.none = omega arith
turns_make U picks n j G G'' (picked.more {n = m} {G' = G'} free t ts) =
    let grown = turn_grows U _ _ G G' t in
    let size : length G'.entries ≡ suc (length G.entries) = ap length grown.1 ∙ longer G.entries grown.0 in
    let rest : length G''.entries ≡ m + length G'.entries = turns_make U picks m _ G' G'' ts in
    omega (arith, size, rest)

pub entries_bounded : EntriesBounded
entries_bounded code U picks n G proper ts =
    let all : length G.entries ≤ total (start_game code U) + 1 = turns_pay code U picks n 0 (start_game code U) G (starts_ok code U proper) ts in
    let first : cost (items code [] Empty) ≡ 4 * work code + 0 = cost_items code [] 0 Empty in
    let start : total (start_game code U) ≡ 0 + ((1 + cost (items code [] Empty) + 0) + 0) + length (plan_of U) = refl in
    let few : length (plan_of U) + 1 ≤ U.places + 2 * length U.joins = plan_few U proper in
    omega (arith, all, first, start, few)

pub turns_bounded : TurnsBounded
turns_bounded code U picks n G proper ts =
    let made : length G.entries ≡ n + 0 = turns_make U picks n 0 (start_game code U) G ts in
    let few : length G.entries ≤ 4 * work code + U.places + 2 * length U.joins + 1 = entries_bounded code U picks n G proper ts in
    omega (arith, made, few)
