-- Each task plays, after a turn.
use Rattle.rx_rules.proofs.Common.{Vars, PlaceId, TaskId, Fault, Term, Done, does, granted, Moves, Birth, Plays, StartsSo, birth_of, moves_from, journal_at, cell_of, travels, brought, vars_told, State, Player}
use Rattle.std.proofs.Common.{◌≡◌, ℕ, suc, ◌<◌, ◌≤◌, Bool, true, false, ◌==◌, List, [], ◌∷◌, ◌++◌, length, slice_set, refl, ap, ◌∙◌, sym, subst, arith, inl, inr}
use Rattle.std.specs.List.{filter_map}
use Rattle.std.proofs.lemmas.Bool.{eqb-true, eq-eqb, true≢false}
use Rattle.std.proofs.lemmas.List.{append-nil}
use Rattle.std.proofs.lemmas.List.Elements.{filter_map-append}
use Rattle.rx_rules.specs.declared.entries.Act.{Act}
use Rattle.rx_rules.specs.declared.entries.Act.TheVariants.{Arrive, End}
use Rattle.rx_rules.specs.declared.events.Cell.{Cell}
use Rattle.rx_rules.specs.declared.entries.Entry.{Entry}
use Rattle.rx_rules.specs.declared.events.PlaceEvent.{PlaceEvent}
use Rattle.rx_rules.specs.Plays.{Fits}
use Rattle.rx_runs.specs.Segments.{StandGoes, stays, asks}
use Rattle.rx_runs.specs.Ties.{HasLanded, has_end}
use Rattle.rx_runs.specs.Games.{TaskSo, away, going, over, PlayerSo, Landed, stand, fresh}
use Rattle.rx_runs.proofs.Segments.{joined, ended}
use Rattle.rx_runs.proofs.Stores.{Piece}
use Rattle.rx_runs.proofs.Rooted.{landed}
use Rattle.rx_runs.proofs.Wider.{Keeps, task_on, goes_wider}
use Rattle.rx_runs.proofs.Pairs.{journal_same, journal_other}

abbrev pub Starts : Type 0
Starts = List (Term × Vars)

abbrev pub Cells : Type 0
Cells = List (ℕ × Cell × List ℕ)

-- the same task, by equal parts
pub task_as : (starts : Starts) (z : ℕ) (b v : Birth) (s : Term × Vars) (cs ds : Cells) (ms ns : Moves) (p : Player) → v ≡ b → ds ≡ cs → ns ≡ ms → TaskSo starts z b s cs ms p → TaskSo starts z v s ds ns p
task_as starts z b v s cs ds ms ns p eb ec em h =
    subst (λ (w : Birth). TaskSo starts z w s ds ns p) (sym eb)
    (subst (λ (w : Cells). TaskSo starts z b s w ns p) (sym ec)
    (subst (λ (w : Moves). TaskSo starts z b s cs w p) (sym em) h))

-- a task that the entry does not concern
pub player_other : (starts more : Starts) → Keeps starts more → (es fs : List Entry) (js ks : List (List PlaceEvent)) (m : ℕ) (s : Term × Vars) (p : Player) → length es ≤ length fs → birth_of fs m ≡ birth_of es m → moves_from 0 fs m ≡ moves_from 0 es m → ((r : ℕ) → filter_map (cell_of m) (journal_at ks r) ≡ filter_map (cell_of m) (journal_at js r)) → PlayerSo starts es js m s p → PlayerSo more fs ks m s p
player_other starts more keeps es fs js ks m s p le b ms cs h =
    task_as more (length fs) (birth_of es m) (birth_of fs m) s (filter_map (cell_of m) (journal_at js (birth_of es m).to.0)) (filter_map (cell_of m) (journal_at ks (birth_of fs m).to.0)) (moves_from 0 es m) (moves_from 0 fs m) p
    b
    (cs (birth_of fs m).to.0 ∙ ap (λ (v : Birth). filter_map (cell_of m) (journal_at js v.to.0)) b)
    ms
    (task_on more keeps (length fs) le h)

-- the task that acts
pub record Going (starts : Starts) (size : ℕ) (b : Birth) (s : Term × Vars) (cells : Cells) (moves : Moves) (p : Player) : Type 0 where
  pub low : ℕ
  pub now : ℕ
  pub rest : Moves
  pub lands : Landed b moves low rest
  pub goes : StandGoes starts b.to (stand low (fresh s)) cells rest (stand now p)
  pub below : now ≤ size

pub going_of : {starts : Starts} {size : ℕ} {b : Birth} {s : Term × Vars} {cells : Cells} {moves : Moves} {p : Player} → TaskSo starts size b s cells moves p → HasLanded b moves → has_end moves ≡ false → Going starts size b s cells moves p
going_of {b = b} (away t m c e le) l n = absurd (let none : HasLanded b [] = subst (λ (v : Moves). HasLanded b v) m l in true≢false (sym t ∙ none))
going_of (going low now rest l g le) h n = record { low = low; now = now; rest = rest; lands = l; goes = g; below = le }
going_of (over e h) l n = absurd (true≢false (sym e ∙ n))

landed-push : (b : Birth) (moves rest : Moves) (low : ℕ) (m : ℕ × Act × List (List ℕ)) → Landed b moves low rest → Landed b (moves ++ m ∷ []) low (rest ++ m ∷ [])
landed-push b moves rest low m (inl h) = inl (h.0, ap (λ (v : Moves). v ++ m ∷ []) h.1, h.2)
landed-push b moves rest low m (inr h) = inr (h.0, h.1, ap (λ (v : Moves). v ++ m ∷ []) h.2, h.3)

-- up to the entry of the turn
pub walked : {starts more : Starts} {size heap : ℕ} {b : Birth} {s : Term × Vars} {cells : Cells} {moves : Moves} {p r : Player} {t : TaskId} {here : PlaceId} {S Z : State} {j k : List PlaceEvent} → Keeps starts more → b.to ≡ here → (g : Going starts size b s cells moves p) → (c : Piece more heap size t here g.now p S j r Z k) → StandGoes more b.to (stand g.low (fresh s)) (cells ++ filter_map (cell_of t.0) c.new) (g.rest ++ []) (stand c.now r)
walked {more = more} {p = p} {r = r} {t = t} keeps e g c =
    joined (goes_wider more keeps g.goes) (subst (λ (h : PlaceId). StandGoes more h (stand g.now p) (filter_map (cell_of t.0) c.new) [] (stand c.now r)) (sym e) c.goes)

pub acted : (starts more : Starts) (size heap : ℕ) (b : Birth) (s : Term × Vars) (cells : Cells) (moves : Moves) (p r : Player) (t : TaskId) (here : PlaceId) (S Z : State) (j k : List PlaceEvent) (act : Act) → Keeps starts more → b.to ≡ here → (g : Going starts size b s cells moves p) → (c : Piece more heap size t here g.now p S j r Z k) → Fits here r.term (does r.vars here.0 r.term) act → StartsSo more r.term r.vars act → TaskSo more (suc size) b s (cells ++ filter_map (cell_of t.0) c.new) (moves ++ (size, act, r.batch) ∷ []) (record { term = granted (brought act) r.term; vars = vars_told (does r.vars here.0 r.term) act r.vars; batch = [] })
acted starts more size heap b s cells moves p r t here S Z j k act keeps e g c fits so =
    let new : Cells = filter_map (cell_of t.0) c.new in
    let last : Player = record { term = granted (brought act) r.term; vars = vars_told (does r.vars here.0 r.term) act r.vars; batch = [] } in
    let m : ℕ × Act × List (List ℕ) = (size, act, r.batch) in
    let step : StandGoes more b.to (stand c.now r) [] (m ∷ []) (stand (suc size) last) =
    subst (λ (h : PlaceId). StandGoes more h (stand c.now r) [] (m ∷ []) (stand (suc size) last)) (sym e) (asks c.low_now fits so stays) in
    let all : StandGoes more b.to (stand g.low (fresh s)) ((cells ++ new) ++ []) ((g.rest ++ []) ++ m ∷ []) (stand (suc size) last) = joined (walked keeps e g c) step in
    let one : StandGoes more b.to (stand g.low (fresh s)) (cells ++ new) ((g.rest ++ []) ++ m ∷ []) (stand (suc size) last) = subst (λ (v : Cells). StandGoes more b.to (stand g.low (fresh s)) v ((g.rest ++ []) ++ m ∷ []) (stand (suc size) last)) (append-nil (cells ++ new)) all in
    let two : StandGoes more b.to (stand g.low (fresh s)) (cells ++ new) (g.rest ++ m ∷ []) (stand (suc size) last) = subst (λ (v : Moves). StandGoes more b.to (stand g.low (fresh s)) (cells ++ new) (v ++ m ∷ []) (stand (suc size) last)) (append-nil g.rest) one in
    going g.low (suc size) (g.rest ++ m ∷ []) (landed-push b moves g.rest g.low m g.lands) two (omega arith)

pub finished : (starts : Starts) (size heap : ℕ) (b : Birth) (s : Term × Vars) (cells : Cells) (moves : Moves) (p r : Player) (t : TaskId) (here : PlaceId) (S Z : State) (j k : List PlaceEvent) (faults : List Fault) → b.to ≡ here → (g : Going starts size b s cells moves p) → (c : Piece starts heap size t here g.now p S j r Z k) → does r.vars here.0 r.term ≡ Done faults → has_end (moves ++ (size, End faults, r.batch) ∷ []) ≡ true → (last : Player) → TaskSo starts (suc size) b s (cells ++ filter_map (cell_of t.0) c.new) (moves ++ (size, End faults, r.batch) ∷ []) last
finished starts size heap b s cells moves p r t here S Z j k faults e g c d ends last =
    let new : Cells = filter_map (cell_of t.0) c.new in
    let m : ℕ × Act × List (List ℕ) = (size, End faults, r.batch) in
    let done : does r.vars b.to.0 r.term ≡ Done faults = subst (λ (h : PlaceId). does r.vars h.0 r.term ≡ Done faults) (sym e) d in
    let all : Plays starts b.to g.low s.1 s.0 [] (cells ++ new) ((g.rest ++ []) ++ m ∷ []) = ended size faults (walked (λ n x h. h) e g c) c.low_now done in
    let one : Plays starts b.to g.low s.1 s.0 [] (cells ++ new) (g.rest ++ m ∷ []) = subst (λ (v : Moves). Plays starts b.to g.low s.1 s.0 [] (cells ++ new) (v ++ m ∷ [])) (append-nil g.rest) all in
    over ends (landed b s (cells ++ new) (moves ++ m ∷ []) (g.rest ++ m ∷ []) g.low (landed-push b moves g.rest g.low m g.lands) one)

-- an arrival
pub arrived : (starts : Starts) (size : ℕ) (b : Birth) (s : Term × Vars) (cells : Cells) (moves : Moves) (p : Player) (to : PlaceId) → TaskSo starts size b s cells moves p → b.to ≡ to → travels b ≡ true → moves ≡ [] → TaskSo starts (suc size) b s cells (moves ++ (size, Arrive to, []) ∷ []) p
arrived starts size b s cells moves p to (away t m c e le) same tr none =
    let here : StandGoes starts b.to (stand (suc size) (fresh s)) cells [] (stand (suc size) p) = subst (λ (v : Cells). StandGoes starts b.to (stand (suc size) (fresh s)) v [] (stand (suc size) p)) (sym c) (subst (λ (v : Player). StandGoes starts b.to (stand (suc size) (fresh s)) [] [] (stand (suc size) v)) (sym e) stays) in
    going (suc size) (suc size) [] (inr (size, tr, ap (λ (v : Moves). v ++ (size, Arrive to, []) ∷ []) none ∙ ap (λ (v : PlaceId). (size, Arrive v, []) ∷ []) (sym same), refl)) here (omega arith)
arrived starts size b s cells moves p to (going low now rest (inl l) g le) same tr none = absurd (true≢false (sym tr ∙ l.0))
arrived starts size b s cells moves p to (going low now rest (inr l) g le) same tr none = absurd (let u : (l.0, Arrive b.to, []) ∷ rest ≡ [] = sym l.2 ∙ none in cc)
arrived starts size b s cells moves p to (over e h) same tr none = absurd (true≢false (sym e ∙ ap has_end none))

-- a birth
pub newborn : (starts : Starts) (size : ℕ) (b : Birth) (s : Term × Vars) (cells : Cells) (moves : Moves) → cells ≡ [] → moves ≡ [] → b.low ≤ size → TaskSo starts size b s cells moves (fresh s)
newborn starts size b s cells moves c m le =
    task_as starts size b b s [] cells [] moves (fresh s) refl c m (either (travels b) refl) where
      either : (v : Bool) → travels b ≡ v → TaskSo starts size b s [] [] (fresh s)
      either true e = away e refl refl refl le
      either false e = going b.low b.low [] (inl (e, refl, refl)) stays le

-- cells, after a turn at a place
pub cells_own : (js : List (List PlaceEvent)) (here m : ℕ) (k new : List PlaceEvent) → here < length js → k ≡ journal_at js here ++ new → filter_map (cell_of m) (journal_at (slice_set js here k) here) ≡ filter_map (cell_of m) (journal_at js here) ++ filter_map (cell_of m) new
cells_own js here m k new low e = ap (filter_map (cell_of m)) (journal_same js here k low ∙ e) ∙ filter_map-append (cell_of m) (journal_at js here) new

pub cells_other : (js : List (List PlaceEvent)) (here m r : ℕ) (k new : List PlaceEvent) → here < length js → k ≡ journal_at js here ++ new → filter_map (cell_of m) new ≡ [] → filter_map (cell_of m) (journal_at (slice_set js here k) r) ≡ filter_map (cell_of m) (journal_at js r)
cells_other js here m r k new low e none = either (here == r) refl where
  either : (v : Bool) → (here == r) ≡ v → filter_map (cell_of m) (journal_at (slice_set js here k) r) ≡ filter_map (cell_of m) (journal_at js r)
  either true h =
      subst (λ (i : ℕ). filter_map (cell_of m) (journal_at (slice_set js here k) i) ≡ filter_map (cell_of m) (journal_at js i)) (eqb-true here r h)
      (cells_own js here m k new low e ∙ ap (λ (v : Cells). filter_map (cell_of m) (journal_at js here) ++ v) none ∙ append-nil (filter_map (cell_of m) (journal_at js here)))
  either false h = ap (filter_map (cell_of m)) (journal_other js here r k (λ v. true≢false (sym (eq-eqb here r v) ∙ h)))
