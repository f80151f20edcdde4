-- Each entry keeps what ties the tree to the history.
use Rattle.std.proofs.Common.{◌≡◌, ◌≢◌, ℕ, suc, ◌+◌, ◌<◌, ◌≤◌, Bool, true, false, cond, not, ◌&&◌, ◌==◌, List, [], ◌∷◌, ◌++◌, length, map, filter, slice_index_or, slice_set, Option, Some, None, is_none, option_map, refl, ap, ◌∙◌, sym, subst, arith, length-set}
use Rattle.std.proofs.lemmas.Bool.{eq-eqb, eqb-true, true≢false, or_parts}
use Rattle.std.proofs.lemmas.List.{append-nil, get_or-set_same, get_or-set_other}
use Rattle.std.proofs.lemmas.List.Folds.{list_any-append}
use Rattle.rx_rules.proofs.Common.{PlaceId, TaskId, ScopeId, Fault, Tree, is_task, death_of, change_first, hit, is_hit, strike, waiting, resumed, born, widened, made_act, after_end, AllowedAct, Moves, Birth, birth_in, birth_of, moves_from, started_by, death_number}
use Rattle.rx_rules.specs.declared.tasks.Where.{Where}
use Rattle.rx_rules.specs.declared.tasks.Where.TheVariants.{At, Travel}
use Rattle.rx_rules.specs.declared.entries.Act.{Act}
use Rattle.rx_rules.specs.declared.entries.Act.TheVariants.{Open, At as Calls, Spawn, Arrive, Wait, Release, End, Print, Census}
use Rattle.rx_rules.specs.declared.entries.Entry.{Entry}
use Rattle.rx_rules.specs.declared.entries.Entry.TheVariants.{Step, Death, Join}
use Rattle.rx_rules.specs.declared.tasks.Task.{Task}
use Rattle.rx_rules.specs.declared.tasks.Blow.{Blow}
use Rattle.rx_rules.proofs.Append.{end-tasks}
use Rattle.rx_tree_laws.proofs.Blows.{hit_number, hit_place}
use Rattle.rx_runs.specs.Ties.{is_end, has_end, HasLanded, PlaceSo, RowSo, RowsSo, Ties}
use Rattle.rx_runs.proofs.Pushes.{moves-push, birth-push}
use Rattle.rx_runs.proofs.Journals.{death_same, other_death, own_death}
use Rattle.rx_runs.proofs.Told.{Told, told, StartsAt, birth_other, among-push, birth-new}
use Rattle.rx_runs.proofs.Rows.{rows-up, rows-on, rows-filter, rows-change, row_any, row_other, row_as, landed-more}

-- the rows

rows-end : (t : TaskId) (n : ℕ) (es more : List Entry) (xs : List Task) → ((k : ℕ) (w : Where) → k < n → t.0 ≢ k → RowSo es k w → RowSo more k w) → RowsSo n es xs → RowsSo n more (filter (λ y. not (is_task t y)) xs)
rows-end t n es more [] f h = tt
rows-end t n es more (x ∷ xs) f h =
    step (is_task t x) refl (rows-end t x.number.0 es more xs (λ k w l o r. let low : x.number.0 < n = h.0 in f k w (omega arith) o r) h.2) where
      step : (b : Bool) → is_task t x ≡ b → RowsSo x.number.0 more (filter (λ y. not (is_task t y)) xs) → RowsSo n more (filter (λ y. not (is_task t y)) (x ∷ xs))
      step true e rest = rw e (let low : x.number.0 < n = h.0 in rows-up x.number.0 n more (filter (λ y. not (is_task t y)) xs) (omega arith) rest)
      step false e rest = rw e (h.0, λ u. f x.number.0 x.place h.0 (λ v. true≢false (sym (eq-eqb x.number.0 t.0 (sym v)) ∙ e)) (h.1 u), rest)

abbrev arrived : PlaceId → Task → Task
arrived p x = record x { place = At p }

rows-arrive : (t : TaskId) (p : PlaceId) (n : ℕ) (es more : List Entry) (xs : List Task) → ((k : ℕ) (w : Where) → k < n → t.0 ≢ k → RowSo es k w → RowSo more k w) → RowSo more t.0 (At p) → RowsSo n es xs → RowsSo n more (change_first (is_task t) (arrived p) xs)
rows-arrive t p n es more [] f r h = tt
rows-arrive t p n es more (x ∷ xs) f r h =
    step (is_task t x) refl (rows-arrive t p x.number.0 es more xs (λ k w l o v. let low : x.number.0 < n = h.0 in f k w (omega arith) o v) r h.2) where
      step : (b : Bool) → is_task t x ≡ b → RowsSo x.number.0 more (change_first (is_task t) (arrived p) xs) → RowsSo n more (change_first (is_task t) (arrived p) (x ∷ xs))
      step true e rest =
          let same : x.number.0 ≡ t.0 = eqb-true x.number.0 t.0 e in
          let low : x.number.0 < n = h.0 in
          rw e (h.0, λ u. subst (λ (i : ℕ). RowSo more i (At p)) (sym same) r, rows-on x.number.0 es more xs (λ k w l v. f k w (omega arith) (λ z. omega arith) v) h.2)
      step false e rest = rw e (h.0, λ u. f x.number.0 x.place h.0 (λ v. true≢false (sym (eq-eqb x.number.0 t.0 (sym v)) ∙ e)) (h.1 u), rest)

-- a death

unhit : (w : Blow) (x : Task) → (hit w x).struck ≡ None → (x.struck ≡ None) × (is_hit w.place x.place ≡ false)
unhit w x h = either (is_none x.struck && is_hit w.place x.place) refl h where
  either : (v : Bool) → (is_none x.struck && is_hit w.place x.place) ≡ v → (cond v (record x { struck = Some w }) x).struck ≡ None → (x.struck ≡ None) × (is_hit w.place x.place ≡ false)
  either true e u = cc
  either false e u = let off : (true && is_hit w.place x.place) ≡ false = ap (λ (o : Option Blow). is_none o && is_hit w.place x.place) (sym u) ∙ e in (u, off)

not_to : (d to : PlaceId) (b : Birth) (moves : Moves) (w : Where) → PlaceSo b moves w → is_hit d w ≡ false → d.0 ≢ b.to.0
not_to d to b moves (At p) h e v =
    let same : b.to.0 ≡ p.0 = ap (λ (q : PlaceId). q.0) h.0 in true≢false (sym (eq-eqb p.0 d.0 (sym same ∙ sym v)) ∙ e)
not_to d to b moves (Travel from p) h e v =
    let same : b.to.0 ≡ p.0 = ap (λ (q : PlaceId). q.0) h.0 in true≢false (sym (eq-eqb p.0 d.0 (sym same ∙ sym v)) ∙ (or_parts (from.0 == d.0) (p.0 == d.0) e).1)

pub no_move : (es : List Entry) (d : PlaceId) (m : ℕ) → moves_from 0 (es ++ Death d ∷ []) m ≡ moves_from 0 es m
no_move es d m = moves-push 0 es (Death d) m ∙ append-nil (moves_from 0 es m)

rows-death : (es : List Entry) (w : Blow) (n : ℕ) (xs : List Task) → RowsSo n es xs → RowsSo n (es ++ Death w.place ∷ []) (map (hit w) xs)
rows-death es w n [] h = tt
rows-death es w n (x ∷ xs) h =
    let k : ℕ = x.number.0 in (
      subst (λ (i : TaskId). i.0 < n) (sym (hit_number w x)) h.0,
      λ u.
          let off = unhit w x u in
          let old : RowSo es x.number.0 x.place = h.1 off.0 in
          let other : w.place.0 ≢ (birth_of es x.number.0).to.0 = not_to w.place w.place (birth_of es x.number.0) (moves_from 0 es x.number.0) x.place old.place off.1 in
          let new : RowSo (es ++ Death w.place ∷ []) x.number.0 x.place = row_as es (es ++ Death w.place ∷ []) x.number.0 x.place (birth-push 0 es (Death w.place) x.number.0 refl) (no_move es w.place x.number.0) (death_same (birth_of es x.number.0).to es (Death w.place) (other_death (birth_of es x.number.0).to w.place es other)) old in
          subst (λ (i : TaskId). RowSo (es ++ Death w.place ∷ []) i.0 (hit w x).place) (sym (hit_number w x)) (subst (λ (v : Where). RowSo (es ++ Death w.place ∷ []) x.number.0 v) (sym (hit_place w x)) new),
      subst (λ (i : TaskId). RowsSo i.0 (es ++ Death w.place ∷ []) (map (hit w) xs)) (sym (hit_number w x)) (rows-death es w x.number.0 xs h.2),
    )

deaths_now : (es : List Entry) (d p : PlaceId) (dead : List (Option ℕ)) → length dead ≡ 16 → d.0 < 16 → death_number 0 d es ≡ None → slice_index_or dead p.0 None ≡ death_number 0 p es → (b : Bool) → (d.0 == p.0) ≡ b → slice_index_or (slice_set dead d.0 (Some (length es))) p.0 None ≡ death_number 0 p (es ++ Death d ∷ [])
deaths_now es d p dead size low lives old true e =
    let same : d.0 ≡ p.0 = eqb-true d.0 p.0 e in
    let it : d ≡ p = ap (λ (n : ℕ). let q : PlaceId = record { 0 = n } in q) same in
    let fits : d.0 < length dead = omega arith in
    subst (λ (q : PlaceId). slice_index_or (slice_set dead d.0 (Some (length es))) q.0 None ≡ death_number 0 q (es ++ Death d ∷ [])) it
    (get_or-set_same dead d.0 (Some (length es)) None fits ∙ sym (own_death d es lives))
deaths_now es d p dead size low lives old false e =
    let other : d.0 ≢ p.0 = λ v. true≢false (sym (eq-eqb d.0 p.0 v) ∙ e) in
    get_or-set_other dead d.0 p.0 (Some (length es)) None (λ v. other (sym v)) ∙ old ∙ sym (death_same p es (Death d) (other_death p d es other))

pub ties-death : (q size : ℕ) (es : List Entry) (T : Tree) (d : PlaceId) → d.0 < 16 → death_number 0 d es ≡ None → Ties q size es T → Ties q size (es ++ Death d ∷ []) (strike (record { place = d; entry = length es }) T)
ties-death q size es T d low lives i =
    record {
      rows = rows-death es (record { place = d; entry = length es }) size T.tasks i.rows;
      deaths = λ p small. deaths_now es d p T.dead i.sixteen low lives (i.deaths p small) (d.0 == p.0) refl;
      sixteen = length-set T.dead d.0 (Some (length es)) ∙ i.sixteen;
      within = i.within;
      unborn = λ t h. among-push 0 es (Death d) t (i.unborn t h) refl;
      unmoved = λ t h. no_move es d t ∙ i.unmoved t h;
    }

-- a place that joins
pub no_move_joins : (es : List Entry) (p : PlaceId) (m : ℕ) → moves_from 0 (es ++ Join p ∷ []) m ≡ moves_from 0 es m
no_move_joins es p m = moves-push 0 es (Join p) m ∙ append-nil (moves_from 0 es m)

pub ties-join : (q size : ℕ) (es : List Entry) (T : Tree) (p : PlaceId) → suc T.places ≤ q → Ties q size es T → Ties q size (es ++ Join p ∷ []) (widened T)
ties-join q size es T p room i =
    record {
      rows =
          rows-on size es (es ++ Join p ∷ []) T.tasks
          (λ k w low r. row_as es (es ++ Join p ∷ []) k w (birth-push 0 es (Join p) k refl) (no_move_joins es p k) (death_same (birth_of es k).to es (Join p) refl) r)
          i.rows;
      deaths = λ d small. i.deaths d small ∙ sym (death_same d es (Join p) refl);
      sixteen = i.sixteen;
      within = room;
      unborn = λ t h. among-push 0 es (Join p) t (i.unborn t h) refl;
      unmoved = λ t h. no_move_joins es p t ∙ i.unmoved t h;
    }

-- an entry of a task, from its rows
ties-step : (q size next : ℕ) (es : List Entry) (T : Tree) (t : TaskId) (act : Act) (batch : List (List ℕ)) (tasks : List Task) (dead : List (Option ℕ)) → size ≤ next → t.0 < size → Told size es (es ++ Step t act batch ∷ []) t act batch → ((i m : ℕ) → next ≤ m → birth_in i m (Step t act batch) ≡ None) → Ties q size es T → (V : Tree) → V.tasks ≡ tasks → V.dead ≡ T.dead → V.places ≡ T.places → RowsSo next (es ++ Step t act batch ∷ []) tasks → Ties q next (es ++ Step t act batch ∷ []) V
ties-step q size next es T t act batch tasks dead le low d none i V ts ds ps rows =
    record {
      rows = subst (λ (xs : List Task). RowsSo next (es ++ Step t act batch ∷ []) xs) (sym ts) rows;
      deaths = λ p small. ap (λ (o : List (Option ℕ)). slice_index_or o p.0 None) ds ∙ i.deaths p small ∙ sym (d.deaths p);
      sixteen = ap (λ (o : List (Option ℕ)). length o) ds ∙ i.sixteen;
      within = subst (λ (n : ℕ). n ≤ q) (sym ps) i.within;
      unborn = λ m h. among-push 0 es (Step t act batch) m (i.unborn m (omega arith)) (none (0 + length es) m h);
      unmoved = λ m h. d.moves m (λ e. omega arith) ∙ i.unmoved m (omega arith);
    }

-- the task that acts
pub record Acting (size : ℕ) (es : List Entry) (t : TaskId) : Type 0 where
  pub old : t.0 < size
  pub landed : HasLanded (birth_of es t.0) (moves_from 0 es t.0)

born_row : (more : List Entry) (k low : ℕ) (from to : PlaceId) → birth_of more k ≡ record { from = from; to = to; low = low } → moves_from 0 more k ≡ [] → death_number 0 to more ≡ None → RowSo more k (cond (from.0 == to.0) (At to) (Travel from to))
born_row more k low from to b m d =
    let birth : Birth = record { from = from; to = to; low = low } in
    record {
      place = subst (λ (v : Birth). PlaceSo v (moves_from 0 more k) (cond (from.0 == to.0) (At to) (Travel from to))) (sym b) (subst (λ (v : Moves). PlaceSo birth v (cond (from.0 == to.0) (At to) (Travel from to))) (sym m) (either (from.0 == to.0) refl));
      going = ap has_end m;
      lives = ap (λ (v : Birth). death_number 0 v.to more) b ∙ d;
    } where
      either : (v : Bool) → (from.0 == to.0) ≡ v → PlaceSo (record { from = from; to = to; low = low }) [] (cond v (At to) (Travel from to))
      either true e = (refl, ap not e)
      either false e = (refl, ap not e, refl)

unborn_struck : (T : Tree) (to : PlaceId) → option_map (λ n. let b : Blow = record { place = to; entry = n } in b) (death_of T to) ≡ None → death_of T to ≡ None
unborn_struck T to h = either (death_of T to) h where
  either : (o : Option ℕ) → option_map (λ n. let b : Blow = record { place = to; entry = n } in b) o ≡ None → o ≡ None
  either None h = refl
  either (Some n) h = cc

rows-born : (q size : ℕ) (es : List Entry) (T : Tree) (t c : TaskId) (act : Act) (batch : List (List ℕ)) (under : ScopeId) (from to : PlaceId) → q ≤ 16 → to.0 < T.places → c.0 ≡ size → is_end (length es, act, batch) ≡ false → Acting size es t → Told size es (es ++ Step t act batch ∷ []) t act batch → ((i : ℕ) → birth_in i c.0 (Step t act batch) ≡ Some (record { from = from; to = to; low = suc i })) → Ties q size es T → RowsSo (suc size) (es ++ Step t act batch ∷ []) (born T c under from to ∷ T.tasks)
rows-born q size es T t c act batch under from to few inside new e a d b i =
    let old : t.0 < size = a.old in
    let within : T.places ≤ q = i.within in
    let more : List Entry = es ++ Step t act batch ∷ [] in
    let z : 0 + length es ≡ length es = omega arith in (
      omega arith,
      λ u.
          born_row (es ++ Step t act batch ∷ []) c.0 (suc (0 + length es)) from to
          (birth-new 0 es (Step t act batch) c.0 (record { from = from; to = to; low = suc (0 + length es) }) (i.unborn c.0 (omega arith)) (b (0 + length es)))
          (d.moves c.0 (λ v. omega arith) ∙ i.unmoved c.0 (omega arith))
          (d.deaths to ∙ sym (i.deaths to (omega arith)) ∙ unborn_struck T to u),
      rows-up size c.0 (es ++ Step t act batch ∷ []) T.tasks (omega arith) (rows-on size es (es ++ Step t act batch ∷ []) T.tasks (λ k w low r. row_any size es (es ++ Step t act batch ∷ []) t act batch d e a.old a.landed k w low r) i.rows),
    )

-- one lemma a kind of act
pub ties-act : (q size : ℕ) (es : List Entry) (T : Tree) (t : TaskId) (act : Act) (batch : List (List ℕ)) → q ≤ 16 → T.next_task ≡ size → AllowedAct T t act → is_end (length es, act, batch) ≡ false → Acting size es t → StartsAt size act → Ties q size es T → ((p : PlaceId) → act ≡ Arrive p → ⊥) → Ties q (elim (started_by act) [ Some c ↦ suc size | None ↦ size ]) (es ++ Step t act batch ∷ []) (made_act T t act)
ties-act q size es T t (Open s r x) batch few next may e a h i na =
    let d = told size es t (Open s r x) batch h in
    ties-step q size size es T t (Open s r x) batch T.tasks T.dead (omega arith) a.old d (λ j m k. refl) i (made_act T t (Open s r x)) refl refl refl
    (rows-on size es (es ++ Step t (Open s r x) batch ∷ []) T.tasks (λ k w low v. row_any size es (es ++ Step t (Open s r x) batch ∷ []) t (Open s r x) batch d e a.old a.landed k w low v) i.rows)
ties-act q size es T t (Calls from to s r c x) batch few next may e a h i na =
    let act : Act = Calls from to s r c x in
    let d = told size es t (Calls from to s r c x) batch h in
    ties-step q size (suc size) es T t (Calls from to s r c x) batch (change_first (is_task t) waiting (born T c s from to ∷ T.tasks)) T.dead (omega arith) a.old d (λ j m k. birth_other size j m t (Calls from to s r c x) batch h (λ v. omega arith)) i (made_act T t (Calls from to s r c x)) refl refl refl
    (rows-change t waiting (λ y. refl) (λ y. refl) (λ y. refl) (suc size) (es ++ Step t (Calls from to s r c x) batch ∷ []) (born T c s from to ∷ T.tasks)
    (rows-born q size es T t c (Calls from to s r c x) batch s from to few may.asks.4 (may.asks.3 ∙ next) e a d (λ j. rw (eq-eqb c.0 c.0 refl) refl) i))
ties-act q size es T t (Spawn c s from to x) batch few next may e a h i na =
    let d = told size es t (Spawn c s from to x) batch h in
    ties-step q size (suc size) es T t (Spawn c s from to x) batch (born T c s from to ∷ T.tasks) T.dead (omega arith) a.old d (λ j m k. birth_other size j m t (Spawn c s from to x) batch h (λ v. omega arith)) i (made_act T t (Spawn c s from to x)) refl refl refl
    (rows-born q size es T t c (Spawn c s from to x) batch s from to few may.asks.3 (may.asks.1 ∙ next) e a d (λ j. rw (eq-eqb c.0 c.0 refl) refl) i)
ties-act q size es T t (Arrive p) batch few next may e a h i na = absurd (na p refl)
ties-act q size es T t (Wait s thrown) batch few next may e a h i na =
    let d = told size es t (Wait s thrown) batch h in
    ties-step q size size es T t (Wait s thrown) batch (change_first (is_task t) waiting T.tasks) T.dead (omega arith) a.old d (λ j m k. refl) i (made_act T t (Wait s thrown)) refl refl refl
    (rows-change t waiting (λ y. refl) (λ y. refl) (λ y. refl) size (es ++ Step t (Wait s thrown) batch ∷ []) T.tasks
    (rows-on size es (es ++ Step t (Wait s thrown) batch ∷ []) T.tasks (λ k w low v. row_any size es (es ++ Step t (Wait s thrown) batch ∷ []) t (Wait s thrown) batch d e a.old a.landed k w low v) i.rows))
ties-act q size es T t (Release s lost masked thrown) batch few next may e a h i na =
    let d = told size es t (Release s lost masked thrown) batch h in
    ties-step q size size es T t (Release s lost masked thrown) batch (made_act T t (Release s lost masked thrown)).tasks T.dead (omega arith) a.old d (λ j m k. refl) i (made_act T t (Release s lost masked thrown)) refl refl refl
    (rows-change t resumed (λ y. refl) (λ y. refl) (λ y. refl) size (es ++ Step t (Release s lost masked thrown) batch ∷ []) _
    (rows-filter _ size (es ++ Step t (Release s lost masked thrown) batch ∷ []) T.tasks
    (rows-on size es (es ++ Step t (Release s lost masked thrown) batch ∷ []) T.tasks (λ k w low v. row_any size es (es ++ Step t (Release s lost masked thrown) batch ∷ []) t (Release s lost masked thrown) batch d e a.old a.landed k w low v) i.rows)))
ties-act q size es T t (End thrown) batch few next may e a h i na = cc
ties-act q size es T t (Print value x) batch few next may e a h i na =
    let d = told size es t (Print value x) batch h in
    ties-step q size size es T t (Print value x) batch T.tasks T.dead (omega arith) a.old d (λ j m k. refl) i (made_act T t (Print value x)) refl refl refl
    (rows-on size es (es ++ Step t (Print value x) batch ∷ []) T.tasks (λ k w low v. row_any size es (es ++ Step t (Print value x) batch ∷ []) t (Print value x) batch d e a.old a.landed k w low v) i.rows)
ties-act q size es T t (Census places x) batch few next may e a h i na =
    let d = told size es t (Census places x) batch h in
    ties-step q size size es T t (Census places x) batch T.tasks T.dead (omega arith) a.old d (λ j m k. refl) i (made_act T t (Census places x)) refl refl refl
    (rows-on size es (es ++ Step t (Census places x) batch ∷ []) T.tasks (λ k w low v. row_any size es (es ++ Step t (Census places x) batch ∷ []) t (Census places x) batch d e a.old a.landed k w low v) i.rows)

pub ties-arrive : (q size : ℕ) (es : List Entry) (T : Tree) (t : TaskId) (p from : PlaceId) (batch : List (List ℕ)) → t.0 < size → RowSo es t.0 (Travel from p) → Ties q size es T → Ties q size (es ++ Step t (Arrive p) batch ∷ []) (made_act T t (Arrive p))
ties-arrive q size es T t p from batch low r i =
    let d = told size es t (Arrive p) batch tt in
    let new : RowSo (es ++ Step t (Arrive p) batch ∷ []) t.0 (At p) =
    record {
      place =
          subst (λ (v : Birth). PlaceSo v (moves_from 0 (es ++ Step t (Arrive p) batch ∷ []) t.0) (At p)) (sym (d.births t.0 low))
          (subst (λ (v : Moves). PlaceSo (birth_of es t.0) v (At p)) (sym d.own) (r.place.0, landed-more (birth_of es t.0) (moves_from 0 es t.0) (length es, Arrive p, batch)));
      going = ap has_end d.own ∙ list_any-append is_end (moves_from 0 es t.0) ((length es, Arrive p, batch) ∷ []) ∙ rw (r.going) refl;
      lives = ap (λ (v : Birth). death_number 0 v.to (es ++ Step t (Arrive p) batch ∷ [])) (d.births t.0 low) ∙ d.deaths (birth_of es t.0).to ∙ r.lives;
    } in
    ties-step q size size es T t (Arrive p) batch (change_first (is_task t) (arrived p) T.tasks) T.dead (omega arith) low d (λ j m k. refl) i (made_act T t (Arrive p)) refl refl refl
    (rows-arrive t p size es (es ++ Step t (Arrive p) batch ∷ []) T.tasks (λ k w l o v. row_other size es (es ++ Step t (Arrive p) batch ∷ []) t (Arrive p) batch d k w l o v) new i.rows)

pub ties-end : (q size : ℕ) (es : List Entry) (T : Tree) (t : TaskId) (thrown : List Fault) (batch : List (List ℕ)) → t.0 < size → AllowedAct T t (End thrown) → Ties q size es T → Ties q size (es ++ Step t (End thrown) batch ∷ []) (made_act T t (End thrown))
ties-end q size es T t thrown batch low may i =
    let d = told size es t (End thrown) batch tt in
    ties-step q size size es T t (End thrown) batch (filter (λ y. not (is_task t y)) T.tasks) T.dead (omega arith) low d (λ j m k. refl) i (made_act T t (End thrown))
    (end-tasks T t thrown may.task may.stands)
    (rw (may.stands, after_end) refl)
    (rw (may.stands, after_end) refl)
    (rows-end t size es (es ++ Step t (End thrown) batch ∷ []) T.tasks (λ k w l o v. row_other size es (es ++ Step t (End thrown) batch ∷ []) t (End thrown) batch d k w l o v) i.rows)
