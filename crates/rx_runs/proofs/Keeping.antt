-- Each turn keeps what holds of games.
use Rattle.rx_rules.proofs.Common.{Vars, no_vars, PlaceId, PlaceSet, TaskId, Fault, Block, Term, Empty, items, Does, Local, Done, does, child, birth_in, Tree, quiet, inner, Allowed, AllowedAct, made_act, births, births_of, opening, Moves, Birth, birth_of, moves_from, journal_at, cell_of, started_by, StartsSo, State, Given, in_all, Event, plan_of, AtHome, NoneDue, IsDue, rest_of, death_number, Player, Game, Turn, enabled, is_enabled, tree_in, with_entry, closed_by, child_of, NoRoot}
use Rattle.std.proofs.Common.{◌≡◌, ◌≢◌, ℕ, zero, suc, ◌+◌, ◌-◌, ◌%◌, ◌<◌, ◌≤◌, Bool, true, false, not, ◌&&◌, ◌||◌, List, [], ◌∷◌, ◌++◌, length, filter, reverse, get_or, slice_get, slice_set, Option, Some, None, is_none, refl, ap, ◌∙◌, sym, subst, arith, length-set}
use Rattle.std.specs.List.{filter_map}
use Rattle.std.proofs.lemmas.Bool.{eq-eqb, and_parts, or_right}
use Rattle.std.proofs.lemmas.List.{append-nil, length-reverse, get_or-reverse, length-append}
use Rattle.std.proofs.lemmas.List.Folds.{list_any-append}
use Rattle.std.proofs.lemmas.List.Sums.{sum_by-append}
use Rattle.std.proofs.lemmas.Option.{slice_get-get_or, get_or_from_slice_get, slice_get_within}
use Rattle.rx_rules.specs.declared.tasks.Where.{Where}
use Rattle.rx_rules.specs.declared.tasks.Where.TheVariants.{At, Travel}
use Rattle.rx_base.proofs.Options.{none-from}
use Rattle.rx_base.proofs.Elements.{get-more, get-pushed}
use Rattle.rx_rules.specs.declared.entries.Act.{Act}
use Rattle.rx_rules.specs.declared.entries.Act.TheVariants.{Open, At as Calls, Spawn, Arrive, Wait, Release, End, Print, Census}
use Rattle.rx_rules.specs.declared.entries.Entry.{Entry}
use Rattle.rx_rules.specs.declared.entries.Entry.TheVariants.{Step, Root, Death, Join}
use Rattle.rx_rules.specs.declared.events.PlaceEvent.{PlaceEvent}
use Rattle.rx_rules.specs.declared.events.PlaceEvent.TheVariants.{Close}
use Rattle.rx_rules.specs.declared.tasks.Task.{Task}
use Rattle.rx_rules.specs.Plays.{Fits}
use Rattle.rx_rules.specs.Picked as picked
use Rattle.rx_runs.proofs.Append.{allowed-push}
use Rattle.rx_runs.specs.Segments.{plan_left}
use Rattle.rx_runs.specs.Ties.{is_end, has_end, RowSo, Ties, MayBe, MayCome}
use Rattle.rx_rules.proofs.Inverting.{asks_no_end}
use Rattle.rx_rules.proofs.Append.{tree-push, act-places}
use Rattle.rx_rules.proofs.Numbers.{next-tree}
use Rattle.rx_runs.specs.Games.{TaskSo, Pairs, PlayerSo, JournalSo, GameOk, TurnKeeps, fresh}
use Rattle.rx_runs.proofs.Pushes.{plan-push, birth-push}
use Rattle.rx_runs.proofs.Planned.{IsPlanned, due_may, due_planned, rest_may, come_within, may_on, may_dies, left-step, left-death, left-join}
use Rattle.rx_runs.proofs.Pairs.{pairs-map, pairs-set, pairs-push, pairs-get, pairs-length, set_same, journal_got}
use Rattle.rx_runs.proofs.Wider.{Keeps, SoFor}
use Rattle.rx_runs.proofs.Told.{Told, told, IsNext, StartsAt, birth-new}
use Rattle.rx_runs.proofs.Rows.{rows-filter, row-found, row-at}
use Rattle.rx_runs.proofs.Tying.{no_move, no_move_joins, ties-death, ties-join, ties-act, ties-arrive, ties-end, Acting}
use Rattle.rx_runs.proofs.Journals.{BirthsStay, longer, journal_on, journal_more, journal_close, other_death, death_same}
use Rattle.rx_runs.proofs.Stores.{Piece, piece}
use Rattle.rx_runs.proofs.Players.{Starts, Cells, Going, going_of, task_as, player_other, acted, finished, arrived, newborn, cells_own, cells_other}

-- what a pick says of the task

pub reverse_at : {X : Type 0} (xs : List X) (i : ℕ) (x : X) → slice_get (reverse xs) i ≡ Some x → (j : ℕ) × (slice_get xs j ≡ Some x)
reverse_at xs i x h =
    let low : i < length (reverse xs) = slice_get_within (reverse xs) i x h in
    let r : length (reverse xs) ≡ length xs = length-reverse xs in
    let e : get_or (reverse xs) i x ≡ x = get_or_from_slice_get (reverse xs) i x x h in
    (length xs - 1 - i, slice_get-get_or xs (length xs - 1 - i) x (omega arith) ∙ ap Some (sym (get_or-reverse xs i x (omega arith)) ∙ e))

pub filter_at : {X : Type 0} (p : X → Bool) (xs : List X) (i : ℕ) (x : X) → slice_get (filter p xs) i ≡ Some x → p x ≡ true
filter_at p [] i x h = cc
filter_at {X = X} p (y ∷ ys) i x h = step (p y) refl i (λ j k. filter_at p ys j x k) (λ l e. subst (λ (v : List X). slice_get v i ≡ Some x) e h) where
  step : (b : Bool) → p y ≡ b → (i : ℕ) → ((j : ℕ) → slice_get (filter p ys) j ≡ Some x → p x ≡ true) → ((l : List X) → filter p (y ∷ ys) ≡ l → slice_get l i ≡ Some x) → p x ≡ true
  step true e zero rest got = let f : filter p (y ∷ ys) ≡ y ∷ filter p ys = rw e refl in let g : slice_get (y ∷ filter p ys) zero ≡ Some x = got (y ∷ filter p ys) f in let same : y ≡ x = cc in subst (λ (v : X). p v ≡ true) same e
  step true e (suc i) rest got = let f : filter p (y ∷ ys) ≡ y ∷ filter p ys = rw e refl in rest i (got (y ∷ filter p ys) f)
  step false e i rest got = let f : filter p (y ∷ ys) ≡ filter p ys = rw e refl in rest i (got (filter p ys) f)

pub picked_row : (q size : ℕ) (es : List Entry) (T : Tree) (i : ℕ) (x : Task) → Ties q size es T → slice_get (enabled T) i ≡ Some x → (x.number.0 < size) × RowSo es x.number.0 x.place
picked_row q size es T i x ties h =
    let at = reverse_at (filter (is_enabled T) T.tasks) i x h in
    let able : (is_none x.struck && (not x.waits || quiet T (inner T x))) ≡ true = filter_at (is_enabled T) T.tasks at.0 x at.1 in
    row-at at.0 x size es (filter (is_enabled T) T.tasks) at.1 (none-from x.struck (and_parts (is_none x.struck) (not x.waits || quiet T (inner T x)) able).0) (rows-filter (is_enabled T) size es T.tasks ties.rows)

pub root_not : (es : List Entry) (lost : PlaceSet) (masked : ℕ) (thrown : List Fault) → NoRoot (es ++ Root lost masked thrown ∷ []) → ⊥
root_not [] lost masked thrown h = h
root_not (Step u a b ∷ es) lost masked thrown h = root_not es lost masked thrown h
root_not (Root l m f ∷ es) lost masked thrown h = h
root_not (Death d ∷ es) lost masked thrown h = root_not es lost masked thrown h
root_not (Join p ∷ es) lost masked thrown h = root_not es lost masked thrown h

-- a term asks for no arrival and no end
pub no_arrival : (here : PlaceId) (t : Term) (d : Does) (p : PlaceId) → Fits here t d (Arrive p) → ⊥
no_arrival here t (Local a b) p h = h
no_arrival here t _ p h = h

module _ (code : Block) (U : Given) (G : Game) (ok : GameOk code U G) where
  next_is : (tree_in U G).next_task ≡ length ok.starts
  next_is = next-tree U.places G.entries ∙ sym ok.all

  -- what is planned
  planned_next : (e : Entry) → IsDue (length G.entries) e G.plan → IsDue (0 + length G.entries) e (plan_left (plan_of U) G.entries)
  planned_next e now =
      let zero_n : length G.entries ≡ 0 + length G.entries = omega arith in
      subst (λ (i : ℕ). IsDue i e (plan_left (plan_of U) G.entries)) zero_n (subst (λ (xs : List Event). IsDue (length G.entries) e xs) ok.left now)

  no_birth_more : (e : Entry) → births (e ∷ []) ≡ 0 → length ok.starts ≡ 1 + births (G.entries ++ e ∷ [])
  no_birth_more e none =
      let born : births (G.entries ++ e ∷ []) ≡ births G.entries + births (e ∷ []) = sum_by-append births_of G.entries (e ∷ []) in
      let a : length ok.starts ≡ 1 + births G.entries = ok.all in
      omega arith

  -- a death
  keeps_death : (d : PlaceId) → IsDue (length G.entries) (Death d) G.plan → NoRoot (G.entries ++ Death d ∷ []) → GameOk code U (record G { entries = G.entries ++ Death d ∷ []; journals = slice_set G.journals d.0 (journal_at G.journals d.0 ++ Close (length G.entries) ∷ []); plan = rest_of G.plan })
  keeps_death d now no_root =
      let n : ℕ = length G.entries in
      let fs : List Entry = G.entries ++ Death d ∷ [] in
      let k : List PlaceEvent = journal_at G.journals d.0 ++ Close (length G.entries) ∷ [] in
      let js : List (List PlaceEvent) = slice_set G.journals d.0 k in
      let q : ℕ = (tree_in U G).places in
      let one : MayBe q G.entries (rest_of G.plan) (Death d) = due_may n (in_all U) q G.entries G.plan (Death d) now ok.plan in
      let inside : d.0 < q = one.0 in
      let lives : death_number 0 d G.entries ≡ None = one.2 in
      let within : q ≤ in_all U = ok.ties.within in
      let few : in_all U ≤ 16 = ok.few in
      let each_is : length G.journals ≡ in_all U = ok.one_each in
      let here : d.0 < length G.journals = omega arith in
      let size : length (G.entries ++ Death d ∷ []) ≡ suc (length G.entries) = longer G.entries (Death d) in
      let z : 0 + d.0 ≡ d.0 = omega arith in
      let both = pairs-get 0 d.0 G.journals G.stores here ok.journals in
      let law : JournalSo U G.entries d.0 both.left both.right = subst (λ (i : ℕ). JournalSo U G.entries i both.left both.right) z both.holds in
      let same : journal_at G.journals d.0 ≡ both.left = journal_got G.journals d.0 both.left both.at_left in
      let closed : JournalSo U fs d.0 k both.right = journal_close U G.entries d (journal_at G.journals d.0) both.right lives (subst (λ (j : List PlaceEvent). JournalSo U G.entries d.0 j both.right) (sym same) law) in
      let may : Allowed (tree_in U G) (Death d) = (inside, one.1, ok.ties.deaths d (omega arith) ∙ lives) in
      let cells : (m r : ℕ) → filter_map (cell_of m) (journal_at js r) ≡ filter_map (cell_of m) (journal_at G.journals r) = λ m r. cells_other G.journals d.0 m r k (Close (length G.entries) ∷ []) here refl refl in
      let journals : Pairs (JournalSo U fs) 0 js (slice_set G.stores d.0 both.right) =
      pairs-set 0 d.0 G.journals G.stores k both.right
      (λ m c s o low h. journal_on U G.entries (Death d) m c s (other_death (record { 0 = m }) d G.entries (λ v. o (z ∙ v))) (λ i less. birth-push 0 G.entries (Death d) i refl) h)
      (subst (λ (i : ℕ). JournalSo U fs i k both.right) (sym z) closed) ok.journals in
      record {
        starts = ok.starts;
        main = ok.main;
        all = no_birth_more (Death d) refl;
        folds = record {
          some = ok.folds.some;
          few = ok.folds.few;
          allowed = allowed-push 0 (opening U.places) G.entries (Death d) ok.folds.allowed may;
          plan = plan-push 0 (plan_of U) G.entries (Death d) ok.folds.plan (planned_next (Death d) now);
        };
        few = ok.few;
        left = ap rest_of ok.left ∙ sym (left-death (plan_of U) G.entries d);
        no_root = no_root;
        each = pairs-map 0 ok.starts G.players (λ m s p le low h. player_other ok.starts ok.starts (λ i x e. e) G.entries fs G.journals js m s p (omega arith) (birth-push 0 G.entries (Death d) m refl) (no_move G.entries d m) (cells m) h) ok.each;
        one_each = length-set G.journals d.0 k ∙ ok.one_each;
        journals = subst (λ (Ss : List State). Pairs (JournalSo U fs) 0 js Ss) (set_same G.stores d.0 both.right both.at_right) journals;
        plan =
            subst (λ (m : ℕ). MayCome (in_all U) m fs (rest_of G.plan)) (sym (ap (λ (T : Tree). T.places) (tree-push U.places G.entries (Death d))))
            (may_dies (in_all U) q G.entries d (rest_of G.plan) one.3 (rest_may n (in_all U) q G.entries G.plan (Death d) now ok.plan));
        ties = subst (λ (T : Tree). Ties (in_all U) (length ok.starts) fs T) (sym (tree-push U.places G.entries (Death d))) (ties-death (in_all U) (length ok.starts) G.entries (tree_in U G) d (omega arith) lives ok.ties);
        silent = λ t p le. cells t p ∙ ok.silent t p le;
      }

  -- a place that joins
  keeps_join : (p : PlaceId) → IsDue (length G.entries) (Join p) G.plan → NoRoot (G.entries ++ Join p ∷ []) → GameOk code U (record G { entries = G.entries ++ Join p ∷ []; plan = rest_of G.plan })
  keeps_join p now no_root =
      let n : ℕ = length G.entries in
      let fs : List Entry = G.entries ++ Join p ∷ [] in
      let q : ℕ = (tree_in U G).places in
      let is : p.0 ≡ q = due_may n (in_all U) q G.entries G.plan (Join p) now ok.plan in
      let after : MayCome (in_all U) (suc q) G.entries (rest_of G.plan) = rest_may n (in_all U) q G.entries G.plan (Join p) now ok.plan in
      let room : suc q ≤ in_all U = come_within (in_all U) (suc q) G.entries (rest_of G.plan) after in
      let few : in_all U ≤ 16 = ok.few in
      let size : length (G.entries ++ Join p ∷ []) ≡ suc (length G.entries) = longer G.entries (Join p) in
      record {
        starts = ok.starts;
        main = ok.main;
        all = no_birth_more (Join p) refl;
        folds = record {
          some = ok.folds.some;
          few = ok.folds.few;
          allowed = allowed-push 0 (opening U.places) G.entries (Join p) ok.folds.allowed (is, omega arith);
          plan = plan-push 0 (plan_of U) G.entries (Join p) ok.folds.plan (planned_next (Join p) now);
        };
        few = ok.few;
        left = ap rest_of ok.left ∙ sym (left-join (plan_of U) G.entries p);
        no_root = no_root;
        each = pairs-map 0 ok.starts G.players (λ m s x le low h. player_other ok.starts ok.starts (λ i y e. e) G.entries fs G.journals G.journals m s x (omega arith) (birth-push 0 G.entries (Join p) m refl) (no_move_joins G.entries p m) (λ r. refl) h) ok.each;
        one_each = ok.one_each;
        journals = pairs-map 0 G.journals G.stores (λ m j V le low h. journal_on U G.entries (Join p) m j V refl (λ i less. birth-push 0 G.entries (Join p) i refl) h) ok.journals;
        plan =
            subst (λ (m : ℕ). MayCome (in_all U) m fs (rest_of G.plan)) (sym (ap (λ (T : Tree). T.places) (tree-push U.places G.entries (Join p))))
            (may_on (in_all U) (suc q) G.entries fs (rest_of G.plan) (λ d. death_same d G.entries (Join p) refl) after);
        ties = subst (λ (T : Tree). Ties (in_all U) (length ok.starts) fs T) (sym (tree-push U.places G.entries (Join p))) (ties-join (in_all U) (length ok.starts) G.entries (tree_in U G) p room ok.ties);
        silent = ok.silent;
      }

  pub keeps_due : (e : Entry) → IsDue (length G.entries) e G.plan → NoRoot (G.entries ++ e ∷ []) → GameOk code U (record (with_entry G e) { journals = closed_by G e; plan = rest_of G.plan })
  keeps_due e now no_root = either e (due_planned (length G.entries) (in_all U) (tree_in U G).places G.entries G.plan e now ok.plan) now no_root where
    either : (e : Entry) → IsPlanned e → IsDue (length G.entries) e G.plan → NoRoot (G.entries ++ e ∷ []) → GameOk code U (record (with_entry G e) { journals = closed_by G e; plan = rest_of G.plan })
    either (Death d) h now no_root = keeps_death d now no_root
    either (Join p) h now no_root = keeps_join p now no_root
    either (Step t act batch) h now no_root = absurd h
    either (Root lost masked thrown) h now no_root = absurd h

  -- a turn with an entry of a task, from its parts
  step_game : (t : TaskId) (act : Act) (batch : List (List ℕ)) (more : Starts) (players : List Player) (js : List (List PlaceEvent)) (stores : List State) → NoneDue (length G.entries) G.plan → AllowedAct (tree_in U G) t act → NoRoot (G.entries ++ Step t act batch ∷ []) → slice_get more 0 ≡ Some (items code [] Empty, no_vars U.places) → length more ≡ length ok.starts + births (Step t act batch ∷ []) → Pairs (PlayerSo more (G.entries ++ Step t act batch ∷ []) js) 0 more players → length js ≡ in_all U → Pairs (JournalSo U (G.entries ++ Step t act batch ∷ [])) 0 js stores → Ties (in_all U) (length more) (G.entries ++ Step t act batch ∷ []) (made_act (tree_in U G) t act) → ((m r : ℕ) → length more ≤ m → filter_map (cell_of m) (journal_at js r) ≡ []) → GameOk code U (record { players = players; entries = G.entries ++ Step t act batch ∷ []; journals = js; stores = stores; plan = G.plan })
  step_game t act batch more players js stores none_due may no_root main all each one_each journals ties silent =
      let zero_n : length G.entries ≡ 0 + length G.entries = omega arith in
      record {
        starts = more;
        main = main;
        all = (let born : births (G.entries ++ Step t act batch ∷ []) ≡ births G.entries + births (Step t act batch ∷ []) = sum_by-append births_of G.entries (Step t act batch ∷ []) in let a : length ok.starts ≡ 1 + births G.entries = ok.all in omega arith);
        folds = record {
          some = ok.folds.some;
          few = ok.folds.few;
          allowed = allowed-push 0 (opening U.places) G.entries (Step t act batch) ok.folds.allowed may;
          plan = plan-push 0 (plan_of U) G.entries (Step t act batch) ok.folds.plan (subst (λ (i : ℕ). NoneDue i (plan_left (plan_of U) G.entries)) zero_n (subst (λ (ks : List Event). NoneDue (length G.entries) ks) ok.left none_due));
        };
        left = ok.left ∙ sym (left-step (plan_of U) G.entries t act batch);
        few = ok.few;
        no_root = no_root;
        each = each;
        one_each = one_each;
        journals = journals;
        plan =
            subst (λ (n : ℕ). MayCome (in_all U) n (G.entries ++ Step t act batch ∷ []) G.plan)
            (sym (ap (λ (T : Tree). T.places) (tree-push U.places G.entries (Step t act batch)) ∙ act-places (tree_in U G) t act))
            (may_on (in_all U) (tree_in U G).places G.entries (G.entries ++ Step t act batch ∷ []) G.plan (λ p. death_same p G.entries (Step t act batch) refl) ok.plan);
        ties = subst (λ (T : Tree). Ties (in_all U) (length more) (G.entries ++ Step t act batch ∷ []) T) (sym (tree-push U.places G.entries (Step t act batch))) ties;
        silent = silent;
      }

  -- the player of the task that acts
  player_own : (more : Starts) (t : TaskId) (act : Act) (batch : List (List ℕ)) (js : List (List PlaceEvent)) (s : Term × Vars) (p : Player) (cells : Cells) → Told (length ok.starts) G.entries (G.entries ++ Step t act batch ∷ []) t act batch → t.0 < length ok.starts → filter_map (cell_of t.0) (journal_at js (birth_of G.entries t.0).to.0) ≡ cells → TaskSo more (suc (length G.entries)) (birth_of G.entries t.0) s cells (moves_from 0 G.entries t.0 ++ (length G.entries, act, batch) ∷ []) p → PlayerSo more (G.entries ++ Step t act batch ∷ []) js t.0 s p
  player_own more t act batch js s p cells d low c h =
      let fs : List Entry = G.entries ++ Step t act batch ∷ [] in
      subst (λ (z : ℕ). TaskSo more z (birth_of fs t.0) s (filter_map (cell_of t.0) (journal_at js (birth_of fs t.0).to.0)) (moves_from 0 fs t.0) p) (sym (longer G.entries (Step t act batch)))
      (task_as more (suc (length G.entries)) (birth_of G.entries t.0) (birth_of fs t.0) s cells (filter_map (cell_of t.0) (journal_at js (birth_of fs t.0).to.0)) (moves_from 0 G.entries t.0 ++ (length G.entries, act, batch) ∷ []) (moves_from 0 fs t.0) p
      (d.births t.0 low)
      (ap (λ (v : Birth). filter_map (cell_of t.0) (journal_at js v.to.0)) (d.births t.0 low) ∙ c)
      d.own h)

  -- an arrival
  pub keeps_arrival : (x : Task) (p : PlaceId) → NoneDue (length G.entries) G.plan → Allowed (tree_in U G) (Step x.number (Arrive p) []) → NoRoot (G.entries ++ Step x.number (Arrive p) [] ∷ []) → GameOk code U (record G { entries = G.entries ++ Step x.number (Arrive p) [] ∷ [] })
  keeps_arrival x p none_due may no_root =
      let t : TaskId = x.number in
      let fs : List Entry = G.entries ++ Step t (Arrive p) [] ∷ [] in
      let found = row-found t may.task (length ok.starts) G.entries (tree_in U G).tasks may.stands may.unstruck ok.ties.rows in
      let row : RowSo G.entries t.0 (Travel may.asks.0 p) = subst (λ (w : Where). RowSo G.entries t.0 w) may.asks.1 found.1 in
      let d : Told (length ok.starts) G.entries fs t (Arrive p) [] = told (length ok.starts) G.entries t (Arrive p) [] tt in
      let count : length ok.starts ≡ 1 + births G.entries = ok.all in
      let born : BirthsStay G.entries (Step t (Arrive p) []) = λ m less. d.births m (omega arith) in
      let both = pairs-get 0 t.0 ok.starts G.players found.0 ok.each in
      let z : 0 + t.0 ≡ t.0 = omega arith in
      let size : length fs ≡ suc (length G.entries) = longer G.entries (Step t (Arrive p) []) in
      let old : PlayerSo ok.starts G.entries G.journals t.0 both.left both.right = subst (λ (i : ℕ). PlayerSo ok.starts G.entries G.journals i both.left both.right) z both.holds in
      let cells : Cells = filter_map (cell_of t.0) (journal_at G.journals (birth_of G.entries t.0).to.0) in
      let new : PlayerSo ok.starts fs G.journals t.0 both.left both.right =
      player_own ok.starts t (Arrive p) [] G.journals both.left both.right cells d found.0 refl
      (arrived ok.starts (length G.entries) (birth_of G.entries t.0) both.left cells (moves_from 0 G.entries t.0) both.right p old row.place.0 row.place.1 row.place.2) in
      let each : Pairs (PlayerSo ok.starts fs G.journals) 0 (slice_set ok.starts t.0 both.left) (slice_set G.players t.0 both.right) =
      pairs-set 0 t.0 ok.starts G.players both.left both.right
      (λ m s q o low h. player_other ok.starts ok.starts (λ i y e. e) G.entries fs G.journals G.journals m s q (omega arith) (d.births m (omega arith)) (d.moves m (λ v. o (z ∙ v))) (λ r. refl) h)
      (subst (λ (i : ℕ). PlayerSo ok.starts fs G.journals i both.left both.right) (sym z) new) ok.each in
      let each_left : Pairs (PlayerSo ok.starts fs G.journals) 0 ok.starts (slice_set G.players t.0 both.right) = subst (λ (ss : Starts). Pairs (PlayerSo ok.starts fs G.journals) 0 ss (slice_set G.players t.0 both.right)) (set_same ok.starts t.0 both.left both.at_left) each in
      let each_both : Pairs (PlayerSo ok.starts fs G.journals) 0 ok.starts G.players = subst (λ (ps : List Player). Pairs (PlayerSo ok.starts fs G.journals) 0 ok.starts ps) (set_same G.players t.0 both.right both.at_right) each_left in
      step_game t (Arrive p) [] ok.starts G.players G.journals G.stores none_due may no_root ok.main (let b : births (Step t (Arrive p) [] ∷ []) ≡ 0 = refl in omega arith) each_both ok.one_each
      (pairs-map 0 G.journals G.stores (λ m j S le low h. journal_on U G.entries (Step t (Arrive p) []) m j S refl born h) ok.journals)
      (ties-arrive (in_all U) (length ok.starts) G.entries (tree_in U G) t p may.asks.0 [] found.0 row ok.ties)
      ok.silent

  -- what a turn of a task at a place leaves
  record Parts (t : TaskId) (here : PlaceId) (act : Act) (batch : List (List ℕ)) (more : Starts) (k : List PlaceEvent) (Z : State) (last : Player) : Type 0 where
    pub old : t.0 < length ok.starts
    pub acting : Acting (length ok.starts) G.entries t
    pub each : Pairs (PlayerSo more (G.entries ++ Step t act batch ∷ []) (slice_set G.journals here.0 k)) 0 ok.starts (slice_set G.players t.0 last)
    pub journals : Pairs (JournalSo U (G.entries ++ Step t act batch ∷ [])) 0 (slice_set G.journals here.0 k) (slice_set G.stores here.0 Z)
    pub silent : (m r : ℕ) → length ok.starts ≤ m → filter_map (cell_of m) (journal_at (slice_set G.journals here.0 k) r) ≡ []

  parts : (i : ℕ) (x : Task) (here : PlaceId) (p r : Player) (S Z : State) (k : List PlaceEvent) (act : Act) (more : Starts) (last : Player) → slice_get (enabled (tree_in U G)) i ≡ Some x → x.place ≡ At here → slice_get G.players x.number.0 ≡ Some p → slice_get G.stores here.0 ≡ Some S → picked.RunsWithoutEntry U.heap (length G.entries) x.number here p S (journal_at G.journals here.0) r Z k → Keeps ok.starts more → StartsAt (length ok.starts) act → ((b : Birth) (s : Term × Vars) (cells : Cells) (moves : Moves) → b.to ≡ here → (g : Going ok.starts (length G.entries) b s cells moves p) → (c : Piece more U.heap (length G.entries) x.number here g.now p S (journal_at G.journals here.0) r Z k) → TaskSo more (suc (length G.entries)) b s (cells ++ filter_map (cell_of x.number.0) c.new) (moves ++ (length G.entries, act, r.batch) ∷ []) last) → Parts x.number here act r.batch more k Z last
  parts i x here p r S Z k act more last pick at player store goes keeps starts_at make =
      let t : TaskId = x.number in
      let n : ℕ = length G.entries in
      let fs : List Entry = G.entries ++ Step t act r.batch ∷ [] in
      let js : List (List PlaceEvent) = slice_set G.journals here.0 k in
      let found = picked_row (in_all U) (length ok.starts) G.entries (tree_in U G) i x ok.ties pick in
      let row : RowSo G.entries t.0 (At here) = subst (λ (w : Where). RowSo G.entries t.0 w) at found.1 in
      let d : Told (length ok.starts) G.entries fs t act r.batch = told (length ok.starts) G.entries t act r.batch starts_at in
      let count : length ok.starts ≡ 1 + births G.entries = ok.all in
      let born : BirthsStay G.entries (Step t act r.batch) = λ m less. d.births m (omega arith) in
      let zt : 0 + t.0 ≡ t.0 = omega arith in
      let zh : 0 + here.0 ≡ here.0 = omega arith in
      let size : length fs ≡ suc (length G.entries) = longer G.entries (Step t act r.batch) in
      let both = pairs-get 0 t.0 ok.starts G.players found.0 ok.each in
      let same_player : both.right ≡ p = (let a : Some both.right ≡ Some p = sym both.at_right ∙ player in cc) in
      let old : PlayerSo ok.starts G.entries G.journals t.0 both.left p = subst (λ (q : Player). PlayerSo ok.starts G.entries G.journals t.0 both.left q) same_player (subst (λ (i : ℕ). PlayerSo ok.starts G.entries G.journals i both.left both.right) zt both.holds) in
      let stores_low : here.0 < length G.stores = slice_get_within G.stores here.0 S store in
      let lengths : length G.journals ≡ length G.stores = pairs-length (JournalSo U G.entries) 0 G.journals G.stores ok.journals in
      let low : here.0 < length G.journals = omega arith in
      let cells : Cells = filter_map (cell_of t.0) (journal_at G.journals (birth_of G.entries t.0).to.0) in
      let g : Going ok.starts (length G.entries) (birth_of G.entries t.0) both.left cells (moves_from 0 G.entries t.0) p = going_of old row.place.1 row.going in
      let c : Piece more U.heap (length G.entries) t here g.now p S (journal_at G.journals here.0) r Z k = piece more g.now g.below goes in
      let new : TaskSo more (suc (length G.entries)) (birth_of G.entries t.0) both.left (cells ++ filter_map (cell_of t.0) c.new) (moves_from 0 G.entries t.0 ++ (length G.entries, act, r.batch) ∷ []) last = make (birth_of G.entries t.0) both.left cells (moves_from 0 G.entries t.0) row.place.0 g c in
      let own : filter_map (cell_of t.0) (journal_at js (birth_of G.entries t.0).to.0) ≡ cells ++ filter_map (cell_of t.0) c.new =
      subst (λ (h : PlaceId). filter_map (cell_of t.0) (journal_at js h.0) ≡ filter_map (cell_of t.0) (journal_at G.journals h.0) ++ filter_map (cell_of t.0) c.new) (sym row.place.0) (cells_own G.journals here.0 t.0 k c.new low c.added) in
      let now : PlayerSo more fs js t.0 both.left last = player_own more t act r.batch js both.left last (cells ++ filter_map (cell_of t.0) c.new) d found.0 own new in
      let others : (m r : ℕ) → t.0 ≢ m → filter_map (cell_of m) (journal_at js r) ≡ filter_map (cell_of m) (journal_at G.journals r) = λ m r o. cells_other G.journals here.0 m r k c.new low c.added (c.mine m o) in
      let each : Pairs (PlayerSo more fs js) 0 (slice_set ok.starts t.0 both.left) (slice_set G.players t.0 last) =
      pairs-set 0 t.0 ok.starts G.players both.left last
      (λ m s q o less h. player_other ok.starts more keeps G.entries fs G.journals js m s q (omega arith) (d.births m (omega arith)) (d.moves m (λ v. o (zt ∙ v))) (λ r. others m r (λ v. o (zt ∙ v))) h)
      (subst (λ (i : ℕ). PlayerSo more fs js i both.left last) (sym zt) now) ok.each in
      let store_both = pairs-get 0 here.0 G.journals G.stores low ok.journals in
      let same_store : store_both.right ≡ S = (let a : Some store_both.right ≡ Some S = sym store_both.at_right ∙ store in cc) in
      let same_journal : journal_at G.journals here.0 ≡ store_both.left = journal_got G.journals here.0 store_both.left store_both.at_left in
      let law : JournalSo U G.entries (0 + here.0) (journal_at G.journals here.0) S = subst (λ (j : List PlaceEvent). JournalSo U G.entries (0 + here.0) j S) (sym same_journal) (subst (λ (V : State). JournalSo U G.entries (0 + here.0) store_both.left V) same_store store_both.holds) in
      let lives : death_number 0 here G.entries ≡ None = subst (λ (h : PlaceId). death_number 0 h G.entries ≡ None) row.place.0 row.lives in
      let lives_z : death_number 0 (record { 0 = 0 + here.0 }) G.entries ≡ None = subst (λ (i : ℕ). death_number 0 (record { 0 = i }) G.entries ≡ None) (sym zh) lives in
      let old_task : t.0 < length ok.starts = found.0 in
      let homes : AtHome G.entries (0 + here.0) c.new = c.home G.entries (0 + here.0) (omega arith) (ap (λ (h : PlaceId). h.0) row.place.0 ∙ sym zh) in
      let law_now : JournalSo U fs (0 + here.0) k Z = subst (λ (j : List PlaceEvent). JournalSo U fs (0 + here.0) j Z) (sym c.added) (journal_more U G.entries (Step t act r.batch) (0 + here.0) (journal_at G.journals here.0) c.new S Z refl born lives_z c.leads homes c.rising c.top c.unclosed law) in
      record {
        old = found.0;
        acting = record { old = found.0; landed = row.place.1 };
        each = subst (λ (ss : Starts). Pairs (PlayerSo more fs js) 0 ss (slice_set G.players t.0 last)) (set_same ok.starts t.0 both.left both.at_left) each;
        journals = pairs-set 0 here.0 G.journals G.stores k Z (λ m j V o less h. journal_on U G.entries (Step t act r.batch) m j V refl born h) law_now ok.journals;
        silent = λ m r le. let less : t.0 < length ok.starts = found.0 in others m r (λ v. omega arith) ∙ ok.silent m r le;
      }

  -- an act that starts no task
  plain : (i : ℕ) (x : Task) (here : PlaceId) (p r : Player) (S Z : State) (k : List PlaceEvent) (act : Act) → NoneDue (length G.entries) G.plan → slice_get (enabled (tree_in U G)) i ≡ Some x → x.place ≡ At here → slice_get G.players x.number.0 ≡ Some p → slice_get G.stores here.0 ≡ Some S → picked.RunsWithoutEntry U.heap (length G.entries) x.number here p S (journal_at G.journals here.0) r Z k → Fits here r.term (does r.vars here.0 r.term) act → AllowedAct (tree_in U G) x.number act → NoRoot (G.entries ++ Step x.number act r.batch ∷ []) → started_by act ≡ None → is_end (length G.entries, act, r.batch) ≡ false → births (Step x.number act r.batch ∷ []) ≡ 0 → ((p : PlaceId) → act ≡ Arrive p → ⊥) → GameOk code U (record { players = slice_set G.players x.number.0 (picked.acted here r act) ++ child_of r act; entries = G.entries ++ Step x.number act r.batch ∷ []; journals = slice_set G.journals here.0 k; stores = slice_set G.stores here.0 Z; plan = G.plan })
  plain i x here p r S Z k act none_due pick at player store goes fits may no_root sb e nb na =
      let last : Player = picked.acted here r act in
      let starts_at : StartsAt (length ok.starts) act = subst (λ (o : Option TaskId). IsNext (length ok.starts) o) (sym sb) tt in
      let so : StartsSo ok.starts r.term r.vars act = subst (λ (o : Option TaskId). SoFor ok.starts r.term r.vars o) (sym sb) tt in
      let keeps : Keeps ok.starts ok.starts = λ j y h. h in
      let ps : Parts x.number here act r.batch ok.starts k Z last =
      parts i x here p r S Z k act ok.starts last pick at player store goes keeps starts_at
      (λ b s cells moves same g c. acted ok.starts ok.starts (length G.entries) U.heap b s cells moves p r x.number here S Z (journal_at G.journals here.0) k act keeps same g c fits so) in
      let children : child_of r act ≡ [] = ap (λ (o : Option TaskId). elim o as (λ _. List Player) [ Some c ↦ record { term = child r.term; vars = r.vars; batch = [] } ∷ [] | None ↦ [] ]) sb in
      let players : slice_set G.players x.number.0 last ≡ slice_set G.players x.number.0 last ++ child_of r act = sym (ap (λ (l : List Player). slice_set G.players x.number.0 last ++ l) children ∙ append-nil (slice_set G.players x.number.0 last)) in
      let size : (elim (started_by act) as (λ _. ℕ) [ Some c ↦ suc (length ok.starts) | None ↦ length ok.starts ]) ≡ length ok.starts = ap (λ (o : Option TaskId). elim o as (λ _. ℕ) [ Some c ↦ suc (length ok.starts) | None ↦ length ok.starts ]) sb in
      step_game x.number act r.batch ok.starts (slice_set G.players x.number.0 last ++ child_of r act) (slice_set G.journals here.0 k) (slice_set G.stores here.0 Z) none_due may no_root ok.main (omega (arith, nb))
      (subst (λ (l : List Player). Pairs (PlayerSo ok.starts (G.entries ++ Step x.number act r.batch ∷ []) (slice_set G.journals here.0 k)) 0 ok.starts l) players ps.each)
      (length-set G.journals here.0 k ∙ ok.one_each) ps.journals
      (subst (λ (n : ℕ). Ties (in_all U) n (G.entries ++ Step x.number act r.batch ∷ []) (made_act (tree_in U G) x.number act)) size
      (ties-act (in_all U) (length ok.starts) G.entries (tree_in U G) x.number act r.batch ok.few next_is may e ps.acting starts_at ok.ties na))
      ps.silent

  -- an act that starts one
  birth : (i : ℕ) (x : Task) (here : PlaceId) (p r : Player) (S Z : State) (k : List PlaceEvent) (act : Act) (c : TaskId) (from to : PlaceId) → NoneDue (length G.entries) G.plan → slice_get (enabled (tree_in U G)) i ≡ Some x → x.place ≡ At here → slice_get G.players x.number.0 ≡ Some p → slice_get G.stores here.0 ≡ Some S → picked.RunsWithoutEntry U.heap (length G.entries) x.number here p S (journal_at G.journals here.0) r Z k → Fits here r.term (does r.vars here.0 r.term) act → AllowedAct (tree_in U G) x.number act → NoRoot (G.entries ++ Step x.number act r.batch ∷ []) → started_by act ≡ Some c → c.0 ≡ length ok.starts → is_end (length G.entries, act, r.batch) ≡ false → births (Step x.number act r.batch ∷ []) ≡ 1 → ((p : PlaceId) → act ≡ Arrive p → ⊥) → ((j : ℕ) → birth_in j c.0 (Step x.number act r.batch) ≡ Some (record { from = from; to = to; low = suc j })) → GameOk code U (record { players = slice_set G.players x.number.0 (picked.acted here r act) ++ child_of r act; entries = G.entries ++ Step x.number act r.batch ∷ []; journals = slice_set G.journals here.0 k; stores = slice_set G.stores here.0 Z; plan = G.plan })
  birth i x here p r S Z k act c from to none_due pick at player store goes fits may no_root sb new e nb na b =
      let t : TaskId = x.number in
      let last : Player = picked.acted here r act in
      let start : Term × Vars = (child r.term, r.vars) in
      let more : Starts = ok.starts ++ start ∷ [] in
      let fs : List Entry = G.entries ++ Step t act r.batch ∷ [] in
      let js : List (List PlaceEvent) = slice_set G.journals here.0 k in
      let starts_at : StartsAt (length ok.starts) act = subst (λ (o : Option TaskId). IsNext (length ok.starts) o) (sym sb) new in
      let so : StartsSo more r.term r.vars act = subst (λ (o : Option TaskId). SoFor more r.term r.vars o) (sym sb) (subst (λ (n : ℕ). slice_get more n ≡ Some start) (sym new) (get-pushed ok.starts start)) in
      let keeps : Keeps ok.starts more = λ j y h. get-more ok.starts (start ∷ []) j y h in
      let ps : Parts t here act r.batch more k Z last =
      parts i x here p r S Z k act more last pick at player store goes keeps starts_at
      (λ b s cells moves same g c. acted ok.starts more (length G.entries) U.heap b s cells moves p r t here S Z (journal_at G.journals here.0) k act keeps same g c fits so) in
      let children : child_of r act ≡ fresh start ∷ [] = ap (λ (o : Option TaskId). elim o as (λ _. List Player) [ Some c ↦ record { term = child r.term; vars = r.vars; batch = [] } ∷ [] | None ↦ [] ]) sb in
      let size : (elim (started_by act) as (λ _. ℕ) [ Some c ↦ suc (length ok.starts) | None ↦ length ok.starts ]) ≡ suc (length ok.starts) = ap (λ (o : Option TaskId). elim o as (λ _. ℕ) [ Some c ↦ suc (length ok.starts) | None ↦ length ok.starts ]) sb in
      let long : length more ≡ length ok.starts + 1 = length-append ok.starts (start ∷ []) in
      let longer_by : suc (length ok.starts) ≡ length more = omega arith in
      let old : t.0 < length ok.starts = ps.old in
      let d : Told (length ok.starts) G.entries fs t act r.batch = told (length ok.starts) G.entries t act r.batch starts_at in
      let z : 0 + length ok.starts ≡ length ok.starts = omega arith in
      let zn : 0 + length G.entries ≡ length G.entries = omega arith in
      let v : Birth = record { from = from; to = to; low = suc (0 + length G.entries) } in
      let born : birth_of fs c.0 ≡ v = birth-new 0 G.entries (Step t act r.batch) c.0 v (ok.ties.unborn c.0 (omega arith)) (b (0 + length G.entries)) in
      let long_now : length fs ≡ suc (length G.entries) = longer G.entries (Step t act r.batch) in
      let low : (birth_of fs c.0).low ≤ length fs = subst (λ (w : Birth). w.low ≤ length fs) (sym born) (omega arith) in
      let child_so : PlayerSo more fs js c.0 start (fresh start) =
      newborn more (length fs) (birth_of fs c.0) start (filter_map (cell_of c.0) (journal_at js (birth_of fs c.0).to.0)) (moves_from 0 fs c.0)
      (ps.silent c.0 (birth_of fs c.0).to.0 (omega arith))
      (d.moves c.0 (λ w. omega arith) ∙ ok.ties.unmoved c.0 (omega arith)) low in
      let place : c.0 ≡ 0 + length ok.starts = omega arith in
      let each : Pairs (PlayerSo more fs js) 0 more (slice_set G.players t.0 last ++ fresh start ∷ []) =
      pairs-push (PlayerSo more fs js) 0 ok.starts (slice_set G.players t.0 last) start (fresh start)
      (subst (λ (n : ℕ). PlayerSo more fs js n start (fresh start)) place child_so) ps.each in
      step_game t act r.batch more (slice_set G.players t.0 last ++ child_of r act) js (slice_set G.stores here.0 Z) none_due may no_root
      (get-more ok.starts (start ∷ []) 0 (items code [] Empty, no_vars U.places) ok.main)
      (omega (arith, nb))
      (subst (λ (l : List Player). Pairs (PlayerSo more fs js) 0 more (slice_set G.players t.0 last ++ l)) (sym children) each)
      (length-set G.journals here.0 k ∙ ok.one_each) ps.journals
      (subst (λ (n : ℕ). Ties (in_all U) n fs (made_act (tree_in U G) t act)) (size ∙ longer_by)
      (ties-act (in_all U) (length ok.starts) G.entries (tree_in U G) t act r.batch ok.few next_is may e ps.acting starts_at ok.ties na))
      (λ m q le. ps.silent m q (omega arith))

  -- a turn with an entry other than an arrival or an end
  pub keeps_move : (i : ℕ) (x : Task) (here : PlaceId) (p r : Player) (S Z : State) (k : List PlaceEvent) (act : Act) → NoneDue (length G.entries) G.plan → slice_get (enabled (tree_in U G)) i ≡ Some x → x.place ≡ At here → slice_get G.players x.number.0 ≡ Some p → slice_get G.stores here.0 ≡ Some S → picked.RunsWithoutEntry U.heap (length G.entries) x.number here p S (journal_at G.journals here.0) r Z k → Fits here r.term (does r.vars here.0 r.term) act → AllowedAct (tree_in U G) x.number act → NoRoot (G.entries ++ Step x.number act r.batch ∷ []) → GameOk code U (record { players = slice_set G.players x.number.0 (picked.acted here r act) ++ child_of r act; entries = G.entries ++ Step x.number act r.batch ∷ []; journals = slice_set G.journals here.0 k; stores = slice_set G.stores here.0 Z; plan = G.plan })
  keeps_move i x here p r S Z k (Open s q y) due pick at player store goes fits may h = plain i x here p r S Z k (Open s q y) due pick at player store goes fits may h refl refl refl (λ v e. cc)
  keeps_move i x here p r S Z k (Wait s thrown) due pick at player store goes fits may h = plain i x here p r S Z k (Wait s thrown) due pick at player store goes fits may h refl refl refl (λ v e. cc)
  keeps_move i x here p r S Z k (Release s lost masked thrown) due pick at player store goes fits may h = plain i x here p r S Z k (Release s lost masked thrown) due pick at player store goes fits may h refl refl refl (λ v e. cc)
  keeps_move i x here p r S Z k (Print value y) due pick at player store goes fits may h = plain i x here p r S Z k (Print value y) due pick at player store goes fits may h refl refl refl (λ v e. cc)
  keeps_move i x here p r S Z k (Census value y) due pick at player store goes fits may h = plain i x here p r S Z k (Census value y) due pick at player store goes fits may h refl refl refl (λ v e. cc)
  keeps_move i x here p r S Z k (Calls from to s q c y) due pick at player store goes fits may h =
      birth i x here p r S Z k (Calls from to s q c y) c from to due pick at player store goes fits may h refl (may.asks.3 ∙ next_is) refl refl (λ v e. cc) (λ j. rw (eq-eqb c.0 c.0 refl) refl)
  keeps_move i x here p r S Z k (Spawn c s from to y) due pick at player store goes fits may h =
      birth i x here p r S Z k (Spawn c s from to y) c from to due pick at player store goes fits may h refl (may.asks.1 ∙ next_is) refl refl (λ v e. cc) (λ j. rw (eq-eqb c.0 c.0 refl) refl)
  keeps_move i x here p r S Z k (Arrive to) due pick at player store goes fits may h = absurd (no_arrival here r.term (does r.vars here.0 r.term) to fits)
  keeps_move i x here p r S Z k (End f) due pick at player store goes fits may h = absurd (asks_no_end here r.term (does r.vars here.0 r.term) f fits)

  -- a turn by which a task ends
  pub keeps_end : (i : ℕ) (x : Task) (here : PlaceId) (p r : Player) (S Z : State) (k : List PlaceEvent) (faults : List Fault) → NoneDue (length G.entries) G.plan → slice_get (enabled (tree_in U G)) i ≡ Some x → x.place ≡ At here → slice_get G.players x.number.0 ≡ Some p → slice_get G.stores here.0 ≡ Some S → picked.RunsWithoutEntry U.heap (length G.entries) x.number here p S (journal_at G.journals here.0) r Z k → does r.vars here.0 r.term ≡ Done faults → AllowedAct (tree_in U G) x.number (End faults) → NoRoot (G.entries ++ Step x.number (End faults) r.batch ∷ []) → GameOk code U (record G { entries = G.entries ++ Step x.number (End faults) r.batch ∷ []; journals = slice_set G.journals here.0 k; stores = slice_set G.stores here.0 Z })
  keeps_end i x here p r S Z k faults none_due pick at player store goes done may no_root =
      let keeps : Keeps ok.starts ok.starts = λ j y h. h in
      let ps : Parts x.number here (End faults) r.batch ok.starts k Z p =
      parts i x here p r S Z k (End faults) ok.starts p pick at player store goes keeps tt
      (λ b s cells moves same g c. finished ok.starts (length G.entries) U.heap b s cells moves p r x.number here S Z (journal_at G.journals here.0) k faults same g c done
      (list_any-append is_end moves ((length G.entries, End faults, r.batch) ∷ []) ∙ or_right (has_end moves) (has_end ((length G.entries, End faults, r.batch) ∷ [])) refl) p) in
      step_game x.number (End faults) r.batch ok.starts G.players (slice_set G.journals here.0 k) (slice_set G.stores here.0 Z) none_due may no_root ok.main (let b : births (Step x.number (End faults) r.batch ∷ []) ≡ 0 = refl in omega arith)
      (subst (λ (l : List Player). Pairs (PlayerSo ok.starts (G.entries ++ Step x.number (End faults) r.batch ∷ []) (slice_set G.journals here.0 k)) 0 ok.starts l) (set_same G.players x.number.0 p player) ps.each)
      (length-set G.journals here.0 k ∙ ok.one_each) ps.journals
      (ties-end (in_all U) (length ok.starts) G.entries (tree_in U G) x.number faults r.batch ps.old may ok.ties)
      ps.silent

pub turn_keeps : TurnKeeps
turn_keeps code U k used G G' ok (picked.due e now) h = keeps_due code U G ok e now h
turn_keeps code U k used G G' ok (picked.arrives x p takes may) h = keeps_arrival code U G ok x p takes.0 may h
turn_keeps code U k used G G' ok (picked.moves x here p q S Z j act takes at player store goes fits may) h = keeps_move code U G ok (k % length (enabled (tree_in U G))) x here p q S Z j act takes.0 takes.1 at player store goes fits may h
turn_keeps code U k used G G' ok (picked.ends x here p q S Z j faults takes at player store goes done may) h = keeps_end code U G ok (k % length (enabled (tree_in U G))) x here p q S Z j faults takes.0 takes.1 at player store goes done may h
turn_keeps code U k used G G' ok (picked.root lost masked thrown none_due empty may) h = absurd (root_not G.entries lost masked thrown h)
