-- A task is born.
use Rattle.std.proofs.Common.{◌≡◌, ℕ, ◌<◌, ◌≤◌, ◌+◌, Bool, true, false, cond, ◌==◌, not, List, [], ◌∷◌, Option, Some, None, is_none, is_some, option_map, length, slice_index_or, IfSome, Ok, refl, sym, ap, ◌∙◌, subst, arith}
use Rattle.std.specs.Global.{Box}
use Rattle.std.proofs.lemmas.Bool.{true≢false}
use Rattle.rx_rules.proofs.Widths.{limit-act}
use Rattle.rx_rules.proofs.Common.{PlaceId, TaskId, ScopeId, Tree, death_of, the_root, place_number, born, made_act, acts}
use Rattle.rx_rules.specs.declared.tasks.Where.{Where}
use Rattle.rx_rules.specs.declared.tasks.Where.TheVariants.{At, Travel}
use Rattle.rx_rules.specs.declared.tasks.Blow.{Blow}
use Rattle.rx_rules.specs.declared.tasks.Task.{Task}
use Rattle.rx_rules.specs.declared.tasks.Scope.{Scope}
use Rattle.rx_rules.specs.declared.entries.Act.TheVariants.{Spawn}
use Rattle.rx_tree_laws.specs.Blows.{death_blow}
use Rattle.rx_tree_laws.specs.Chains.{meets}
use Rattle.rx_tree_laws.specs.Sound.{Sound, Inside}
use Rattle.rx_tree_laws.proofs.Opening.{governs_rooted}
use Rattle.rx_tree_laws.proofs.Reached.{sound}
use Rattle.rx_finish.specs.declared.ledger.Caller.{Caller}
use Rattle.rx_finish.specs.Callers.{MayAskTo, IsMoving}
use Rattle.rx_finish.specs.Calls.{SpawnReply}
use Rattle.rx_finish.proofs.Allowed.{Free, spawn_allowed}
use Rattle.rx_counts.specs.declared.record.Record.{Record}
use Rattle.rx_counts.specs.declared.ledger.CountLedger.{CountLedger}
use Rattle.rx_counts.specs.Keeping.{stands_home, keeper, finishes}
use Rattle.rx_counts.specs.Stands.{HasCell, MayJoin, RecordsFit, AllMasked, Fit, StandsFor, record_at, more, in_sums, Loses, Changed, ChangedBy}
use Rattle.rx_counts.proofs.Asking.{Kept, kept_at_keeper, place_in, wide, room_kept, as_wide, tasks_length, unstruck_of}
use Rattle.rx_counts.proofs.Joining.{all_join, all_lost}
use Rattle.rx_counts.specs.Inside.Totalling.{more_tasks}
use Rattle.rx_counts.proofs.Totalling.{are, totals_are, one_born}
use Rattle.rx_counts.proofs.Masking.{masked_by, masked_changed}
use Rattle.rx_counts.proofs.Arriving.{has_cell, may_join}
use Rattle.rx_counts.proofs.Born.{inner_rooted, governing_is}

-- whether a place is dead, by the deaths that the ledger keeps
pub is_lost : (l : CountLedger) (T : Tree) (to : PlaceId) → Fit l T → not (is_none (death_blow l.dead to)) ≡ is_some (death_of T to)
is_lost l T to h = ap (λ d. not (is_none (death_blow d to))) h.dead ∙ ((elim (slice_index_or T.dead to.0 None) as (λ o. not (is_none (option_map (λ n. let b : Blow = record { place = to; entry = n } in b) o)) ≡ is_some o) [ Some n ↦ refl | None ↦ refl ]))

-- where a new task is
abbrev pub start : PlaceId → PlaceId → Where
start from to = cond (from.0 == to.0) (At to) (Travel from to)

start_in : (n : ℕ) (from to : PlaceId) → from.0 < n → to.0 < n → Inside n (start from to)
start_in n from to a b = elim (from.0 == to.0) as (λ c. Inside n (cond c (At to) (Travel from to))) [ true ↦ b | false ↦ (a, b) ]

pub to_low : (T : Tree) (who : Caller) (to : PlaceId) → T.places ≤ 16 → MayAskTo T who to → to.0 < 16
to_low T who to few may = let a = may.target in omega arith

from_low : (n : ℕ) (w : Where) → Inside n w → (place_number w).0 < n
from_low n (At p) h = h
from_low n (Travel from to) h = h.0

pub started_in : {size : ℕ} (T : Tree) (who : Caller) (to : PlaceId) → Sound T → T.places ≤ size → MayAskTo T who to → (f : Free T who IsMoving) → Inside size (start (place_number who.place) to)
started_in {size = size} T who to h le may f = start_in size (place_number who.place) to (from_low size who.place (place_in T who IsMoving h le f)) (let a = may.target in omega arith)

pub bear_ok : {size : ℕ} (T : Tree) (who : Caller) (to : PlaceId) (rs : List (Option (Box Record))) (k : ℕ) (want : Option ScopeId) → Sound T → T.places ≤ size → size ≤ 16 → MayAskTo T who to → (f : Free T who IsMoving) → keeper (stands_home T.dead) T.scopes want ≡ Some k → RecordsFit size (stands_home T.dead) T.scopes T.tasks rs → (k < length rs) × (to.0 < 16) × IfSome (record_at rs k) (λ r. MayJoin (start (place_number who.place) to) r.sums)
bear_ok {size = size} T who to rs k want h le most may f at fit =
    let q : Kept size T rs k = kept_at_keeper T rs want k fit at in (
      q.low,
      to_low T who to (omega (arith, le, most)) may,
      may_join _ T T.tasks rs k want (start (place_number who.place) to) h (tasks_length T.next_task T.tasks h.tasks_fall) may.asks.numbers.tasks at (started_in T who to h le may f) fit,
    )

pub struck_by : (T : Tree) (child : TaskId) (s : ScopeId) (from to : PlaceId) → is_some (death_of T to) ≡ true → (b : Blow) × ((born T child s from to).struck ≡ Some b) × (b.place ≡ to)
struck_by T child s from to e =
    (elim (death_of T to) as (λ o. is_some o ≡ true → (b : Blow) × (option_map (λ n. let c : Blow = record { place = to; entry = n } in c) o ≡ Some b) × (b.place ≡ to)) [
      | Some n ↦ λ k. (record { place = to; entry = n }, refl, refl)
      | None ↦ λ k. absurd (true≢false (sym k))
    ]) e

pub struck_none : (T : Tree) (child : TaskId) (s : ScopeId) (from to : PlaceId) → is_some (death_of T to) ≡ false → (born T child s from to).struck ≡ None
struck_none T child s from to e =
    (elim (death_of T to) as (λ o. is_some o ≡ false → option_map (λ n. let c : Blow = record { place = to; entry = n } in c) o ≡ None) [
      | Some n ↦ λ k. absurd (true≢false k)
      | None ↦ λ k. refl
    ]) e

-- the records with one more
pub all_born : (size : ℕ) (T : Tree) (gs : List Scope) (keeps : Scope → Bool) (ts : List Task) (child : TaskId) (s : ScopeId) (from to : PlaceId) (k : ℕ) (rs qs : List (Option (Box Record))) (b : Bool) → b ≡ is_some (death_of T to) → keeper keeps gs (Some s) ≡ Some k → IfSome (record_at rs k) (λ r. HasCell (start from to) r.sums) → (b ≡ true → ChangedBy (Loses to) k rs qs) → (b ≡ false → Changed (in_sums (more (start from to))) k rs qs) → RecordsFit size keeps gs ts rs → RecordsFit size keeps gs (born T child s from to ∷ ts) qs
all_born size T gs keeps ts child s from to k rs qs true e at cell lost joins h =
    let b = struck_by T child s from to (sym e) in
    all_lost _ keeps gs ts (born T child s from to) b.0 k rs qs at b.1 (subst (λ (p : PlaceId). ChangedBy (Loses p) k rs qs) (sym b.2) (lost refl)) h
all_born size T gs keeps ts child s from to k rs qs false e at cell lost joins h =
    all_join _ keeps gs ts (born T child s from to) k rs qs at (struck_none T child s from to (sym e)) cell (joins refl) h

len_of : (to : PlaceId) (n : Where) (k : ℕ) (rs qs : List (Option (Box Record))) (b : Bool) → (b ≡ true → ChangedBy (Loses to) k rs qs) → (b ≡ false → Changed (in_sums (more n)) k rs qs) → length qs ≡ length rs
len_of to n k rs qs true lost joins = (lost refl).len
len_of to n k rs qs false lost joins = (joins refl).len

-- a birth masks nothing
masked_born : (keeps : Scope → Bool) (gs : List Scope) (to : PlaceId) (w : Where) (k : ℕ) (rs qs : List (Option (Box Record))) (b : Bool) → (b ≡ true → ChangedBy (Loses to) k rs qs) → (b ≡ false → Changed (in_sums (more w)) k rs qs) → AllMasked keeps gs rs → AllMasked keeps gs qs
masked_born keeps gs to w k rs qs true lost joins h = masked_by keeps gs (Loses to) k rs qs (λ r q a. ap (λ (v : Record). v.sums.masked) a.0) (lost refl) h
masked_born keeps gs to w k rs qs false lost joins h = masked_changed keeps gs (in_sums (more w)) k rs qs (λ r. refl) (joins refl) h

-- the governing finish leads to the root
pub finish_rooted : (T : Tree) (who : Caller) (s : ScopeId) → Sound T → (f : Free T who IsMoving) → keeper finishes T.scopes (Some who.inner) ≡ Some s.0 → meets the_root T.scopes (Some s) ≡ true
finish_rooted T who s h f e = subst (λ (u : ScopeId). meets the_root T.scopes (Some u) ≡ true) (governing_is T.scopes (Some who.inner) s e) (governs_rooted T.next_scope T.scopes (Some who.inner) h.falls h.root_kind (inner_rooted T who IsMoving h f))

-- who is born for a dead place is struck
pub struck_if : (o : Option ℕ) (to : PlaceId) → is_some (option_map (λ n. let b : Blow = record { place = to; entry = n } in b) o) ≡ is_some o
struck_if (Some n) to = refl
struck_if None to = refl

pub spawned : {room : ℕ} (l m : CountLedger) (T : Tree) (who : Caller) (to : PlaceId) (child : TaskId) (s : ScopeId) (k : ℕ) (b : Bool) → StandsFor l room T → MayAskTo T who to → (f : Free T who IsMoving) → child.0 ≡ l.next_task → keeper finishes T.scopes (Some who.inner) ≡ Some s.0 → keeper (stands_home T.dead) T.scopes (Some s) ≡ Some k → b ≡ not (is_none (death_blow l.dead to)) → m.places ≡ l.places → m.width ≡ l.width → m.dead ≡ l.dead → m.next_task ≡ l.next_task + 1 → m.next_scope ≡ l.next_scope → m.totals ≡ more_tasks b (start (place_number who.place) to) l.totals → (b ≡ true → ChangedBy (Loses to) k l.scopes m.scopes) → (b ≡ false → Changed (in_sums (more (start (place_number who.place) to))) k l.scopes m.scopes) → SpawnReply T who to (Ok (record { child = child; scope = s; lost = b })) (StandsFor m room)
spawned l m T who to child s k b st may f num fin at e places width dead next_task next_scope totals lost joins =
    let h : Sound T = sound st.reached in
    let a = spawn_allowed T who to s child st.reached may (unstruck_of T who IsMoving f) (sym (governing_is T.scopes (Some who.inner) s fin)) (num ∙ st.fit.next_task) in
    let dies : b ≡ is_some (death_of T to) = e ∙ is_lost l T to st.fit in (
      record {
        allowed = a;
        made =
            record {
              reached = acts who.task (Spawn child s (place_number who.place) to []) st.reached a;
              fit =
                  record {
                    places = places ∙ st.fit.places;
                    dead = dead ∙ st.fit.dead;
                    next_task = (let q = st.fit.next_task in omega arith);
                    next_scope = next_scope ∙ st.fit.next_scope;
                    totals =
                        totals
                        ∙ totals_are (more_tasks b (start (place_number who.place) to) l.totals) (made_act T who.task (Spawn child s (place_number who.place) to []))
                        (one_born l.totals (length T.scopes) T.tasks (born T child s (place_number who.place) to) (start (place_number who.place) to) b refl (struck_if (death_of T to) to ∙ sym dies) (are l.totals T st.fit.totals));
                    numbers = len_of to (start (place_number who.place) to) k l.scopes m.scopes b lost joins ∙ st.fit.numbers;
                    scopes = as_wide l.width m.width (stands_home T.dead) T.scopes (born T child s (place_number who.place) to ∷ T.tasks) m.scopes width (all_born _ T T.scopes (stands_home T.dead) T.tasks child s (place_number who.place) to k l.scopes m.scopes b dies at (has_cell _ (stands_home T.dead) T.next_scope T.scopes T.tasks l.scopes k (Some s) (start (place_number who.place) to) h.falls at (started_in T who to h (wide l T st) may f) st.fit.scopes) lost joins st.fit.scopes);
                    masked = masked_born (stands_home T.dead) T.scopes to (start (place_number who.place) to) k l.scopes m.scopes b lost joins st.fit.masked;
                  };
              has_room = room_kept l m T (made_act T who.task (Spawn child s (place_number who.place) to [])) (limit-act T who.task (Spawn child s (place_number who.place) to [])) width refl st.has_room;
            };
      },
      dies,
    )
