-- What entries do to those who wait.
use Rattle.std.proofs.Common.{◌≡◌, ◌≢◌, ◌⊎◌, ℕ, ◌<◌, ◌≤◌, ◌==◌, Bool, true, false, cond, not, ◌||◌, ◌&&◌, filter, List, [], ◌∷◌, ◌++◌, Option, Some, None, is_none, refl, ap, ◌∙◌, sym, subst, arith, inl, inr}
use Rattle.std.specs.List.{find, list_any}
use Rattle.std.proofs.lemmas.Bool.{eqb-true, eqb-false, ne_eqb, true≢false, false_from_ne_true, and_left}
use Rattle.rx_rules.proofs.Common.{TaskId, ScopeId, Fault, Tree, is_task, task_of, is_scope, opened_by, own_scope, inner, quiet, on_chain, the_root, AllowedAct, made_act, change_scope, is_hit, strike, without, widened, Reached}
use Rattle.rx_base.proofs.SameIds.{task-is, scope-is}
use Rattle.rx_rules.specs.declared.tasks.Blow.{Blow}
use Rattle.rx_rules.specs.declared.tasks.Task.{Task}
use Rattle.rx_rules.specs.declared.tasks.Scope.{Scope}
use Rattle.rx_rules.specs.declared.entries.Act.{Act}
use Rattle.rx_rules.specs.declared.entries.Act.TheVariants.{End}
use Rattle.rx_rules.proofs.Lookups.{number-of}
use Rattle.rx_tree_laws.specs.Chains.{meets, Falls}
use Rattle.rx_tree_laws.specs.Enabling.{able, able_in}
use Rattle.rx_tree_laws.proofs.Changes.{each_more}
use Rattle.rx_tree_laws.proofs.Chains.{met_below, met_start, meets_skips}
use Rattle.rx_tree_laws.proofs.Stay.{meets_faulted}
use Rattle.rx_tree_laws.proofs.Reach.{fits_of}
use Rattle.rx_tree_laws.proofs.Reached.{sound}
use Rattle.rx_tree_laws.proofs.Releasing.{on_meets}
use Rattle.rx_tree_laws.proofs.Opening.{inner_fits}
use Rattle.rx_tree_laws.proofs.Below.{one_opener, free_of}
use Rattle.rx_tree_laws.proofs.Waiting.{each_stands, waiter_owns}
use Rattle.rx_tree_laws.proofs.Enabling.{inner_is}
use Rattle.rx_tree_laws.proofs.Staying.{any_kept, quiet_as, others_stay}
use Rattle.rx_ledger.proofs.Others.{ended}
use Rattle.rx_coordinator.specs.declared.seats.Seat.{Seat}
use Rattle.rx_coordinator.specs.declared.waiters.Waiter.{Waiter}
use Rattle.rx_coordinator.specs.declared.waiters.Waiter.TheVariants.{Task as TaskWaits, Root as Host}
use Rattle.rx_coordinator.specs.declared.waiters.Waiters.{Waiters}
use Rattle.rx_coordinator.specs.declared.waiters.Due.{Due}
use Rattle.rx_coordinator.specs.Seats.{unhit}
use Rattle.rx_coordinator.specs.Telling.{seat_told}
use Rattle.rx_coordinator.specs.Waiters.{waiter_at, ScopeIsDue}
use Rattle.rx_coordinator.specs.Parking.{WaiterIsThere, IsThere, HasToWait, AllWait, scope_numbered}
use Rattle.rx_coordinator.specs.Inside.Walks.{Nearest, AllThere, AllDue}
use Rattle.rx_coordinator.proofs.Telling.{Starts, others_told, dies_told}
use Rattle.rx_coordinator.proofs.Newcomers.{root_told}
use Rattle.rx_coordinator.proofs.Asking.{seated}

-- Quiet scopes.

-- where an unstruck task stands, the root is not quiet
pub busy_root : (T : Tree) (t : TaskId) (w : Seat) → Reached T → seat_told T t ≡ Some w → quiet T the_root ≡ false
busy_root T t w r told =
    let s = seated T t w told in
    false_from_ne_true (quiet T the_root) (λ still. true≢false (sym (fits_of T t s.task (sound r) s.stands).rooted ∙ free_of T the_root t s.task still s.stands s.unstruck))

-- a task that waits is enabled exactly where its scope is quiet
pub able_row : (T : Tree) (t : TaskId) (w : Seat) → seat_told T t ≡ Some w → w.waits ≡ true → able T t ≡ quiet T w.who.inner
able_row T t w told waits =
    let s = seated T t w told in
    let x = s.task in
    let on : x.waits ≡ true = ap (λ (y : Seat). y.waits) s.is ∙ waits in
    let inside : inner T x ≡ w.who.inner = ap (λ (y : Seat). y.who.inner) s.is in
    ap (able_in T) s.stands
    ∙ (ap (λ (o : Option Blow). is_none o && (not x.waits || quiet T (inner T x))) s.unstruck
    ∙ (ap (λ (b : Bool). not b || quiet T (inner T x)) on ∙ ap (quiet T) inside))

-- the own scope of a task that waits
pub own_waits : (T : Tree) (t : TaskId) (w : Seat) → Reached T → seat_told T t ≡ Some w → w.waits ≡ true → (g : Scope) × (own_scope T t ≡ Some g) × (g.number ≡ w.who.inner)
own_waits T t w r told waits =
    let s = seated T t w told in
    let x = s.task in
    let own = waiter_owns T t x r s.stands s.unstruck (ap (λ (y : Seat). y.waits) s.is ∙ waits) in
    let number : x.number ≡ t = task-is x.number t (number-of T t x s.stands) in
    let mine : own_scope T x.number ≡ Some own.0 = ap (λ (v : TaskId). own_scope T v) number ∙ own.1 in
    (own.0, own.1, sym (inner_is T x own.0 mine) ∙ ap (λ (y : Seat). y.who.inner) s.is)

-- Rows of those who wait.

-- the row of a scope numbered as the one that a task waits at
numbered : (s : ScopeId) (n : ℕ) → s.0 ≡ n → s ≡ scope_numbered n
numbered s n e = scope-is s (scope_numbered n) e

-- no one of those who wait is the task
abbrev pub NotAmong : Waiters → TaskId → Type 0
NotAmong ws t = (n : ℕ) (u : TaskId) → waiter_at ws n ≡ Some (TaskWaits u) → u.0 ≢ t.0

-- an act of a task that goes on, and that is none of those who wait
module _ (T : Tree) (r : Reached T) (t : TaskId) (act : Act) (may : AllowedAct T t act) (y : Task) (w : Seat)
    (goes : task_of (made_act T t act) t ≡ Some y) (told : seat_told (made_act T t act) t ≡ Some w)
    (r2 : Reached (made_act T t act)) (old : (u : TaskId) → u.0 < T.next_task → Starts act u)
    (grows : T.next_task ≤ (made_act T t act).next_task) where
  abbrev V : Tree
  V = made_act T t act

  row_stays : (u : TaskId) → u.0 ≢ t.0 → u.0 < T.next_task → seat_told (made_act T t act) u ≡ seat_told T u
  row_stays u apart low = others_told T r t u apart act may (old u low)

  there : (n : ℕ) (who : Waiter) → ((u : TaskId) → who ≡ TaskWaits u → u.0 ≢ t.0) → WaiterIsThere T n who → WaiterIsThere (made_act T t act) n who
  there n (TaskWaits u) apart h = (let low = h.0 in omega (arith, low, grows), λ v e. h.1 v (sym (row_stays u (apart u refl) h.0) ∙ e))
  there n Host apart h = h

  waits : (n : ℕ) (who : Waiter) → ((u : TaskId) → who ≡ TaskWaits u → u.0 ≢ t.0) → WaiterIsThere T n who → HasToWait T n who → HasToWait (made_act T t act) n who
  waits n (TaskWaits u) apart h k =
      let v = k.0.0 in
      let at : seat_told T u ≡ Some v = k.0.1 in
      let now : seat_told (made_act T t act) u ≡ Some v = row_stays u (apart u refl) h.0 ∙ at in
      let row = h.1 v at in
      let is : v.who.inner ≡ scope_numbered n = numbered v.who.inner n row.1 in
      let before : able T u ≡ false = able_row T u v at row.0 ∙ (ap (quiet T) is ∙ k.1) in
      let after : able (made_act T t act) u ≡ false = others_stay T t act y u r may goes (apart u refl) h.0 ∙ before in
      ((v, now), ap (quiet (made_act T t act)) (sym is) ∙ (sym (able_row (made_act T t act) u v now row.0) ∙ after))
  waits n Host apart h k = (tt, ap (λ (m : ℕ). quiet (made_act T t act) (scope_numbered m)) h ∙ busy_root (made_act T t act) t w r2 told)

  pub act_waits : (ws : Waiters) (d : Due) → NotAmong ws t → AllWait T ws d → AllWait (made_act T t act) ws d
  act_waits ws d apart h =
      record {
        there = λ n who e. there n who (λ u is. apart n u (e ∙ ap (λ (x : Waiter). Some x) is)) (h.there n who e);
        wait = λ n who e. elim (h.wait n who e) [
          | inl due ↦ inl due
          | inr k ↦ inr (waits n who (λ u is. apart n u (e ∙ ap (λ (x : Waiter). Some x) is)) (h.there n who e) k)
        ];
      }

-- fewer wait
pub fewer_wait : (T : Tree) (ws us : Waiters) (d : Due) → ((n : ℕ) (who : Waiter) → waiter_at us n ≡ Some who → waiter_at ws n ≡ Some who) → AllWait T ws d → AllWait T us d
fewer_wait T ws us d less h =
    record { there = λ n who e. h.there n who (less n who e); wait = λ n who e. h.wait n who (less n who e) }

-- a place joins
pub join_waits : (T : Tree) (ws : Waiters) (d : Due) → AllWait T ws d → AllWait (widened T) ws d
join_waits T ws d h = record { there = λ n who e. at n who (h.there n who e); wait = λ n who e. on n who (h.wait n who e) } where
  at : (n : ℕ) (who : Waiter) → WaiterIsThere T n who → WaiterIsThere (widened T) n who
  at n (TaskWaits t) k = k
  at n Host k = k

  on : (n : ℕ) (who : Waiter) → ScopeIsDue d n ⊎ HasToWait T n who → ScopeIsDue d n ⊎ HasToWait (widened T) n who
  on n who (inl due) = inl due
  on n (TaskWaits t) (inr k) = inr k
  on n Host (inr k) = inr k

-- a place dies
pub death_waits : (T : Tree) (b : Blow) (ws : Waiters) (d e : Due) → ((n : ℕ) → ScopeIsDue e n) → AllWait T ws d → AllWait (strike b T) ws e
death_waits T b ws d e all h = record { there = λ n who i. at n who (h.there n who i); wait = λ n who i. inl (all n) } where
  left : (o : Option Seat) (w : Seat) → unhit b.place o ≡ Some w → o ≡ Some w
  left None w i = absurd (let v : ⊥ = cc in v)
  left (Some x) w i = of (is_hit b.place x.who.place) i where
    of : (c : Bool) → cond c None (Some x) ≡ Some w → Some x ≡ Some w
    of true j = absurd (let v : ⊥ = cc in v)
    of false j = j

  at : (n : ℕ) (who : Waiter) → WaiterIsThere T n who → WaiterIsThere (strike b T) n who
  at n (TaskWaits t) k = (k.0, λ w i. k.1 w (left (seat_told T t) w (sym (dies_told T b t) ∙ i)))
  at n Host k = k

-- the root is released
pub root_waits : (T : Tree) → Reached T → quiet T the_root ≡ true → (ws : Waiters) (d : Due) → AllWait T ws d → AllWait (without T the_root) ws d
root_waits T r still ws d h = record { there = λ n who e. at n who (h.there n who e); wait = λ n who e. on n who (h.there n who e) (h.wait n who e) } where
  at : (n : ℕ) (who : Waiter) → WaiterIsThere T n who → WaiterIsThere (without T the_root) n who
  at n (TaskWaits t) k = (k.0, λ w i. k.1 w (sym (root_told T r still t) ∙ i))
  at n Host k = k

  on : (n : ℕ) (who : Waiter) → WaiterIsThere T n who → ScopeIsDue d n ⊎ HasToWait T n who → ScopeIsDue d n ⊎ HasToWait (without T the_root) n who
  on n who k (inl due) = inl due
  on n (TaskWaits t) k (inr a) = absurd (true≢false (sym still ∙ busy_root T t a.0.0 r a.0.1))
  on n Host k (inr a) = absurd (true≢false (sym still ∙ (ap (λ (m : ℕ). quiet T (scope_numbered m)) (sym k) ∙ a.1)))

-- Walks.

-- a scope on the chain is no newer than where the chain begins
pub low_chain : (s u : ScopeId) (k : ℕ) (gs : List Scope) → Falls k gs → meets s gs (Some u) ≡ true → s.0 ≤ u.0
low_chain s u k [] f m = absurd (true≢false (sym m))
low_chain s u k (g ∷ gs) f m =
    (elim (g.number.0 == u.0) as (λ a. g.number.0 == u.0 ≡ a → cond a (is_scope s g || meets s gs g.parent) (meets s gs (Some u)) ≡ true → s.0 ≤ u.0) [
      | true ↦ λ e n.
          let same : g.number.0 ≡ u.0 = eqb-true g.number.0 u.0 e in
          (elim (is_scope s g) as (λ b. is_scope s g ≡ b → b || meets s gs g.parent ≡ true → s.0 ≤ u.0) [
            | true ↦ λ i j. (let it : g.number.0 ≡ s.0 = eqb-true g.number.0 s.0 i in omega (arith, same, it))
            | false ↦ λ i j. (let low = met_below s g.number.0 gs g.parent f.1 j in omega (arith, same, low))
          ]) refl n
      | false ↦ λ e n. low_chain s u g.number.0 gs f.1 n
    ]) refl m

-- one step up
pub step_up : (s c q : ScopeId) (g : Scope) (k : ℕ) (gs : List Scope) → Falls k gs → find (is_scope c) gs ≡ Some g → g.parent ≡ Some q → q.0 < c.0 → s.0 ≢ c.0 → meets s gs (Some c) ≡ true → meets s gs (Some q) ≡ true
step_up s c q g k [] f found up low apart m = absurd (true≢false (sym m))
step_up s c q g k (h ∷ hs) f found up low apart m =
    (elim (is_scope c h) as (λ a. is_scope c h ≡ a → cond a (Some h) (find (is_scope c) hs) ≡ Some g → cond a (is_scope s h || meets s hs h.parent) (meets s hs (Some c)) ≡ true → meets s (h ∷ hs) (Some q) ≡ true) [
      | true ↦ λ e i n.
          let same : h ≡ g = cc in
          let num : h.number.0 ≡ c.0 = eqb-true h.number.0 c.0 e in
          let off : is_scope s h ≡ false = ne_eqb h.number.0 s.0 (λ j. apart (sym j ∙ num)) in
          let n2 : meets s hs h.parent ≡ true = sym (ap (λ (b : Bool). b || meets s hs h.parent) off) ∙ n in
          let up2 : h.parent ≡ Some q = ap (λ (v : Scope). v.parent) same ∙ up in
          meets_skips s h hs q (omega (arith, num, low)) ∙ (ap (meets s hs) (sym up2) ∙ n2)
      | false ↦ λ e i n.
          let m2 = step_up s c q g h.number.0 hs f.1 i up low apart n in
          meets_skips s h hs q (met_start s h.number.0 hs q f.1 m2) ∙ m2
    ]) refl found m

-- The end of a task.

module _ (T : Tree) (t : TaskId) (thrown : List Fault) (r : Reached T) (may : AllowedAct T t (End thrown)) where
  abbrev E : Tree
  E = change_scope (λ g. record g { ends = g.ends ++ thrown }) may.task.under (record T { tasks = filter (λ z. not (is_task t z)) T.tasks })

  made_is : made_act T t (End thrown) ≡ E
  made_is = ended T t thrown may.task may.stands

  faults : (s : ScopeId) (want : Option ScopeId) → meets s E.scopes want ≡ meets s T.scopes want
  faults s want = meets_faulted (λ k. k.body) (λ k. k.ends ++ thrown) (is_scope may.task.under) s T.scopes want

  mine : (b : Bool) → not b ≡ false → b ≡ true
  mine true e = refl
  mine false e = absurd (true≢false e)

  it : (v : Task) → find (is_task v.number) T.tasks ≡ Some v → not (is_task t v) ≡ false → may.task ≡ v
  it v stands e =
      let same : v.number ≡ t = task-is v.number t (eqb-true v.number.0 t.0 (mine (is_task t v) e)) in
      let found2 : find (is_task t) T.tasks ≡ Some v = subst (λ (w : TaskId). find (is_task w) T.tasks ≡ Some v) same stands in
      let found : find (is_task t) T.tasks ≡ Some may.task = may.stands in
      cc

  -- where the task did not hang under a scope, that is quiet, or not, as it was
  quiet_apart : (s : ScopeId) → meets s T.scopes (Some may.task.under) ≡ false → quiet E s ≡ quiet T s
  quiet_apart s m =
      quiet_as T E s
      (any_kept (λ v. meets s E.scopes (Some v.under) && is_none v.struck) (λ v. meets s T.scopes (Some v.under) && is_none v.struck) (λ v. not (is_task t v)) T.tasks
      (each_more (λ v. find (is_task v.number) T.tasks ≡ Some v) (λ v. (not (is_task t v) ≡ true → (meets s E.scopes (Some v.under) && is_none v.struck) ≡ (meets s T.scopes (Some v.under) && is_none v.struck)) × (not (is_task t v) ≡ false → (meets s T.scopes (Some v.under) && is_none v.struck) ≡ false))
      (λ (v : Task) stands. (
        λ e. ap (λ b. b && is_none v.struck) (faults s (Some v.under)),
        λ e. and_left (meets s T.scopes (Some v.under)) (is_none v.struck) (subst (λ (w : Task). meets s T.scopes (Some w.under) ≡ false) (it v stands e) m),
      ))
      T.tasks (each_stands T.next_task T.tasks (sound r).tasks_fall)))

  -- so where the scope is quiet now and was not, it is on the chain
  pub on_way : (s : ScopeId) → quiet T s ≡ false → quiet (made_act T t (End thrown)) s ≡ true → on_chain (made_act T t (End thrown)) s may.task.under ≡ true
  on_way s was now =
      (elim (meets s T.scopes (Some may.task.under)) as (λ b. meets s T.scopes (Some may.task.under) ≡ b → on_chain (made_act T t (End thrown)) s may.task.under ≡ true) [
        | true ↦ λ m. subst (λ (V : Tree). on_chain V s may.task.under ≡ true) (sym made_is) (on_meets s E.scopes (Some may.task.under) ∙ (faults s (Some may.task.under) ∙ m))
        | false ↦ λ m. absurd (true≢false (sym now ∙ (ap (λ (V : Tree). quiet V s) made_is ∙ (quiet_apart s m ∙ was))))
      ]) refl

-- where a task waits at a scope below, the scope is not quiet
below_waits : (V : Tree) → Reached V → (m : TaskId) (w : Seat) → seat_told V m ≡ Some w → w.waits ≡ true → (s : ScopeId) → s.0 ≢ w.who.inner.0 → ((g : Scope) → own_scope V m ≡ Some g → list_any (λ k. is_scope s k && opened_by m k) V.scopes ≡ false) → on_chain V s w.who.inner ≡ true → quiet V s ≡ false
below_waits V r m w told waits s apart none on =
    let a = seated V m w told in
    let own = own_waits V m w r told waits in
    let inside : inner V a.task ≡ w.who.inner = ap (λ (y : Seat). y.who.inner) a.is in
    let met : meets s V.scopes (Some (inner V a.task)) ≡ true = ap (λ (v : ScopeId). meets s V.scopes (Some v)) inside ∙ (sym (on_meets s V.scopes (Some w.who.inner)) ∙ on) in
    let under = (inner_fits V m a.task (sound r) a.stands).above s met (none own.0 own.1) in
    false_from_ne_true (quiet V s) (λ still. true≢false (sym under ∙ free_of V s m a.task still a.stands a.unstruck))

-- whoever waits and is due, or is not struck
pub all_there : (T : Tree) (t : TaskId) (thrown : List Fault) → Reached T → AllowedAct T t (End thrown) → (ws : Waiters) (d : Due) → NotAmong ws t → AllWait T ws d → AllThere (made_act T t (End thrown)) ws d
all_there T t thrown r may ws d apart h =
    record { there = λ n who e. at n who (λ u is. apart n u (e ∙ ap (λ (x : Waiter). Some x) is)) (h.there n who e); unstruck = λ n who e. on n who (λ u is. apart n u (e ∙ ap (λ (x : Waiter). Some x) is)) (h.wait n who e) }
  where
    next : (made_act T t (End thrown)).next_task ≡ T.next_task
    next = ap (λ (V : Tree). V.next_task) (ended T t thrown may.task may.stands)

    row : (u : TaskId) → u.0 ≢ t.0 → seat_told (made_act T t (End thrown)) u ≡ seat_told T u
    row u off = others_told T r t u off (End thrown) may tt

    at : (n : ℕ) (who : Waiter) → ((u : TaskId) → who ≡ TaskWaits u → u.0 ≢ t.0) → WaiterIsThere T n who → WaiterIsThere (made_act T t (End thrown)) n who
    at n (TaskWaits u) off k = (subst (λ (m : ℕ). u.0 < m) (sym next) k.0, λ w i. k.1 w (sym (row u (off u refl)) ∙ i))
    at n Host off k = k

    on : (n : ℕ) (who : Waiter) → ((u : TaskId) → who ≡ TaskWaits u → u.0 ≢ t.0) → ScopeIsDue d n ⊎ HasToWait T n who → ScopeIsDue d n ⊎ IsThere (made_act T t (End thrown)) who
    on n who off (inl due) = inl due
    on n (TaskWaits u) off (inr k) = inr (k.0.0, row u (off u refl) ∙ k.0.1)
    on n Host off (inr k) = inr tt

-- after the end of a task
pub end_waits : (T : Tree) (t : TaskId) (thrown : List Fault) → Reached T → (may : AllowedAct T t (End thrown)) → (ws : Waiters) (d e : Due) → NotAmong ws t → AllWait T ws d → ((n : ℕ) → ScopeIsDue d n → ScopeIsDue e n) → AllDue (made_act T t (End thrown)) ws may.task.under e → AllWait (made_act T t (End thrown)) ws e
end_waits T t thrown r may ws d e apart h kept due =
    let a = all_there T t thrown r may ws d apart h in
    record { there = a.there; wait = λ n who i. on n who i (h.wait n who i) (a.unstruck n who i) }
  where
    on : (n : ℕ) (who : Waiter) → waiter_at ws n ≡ Some who → ScopeIsDue d n ⊎ HasToWait T n who → ScopeIsDue d n ⊎ IsThere (made_act T t (End thrown)) who → ScopeIsDue e n ⊎ HasToWait (made_act T t (End thrown)) n who
    on n who i (inl b) j = inl (kept n b)
    on n who i (inr k) (inl b) = inl (kept n b)
    on n who i (inr k) (inr j) =
        (elim (quiet (made_act T t (End thrown)) (scope_numbered n)) as (λ b. quiet (made_act T t (End thrown)) (scope_numbered n) ≡ b → ScopeIsDue e n ⊎ HasToWait (made_act T t (End thrown)) n who) [
          | true ↦ λ m. inl (due n who i (on_way T t thrown r may (scope_numbered n) k.1 m) m)
          | false ↦ λ m. inr (j, m)
        ]) refl

-- Of the scopes that are quiet now only the nearest one for which someone waits can be one for which someone waits, unless that one is struck.

module _ (V : Tree) (r : Reached V) (ws : Waiters) (d e : Due) (from c : ScopeId) (near : Nearest V ws from (Some c)) (all : AllThere V ws d)
    (here : ScopeIsDue e c.0) (kept : (n : ℕ) → ScopeIsDue d n → ScopeIsDue e n) (more : (n m : ℕ) → ScopeIsDue d n → ScopeIsDue e m) where
  -- two tasks that wait for the same scope are one
  one_waits : (m u : TaskId) (w v : Seat) → seat_told V m ≡ Some w → w.waits ≡ true → seat_told V u ≡ Some v → v.waits ≡ true → (n : ℕ) → v.who.inner.0 ≡ n → list_any (λ k. is_scope (scope_numbered n) k && opened_by m k) V.scopes ≡ true → w.who.inner.0 ≡ n
  one_waits m u w v told waits seen stays n at a =
      let own = own_waits V u v r seen stays in
      let same : own.0.number ≡ scope_numbered n = own.2 ∙ numbered v.who.inner n at in
      let b : list_any (λ k. is_scope own.0.number k && opened_by m k) V.scopes ≡ true = subst (λ (s : ScopeId). list_any (λ k. is_scope s k && opened_by m k) V.scopes ≡ true) (sym same) a in
      let it : m ≡ u = task-is m u (one_opener V.next_scope V.scopes u m own.0 (sound r).falls own.1 b) in
      let both : Some w ≡ Some v = sym told ∙ (ap (λ (x : TaskId). seat_told V x) it ∙ seen) in
      let row : w ≡ v = cc in
      ap (λ (y : Seat). y.who.inner.0) row ∙ at

  -- another scope is not quiet, where a task waits for the nearest one
  busy_above : (n : ℕ) (who : Waiter) → waiter_at ws n ≡ Some who → IsThere V who → n ≢ c.0 → on_chain V (scope_numbered n) c ≡ true → (m : TaskId) (w : Seat) → seat_told V m ≡ Some w → w.waits ≡ true → w.who.inner.0 ≡ c.0 → quiet V (scope_numbered n) ≡ false
  busy_above n Host i j apart on m w told waits at = ap (λ (k : ℕ). quiet V (scope_numbered k)) (all.there n Host i) ∙ busy_root V m w r told
  busy_above n (TaskWaits u) i j apart on m w told waits at =
      let row = (all.there n (TaskWaits u) i).1 j.0 j.1 in
      below_waits V r m w told waits (scope_numbered n) (λ k. apart (k ∙ at))
      (λ g own. false_from_ne_true (list_any (λ k. is_scope (scope_numbered n) k && opened_by m k) V.scopes) (λ a. apart (sym (one_waits m u w j.0 told waits j.1 row.0 n row.1 a) ∙ at)))
      (ap (λ (s : ScopeId). on_chain V (scope_numbered n) s) (scope-is w.who.inner c at) ∙ on)

  by_nearest : (n : ℕ) (who : Waiter) → waiter_at ws n ≡ Some who → IsThere V who → n ≢ c.0 → on_chain V (scope_numbered n) c ≡ true → quiet V (scope_numbered n) ≡ true → (z : Waiter) → waiter_at ws c.0 ≡ Some z → IsThere V z → WaiterIsThere V c.0 z → ScopeIsDue e n
  by_nearest n who i j apart on still (TaskWaits m) at k stays =
      let row = stays.1 k.0 k.1 in
      absurd (true≢false (sym still ∙ busy_above n who i j apart on m k.0 k.1 row.0 row.1))
  by_nearest n who i j apart on still Host at k stays =
      let low = low_chain (scope_numbered n) c V.next_scope V.scopes (sound r).falls (sym (on_meets (scope_numbered n) V.scopes (Some c)) ∙ on) in
      let zero : c.0 ≡ 0 = stays in
      absurd (apart (omega (arith, low, zero)))

  pub nearest_due : AllDue V ws from e
  nearest_due n who i on still =
      (elim (n == c.0) as (λ b. n == c.0 ≡ b → ScopeIsDue e n) [
        | true ↦ λ w. subst (λ (m : ℕ). ScopeIsDue e m) (sym (eqb-true n c.0 w)) here
        | false ↦ λ w. other (eqb-false n c.0 w) (all.unstruck n who i) (all.unstruck c.0 near.0.0 near.0.1)
      ]) refl
    where
      other : n ≢ c.0 → ScopeIsDue d n ⊎ IsThere V who → ScopeIsDue d c.0 ⊎ IsThere V near.0.0 → ScopeIsDue e n
      other apart (inl a) b = kept n a
      other apart (inr a) (inl b) = more c.0 n b
      other apart (inr a) (inr b) = by_nearest n who i a apart (near.1 n who i on) still near.0.0 near.0.1 b (all.there c.0 near.0.0 near.0.1)
