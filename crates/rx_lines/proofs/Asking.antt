-- A request of which an entry is told may be made, and no unstruck task hinders it.
use Rattle.std.proofs.Common.{◌≡◌, ℕ, true, Some, ap, sym, ◌∙◌, subst, refl}
use Rattle.std.proofs.lemmas.Bool.{true≢false}
use Rattle.rx_rules.proofs.Common.{TaskId, PlaceId, Tree, task_of, own_scope, inner, quiet, the_root, Allowed, AllowedAct}
use Rattle.rx_base.proofs.SameIds.{task-is, scope-is}
use Rattle.rx_rules.specs.declared.tasks.Task.{Task}
use Rattle.rx_rules.specs.declared.entries.Act.TheVariants.{Release as ReleaseAct}
use Rattle.rx_rules.specs.declared.entries.Entry.{Entry}
use Rattle.rx_rules.specs.declared.entries.Entry.TheVariants.{Root as RootEntry}
use Rattle.rx_rules.proofs.Lookups.{number-of}
use Rattle.rx_tree_laws.proofs.Enabling.{inner_is}
use Rattle.rx_finish.specs.Callers.{HasRoot}
use Rattle.rx_finish.specs.declared.ledger.Outcome.{Outcome}
use Rattle.rx_coordinator.specs.declared.requests.Request.{Request}
use Rattle.rx_coordinator.specs.declared.requests.Request.TheVariants.{Send, Release, Root}
use Rattle.rx_coordinator.specs.declared.requests.Answer.{Answer}
use Rattle.rx_coordinator.specs.declared.requests.Answer.TheVariants.{Released, RootDone}
use Rattle.rx_coordinator.specs.declared.waiters.Waiter.{Waiter}
use Rattle.rx_coordinator.specs.declared.waiters.Waiter.TheVariants.{Task as TaskWaits, Root as Host}
use Rattle.rx_coordinator.specs.Telling.{seat_of}
use Rattle.rx_coordinator.specs.Stands.{Told, Awaits, May, Busy}
use Rattle.rx_coordinator.specs.Parking.{WaiterIsThere, scope_numbered, request_of, answer_to}
use Rattle.rx_coordinator.proofs.Telling.{told_some}
use Rattle.rx_lines.proofs.OneEntry.{none_sent}

module _ (T : Tree) where
  release_may : (t : TaskId) (a : Answer) (e : Entry) → Told T (Release t) a e → Allowed T e → Awaits T t
  release_may t (Released o) e h k =
      let m : AllowedAct T t (ReleaseAct h.0 o.lost o.masked o.thrown) = subst (Allowed T) h.1 k in
      record { task = m.task; stands = m.stands; unstruck = m.unstruck; waits = m.asks.0 }
  release_may t _ e h k = absurd h

  root_may : (a : Answer) (e : Entry) → Told T Root a e → Allowed T e → HasRoot T
  root_may (RootDone o) e h k =
      let m : Allowed T (RootEntry o.lost o.masked o.thrown) = subst (Allowed T) h k in
      record { root = m.0; stands = m.1 }
  root_may _ e h k = absurd h

  pub may_told : (q : Request) (a : Answer) (e : Entry) → Told T q a e → Allowed T e → May T q
  may_told (Send t to) a e h k = absurd (none_sent T t to a e h)
  may_told (Release t) a e h k = release_may t a e h k
  may_told Root a e h k = root_may a e h k
  may_told _ a e h k = (a, e, h, k)

  -- a task that releases its scope works there
  inside : (t : TaskId) (o : Outcome) (e : Entry) → (h : Told T (Release t) (Released o) e) → (k : Allowed T e) → (x : Task)
      → task_of T t ≡ Some x → inner T x ≡ h.0
  inside t o e h k x found =
      let m : AllowedAct T t (ReleaseAct h.0 o.lost o.masked o.thrown) = subst (Allowed T) h.1 k in
      let number : x.number ≡ t = task-is x.number t (number-of T t x found) in
      let own : own_scope T x.number ≡ Some m.asks.1 = ap (λ (v : TaskId). own_scope T v) number ∙ m.asks.2.0 in
      inner_is T x m.asks.1 own ∙ m.asks.2.1

  release_still : (t : TaskId) (o : Outcome) (e : Entry) → (h : Told T (Release t) (Released o) e) → Allowed T e
      → quiet T h.0 ≡ true
  release_still t o e h k =
      let m : AllowedAct T t (ReleaseAct h.0 o.lost o.masked o.thrown) = subst (Allowed T) h.1 k in
      m.asks.3.is_quiet

  root_still : (o : Outcome) (e : Entry) → Told T Root (RootDone o) e → Allowed T e → quiet T the_root ≡ true
  root_still o e h k =
      let m : Allowed T (RootEntry o.lost o.masked o.thrown) = subst (Allowed T) h k in
      m.2.is_quiet

  release_idle : (t : TaskId) (a : Answer) (e : Entry) (place : PlaceId) → Told T (Release t) a e → Allowed T e
      → Busy T (Release t) place → ⊥
  release_idle t (Released o) e place h k busy =
      true≢false (sym (release_still t o e h k) ∙ (ap (quiet T) (sym (inside t o e h k busy.0 busy.1)) ∙ busy.2.busy))
  release_idle t _ e place h k busy = absurd h

  root_idle : (a : Answer) (e : Entry) (place : PlaceId) → Told T Root a e → Allowed T e → Busy T Root place → ⊥
  root_idle (RootDone o) e place h k busy = true≢false (sym (root_still o e h k) ∙ busy.busy)
  root_idle _ e place h k busy = absurd h

  -- only a release can be hindered
  pub idle_told : (q : Request) (a : Answer) (e : Entry) (place : PlaceId) → Told T q a e → Allowed T e → Busy T q place → ⊥
  idle_told (Release t) a e place h k busy = release_idle t a e place h k busy
  idle_told Root a e place h k busy = root_idle a e place h k busy
  idle_told _ a e place h k busy = busy

  -- the scope of a row whose release is told is quiet
  pub row_still : (n : ℕ) (who : Waiter) (o : Outcome) (e : Entry) → Told T (request_of who) (answer_to who o) e → Allowed T e
      → WaiterIsThere T n who → quiet T (scope_numbered n) ≡ true
  row_still n (TaskWaits t) o e h k at =
      let a = release_may t (Released o) e h k in
      let row = at.1 (seat_of T a.task) (told_some T t a.task (seat_of T a.task) a.stands a.unstruck refl) in
      let here : scope_numbered n ≡ h.0 = sym (scope-is (inner T a.task) (scope_numbered n) row.1) ∙ inside t o e h k a.task a.stands in
      ap (quiet T) here ∙ release_still t o e h k
  row_still n Host o e h k at = ap (λ (m : ℕ). quiet T (scope_numbered m)) at ∙ root_still o e h k
