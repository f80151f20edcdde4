-- Who may ask for a release after an entry, and was there before it, could ask before it.
use Rattle.std.proofs.Common.{◌<◌, ◌≤◌, ◌||◌, cond, None, ◌≡◌, ℕ, Bool, true, false, List, [], ◌∷◌, Option, Some, refl, ap, sym, ◌∙◌, subst, arith, inl, inr}
use Rattle.std.specs.List.{find}
use Rattle.std.proofs.lemmas.Bool.{true≢false, cases_eq}
use Rattle.rx_rules.proofs.Common.{TaskId, ScopeId, PlaceId, Tree, is_scope, wants, the_root, AllowedAct, Allowed, made, made_act, Reached}
use Rattle.rx_base.proofs.SameIds.{task-is}
use Rattle.rx_rules.specs.declared.tasks.Scope.{Scope}
use Rattle.rx_rules.specs.declared.tasks.Blow.{Blow}
use Rattle.rx_rules.specs.declared.entries.Act.{Act}
use Rattle.rx_rules.specs.declared.entries.Act.TheVariants.{At as Calls, Spawn}
use Rattle.rx_rules.specs.declared.entries.Entry.{Entry}
use Rattle.rx_rules.specs.declared.entries.Entry.TheVariants.{Step, Root as RootEntry, Death, Join}
use Rattle.rx_tree_laws.specs.Chains.{meets}
use Rattle.rx_tree_laws.proofs.Reached.{sound}
use Rattle.rx_tree_laws.proofs.Reach.{fits_of}
use Rattle.rx_finish.specs.Callers.{HasRoot}
use Rattle.rx_coordinator.specs.declared.seats.Seat.{Seat}
use Rattle.rx_coordinator.specs.declared.waiters.Waiter.{Waiter}
use Rattle.rx_coordinator.specs.declared.waiters.Waiter.TheVariants.{Task as TaskWaits, Root as Host}
use Rattle.rx_coordinator.specs.Seats.{unhit}
use Rattle.rx_coordinator.specs.Telling.{seat_of, seat_told}
use Rattle.rx_coordinator.specs.Stands.{May}
use Rattle.rx_coordinator.specs.Parking.{WaiterIsThere, IsThere, request_of}
use Rattle.rx_coordinator.proofs.Telling.{Starts, others_told, told_some, dies_told, joins_told}
use Rattle.rx_coordinator.proofs.Newcomers.{root_told}
use Rattle.rx_coordinator.proofs.Asking.{seated}

-- no task that was born comes back, and the root does not
pub record Back (T V : Tree) : Type 0 where
  pub task : (u : TaskId) → u.0 < T.next_task → IsThere V (TaskWaits u) → IsThere T (TaskWaits u)
  pub root : HasRoot V → HasRoot T

-- a scope on a chain is there
met-found : (s : ScopeId) (gs : List Scope) (want : Option ScopeId) → meets s gs want ≡ true
    → (g : Scope) × (find (is_scope s) gs ≡ Some g)
met-found s [] want m = absurd (true≢false (sym m))
met-found s (g ∷ gs) want m =
    (elim (is_scope s g) as (λ b. is_scope s g ≡ b → (h : Scope) × (cond b (Some g) (find (is_scope s) gs) ≡ Some h)) [
      | true ↦ λ e. (g, refl)
      | false ↦ λ e.
          (elim (wants want g) as (λ b. cond b (false || meets s gs g.parent) (meets s gs want) ≡ true → (h : Scope) × (find (is_scope s) gs ≡ Some h)) [
            | true ↦ λ k. met-found s gs g.parent k
            | false ↦ λ k. met-found s gs want k
          ]) (sym (ap (λ (b : Bool). cond (wants want g) (b || meets s gs g.parent) (meets s gs want)) e) ∙ m)
    ]) refl

module _ (T : Tree) (r : Reached T) where
  -- a task that acts is under the root
  acting-root : (t : TaskId) (act : Act) → AllowedAct T t act → HasRoot T
  acting-root t act may =
      let f = met-found the_root T.scopes _ (fits_of T t may.task (sound r) may.stands).rooted in
      record { root = f.0; stands = f.1 }

  -- who was born is not started
  no-start : (t u : TaskId) (act : Act) → AllowedAct T t act → u.0 < T.next_task → Starts act u
  no-start t u (Calls from to s q callee path) may low = (let next : callee.0 ≡ T.next_task = may.asks.3 in λ e. absurd (omega (arith, e, low, next)))
  no-start t u (Spawn child s from to path) may low = (let next : child.0 ≡ T.next_task = may.asks.1 in λ e. absurd (omega (arith, e, low, next)))
  no-start t u _ may low = tt

  act-back : (t : TaskId) (act : Act) → AllowedAct T t act → Back T (made_act T t act)
  act-back t act may = record { task = by; root = λ h. acting-root t act may } where
    by : (u : TaskId) → u.0 < T.next_task → IsThere (made_act T t act) (TaskWaits u) → IsThere T (TaskWaits u)
    by u low h =
        elim (cases_eq u.0 t.0) [
          | inl same ↦ subst (λ (v : TaskId). IsThere T (TaskWaits v)) (task-is t u (sym same)) (seat_of T may.task, told_some T t may.task (seat_of T may.task) may.stands may.unstruck refl)
          | inr apart ↦ (h.0, sym (others_told T r t u apart act may (no-start t u act may low)) ∙ h.1)
        ]

  unhit-some : (d : PlaceId) (o : Option Seat) (w : Seat) → unhit d o ≡ Some w → (v : Seat) × (o ≡ Some v)
  unhit-some d None w e = absurd (let v : ⊥ = cc in v)
  unhit-some d (Some x) w e = (x, refl)

  pub entry_back : (n : ℕ) (e : Entry) → Allowed T e → Back T (made n T e)
  entry_back n (Step t act batch) may = act-back t act may
  entry_back n (RootEntry lost masked thrown) may =
      record {
        task = λ u low h. (h.0, sym (root_told T r may.2.is_quiet u) ∙ h.1);
        root = λ h. record { root = may.0; stands = may.1 };
      }
  entry_back n (Death d) may =
      let b : Blow = record { place = d; entry = n } in
      record {
        task = λ u low h. unhit-some d (seat_told T u) h.0 (sym (dies_told T b u) ∙ h.1);
        root = λ h. record { root = h.root; stands = h.stands };
      }
  entry_back n (Join p) may =
      record {
        task = λ u low h. (h.0, sym (joins_told T u) ∙ h.1);
        root = λ h. record { root = h.root; stands = h.stands };
      }

pub no_change : (T V : Tree) → V ≡ T → Back T V
no_change T V e = subst (Back T) (sym e) (record { task = λ u low h. h; root = λ h. h })

pub back_on : (T V W : Tree) → T.next_task ≤ V.next_task → Back T V → Back V W → Back T W
back_on T V W grows h k =
    record { task = λ u low there. h.task u low (k.task u (omega (arith, grows, low)) there); root = λ there. h.root (k.root there) }

-- so is who waits
pub may_back : (T V : Tree) → Back T V → (n : ℕ) (who : Waiter) → WaiterIsThere T n who → May V (request_of who)
    → May T (request_of who)
may_back T V back n (TaskWaits t) at may =
    let there = back.task t at.0 (seat_of V may.task, told_some V t may.task (seat_of V may.task) may.stands may.unstruck refl) in
    let s = seated T t there.0 there.1 in
    record { task = s.task; stands = s.stands; unstruck = s.unstruck; waits = ap (λ (y : Seat). y.waits) s.is ∙ (at.1 there.0 there.1).0 }
may_back T V back n Host at may = back.root may
