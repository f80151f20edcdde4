-- The rows of tasks that are started, of the host's release, and of a task that releases its scope.
use Rattle.std.proofs.Common.{◌≡◌, ◌≢◌, ℕ, ◌≤◌, ◌==◌, Bool, true, false, cond, not, ◌&&◌, filter, map, List, [], ◌∷◌, Option, Some, None, is_some, is_none, option_map, refl, ap, ◌∙◌, sym, subst, arith}
use Rattle.std.specs.List.{find}
use Rattle.std.proofs.lemmas.Bool.{eq-eqb, ne_eqb, not-true}
use Rattle.rx_rules.proofs.Common.{TaskId, ScopeId, PlaceId, PlaceSet, Fault, Tree, is_task, task_of, scope_of, opened_by, is_under, inner, quiet, death_of, the_root, waiting, resumed, born, without, AllowedAct, made_act, AllAllowed, opening, tree_of, Reached, opens}
use Rattle.rx_base.proofs.SameIds.{task-is}
use Rattle.rx_rules.specs.declared.tasks.Where.TheVariants.{At, Travel}
use Rattle.rx_rules.specs.declared.tasks.Blow.{Blow}
use Rattle.rx_rules.specs.declared.tasks.Task.{Task}
use Rattle.rx_rules.specs.declared.tasks.Scope.{Scope}
use Rattle.rx_rules.specs.declared.entries.Entry.{Entry}
use Rattle.rx_rules.specs.declared.entries.Act.TheVariants.{At as Calls, Spawn, Release}
use Rattle.rx_rules.proofs.Lookups.{number-of}
use Rattle.rx_tree_laws.specs.Sound.{Sound, Each}
use Rattle.rx_tree_laws.proofs.Changes.{each_found}
use Rattle.rx_tree_laws.proofs.Reached.{sound}
use Rattle.rx_tree_laws.proofs.Reach.{task_below, fits_of}
use Rattle.rx_tree_laws.proofs.Releasing.{each_none, on_meets}
use Rattle.rx_tree_laws.proofs.Stay.{find_filter}
use Rattle.rx_tree_laws.proofs.Owning.{release_pops}
use Rattle.rx_tree_laws.proofs.Histories.{none_yet}
use Rattle.rx_runs.proofs.Endings.{root_empties}
use Rattle.rx_chronicle.proofs.Linking.{link, links, top, inner_top, Linked, AllLinked, none_opened, linked_from}
use Rattle.rx_coordinator.specs.declared.seats.Seat.{Seat}
use Rattle.rx_coordinator.specs.Seats.{new_seat}
use Rattle.rx_coordinator.specs.Telling.{seat_of, seat_in, seat_told}
use Rattle.rx_coordinator.proofs.Finding.{scope_found, first_passes}
use Rattle.rx_coordinator.proofs.Telling.{is_seat, told_some}
use Rattle.rx_tree_laws.proofs.Staying.{find_unchanged}
use Rattle.rx_ledger.proofs.GoesOn.{found_changed, free_stays}

-- it has none where its place is dead
abbrev pub row_of_new : Tree → TaskId → ScopeId → PlaceId → PlaceId → Option Seat
row_of_new T child s from to = cond (is_some (death_of T to)) None (Some (new_seat child s from to))

of_blow : (o : Option ℕ) (V : Tree) (b : Task) (to : PlaceId) (w : Seat) → b.struck ≡ option_map (λ n. (let k : Blow = record { place = to; entry = n } in k)) o → seat_of V b ≡ w → seat_in V (Some b) ≡ cond (is_some o) None (Some w)
of_blow None V b to w e is = ap (λ (k : Option Blow). cond (is_none k) (Some (seat_of V b)) None) e ∙ ap (λ (x : Seat). Some x) is
of_blow (Some n) V b to w e is = ap (λ (k : Option Blow). cond (is_none k) (Some (seat_of V b)) None) e

module _ (T : Tree) (r : Reached T) (t : TaskId) where
  none_own : (child : TaskId) → child.0 ≡ T.next_task → filter (opened_by child) T.scopes ≡ []
  none_own child next = none_opened T.tasks T.next_task T.scopes child (sound r).tasks_fall (sound r).opened (omega (arith, next))

  pub child_spawn : (child : TaskId) (s : ScopeId) (from to : PlaceId) (path : List ℕ) → AllowedAct T t (Spawn child s from to path) → seat_told (made_act T t (Spawn child s from to path)) child ≡ row_of_new T child s from to
  child_spawn child s from to path may =
      let V : Tree = made_act T t (Spawn child s from to path) in
      let b = born T child s from to in
      let same : (child.0 == child.0) ≡ true = eq-eqb child.0 child.0 refl in
      let there : task_of V child ≡ Some b = ap (λ (c : Bool). cond c (Some b) (find (is_task child) T.tasks)) same in
      let inside : inner V b ≡ s = inner_top V b ∙ ap (λ (gs : List Scope). top (map link gs) s) (none_own child may.asks.1) in
      ap (seat_in V) there
      ∙ of_blow (death_of T to) V b to (new_seat child s from to) refl
      (ap (λ (v : ScopeId). (let y : Seat = record { who = record { task = child; scope = s; inner = v; place = cond (from.0 == to.0) (At to) (Travel from to) }; waits = false } in y)) inside)

  pub child_call : (from to : PlaceId) (s p : ScopeId) (child : TaskId) (path : List ℕ) → AllowedAct T t (Calls from to s p child path) → seat_told (made_act T t (Calls from to s p child path)) child ≡ row_of_new T child s from to
  child_call from to s p child path may =
      let V : Tree = made_act T t (Calls from to s p child path) in
      let b = born T child s from to in
      let low = task_below T.next_task T.tasks t may.task (sound r).tasks_fall may.stands in
      let next = may.asks.3 in
      let apart : child.0 ≢ t.0 = λ e. absurd (omega (arith, low, next, e)) in
      let same : (child.0 == child.0) ≡ true = eq-eqb child.0 child.0 refl in
      let off : (t.0 == child.0) ≡ false = ne_eqb t.0 child.0 (λ e. apart (sym e)) in
      let there : task_of V child ≡ Some b = find_unchanged t child waiting (λ y. refl) apart (b ∷ T.tasks) ∙ ap (λ (c : Bool). cond c (Some b) (find (is_task child) T.tasks)) same in
      let own : filter (opened_by child) V.scopes ≡ [] = rw off (none_own child next) in
      let inside : inner V b ≡ s = inner_top V b ∙ ap (λ (gs : List Scope). top (map link gs) s) own in
      ap (seat_in V) there
      ∙ of_blow (death_of T to) V b to (new_seat child s from to) refl
      (ap (λ (v : ScopeId). (let y : Seat = record { who = record { task = child; scope = s; inner = v; place = cond (from.0 == to.0) (At to) (Travel from to) }; waits = false } in y)) inside)

-- where the root is quiet no task has a row, before its release and after it
pub root_told : (T : Tree) → Reached T → quiet T the_root ≡ true → (t : TaskId) → seat_told (without T the_root) t ≡ seat_told T t
root_told T r still t =
    let h : Sound T = sound r in
    let none = root_empties T h still in
    ap (λ (xs : List Task). seat_in (without T the_root) (find (is_task t) xs)) none
    ∙ sym ((elim (task_of T t) as (λ o. task_of T t ≡ o → seat_in T o ≡ None) [
      | None ↦ λ w. refl
      | Some x ↦ λ w.
          let all : Each (λ y. is_under T the_root y && is_none y.struck ≡ false) T.tasks = each_none (λ y. is_under T the_root y && is_none y.struck) T.tasks (not-true _ still) in
          let one : (is_under T the_root x && is_none x.struck) ≡ false = each_found (λ y. is_under T the_root y && is_none y.struck ≡ false) (is_task t) T.tasks x all w in
          let below : is_under T the_root x ≡ true = on_meets the_root T.scopes (Some x.under) ∙ (fits_of T t x h w).rooted in
          let gone : is_none x.struck ≡ false = sym (ap (λ (b : Bool). b && is_none x.struck) below) ∙ one in
          ap (λ (b : Bool). cond b (Some (seat_of T x)) None) gone
    ]) refl)

-- the parent of the scope that a task works in is what it works in after the release
module _ (p : ℕ) (es : List Entry) (some : 1 ≤ p) (few : p ≤ 16) (allowed : AllAllowed 0 (opening p) es) (r : Reached (tree_of p es)) (t : TaskId) (w : Seat) (told : seat_told (tree_of p es) t ≡ Some w) where
  pub own_release : (s q : ScopeId) (lost : PlaceSet) (masked : ℕ) (thrown : List Fault) (g : Scope) → AllowedAct (tree_of p es) t (Release s lost masked thrown) → scope_of (tree_of p es) s ≡ Some g → g.parent ≡ Some q → seat_told (made_act (tree_of p es) t (Release s lost masked thrown)) t ≡ Some (record w { who = record w.who { inner = q }; waits = false })
  own_release s q lost masked thrown g may at parent =
      let T : Tree = tree_of p es in
      let V : Tree = made_act (tree_of p es) t (Release s lost masked thrown) in
      let x = may.task in
      let linked : AllLinked T = linked_from 0 (opening p) es (opens p some few) none_yet allowed (λ v y e free. tt) in
      let pops = release_pops T t s lost masked thrown r may in
      let h = pops.0 in
      let all = linked t x may.stands may.unstruck in
      let split : Linked (link h ∷ links V t) x.under = subst (λ (gs : List Scope). Linked (map link gs) x.under) pops.2 all in
      let up : h.parent ≡ Some (top (links V t) x.under) = split.0 in
      let own = may.asks.1 in
      let found : scope_of T own.number ≡ Some own = scope_found (opened_by t) T.next_scope T.scopes own (sound r).falls may.asks.2.0 in
      let here : scope_of T s ≡ Some own = subst (λ (v : ScopeId). scope_of T v ≡ Some own) may.asks.2.1 found in
      let both : Some g ≡ Some own = sym at ∙ here in
      let same : g ≡ own = cc in
      let first : own ≡ h = first_passes (opened_by t) T.scopes (filter (opened_by t) V.scopes) own h may.asks.2.0 pops.2 in
      let tops : Some (top (links V t) x.under) ≡ Some q = sym up ∙ (ap (λ (k : Scope). k.parent) (sym first) ∙ (ap (λ (k : Scope). k.parent) (sym same) ∙ parent)) in
      let is : top (links V t) x.under ≡ q = cc in
      let number : x.number ≡ t = task-is x.number t (number-of T t x may.stands) in
      let inside : inner V (resumed x) ≡ q = inner_top V (resumed x) ∙ (ap (λ (v : TaskId). top (links V v) x.under) number ∙ is) in
      let left : find (is_task t) (without T s).tasks ≡ Some x = find_filter (is_task t) (λ y. not (is_under T s y && is_some y.struck)) T.tasks x may.stands (free_stays (is_under T s x) x.struck may.unstruck) in
      let there : task_of V t ≡ Some (resumed x) = found_changed resumed t (without T s).tasks x (λ y. refl) left in
      told_some V t (resumed x) (record (seat_of T x) { who = record (seat_of T x).who { inner = q }; waits = false }) there may.unstruck
      (ap (λ (v : ScopeId). (let y : Seat = record { who = record { task = x.number; scope = x.under; inner = v; place = x.place }; waits = false } in y)) inside)
      ∙ ap (λ (y : Seat). Some (record y { who = record y.who { inner = q }; waits = false })) (sym (is_seat T t x w may.stands may.unstruck told))
