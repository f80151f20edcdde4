-- A scope that may be released: its home lives, and its opener has no later scope. Its counts alone tell whether it is quiet.
use Rattle.std.proofs.Common.{◌≡◌, ℕ, ◌≤◌, Bool, true, false, ◌&&◌, ◌==◌, not, List, [], ◌∷◌, Option, Some, None, is_none, slice_index_or, refl, sym, ap, ◌∙◌, subst, arith}
use Rattle.std.specs.List.{find, list_any}
use Rattle.std.proofs.lemmas.Bool.{eqb-true, eq-eqb, ne_eqb, true≢false, or_from, or_parts, and_from, and_left, and_right, not-true}
use Rattle.std.proofs.Math.Bool.{and-true}
use Rattle.rx_tree_laws.proofs.Opening.{own_place, root_unopened}
use Rattle.rx_tree_laws.proofs.Waiting.{each_stands}
use Rattle.rx_tree_laws.proofs.Enabling.{any_none}
use Rattle.rx_rules.proofs.Common.{TaskId, ScopeId, Tree, is_task, task_of, is_scope, opened_by, own_scope, is_under, quiet, the_root}
use Rattle.rx_rules.specs.declared.tasks.Where.TheVariants.{At}
use Rattle.rx_rules.specs.declared.tasks.Task.{Task}
use Rattle.rx_rules.specs.declared.tasks.Scope.{Scope}
use Rattle.rx_base.proofs.Elements.{find-passes}
use Rattle.rx_rules.specs.declared.tasks.Where.TheVariants.{At}
use Rattle.rx_rules.specs.declared.tasks.Task.{Task}
use Rattle.rx_rules.specs.declared.tasks.Scope.{Scope}
use Rattle.rx_finish.specs.Callers.{HasRoot}
use Rattle.rx_tree_laws.specs.Blows.{blow_at}
use Rattle.rx_tree_laws.specs.Chains.{meets}
use Rattle.rx_tree_laws.specs.Sound.{TaskFits, Sound}
use Rattle.rx_tree_laws.proofs.Changes.{each_found, each_more}
use Rattle.rx_tree_laws.proofs.Releasing.{on_meets, each_none}
use Rattle.rx_counts.specs.Inside.Freeing.{IsLast}
use Rattle.rx_counts.specs.Keeping.{stands_home, keeper, is_number, total_of}
use Rattle.rx_counts.proofs.Below.{Empty, under_none_at, all_kept_here}
use Rattle.rx_counts.proofs.Telling.{homes_live, none_blow, last_number, one_number, same_opener, none_from, none_at, quiet_total}

-- the home of an unstruck task's last scope lives
pub own_home : (T : Tree) (t : TaskId) (x : Task) (g : Scope) → Sound T → task_of T t ≡ Some x → own_scope T t ≡ Some g → x.struck ≡ None → stands_home T.dead g ≡ true
own_home T t x g h found own free =
    let place : x.place ≡ At g.home = own_place T.tasks T.scopes t x g h.opened found own in
    let fit : TaskFits T.dead T.places T.scopes x = each_found (TaskFits T.dead T.places T.scopes) (is_task t) T.tasks x h.tasks found in
    none_blow T.dead g.home (sym (ap (blow_at T.dead) place) ∙ sym fit.struck ∙ free)

pub own_last : (T : Tree) (t : TaskId) (x : Task) (g : Scope) → Sound T → task_of T t ≡ Some x → own_scope T t ≡ Some g → x.struck ≡ None → IsLast T g.number
own_last T t x g h found own free =
    let it : find (is_scope g.number) T.scopes ≡ Some g = last_number t T.next_scope T.scopes g h.falls own in
    let mine : opened_by t g ≡ true = find-passes (opened_by t) T.scopes g own in
    record {
      scope = g;
      stands = it;
      keeps_it = one_number (λ k. not (stands_home T.dead k)) T.next_scope T.scopes g.number g h.falls it ∙ ap not (own_home T t x g h found own free);
      last = λ o k a e.
          let his : opened_by o g ≡ true = sym (one_number (opened_by o) T.next_scope T.scopes g.number g h.falls it) ∙ a in
          let same : o ≡ t = same_opener g o t his mine in
          let e2 : find (opened_by t) T.scopes ≡ Some k = subst (λ (v : TaskId). find (opened_by v) T.scopes ≡ Some k) same e in
          let is_g : g ≡ k = cc in
          subst (λ (v : Scope). v.number.0 ≤ g.number.0) is_g (omega arith);
    }

-- The root has no opener.

-- the root's home lives
pub root_keeps : (dead : List (Option ℕ)) (gs : List Scope) → slice_index_or dead 0 None ≡ None → list_any (λ g. is_scope the_root g && not (g.home.0 == 0)) gs ≡ false → list_any (λ g. is_scope the_root g && not (stands_home dead g)) gs ≡ false
root_keeps dead [] z h = refl
root_keeps dead (g ∷ gs) z h =
    let parts = or_parts (is_scope the_root g && not (g.home.0 == 0)) (list_any (λ g. is_scope the_root g && not (g.home.0 == 0)) gs) h in
    or_from (is_scope the_root g && not (stands_home dead g)) (list_any (λ g. is_scope the_root g && not (stands_home dead g)) gs)
    ((elim (g.home.0 == 0) as (λ b. g.home.0 == 0 ≡ b → is_scope the_root g && not b ≡ false → is_scope the_root g && not (stands_home dead g) ≡ false) [
      | true ↦ λ e q. and_right (is_scope the_root g) (not (stands_home dead g)) (ap not (ap (λ i. is_none (slice_index_or dead i None)) (eqb-true g.home.0 0 e) ∙ ap is_none z))
      | false ↦ λ e q. and_left (is_scope the_root g) (not (stands_home dead g)) (sym (and-true (is_scope the_root g)) ∙ q)
    ]) refl parts.0)
    (root_keeps dead gs z parts.1)

pub root_last : (T : Tree) → Sound T → HasRoot T → IsLast T the_root
root_last T h r =
    record {
      scope = r.root;
      stands = r.stands;
      keeps_it = root_keeps T.dead T.scopes h.zero_lives h.root_home;
      last = λ o k a e. absurd (true≢false (sym a ∙ root_unopened T.tasks T.scopes o h.opened));
    }

-- What the total tells.

pub zero_quiet : (T : Tree) (s : ScopeId) → Sound T → IsLast T s → total_of (stands_home T.dead) T.scopes T.tasks s.0 ≡ 0 → quiet T s ≡ true
zero_quiet T s h l zero =
    let keeps : Scope → Bool = stands_home T.dead in
    let empty : Empty T.tasks T.scopes keeps s = record { keeps_it = l.keeps_it; last = l.last; none = none_at T s zero } in
    ap not (any_none (λ y. is_under T s y && is_none y.struck) T.tasks
    (each_more (λ y. find (is_task y.number) T.tasks ≡ Some y) (λ y. is_under T s y && is_none y.struck ≡ false)
    (λ (y : Task) found2. none_from y.struck (is_under T s y) (λ alive under. under_none_at T.tasks T.next_scope T.scopes keeps s h.falls h.opened (homes_live T h) empty y.number y found2 alive (sym (on_meets s T.scopes (Some y.under)) ∙ under)))
    T.tasks (each_stands T.next_task T.tasks h.tasks_fall)))

pub zero_is_quiet : (T : Tree) (s : ScopeId) → Sound T → IsLast T s → total_of (stands_home T.dead) T.scopes T.tasks s.0 == 0 ≡ quiet T s
zero_is_quiet T s h l =
    (elim (quiet T s) as (λ b. quiet T s ≡ b → total_of (stands_home T.dead) T.scopes T.tasks s.0 == 0 ≡ b) [
      | true ↦ λ e. eq-eqb (total_of (stands_home T.dead) T.scopes T.tasks s.0) 0 (quiet_total T s (stands_home T.dead) e)
      | false ↦ λ e. ne_eqb (total_of (stands_home T.dead) T.scopes T.tasks s.0) 0 (λ z. true≢false (sym (zero_quiet T s h l z) ∙ e))
    ]) refl

-- Everything under such a scope that is quiet, struck tasks and scopes too, has it as keeper.
pub kept_here : (T : Tree) (s : ScopeId) → Sound T → IsLast T s → quiet T s ≡ true → (u : ScopeId) → meets s T.scopes (Some u) ≡ true → is_number s.0 (keeper (stands_home T.dead) T.scopes (Some u)) ≡ true
kept_here T s h l still u m =
    all_kept_here T.tasks T.next_scope T.scopes (stands_home T.dead) s h.falls h.opened (homes_live T h) l.keeps_it l.last
    (λ o y found2 alive under.
    true≢false (sym (and_from (is_under T s y) (is_none y.struck) (on_meets s T.scopes (Some y.under) ∙ under) (ap is_none alive))
    ∙ each_found (λ z. is_under T s z && is_none z.struck ≡ false) (is_task o) T.tasks y (each_none (λ z. is_under T s z && is_none z.struck) T.tasks (not-true _ still)) found2))
    u m
