-- A new scope keeps a tree sound, and births hang under scopes that stand.
use Rattle.std.proofs.Common.{◌≡◌, ℕ, ◌<◌, ◌≤◌, true, false, cond, ◌||◌, ◌&&◌, ◌==◌, not, List, [], ◌∷◌, Option, Some, None, refl, sym, ap, ◌∙◌, subst, arith}
use Rattle.std.specs.List.{find, list_any}
use Rattle.std.proofs.Math.Bool.{and-true}
use Rattle.std.proofs.lemmas.Bool.{eqb-true, eq-eqb, ne_eqb, true≢false, or_right, or_parts, or_from, and_left, and_right}
use Rattle.rx_rules.proofs.Common.{PlaceId, TaskId, ScopeId, Tree, is_task, task_of, is_scope, wants, opened_by, own_scope, inner, is_finish, chain_in, governing_in, the_root, opened, home_for, place_number}
use Rattle.rx_rules.proofs.Lookups.{number-of}
use Rattle.rx_rules.specs.declared.tasks.Where.TheVariants.{At}
use Rattle.rx_rules.specs.declared.tasks.Task.{Task}
use Rattle.rx_rules.specs.declared.tasks.Scope.{Scope}
use Rattle.rx_rules.specs.declared.tasks.Kind.{Kind}
use Rattle.rx_tree_laws.specs.Chains.{meets, Falls, HasOpener, Opened}
use Rattle.rx_tree_laws.specs.Sound.{TaskFits, Sound}
use Rattle.rx_tree_laws.proofs.Changes.{each_more}
use Rattle.rx_tree_laws.proofs.Reach.{fits_of}
use Rattle.rx_tree_laws.proofs.Chains.{met_start, meets_skips}

-- What the chain of a task's last own scope has: its other own scopes, and what the task is under.
pub record OwnChain (gs : List Scope) (t : TaskId) (h : ScopeId) (u : ScopeId) : Type 0 where
  pub rooted : meets the_root gs (Some h) ≡ true
  pub hangs : (s : ScopeId) → meets s gs (Some u) ≡ true → meets s gs (Some h) ≡ true
  pub above : (s : ScopeId) → meets s gs (Some h) ≡ true → list_any (λ k. is_scope s k && opened_by t k) gs ≡ false → meets s gs (Some u) ≡ true

-- at a scope, s is met from the scope itself or from its parent
pub met_head : (s : ScopeId) (g : Scope) (gs : List Scope) → meets s (g ∷ gs) (Some g.number) ≡ (is_scope s g || meets s gs g.parent)
met_head s g gs = rw (eq-eqb g.number.0 g.number.0 refl)

own_here : (ts : List Task) (g : Scope) (gs : List Scope) (t : TaskId) (x : Task) (o : Option TaskId) → g.opener ≡ o → opened_by t g ≡ true → find (is_task t) ts ≡ Some x → HasOpener ts g gs o → OwnChain (g ∷ gs) t g.number x.under
own_here ts g gs t x None e mine found h = absurd (true≢false (sym mine ∙ rw e))
own_here ts g gs t x (Some o) e mine found h =
    let num : o.0 ≡ t.0 = eqb-true o.0 t.0 (rw e at mine) in
    let same : o ≡ t = ap (λ (n : ℕ). let q : TaskId = record { 0 = n } in q) num in
    let found2 : find (is_task o) ts ≡ Some x = subst (λ (v : TaskId). find (is_task v) ts ≡ Some x) (sym same) found in
    let task : h.task ≡ x = (let k = h.stands in cc) in
    let under : h.task.under ≡ x.under = ap (λ (v : Task). v.under) task in
    let older : x.under.0 < g.number.0 = subst (λ (v : ScopeId). v.0 < g.number.0) under h.older in
    record {
      rooted = met_head the_root g gs ∙ or_right (is_scope the_root g) (meets the_root gs g.parent) h.rooted;
      hangs = λ s m. met_head s g gs ∙ or_right (is_scope s g) (meets s gs g.parent) (h.hangs s (subst (λ (v : ScopeId). meets s gs (Some v) ≡ true) (sym under) (sym (meets_skips s g gs x.under older) ∙ m)));
      above = λ s m a.
          let parts = or_parts (is_scope s g && opened_by t g) (list_any (λ k. is_scope s k && opened_by t k) gs) a in
          let apart : is_scope s g ≡ false = sym (and-true (is_scope s g)) ∙ ap (λ b. is_scope s g && b) (sym mine) ∙ parts.0 in
          let m2 : meets s gs g.parent ≡ true = sym (ap (λ b. b || meets s gs g.parent) apart) ∙ sym (met_head s g gs) ∙ m in
          let rest : list_any (λ k. is_scope s k && opened_by o k) gs ≡ false = subst (λ (v : TaskId). list_any (λ k. is_scope s k && opened_by v k) gs ≡ false) (sym same) parts.1 in
          meets_skips s g gs x.under older ∙ subst (λ (v : ScopeId). meets s gs (Some v) ≡ true) under (h.above s m2 rest);
    }

-- what a task's last own scope is, where it stands
pub record Own (gs : List Scope) (n : ℕ) (t : TaskId) (h : Scope) (u : ScopeId) : Type 0 where
  pub low : h.number.0 < n
  pub older : u.0 < h.number.0
  pub chain : OwnChain gs t h.number u

own_older : (ts : List Task) (g : Scope) (gs : List Scope) (t : TaskId) (x : Task) (o : Option TaskId) → g.opener ≡ o → opened_by t g ≡ true → find (is_task t) ts ≡ Some x → HasOpener ts g gs o → x.under.0 < g.number.0
own_older ts g gs t x None e mine found h = absurd (true≢false (sym mine ∙ rw e))
own_older ts g gs t x (Some o) e mine found h =
    let num : o.0 ≡ t.0 = eqb-true o.0 t.0 (rw e at mine) in
    let same : o ≡ t = ap (λ (n : ℕ). let q : TaskId = record { 0 = n } in q) num in
    let found2 : find (is_task o) ts ≡ Some x = subst (λ (v : TaskId). find (is_task v) ts ≡ Some x) (sym same) found in
    let task : h.task ≡ x = (let k = h.stands in cc) in
    subst (λ (v : Task). v.under.0 < g.number.0) task h.older

-- an opener is at the home of its scope
pub head_place : (ts : List Task) (g : Scope) (gs : List Scope) (t : TaskId) (x : Task) (o : Option TaskId) → g.opener ≡ o → opened_by t g ≡ true → find (is_task t) ts ≡ Some x → HasOpener ts g gs o → x.place ≡ At g.home
head_place ts g gs t x None e mine found h = absurd (true≢false (sym mine ∙ rw e))
head_place ts g gs t x (Some o) e mine found h =
    let num : o.0 ≡ t.0 = eqb-true o.0 t.0 (rw e at mine) in
    let same : o ≡ t = ap (λ (n : ℕ). let q : TaskId = record { 0 = n } in q) num in
    let found2 : find (is_task o) ts ≡ Some x = subst (λ (v : TaskId). find (is_task v) ts ≡ Some x) (sym same) found in
    let task : h.task ≡ x = (let k = h.stands in cc) in
    subst (λ (v : Task). v.place ≡ At g.home) task h.at_home

pub own_place : (ts : List Task) (gs : List Scope) (t : TaskId) (x : Task) (g : Scope) → Opened ts gs → find (is_task t) ts ≡ Some x → find (opened_by t) gs ≡ Some g → x.place ≡ At g.home
own_place ts [] t x g o found e = cc
own_place ts (h ∷ hs) t x g o found e =
    (elim (opened_by t h) as (λ b. opened_by t h ≡ b → cond b (Some h) (find (opened_by t) hs) ≡ Some g → x.place ≡ At g.home) [
      | true ↦ λ mine k. let same : h ≡ g = cc in subst (λ (v : Scope). x.place ≡ At v.home) same (head_place ts h hs t x h.opener refl mine found o.0)
      | false ↦ λ other k. own_place ts hs t x g o.1 found k
    ]) refl e

-- one scope further
own_lift : (g : Scope) (gs : List Scope) (n : ℕ) (t : TaskId) (h : Scope) (u : ScopeId) → g.number.0 < n → opened_by t g ≡ false → Own gs g.number.0 t h u → Own (g ∷ gs) n t h u
own_lift g gs n t h u below other w =
    let low : h.number.0 < g.number.0 = w.low in
    let older : u.0 < h.number.0 = w.older in
    record {
      low = omega arith;
      older = older;
      chain =
          record {
            rooted = meets_skips the_root g gs h.number low ∙ w.chain.rooted;
            hangs = λ s m. meets_skips s g gs h.number low ∙ w.chain.hangs s (sym (meets_skips s g gs u (omega arith)) ∙ m);
            above = λ s m a.
                let parts = or_parts (is_scope s g && opened_by t g) (list_any (λ k. is_scope s k && opened_by t k) gs) a in
                meets_skips s g gs u (omega arith) ∙ w.chain.above s (sym (meets_skips s g gs h.number low) ∙ m) parts.1;
          };
    }

pub own_chain : (ts : List Task) (n : ℕ) (gs : List Scope) (t : TaskId) (x : Task) (h : Scope) → Falls n gs → Opened ts gs → find (is_task t) ts ≡ Some x → find (opened_by t) gs ≡ Some h → Own gs n t h x.under
own_chain ts n [] t x h f o found e = cc
own_chain ts n (g ∷ gs) t x h f o found e =
    (elim (opened_by t g) as (λ b. opened_by t g ≡ b → cond b (Some g) (find (opened_by t) gs) ≡ Some h → Own (g ∷ gs) n t h x.under) [
      | true ↦ λ mine k.
          let same : g ≡ h = cc in
          subst (λ (v : Scope). Own (g ∷ gs) n t v x.under) same
          (record { low = f.0; older = own_older ts g gs t x g.opener refl mine found o.0; chain = own_here ts g gs t x g.opener refl mine found o.0 })
      | false ↦ λ other k. own_lift g gs n t h x.under f.0 other (own_chain ts g.number.0 gs t x h f.1 o.1 found k)
    ]) refl e

-- the inner scope's chain, for a scope that is opened next
pub record InnerFits (gs : List Scope) (n : ℕ) (t : TaskId) (r u : ScopeId) : Type 0 where
  pub rooted : meets the_root gs (Some r) ≡ true
  pub hangs : (s : ScopeId) → meets s gs (Some u) ≡ true → meets s gs (Some r) ≡ true
  pub above : (s : ScopeId) → meets s gs (Some r) ≡ true → list_any (λ k. is_scope s k && opened_by t k) gs ≡ false → meets s gs (Some u) ≡ true

pub inner_fits : (T : Tree) (t : TaskId) (x : Task) → Sound T → task_of T t ≡ Some x → InnerFits T.scopes T.next_scope t (inner T x) x.under
inner_fits T t x h e =
    let num : x.number.0 ≡ t.0 = number-of T t x e in
    let same : x.number ≡ t = ap (λ (n : ℕ). let q : TaskId = record { 0 = n } in q) num in
    (elim (own_scope T x.number) as (λ o. own_scope T x.number ≡ o → InnerFits T.scopes T.next_scope t (elim o as (λ _. ScopeId) [ Some g ↦ g.number | None ↦ x.under ]) x.under) [
      | Some g ↦ λ k.
          let found : find (opened_by t) T.scopes ≡ Some g = subst (λ (v : TaskId). find (opened_by v) T.scopes ≡ Some g) same k in
          let c = (own_chain T.tasks T.next_scope T.scopes t x g h.falls h.opened e found).chain in
          record { rooted = c.rooted; hangs = c.hangs; above = c.above }
      | None ↦ λ k. record { rooted = (fits_of T t x h e).rooted; hangs = λ s m. m; above = λ s m a. m }
    ]) refl

-- Opening.

pub sound_opened : (T : Tree) (t : TaskId) (x : Task) (p : PlaceId) (kind : Kind) (s : ScopeId) → Sound T → task_of T t ≡ Some x → x.place ≡ At p → s.0 ≡ T.next_scope → Sound (opened T t kind s (inner T x))
sound_opened T t x p kind s h stands at e =
    let f = fits_of T t x h stands in
    let c = inner_fits T t x h stands in
    let below : x.under.0 < T.next_scope = met_start the_root T.next_scope T.scopes x.under h.falls f.rooted in
    let g : Scope = record { number = s; kind = kind; opener = Some t; home = home_for T t; parent = Some (inner T x); body = []; ends = [] } in
    let new : s.0 == 0 ≡ false = ne_eqb s.0 0 (λ q. let one : 1 ≤ T.next_scope = h.numbered in absurd (omega arith)) in
    record {
      falls = (omega arith, subst (λ n. Falls n T.scopes) (sym e) h.falls);
      opened = (
        record {
          task = x;
          stands = stands;
          at_home = at ∙ ap At (let q : home_for T t ≡ place_number x.place = rw (stands, home_for) in sym (q ∙ ap place_number at));
          older = omega arith;
          rooted = c.rooted;
          hangs = c.hangs;
          above = c.above;
        },
        h.opened,
      );
      tasks_fall = h.tasks_fall;
      tasks = each_more (TaskFits T.dead T.places T.scopes) (TaskFits T.dead T.places (g ∷ T.scopes)) (λ y k. record { struck = k.struck; inside = k.inside; rooted = meets_skips the_root g T.scopes y.under (let w : y.under.0 < T.next_scope = met_start the_root T.next_scope T.scopes y.under h.falls k.rooted in omega arith) ∙ k.rooted }) T.tasks h.tasks;
      gone = h.gone;
      zero_lives = h.zero_lives;
      root_home = or_from _ _ (and_left (s.0 == 0) _ new) h.root_home;
      root_kind = or_from _ _ (and_left (s.0 == 0) _ new) h.root_kind;
      numbered = omega arith;
      few = h.few;
    }

-- The governing scope.

pub governs_rooted : (n : ℕ) (gs : List Scope) (want : Option ScopeId) → Falls n gs → list_any (λ g. is_scope the_root g && not (is_finish g.kind)) gs ≡ false → meets the_root gs want ≡ true → meets the_root gs (Some (governing_in gs want)) ≡ true
governs_rooted n [] want f k m = absurd (true≢false (sym m))
governs_rooted n (g ∷ gs) want f k m =
    let parts = or_parts (is_scope the_root g && not (is_finish g.kind)) (list_any (λ g. is_scope the_root g && not (is_finish g.kind)) gs) k in
    (elim (wants want g) as (λ a. cond a (is_scope the_root g || meets the_root gs g.parent) (meets the_root gs want) ≡ true → meets the_root (g ∷ gs) (Some (elim (find (λ g. is_finish g.kind) (cond a (g ∷ chain_in gs g.parent) (chain_in gs want))) as (λ _. ScopeId) [ Some h ↦ h.number | None ↦ the_root ])) ≡ true) [
      | true ↦ λ m2.
          (elim (is_finish g.kind) as (λ b. is_finish g.kind ≡ b → meets the_root (g ∷ gs) (Some (elim (cond b (Some g) (find (λ g. is_finish g.kind) (chain_in gs g.parent))) as (λ _. ScopeId) [ Some h ↦ h.number | None ↦ the_root ])) ≡ true) [
            | true ↦ λ q. met_head the_root g gs ∙ m2
            | false ↦ λ q.
                let apart : is_scope the_root g ≡ false = sym (and-true (is_scope the_root g)) ∙ sym (ap (λ b. is_scope the_root g && not b) q) ∙ parts.0 in
                let m3 : meets the_root gs g.parent ≡ true = sym (ap (λ b. b || meets the_root gs g.parent) apart) ∙ m2 in
                let r = governs_rooted g.number.0 gs g.parent f.1 parts.1 m3 in
                meets_skips the_root g gs (governing_in gs g.parent) (met_start the_root g.number.0 gs (governing_in gs g.parent) f.1 r) ∙ r
          ]) refl
      | false ↦ λ m2.
          let r = governs_rooted g.number.0 gs want f.1 parts.1 m2 in
          meets_skips the_root g gs (governing_in gs want) (met_start the_root g.number.0 gs (governing_in gs want) f.1 r) ∙ r
    ]) m

unopened : (ts : List Task) (g : Scope) (gs : List Scope) (o : TaskId) (p : Option TaskId) → g.opener ≡ p → HasOpener ts g gs p → is_scope the_root g && opened_by o g ≡ false
unopened ts g gs o None e h = and_right (is_scope the_root g) (opened_by o g) (rw e)
unopened ts g gs o (Some p) e h = and_left (is_scope the_root g) (opened_by o g) (let low : h.task.under.0 < g.number.0 = h.older in ne_eqb g.number.0 0 (λ q. absurd (omega arith)))

-- no task has opened the root
pub root_unopened : (ts : List Task) (gs : List Scope) (o : TaskId) → Opened ts gs → list_any (λ x. is_scope the_root x && opened_by o x) gs ≡ false
root_unopened ts [] o h = refl
root_unopened ts (g ∷ gs) o h = or_from (is_scope the_root g && opened_by o g) (list_any (λ x. is_scope the_root x && opened_by o x) gs) (unopened ts g gs o g.opener refl h.0) (root_unopened ts gs o h.1)
