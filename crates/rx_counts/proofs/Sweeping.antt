-- A scope goes where its parent went.
use Rattle.std.proofs.Common.{◌≡◌, ℕ, ◌<◌, ◌≤◌, ◌+◌, Bool, true, false, cond, ◌||◌, ◌&&◌, ◌==◌, List, [], ◌∷◌, Option, Some, None, is_none, is_some, length, Err, refl, sym, ap, ◌∙◌, subst, arith, ⊎_elim}
use Rattle.std.specs.List.{find}
use Rattle.std.specs.Global.{Box}
use Rattle.std.proofs.lemmas.Bool.{eqb-true, eq-eqb, ne_eqb, false_from_ne_true, cases_eq, cases_lt}
use Rattle.std.proofs.Math.Bool.{and-false, and-true}
use Rattle.rx_tree_laws.proofs.Freeing.{meets_none}
use Rattle.rx_tree_laws.proofs.Parents.{met_found}
use Rattle.rx_rules.proofs.Common.{TaskId, ScopeId, Tree, is_scope, wants, the_root, quiet, without, has_number}
use Rattle.rx_rules.specs.declared.tasks.Task.{Task}
use Rattle.rx_rules.specs.declared.tasks.Scope.{Scope}
use Rattle.rx_base.proofs.Options.{some-of}
use Rattle.rx_base.proofs.Elements.{find-passes}
use Rattle.rx_tree_laws.specs.Chains.{meets, Falls, HasOpener, Opened}
use Rattle.rx_tree_laws.proofs.Below.{met_newer}
use Rattle.rx_tree_laws.proofs.Reached.{sound}
use Rattle.rx_counts.specs.declared.record.Record.{Record}
use Rattle.rx_counts.specs.declared.ledger.CountLedger.{CountLedger}
use Rattle.rx_counts.specs.Keeping.{keeper, is_number, stands_home}
use Rattle.rx_counts.specs.Stands.{ShapeOf, Fit, StandsFor, IsShaped, record_at}
use Rattle.rx_counts.specs.Inside.Totalling.{fewer_scopes}
use Rattle.rx_counts.proofs.Totalling.{are, totals_are, one_freed}
use Rattle.rx_counts.specs.Inside.Freeing.{IsLast, ScopesBelow, parent_gone, OutcomeReply, FreeReply}
use Rattle.rx_finish.specs.declared.ledger.LedgerFault.{LedgerFault}
use Rattle.rx_finish.specs.declared.ledger.LedgerFault.TheVariants.{NotYet, Lost, NoMemory}
use Rattle.rx_counts.proofs.Walks.{keeper_step, OlderThan}
use Rattle.rx_counts.proofs.Shapes.{both_found, shape_in, walk_older}
use Rattle.rx_counts.proofs.Released.{all_released}
use Rattle.rx_counts.proofs.Masking.{masked_released}
use Rattle.rx_counts.proofs.Asking.{as_wide}

-- the walk that meets s is one that s alone keeps
meets_keeper : (s : ScopeId) (gs : List Scope) (want : Option ScopeId) → meets s gs want ≡ is_number s.0 (keeper (is_scope s) gs want)
meets_keeper s [] want = refl
meets_keeper s (g ∷ gs) want =
    elim (wants want g) as (λ a. cond a (is_scope s g || meets s gs g.parent) (meets s gs want) ≡ is_number s.0 (cond a (cond (is_scope s g) (Some g.number.0) (keeper (is_scope s) gs g.parent)) (keeper (is_scope s) gs want))) [
      | true ↦
          (elim (is_scope s g) as (λ b. is_scope s g ≡ b → b || meets s gs g.parent ≡ is_number s.0 (cond b (Some g.number.0) (keeper (is_scope s) gs g.parent))) [
            | true ↦ λ e. sym e
            | false ↦ λ e. meets_keeper s gs g.parent
          ]) refl
      | false ↦ meets_keeper s gs want
    ]

-- one step of it
pub meets_step : (ts : List Task) (n : ℕ) (gs : List Scope) (s u : ScopeId) (g : Scope) → Falls n gs → Opened ts gs → find (is_scope u) gs ≡ Some g → meets s gs (Some u) ≡ (u.0 == s.0 || meets s gs g.parent)
meets_step ts n gs s u g f o e =
    let num : g.number.0 ≡ u.0 = eqb-true g.number.0 u.0 (find-passes (is_scope u) gs g e) in
    meets_keeper s gs (Some u) ∙ ap (is_number s.0) (keeper_step ts (is_scope s) n gs u g f o e ∙ ap (λ (m : ℕ). cond (m == s.0) (Some u.0) (keeper (is_scope s) gs g.parent)) num)
    ∙ ((elim (u.0 == s.0) as (λ b. u.0 == s.0 ≡ b → is_number s.0 (cond b (Some u.0) (keeper (is_scope s) gs g.parent)) ≡ (b || meets s gs g.parent)) [
      | true ↦ λ k. k
      | false ↦ λ k. sym (meets_keeper s gs g.parent)
    ]) refl)

-- a parent stands
head_parent : (ts : List Task) (g : Scope) (gs : List Scope) (o : Option TaskId) (r : ScopeId) → g.parent ≡ Some r → HasOpener ts g gs o → is_some (find (is_scope r) gs) ≡ true
head_parent ts g gs None r e h = let k = h.1 in cc
head_parent ts g gs (Some o) r e h = met_found the_root gs r (sym (ap (meets the_root gs) e) ∙ h.rooted)

parent_found : (ts : List Task) (p : Scope → Bool) (gs : List Scope) (g : Scope) (r : ScopeId) → Opened ts gs → find p gs ≡ Some g → g.parent ≡ Some r → is_some (find (is_scope r) gs) ≡ true
parent_found ts p [] g r o e k = cc
parent_found ts p (h ∷ hs) g r o e k =
    elim (is_scope r h) as (λ b. is_some (cond b (Some h) (find (is_scope r) hs)) ≡ true) [
      | true ↦ refl
      | false ↦
          (elim (p h) as (λ c. cond c (Some h) (find p hs) ≡ Some g → is_some (find (is_scope r) hs) ≡ true) [
            | true ↦ λ v. let same : h ≡ g = cc in head_parent ts h hs h.opener r (ap (λ (x : Scope). x.parent) same ∙ k) o.0
            | false ↦ λ v. parent_found ts p hs g r o.1 v k
          ]) e
    ]

cond_none : {X : Type 0} (b : Bool) (o : Option X) (x : X) → o ≡ Some x → is_none (cond b None o) ≡ b
cond_none true o x e = refl
cond_none false o x e = rw e refl

parent_is : (T : Tree) (rs qs : List (Option (Box Record))) (s : ScopeId) (i : ℕ) (r : Record) (g : Scope) (want : Option ScopeId) → IsShaped T rs → find (has_number i) T.scopes ≡ Some g → g.parent ≡ want → OlderThan i want → ((u : ScopeId) → u.0 < i → record_at qs u.0 ≡ cond (meets s T.scopes (Some u)) None (record_at rs u.0)) → (elim want as (λ _. Bool) [ Some p ↦ is_none (record_at qs p.0) | None ↦ false ]) ≡ meets s T.scopes want
parent_is T rs qs s i r g None h found e old below = sym (meets_none s T.scopes)
parent_is T rs qs s i r g (Some p) h found e old below =
    let k = some-of (find (has_number p.0) T.scopes) (parent_found T.tasks (has_number i) T.scopes g p h.opened found e) in
    let q = both_found (ShapeOf T.scopes) (record_at rs p.0) (find (has_number p.0) T.scopes) k.0 (h.shapes p.0) k.1 in
    ap is_none (below p old) ∙ cond_none (meets s T.scopes (Some p)) (record_at rs p.0) q.0 q.1

-- whether the scope of number i goes is what the code asks
pub goes_now : (T : Tree) (rs qs : List (Option (Box Record))) (s u : ScopeId) (r : Record) → IsShaped T rs → record_at rs u.0 ≡ Some r → ((v : ScopeId) → v.0 < u.0 → record_at qs v.0 ≡ cond (meets s T.scopes (Some v)) None (record_at rs v.0)) → (u.0 == s.0 || parent_gone qs (Some r)) ≡ meets s T.scopes (Some u)
goes_now T rs qs s u r h e below =
    let k = shape_in T rs u r h e in
    sym (meets_step T.tasks T.next_scope T.scopes s u k.0 h.falls h.opened k.1
    ∙ ap (λ b. u.0 == s.0 || b) (sym (parent_is T rs qs s u.0 r k.0 k.0.parent h k.1 refl (subst (OlderThan u.0) k.2.parent (walk_older T rs u r h e)) below) ∙ ap (λ (w : Option ScopeId). elim w as (λ _. Bool) [ Some p ↦ is_none (record_at qs p.0) | None ↦ false ]) (sym k.2.parent)))

-- one turn of the sweep
pub swept_one : (T : Tree) (rs ps qs : List (Option (Box Record))) (s u : ScopeId) (goes : Bool) → IsShaped T rs → (goes ≡ (u.0 == s.0 || parent_gone ps (record_at ps u.0))) → ((v : ScopeId) → v.0 < u.0 → record_at ps v.0 ≡ cond (meets s T.scopes (Some v)) None (record_at rs v.0)) → record_at ps u.0 ≡ record_at rs u.0 → record_at qs u.0 ≡ cond (goes && (u.0 == u.0)) None (record_at ps u.0) → record_at qs u.0 ≡ cond (meets s T.scopes (Some u)) None (record_at rs u.0)
swept_one T rs ps qs s u goes h e below above dropped =
    (elim (record_at rs u.0) as (λ o. record_at rs u.0 ≡ o → record_at qs u.0 ≡ cond (meets s T.scopes (Some u)) None o) [
      | Some r ↦ λ k.
          let is : goes ≡ meets s T.scopes (Some u) = e ∙ ap (λ o. u.0 == s.0 || parent_gone ps o) (above ∙ k) ∙ goes_now T rs ps s u r h k below in
          dropped ∙ ap (λ b. cond (goes && b) None (record_at ps u.0)) (eq-eqb u.0 u.0 refl) ∙ ap (λ b. cond (b && true) None (record_at ps u.0)) is ∙ ap (cond (meets s T.scopes (Some u) && true) None) (above ∙ k) ∙ ap (λ b. cond b None (Some r)) (and-true (meets s T.scopes (Some u)))
      | None ↦ λ k. dropped ∙ ap (cond (goes && (u.0 == u.0)) None) (above ∙ k) ∙ both_nothing (goes && (u.0 == u.0)) (meets s T.scopes (Some u))
    ]) refl
  where
    both_nothing : (a b : Bool) → cond {A = Option Record} a None None ≡ cond b None None
    both_nothing true true = refl
    both_nothing true false = refl
    both_nothing false true = refl
    both_nothing false false = refl

-- the other records stay in that turn
pub swept_other : (qs ps : List (Option (Box Record))) (i n : ℕ) (goes : Bool) → (n ≡ i → ⊥) → record_at qs n ≡ cond (goes && (n == i)) None (record_at ps n) → record_at qs n ≡ record_at ps n
swept_other qs ps i n goes apart e = e ∙ ap (λ b. cond (goes && b) None (record_at ps n)) (ne_eqb n i apart) ∙ ap (λ b. cond b None (record_at ps n)) (and-false goes)

-- the invariant of the sweep
pub swept_below : (T : Tree) (rs ps qs : List (Option (Box Record))) (s : ScopeId) (i : ℕ) (goes : Bool) → IsShaped T rs → (goes ≡ (i == s.0 || parent_gone ps (record_at ps i))) → ((v : ScopeId) → v.0 < i → record_at ps v.0 ≡ cond (meets s T.scopes (Some v)) None (record_at rs v.0)) → ((n : ℕ) → i ≤ n → record_at ps n ≡ record_at rs n) → ((n : ℕ) → record_at qs n ≡ cond (goes && (n == i)) None (record_at ps n)) → (u : ScopeId) → u.0 < i + 1 → record_at qs u.0 ≡ cond (meets s T.scopes (Some u)) None (record_at rs u.0)
swept_below T rs ps qs s i goes h e below above dropped u low =
    ⊎_elim
    (λ (k : u.0 ≡ i). swept_one T rs ps qs s u goes h (e ∙ ap (λ (m : ℕ). m == s.0 || parent_gone ps (record_at ps m)) (sym k)) (λ v lt. below v (omega arith)) (above u.0 (omega arith)) (dropped u.0 ∙ ap (λ (m : ℕ). cond (goes && (u.0 == m)) None (record_at ps u.0)) (sym k)))
    (λ (k : u.0 ≡ i → ⊥). swept_other qs ps i u.0 goes k (dropped u.0) ∙ below u (lower u.0 i k low))
    (cases_eq u.0 i)
  where
    lower : (m i : ℕ) → (m ≡ i → ⊥) → m < i + 1 → m < i
    lower m i apart lt = ⊎_elim (λ (a : m < i). a) (λ (b : i ≤ m). absurd (apart (omega arith))) (cases_lt m i)

pub swept_above : (rs ps qs : List (Option (Box Record))) (i : ℕ) (goes : Bool) → ((n : ℕ) → i ≤ n → record_at ps n ≡ record_at rs n) → ((n : ℕ) → record_at qs n ≡ cond (goes && (n == i)) None (record_at ps n)) → (n : ℕ) → i + 1 ≤ n → record_at qs n ≡ record_at rs n
swept_above rs ps qs i goes above dropped n le = swept_other qs ps i n goes (λ e. absurd (omega arith)) (dropped n) ∙ above n (omega arith)

-- below s nothing goes
pub none_before : (T : Tree) (rs : List (Option (Box Record))) (s u : ScopeId) → IsShaped T rs → u.0 < s.0 → meets s T.scopes (Some u) ≡ false
none_before T rs s u h lt = false_from_ne_true (meets s T.scopes (Some u)) (λ m. let a : s.0 ≤ u.0 = met_newer s T.next_scope T.scopes u h.falls m in absurd (omega arith))

-- The ledger afterwards.

pub freed : {room : ℕ} (l m : CountLedger) (T : Tree) (s : ScopeId) (n : ℕ) → StandsFor l room T → IsLast T s → quiet T s ≡ true → m.places ≡ l.places → m.width ≡ l.width → m.dead ≡ l.dead → m.next_task ≡ l.next_task → m.next_scope ≡ l.next_scope → m.totals ≡ fewer_scopes (n + 1) l.totals → ScopesBelow T s n l.scopes → length m.scopes ≡ length l.scopes → ((u : ScopeId) → record_at m.scopes u.0 ≡ cond (meets s T.scopes (Some u)) None (record_at l.scopes u.0)) → Fit m (without T s)
freed l m T s n st i still places width dead next_task next_scope totals takes len gone =
    record {
      places = places ∙ st.fit.places;
      dead = dead ∙ st.fit.dead;
      next_task = next_task ∙ st.fit.next_task;
      next_scope = next_scope ∙ st.fit.next_scope;
      totals = totals ∙ totals_are (fewer_scopes (n + 1) l.totals) (without T s) (one_freed l.totals T s n takes.many (are l.totals T st.fit.totals)).1;
      numbers = len ∙ st.fit.numbers;
      scopes = as_wide l.width m.width (stands_home T.dead) (without T s).scopes (without T s).tasks m.scopes width (all_released _ T s l.scopes m.scopes (sound st.reached) i still gone st.fit.scopes);
      masked = masked_released T s l.scopes m.scopes (sound st.reached) i still gone st.fit.masked;
    }

pub free_refused : {room : ℕ} (l : CountLedger) (T : Tree) (s : ScopeId) (f : LedgerFault) → StandsFor l room T → OutcomeReply T s (Err f) → FreeReply room T s (Err f) l
free_refused l T s NoMemory st h = (h, st)
free_refused l T s (Lost p a) st h = absurd h
free_refused l T s (NotYet p) st h = (h, st)
