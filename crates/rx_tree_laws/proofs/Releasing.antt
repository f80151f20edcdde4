-- A release keeps a tree sound.
use Rattle.std.proofs.Common.{◌≡◌, ℕ, ◌<◌, ◌≤◌, Bool, true, false, cond, ◌||◌, ◌&&◌, ◌==◌, not, List, [], ◌∷◌, ◌++◌, Option, Some, None, is_none, is_some, filter, refl, sym, ap, ◌∙◌, arith}
use Rattle.std.specs.List.{find, list_any}
use Rattle.std.proofs.lemmas.Bool.{eqb-true, eq-eqb, ne_eqb, true≢false, or_parts, or_from, and_left, and_parts, not-true, false_from_ne_true}
use Rattle.rx_rules.proofs.Common.{TaskId, ScopeId, Tree, is_task, is_scope, wants, opened_by, chain_in, on_chain, is_under, quiet, is_finish, the_root, without}
use Rattle.rx_rules.specs.declared.tasks.Task.{Task}
use Rattle.rx_rules.specs.declared.tasks.Scope.{Scope}
use Rattle.rx_tree_laws.specs.Chains.{meets, Falls, HasOpener, Opened}
use Rattle.rx_tree_laws.specs.Sound.{Each, TaskFits, LeftFits, Sound}
use Rattle.rx_tree_laws.proofs.Changes.{each_more}
use Rattle.rx_tree_laws.proofs.Stay.{fall_filter, find_filter}
use Rattle.rx_tree_laws.proofs.Chains.{met_below, meets_skips}

-- the rules' word for `meets`
pub on_meets : (s : ScopeId) (gs : List Scope) (want : Option ScopeId) → list_any (is_scope s) (chain_in gs want) ≡ meets s gs want
on_meets s [] want = refl
on_meets s (g ∷ gs) want =
    elim (wants want g) as (λ a. list_any (is_scope s) (cond a (g ∷ chain_in gs g.parent) (chain_in gs want)) ≡ cond a (is_scope s g || meets s gs g.parent) (meets s gs want)) [
      | true ↦ ap (λ b. is_scope s g || b) (on_meets s gs g.parent)
      | false ↦ on_meets s gs want
    ]

-- each scope of the walk passes q
abbrev pub passes : (Scope → Bool) → List Scope → Option ScopeId → Bool
passes q [] want = true
passes q (g ∷ gs) want = cond (wants want g) (q g && passes q gs g.parent) (passes q gs want)

-- a walk that passes q finds in the filtered list what it finds in the whole
pub meets_filter : (q : Scope → Bool) (s : ScopeId) (gs : List Scope) (want : Option ScopeId) → passes q gs want ≡ true → meets s (filter q gs) want ≡ meets s gs want
meets_filter q s [] want h = refl
meets_filter q s (g ∷ gs) want h =
    (elim (wants want g) as (λ a. wants want g ≡ a → cond a (q g && passes q gs g.parent) (passes q gs want) ≡ true → meets s (cond (q g) (g ∷ filter q gs) (filter q gs)) want ≡ cond a (is_scope s g || meets s gs g.parent) (meets s gs want)) [
      | true ↦ λ w k.
          let parts = and_parts (q g) (passes q gs g.parent) k in
          rw (parts.0, w) (ap (λ b. is_scope s g || b) (meets_filter q s gs g.parent parts.1))
      | false ↦ λ w k.
          elim (q g) as (λ b. meets s (cond b (g ∷ filter q gs) (filter q gs)) want ≡ meets s gs want) [
            | true ↦ rw w (meets_filter q s gs want k)
            | false ↦ meets_filter q s gs want k
          ]
    ]) refl h

-- q drops a scope exactly where s is on its chain
abbrev pub Marks : (Scope → Bool) → ScopeId → List Scope → Type 0
Marks q s [] = Unit {0}
Marks q s (g ∷ gs) = (q g ≡ not (is_scope s g || meets s gs g.parent)) × Marks q s gs

pub passes_marks : (q : Scope → Bool) (s : ScopeId) (gs : List Scope) (want : Option ScopeId) → Marks q s gs → meets s gs want ≡ false → passes q gs want ≡ true
passes_marks q s [] want k m = refl
passes_marks q s (g ∷ gs) want k m =
    (elim (wants want g) as (λ a. cond a (is_scope s g || meets s gs g.parent) (meets s gs want) ≡ false → cond a (q g && passes q gs g.parent) (passes q gs want) ≡ true) [
      | true ↦ λ m2.
          let parts = or_parts (is_scope s g) (meets s gs g.parent) m2 in
          rw (k.0, m2) (passes_marks q s gs g.parent k.1 parts.1)
      | false ↦ λ m2. passes_marks q s gs want k.1 m2
    ]) m

pub each_below : (n : ℕ) (gs : List Scope) → Falls n gs → Each (λ g. g.number.0 < n) gs
each_below n [] f = tt
each_below n (g ∷ gs) f =
    let a : g.number.0 < n = f.0 in
    (a, each_more (λ h. h.number.0 < g.number.0) (λ h. h.number.0 < n) (λ (h : Scope) (b : h.number.0 < g.number.0). omega arith) gs (each_below g.number.0 gs f.1))

-- one scope has a number
pub each_numbered : (h : ScopeId) (n : ℕ) (gs : List Scope) (g : Scope) → Falls n gs → find (is_scope h) gs ≡ Some g → Each (λ k. is_scope h k ≡ true → k ≡ g) gs
each_numbered h n [] g f e = cc
each_numbered h n (k ∷ ks) g f e =
    (elim (is_scope h k) as (λ b. is_scope h k ≡ b → cond b (Some k) (find (is_scope h) ks) ≡ Some g → Each (λ k. is_scope h k ≡ true → k ≡ g) (k ∷ ks)) [
      | true ↦ λ m v.
          let same : k ≡ g = cc in
          let num : k.number.0 ≡ h.0 = eqb-true k.number.0 h.0 m in
          (λ q. same, each_more (λ j. j.number.0 < k.number.0) (λ j. is_scope h j ≡ true → j ≡ g) (λ (j : Scope) (low : j.number.0 < k.number.0) q. let num2 : j.number.0 ≡ h.0 = eqb-true j.number.0 h.0 q in absurd (omega arith)) ks (each_below k.number.0 ks f.1))
      | false ↦ λ m v. (λ q. absurd (true≢false (sym q ∙ m)), each_numbered h k.number.0 ks g f.1 v)
    ]) refl e

marks_same : (q r : Scope → Bool) (s : ScopeId) (gs : List Scope) → Each (λ g. r g ≡ q g) gs → Marks q s gs → Marks r s gs
marks_same q r s [] e k = tt
marks_same q r s (g ∷ gs) e k = (e.0 ∙ k.0, marks_same q r s gs e.1 k.1)

pub marks_all : (s : ScopeId) (n : ℕ) (gs : List Scope) → Falls n gs → Marks (λ g. not (meets s gs (Some g.number))) s gs
marks_all s n [] f = tt
marks_all s n (g ∷ gs) f = (
  ap not (let e : meets s (g ∷ gs) (Some g.number) ≡ (is_scope s g || meets s gs g.parent) = rw (eq-eqb g.number.0 g.number.0 refl) in e),
  marks_same (λ h. not (meets s gs (Some h.number))) (λ h. not (meets s (g ∷ gs) (Some h.number))) s gs
      (each_more (λ h. h.number.0 < g.number.0) (λ h. not (meets s (g ∷ gs) (Some h.number)) ≡ not (meets s gs (Some h.number))) (λ h b. ap not (meets_skips s g gs h.number b)) gs (each_below g.number.0 gs f.1))
      (marks_all s g.number.0 gs f.1),
)

pub falls_less : (n m : ℕ) (gs : List Scope) → n ≤ m → Falls n gs → Falls m gs
falls_less n m [] le f = tt
falls_less n m (g ∷ gs) le f = (let a : g.number.0 < n = f.0 in omega arith, f.1)

pub falls_filter : (q : Scope → Bool) (n : ℕ) (gs : List Scope) → Falls n gs → Falls n (filter q gs)
falls_filter q n [] f = tt
falls_filter q n (g ∷ gs) f =
    elim (q g) as (λ b. Falls n (cond b (g ∷ filter q gs) (filter q gs))) [
      | true ↦ (f.0, falls_filter q g.number.0 gs f.1)
      | false ↦ falls_less g.number.0 n (filter q gs) (let a : g.number.0 < n = f.0 in omega arith) (falls_filter q g.number.0 gs f.1)
    ]

pub any_filter : (p q : Scope → Bool) (gs : List Scope) → list_any p gs ≡ false → list_any p (filter q gs) ≡ false
any_filter p q [] h = refl
any_filter p q (g ∷ gs) h =
    let parts = or_parts (p g) (list_any p gs) h in
    elim (q g) as (λ b. list_any p (cond b (g ∷ filter q gs) (filter q gs)) ≡ false) [
      | true ↦ or_from (p g) (list_any p (filter q gs)) parts.0 (any_filter p q gs parts.1)
      | false ↦ any_filter p q gs parts.1
    ]

pub none_below : (r : Scope → Bool) (s : ScopeId) (n : ℕ) (gs : List Scope) → Falls n gs → n ≤ s.0 → list_any (λ k. is_scope s k && r k) gs ≡ false
none_below r s n [] f le = refl
none_below r s n (g ∷ gs) f le =
    let a : g.number.0 < n = f.0 in
    or_from (is_scope s g && r g) (list_any (λ k. is_scope s k && r k) gs) (and_left (is_scope s g) (r g) (ne_eqb g.number.0 s.0 (λ e. absurd (omega arith)))) (none_below r s g.number.0 gs f.1 (omega arith))

-- a scope that the walk meets is not dropped
any_kept : (r q : Scope → Bool) (s : ScopeId) (n : ℕ) (gs : List Scope) (want : Option ScopeId) → Falls n gs → passes q gs want ≡ true → meets s gs want ≡ true → list_any (λ k. is_scope s k && r k) (filter q gs) ≡ false → list_any (λ k. is_scope s k && r k) gs ≡ false
any_kept r q s n [] want f p m a = refl
any_kept r q s n (g ∷ gs) want f p m a =
    (elim (wants want g) as (λ c. cond c (q g && passes q gs g.parent) (passes q gs want) ≡ true → cond c (is_scope s g || meets s gs g.parent) (meets s gs want) ≡ true → list_any (λ k. is_scope s k && r k) (g ∷ gs) ≡ false) [
      | true ↦ λ p2 m2.
          let parts = and_parts (q g) (passes q gs g.parent) p2 in
          let a2 : (is_scope s g && r g || list_any (λ k. is_scope s k && r k) (filter q gs)) ≡ false = rw parts.0 at a in
          let ors = or_parts (is_scope s g && r g) (list_any (λ k. is_scope s k && r k) (filter q gs)) a2 in
          (elim (is_scope s g) as (λ b. is_scope s g ≡ b → b || meets s gs g.parent ≡ true → list_any (λ k. is_scope s k && r k) (g ∷ gs) ≡ false) [
            | true ↦ λ e m3.
                let num : g.number.0 ≡ s.0 = eqb-true g.number.0 s.0 e in
                or_from (is_scope s g && r g) (list_any (λ k. is_scope s k && r k) gs) ors.0 (none_below r s g.number.0 gs f.1 (omega arith))
            | false ↦ λ e m3.
                or_from (is_scope s g && r g) (list_any (λ k. is_scope s k && r k) gs) ors.0 (any_kept r q s g.number.0 gs g.parent f.1 parts.1 m3 ors.1)
          ]) refl m2
      | false ↦ λ p2 m2.
          let low : s.0 < g.number.0 = met_below s g.number.0 gs want f.1 m2 in
          let apart : is_scope s g ≡ false = ne_eqb g.number.0 s.0 (λ e. absurd (omega arith)) in
          let rest : list_any (λ k. is_scope s k && r k) (filter q gs) ≡ false =
          (elim (q g) as (λ b. list_any (λ k. is_scope s k && r k) (cond b (g ∷ filter q gs) (filter q gs)) ≡ false → list_any (λ k. is_scope s k && r k) (filter q gs) ≡ false) [
            | true ↦ λ k. (or_parts (is_scope s g && r g) (list_any (λ k. is_scope s k && r k) (filter q gs)) k).1
            | false ↦ λ k. k
          ]) a
          in
          or_from (is_scope s g && r g) (list_any (λ k. is_scope s k && r k) gs) (and_left (is_scope s g) (r g) apart) (any_kept r q s g.number.0 gs want f.1 p2 m2 rest)
    ]) p m

-- openers of the scopes that stay stay
head_filter : (ts us : List Task) (q : Scope → Bool) (s : ScopeId) (g : Scope) (gs : List Scope) (o : Option TaskId) → Falls g.number.0 gs → Marks q s gs → meets s gs g.parent ≡ false → ((t : TaskId) (x : Task) → x.under.0 < g.number.0 → find (is_task t) ts ≡ Some x → meets s gs (Some x.under) ≡ false → find (is_task t) us ≡ Some x) → HasOpener ts g gs o → HasOpener us g (filter q gs) o
head_filter ts us q s g gs None f k m stay h = (ap (filter q) h.0, h.1)
head_filter ts us q s g gs (Some o) f k m stay h =
    let free : meets s gs (Some h.task.under) ≡ false = false_from_ne_true (meets s gs (Some h.task.under)) (λ e. true≢false (sym (h.hangs s e) ∙ m)) in
    let up : passes q gs g.parent ≡ true = passes_marks q s gs g.parent k m in
    let side : passes q gs (Some h.task.under) ≡ true = passes_marks q s gs (Some h.task.under) k free in
    record {
      task = h.task;
      stands = stay o h.task h.older h.stands free;
      at_home = h.at_home;
      older = h.older;
      rooted = meets_filter q the_root gs g.parent up ∙ h.rooted;
      hangs = λ r e. meets_filter q r gs g.parent up ∙ h.hangs r (sym (meets_filter q r gs (Some h.task.under) side) ∙ e);
      above = λ r e a.
          let e2 : meets r gs g.parent ≡ true = sym (meets_filter q r gs g.parent up) ∙ e in
          meets_filter q r gs (Some h.task.under) side ∙ h.above r e2 (any_kept (opened_by o) q r g.number.0 gs g.parent f up e2 a);
    }

opened_filter : (ts us : List Task) (q : Scope → Bool) (s : ScopeId) (n : ℕ) (gs : List Scope) → Falls n gs → Marks q s gs → ((t : TaskId) (x : Task) → x.under.0 < n → find (is_task t) ts ≡ Some x → meets s gs (Some x.under) ≡ false → find (is_task t) us ≡ Some x) → Opened ts gs → Opened us (filter q gs)
opened_filter ts us q s n [] f k stay h = tt
opened_filter ts us q s n (g ∷ gs) f k stay h =
    let below : g.number.0 < n = f.0 in
    let tail : (t : TaskId) (x : Task) → x.under.0 < g.number.0 → find (is_task t) ts ≡ Some x → meets s gs (Some x.under) ≡ false → find (is_task t) us ≡ Some x =
    λ t x low found m. stay t x (omega arith) found (meets_skips s g gs x.under low ∙ m)
    in
    (elim (q g) as (λ b. q g ≡ b → Opened us (cond b (g ∷ filter q gs) (filter q gs))) [
      | true ↦ λ e.
          let m : is_scope s g || meets s gs g.parent ≡ false = not-true (is_scope s g || meets s gs g.parent) (sym k.0 ∙ e) in
          (head_filter ts us q s g gs g.opener f.1 k.1 (or_parts (is_scope s g) (meets s gs g.parent) m).1 tail h.0, opened_filter ts us q s g.number.0 gs f.1 k.1 tail h.1)
      | false ↦ λ e. opened_filter ts us q s g.number.0 gs f.1 k.1 tail h.1
    ]) refl

pub each_filtered : {X : Type 0} (P Q : X → Type 0) (q : X → Bool) → ((x : X) → P x → q x ≡ true → Q x) → (xs : List X) → Each P xs → Each Q (filter q xs)
each_filtered P Q q f [] h = tt
each_filtered P Q q f (x ∷ xs) h =
    (elim (q x) as (λ b. q x ≡ b → Each Q (cond b (x ∷ filter q xs) (filter q xs))) [
      | true ↦ λ e. (f x h.0 e, each_filtered P Q q f xs h.1)
      | false ↦ λ e. each_filtered P Q q f xs h.1
    ]) refl

pub each_both : {X : Type 0} (P Q : X → Type 0) (xs : List X) → Each P xs → Each Q xs → Each (λ x. P x × Q x) xs
each_both P Q [] h k = tt
each_both P Q (x ∷ xs) h k = ((h.0, k.0), each_both P Q xs h.1 k.1)

pub each_append : {X : Type 0} (P : X → Type 0) (xs ys : List X) → Each P xs → Each P ys → Each P (xs ++ ys)
each_append P [] ys h k = k
each_append P (x ∷ xs) ys h k = (h.0, each_append P xs ys h.1 k)

pub each_none : {X : Type 0} (p : X → Bool) (xs : List X) → list_any p xs ≡ false → Each (λ x. p x ≡ false) xs
each_none p [] h = tt
each_none p (x ∷ xs) h = let parts = or_parts (p x) (list_any p xs) h in (parts.0, each_none p xs parts.1)

-- what leaves with a release of s
abbrev pub leaves : Tree → ScopeId → Task → Bool
leaves T s x = is_under T s x && is_some x.struck

-- in a quiet scope, who stays is not under it
stays_free : (u : Bool) (o : Bool) → u && not o ≡ false → not (u && o) ≡ true → u ≡ false
stays_free false o a b = refl
stays_free true true a b = absurd (true≢false (sym b))
stays_free true false a b = absurd (true≢false a)

pub none_is_not : {X : Type 0} (o : Option X) → is_none o ≡ not (is_some o)
none_is_not None = refl
none_is_not (Some x) = refl

pub stayer_free : (T : Tree) (s : ScopeId) (x : Task) → is_under T s x && is_none x.struck ≡ false → not (leaves T s x) ≡ true → meets s T.scopes (Some x.under) ≡ false
stayer_free T s x a b = sym (on_meets s T.scopes (Some x.under)) ∙ stays_free (is_under T s x) (is_some x.struck) (sym (ap (λ c. is_under T s x && c) (none_is_not x.struck)) ∙ a) b

pub each_all : {X : Type 0} (P : X → Type 0) → ((x : X) → P x) → (xs : List X) → Each P xs
each_all P f [] = tt
each_all P f (x ∷ xs) = (f x, each_all P f xs)

pub drops : (T : Tree) (s : ScopeId) → Sound T → Marks (λ g. not (on_chain T s g.number)) s T.scopes
drops T s h =
    marks_same (λ g. not (meets s T.scopes (Some g.number))) (λ g. not (on_chain T s g.number)) s T.scopes
    (each_all (λ g. not (on_chain T s g.number) ≡ not (meets s T.scopes (Some g.number))) (λ (g : Scope). ap not (on_meets s T.scopes (Some g.number))) T.scopes)
    (marks_all s T.next_scope T.scopes h.falls)

pub sound_without : (T : Tree) (s : ScopeId) → Sound T → quiet T s ≡ true → Sound (without T s)
sound_without T s h still =
    let q : Scope → Bool = λ g. not (on_chain T s g.number) in
    let marks : Marks q s T.scopes = drops T s h in
    let free : Each (λ x. is_under T s x && is_none x.struck ≡ false) T.tasks = each_none (λ x. is_under T s x && is_none x.struck) T.tasks (not-true _ still) in
    record {
      falls = falls_filter q T.next_scope T.scopes h.falls;
      opened =
          opened_filter T.tasks (filter (λ x. not (leaves T s x)) T.tasks) q s T.next_scope T.scopes h.falls marks
          (λ t x low found m. find_filter (is_task t) (λ x. not (leaves T s x)) T.tasks x found (ap not (and_left (is_under T s x) (is_some x.struck) (on_meets s T.scopes (Some x.under) ∙ m))))
          h.opened;
      tasks_fall = fall_filter (λ x. not (leaves T s x)) T.next_task T.tasks h.tasks_fall;
      tasks =
          each_filtered (λ x. TaskFits T.dead T.places T.scopes x × (is_under T s x && is_none x.struck ≡ false)) (TaskFits T.dead T.places (filter q T.scopes)) (λ x. not (leaves T s x))
          (λ x f e. record {
            struck = f.0.struck;
            inside = f.0.inside;
            rooted = meets_filter q the_root T.scopes (Some x.under) (passes_marks q s T.scopes (Some x.under) marks (stayer_free T s x f.1 e)) ∙ f.0.rooted;
          })
          T.tasks (each_both (TaskFits T.dead T.places T.scopes) (λ x. is_under T s x && is_none x.struck ≡ false) T.tasks h.tasks free);
      gone =
          each_append (LeftFits T.dead) T.gone (filter (leaves T s) T.tasks) h.gone
          (each_filtered (TaskFits T.dead T.places T.scopes) (LeftFits T.dead) (leaves T s) (λ x f e. record { struck = f.struck; is_struck = (and_parts (is_under T s x) (is_some x.struck) e).1 }) T.tasks h.tasks);
      zero_lives = h.zero_lives;
      root_home = any_filter (λ g. is_scope the_root g && not (g.home.0 == 0)) q T.scopes h.root_home;
      root_kind = any_filter (λ g. is_scope the_root g && not (is_finish g.kind)) q T.scopes h.root_kind;
      numbered = h.numbered;
      few = h.few;
    }
