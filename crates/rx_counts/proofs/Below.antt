-- A quiet scope is seen from its own counts.
use Rattle.std.proofs.Common.{◌≡◌, ℕ, zero, suc, ◌<◌, ◌≤◌, Bool, true, false, cond, ◌||◌, ◌&&◌, ◌==◌, not, List, [], ◌∷◌, Option, Some, None, refl, ◌⊎◌, sym, ap, ◌∙◌, subst, arith, inl, inr, ⊎_elim}
use Rattle.std.specs.List.{find, list_any}
use Rattle.std.proofs.lemmas.Bool.{eqb-true, eq-eqb, ne_eqb, true≢false, or_right, or_parts, true_from_ne_false}
use Rattle.std.proofs.Math.Bool.{and-false}
use Rattle.rx_rules.proofs.Common.{TaskId, ScopeId, is_task, is_scope, wants, opened_by}
use Rattle.rx_rules.specs.declared.tasks.Where.TheVariants.{At}
use Rattle.rx_rules.specs.declared.tasks.Task.{Task}
use Rattle.rx_rules.specs.declared.tasks.Scope.{Scope}
use Rattle.rx_tree_laws.specs.Chains.{meets, Falls, HasOpener, Opened}
use Rattle.rx_tree_laws.proofs.Chains.{met_below, met_start, meets_skips}
use Rattle.rx_counts.specs.Keeping.{keeper, is_number}

-- a keeper below s on a chain that has s, with its opener
pub record Below (ts : List Task) (gs : List Scope) (keeps : Scope → Bool) (s : ScopeId) (n : ℕ) : Type 0 where
  pub scope : Scope
  pub keeps_it : keeps scope ≡ true
  pub opener : TaskId
  pub task : Task
  pub stands : find (is_task opener) ts ≡ Some task
  pub at_home : task.place ≡ At scope.home
  pub older : suc task.under.0 < n
  -- s is another of the opener's scopes, and not the last one, or the opener is under s
  pub above : (list_any (λ h. is_scope s h && opened_by opener h) gs ≡ true) ⊎ (meets s gs (Some task.under) ≡ true)
  pub last : (h : Scope) → find (opened_by opener) gs ≡ Some h → s.0 < h.number.0

and_true : (a : Bool) → a && true ≡ false → a ≡ false
and_true true h = h
and_true false h = refl

any_later : {X : Type 0} (p : X → Bool) (x : X) (xs : List X) → list_any p xs ≡ true → list_any p (x ∷ xs) ≡ true
any_later p x xs h = or_right (p x) (list_any p xs) h

-- the newest is the head, or stands later
last_later : (p : Scope → Bool) (g : Scope) (gs : List Scope) (s : ScopeId) → s.0 < g.number.0 → ((h : Scope) → find p gs ≡ Some h → s.0 < h.number.0) → (h : Scope) → find p (g ∷ gs) ≡ Some h → s.0 < h.number.0
last_later p g gs s under later h e =
    (elim (p g) as (λ b. cond b (Some g) (find p gs) ≡ Some h → s.0 < h.number.0) [
      | true ↦ λ k. let same : g ≡ h = cc in subst (λ (v : Scope). s.0 < v.number.0) same under
      | false ↦ λ k. later h k
    ]) e

-- what lies below s in the older scopes does so one scope further
lift : (ts : List Task) (g : Scope) (gs : List Scope) (keeps : Scope → Bool) (s : ScopeId) (n m : ℕ) → n ≤ g.number.0 → n ≤ m → s.0 < g.number.0 → Below ts gs keeps s n → Below ts (g ∷ gs) keeps s m
lift ts g gs keeps s n m below within under b =
    record {
      scope = b.scope;
      keeps_it = b.keeps_it;
      opener = b.opener;
      task = b.task;
      stands = b.stands;
      at_home = b.at_home;
      older = let o : suc b.task.under.0 < n = b.older in omega arith;
      above =
          ⊎_elim
          (λ a. inl (any_later (λ h. is_scope s h && opened_by b.opener h) g gs a))
          (λ a. inr (meets_skips s g gs b.task.under (let o : suc b.task.under.0 < n = b.older in omega arith) ∙ a))
          b.above;
      last = last_later (opened_by b.opener) g gs s under b.last;
    }

-- the scope that keeps counts stands here
here : (ts : List Task) (g : Scope) (gs : List Scope) (keeps : Scope → Bool) (s : ScopeId) (n : ℕ) (o : Option TaskId) → g.number.0 < n → s.0 < g.number.0 → keeps g ≡ true → g.opener ≡ o → HasOpener ts g gs o → meets s gs g.parent ≡ true → Below ts (g ∷ gs) keeps s n
here ts g gs keeps s n None below under k e h m = absurd (true≢false (sym m ∙ ap (λ xs. meets s xs g.parent) h.0))
here ts g gs keeps s n (Some o) below under k e h m =
    record {
      scope = g;
      keeps_it = k;
      opener = o;
      task = h.task;
      stands = h.stands;
      at_home = h.at_home;
      older = let w : h.task.under.0 < g.number.0 = h.older in omega arith;
      above =
          (elim (list_any (λ x. is_scope s x && opened_by o x) gs) as (λ b. list_any (λ x. is_scope s x && opened_by o x) gs ≡ b → (list_any (λ x. is_scope s x && opened_by o x) (g ∷ gs) ≡ true) ⊎ (meets s (g ∷ gs) (Some h.task.under) ≡ true)) [
            | true ↦ λ a. inl (any_later (λ x. is_scope s x && opened_by o x) g gs a)
            | false ↦ λ a. inr (meets_skips s g gs h.task.under h.older ∙ h.above s m a)
          ]) refl;
      last = λ x found.
          let mine : opened_by o g ≡ true = rw e (eq-eqb o.0 o.0 refl) in
          let same : g ≡ x = (let f : cond (opened_by o g) (Some g) (find (opened_by o) gs) ≡ Some x = found in let f2 = rw mine at f in cc) in
          subst (λ (v : Scope). s.0 < v.number.0) same under;
    }

-- where s is on the chain and is not the keeper, the keeper is below it
pub keeper_below : (ts : List Task) (n : ℕ) (gs : List Scope) (keeps : Scope → Bool) (s : ScopeId) (want : Option ScopeId) → Falls n gs → Opened ts gs → list_any (λ h. is_scope s h && not (keeps h)) gs ≡ false → meets s gs want ≡ true → (keeper keeps gs want ≡ Some s.0 → ⊥) → Below ts gs keeps s n
keeper_below ts n [] keeps s want f o k m unless = absurd (true≢false (sym m))
keeper_below ts n (g ∷ gs) keeps s want f o k m unless =
    let later : list_any (λ h. is_scope s h && not (keeps h)) gs ≡ false = (or_parts (is_scope s g && not (keeps g)) (list_any (λ h. is_scope s h && not (keeps h)) gs) k).1 in
    let first : is_scope s g && not (keeps g) ≡ false = (or_parts (is_scope s g && not (keeps g)) (list_any (λ h. is_scope s h && not (keeps h)) gs) k).0 in
    (elim (wants want g) as (λ a. cond a (is_scope s g || meets s gs g.parent) (meets s gs want) ≡ true → (cond a (cond (keeps g) (Some g.number.0) (keeper keeps gs g.parent)) (keeper keeps gs want) ≡ Some s.0 → ⊥) → Below ts (g ∷ gs) keeps s n) [
      | true ↦
          (elim (keeps g) as (λ b. keeps g ≡ b → is_scope s g || meets s gs g.parent ≡ true → (cond b (Some g.number.0) (keeper keeps gs g.parent) ≡ Some s.0 → ⊥) → Below ts (g ∷ gs) keeps s n) [
            | true ↦ λ kept met other.
                let apart : is_scope s g ≡ false = ne_eqb g.number.0 s.0 (λ e. other (ap (λ v. Some v) e)) in
                let m2 : meets s gs g.parent ≡ true = (let q = rw apart at met in q) in
                here ts g gs keeps s n g.opener f.0 (met_below s g.number.0 gs g.parent f.1 m2) kept refl o.0 m2
            | false ↦ λ kept met other.
                let apart : is_scope s g ≡ false = (let q = rw kept at first in and_true (is_scope s g) q) in
                let m2 : meets s gs g.parent ≡ true = (let q = rw apart at met in q) in
                lift ts g gs keeps s g.number.0 n (omega arith) (let w : g.number.0 < n = f.0 in omega arith) (met_below s g.number.0 gs g.parent f.1 m2) (keeper_below ts g.number.0 gs keeps s g.parent f.1 o.1 later m2 other)
          ]) refl
      | false ↦ λ met other. lift ts g gs keeps s g.number.0 n (omega arith) (let w : g.number.0 < n = f.0 in omega arith) (met_below s g.number.0 gs want f.1 met) (keeper_below ts g.number.0 gs keeps s want f.1 o.1 later met other)
    ]) m unless

-- and so the keeper's opener hangs under a scope that is not newer than where the walk starts
pub keeper_from : (ts : List Task) (n : ℕ) (gs : List Scope) (keeps : Scope → Bool) (s u : ScopeId) → Falls n gs → Opened ts gs → list_any (λ h. is_scope s h && not (keeps h)) gs ≡ false → meets s gs (Some u) ≡ true → (keeper keeps gs (Some u) ≡ Some s.0 → ⊥) → Below ts gs keeps s (suc u.0)
keeper_from ts n [] keeps s u f o k m unless = absurd (true≢false (sym m))
keeper_from ts n (g ∷ gs) keeps s u f o k m unless =
    let later : list_any (λ h. is_scope s h && not (keeps h)) gs ≡ false = (or_parts (is_scope s g && not (keeps g)) (list_any (λ h. is_scope s h && not (keeps h)) gs) k).1 in
    (elim (g.number.0 == u.0) as (λ a. g.number.0 == u.0 ≡ a → Below ts (g ∷ gs) keeps s (suc u.0)) [
      | true ↦ λ e.
          let same : g.number.0 ≡ u.0 = eqb-true g.number.0 u.0 e in
          keeper_below ts (suc u.0) (g ∷ gs) keeps s (Some u) (omega arith, f.1) o k m unless
      | false ↦ λ e.
          let m2 : meets s gs (Some u) ≡ true = (let q = rw e at m in q) in
          let w : u.0 < g.number.0 = met_start s g.number.0 gs u f.1 m2 in
          lift ts g gs keeps s (suc u.0) (suc u.0) (omega arith) (omega arith) (met_below s g.number.0 gs (Some u) f.1 m2) (keeper_from ts g.number.0 gs keeps s u f.1 o.1 later m2 (λ e2. unless (rw e e2)))
    ]) refl

-- a scope that keeps counts, of which it is known that no unstruck task is counted at it, and that its opener has no later one
pub record Empty (ts : List Task) (gs : List Scope) (keeps : Scope → Bool) (s : ScopeId) : Type 0 where
  pub keeps_it : list_any (λ h. is_scope s h && not (keeps h)) gs ≡ false
  pub last : (o : TaskId) (h : Scope) → list_any (λ x. is_scope s x && opened_by o x) gs ≡ true → find (opened_by o) gs ≡ Some h → h.number.0 ≤ s.0
  pub none : (t : TaskId) (x : Task) → find (is_task t) ts ≡ Some x → x.struck ≡ None → keeper keeps gs (Some x.under) ≡ Some s.0 → ⊥

-- who is at a home that keeps counts is unstruck
abbrev pub HomesLive : List Task → (Scope → Bool) → Type 0
HomesLive ts keeps = (t : TaskId) (x : Task) (g : Scope) → find (is_task t) ts ≡ Some x → keeps g ≡ true → x.place ≡ At g.home → x.struck ≡ None

none_found : (p q : Scope → Bool) (gs : List Scope) → list_any (λ x. p x && q x) gs ≡ true → find q gs ≡ None → ⊥
none_found p q [] a e = absurd (true≢false (sym a))
none_found p q (g ∷ gs) a e =
    (elim (q g) as (λ b. p g && b || list_any (λ x. p x && q x) gs ≡ true → cond b (Some g) (find q gs) ≡ None → ⊥) [
      | true ↦ λ a2 e2. cc
      | false ↦ λ a2 e2. none_found p q gs (rw and-false at a2) e2
    ]) a e

-- a scope of the opener is found, so both cannot be
found_last : (gs : List Scope) (s : ScopeId) (o : TaskId) → list_any (λ x. is_scope s x && opened_by o x) gs ≡ true → ((h : Scope) → list_any (λ x. is_scope s x && opened_by o x) gs ≡ true → find (opened_by o) gs ≡ Some h → h.number.0 ≤ s.0) → ((h : Scope) → find (opened_by o) gs ≡ Some h → s.0 < h.number.0) → ⊥
found_last gs s o a high low =
    (elim (find (opened_by o) gs) as (λ r. find (opened_by o) gs ≡ r → ⊥) [
      | Some h ↦ λ e. let x : h.number.0 ≤ s.0 = high h a e in let y : s.0 < h.number.0 = low h e in absurd (omega arith)
      | None ↦ λ e. none_found (is_scope s) (opened_by o) gs a e
    ]) refl

-- no unstruck task is under such a scope
under_none : (ts : List Task) (n : ℕ) (gs : List Scope) (keeps : Scope → Bool) (s : ScopeId) → Falls n gs → Opened ts gs → HomesLive ts keeps → Empty ts gs keeps s → (k : ℕ) (t : TaskId) (x : Task) → x.under.0 < k → find (is_task t) ts ≡ Some x → x.struck ≡ None → meets s gs (Some x.under) ≡ true → ⊥
under_none ts n gs keeps s f o live h zero t x less stands free m = absurd (omega arith)
under_none ts n gs keeps s f o live h (suc k) t x less stands free m =
    let b : Below ts gs keeps s (suc x.under.0) = keeper_from ts n gs keeps s x.under f o h.keeps_it m (h.none t x stands free) in
    ⊎_elim
    (λ a. found_last gs s b.opener a (h.last b.opener) b.last)
    (λ a. under_none ts n gs keeps s f o live h k b.opener b.task (let w : suc b.task.under.0 < suc x.under.0 = b.older in omega arith) b.stands (live b.opener b.task b.scope b.stands b.keeps_it b.at_home) a)
    b.above

-- which is: the scope is quiet
pub under_none_at : (ts : List Task) (n : ℕ) (gs : List Scope) (keeps : Scope → Bool) (s : ScopeId) → Falls n gs → Opened ts gs → HomesLive ts keeps → Empty ts gs keeps s → (t : TaskId) (x : Task) → find (is_task t) ts ≡ Some x → x.struck ≡ None → meets s gs (Some x.under) ≡ true → ⊥
under_none_at ts n gs keeps s f o live h t x stands free m = under_none ts n gs keeps s f o live h (suc x.under.0) t x (omega arith) stands free m

-- Where s keeps counts, is quiet and is the last scope of its opener, each task under it, struck ones too, is counted at s itself. So the scopes below have nothing.
pub all_kept_here : (ts : List Task) (n : ℕ) (gs : List Scope) (keeps : Scope → Bool) (s : ScopeId) → Falls n gs → Opened ts gs → HomesLive ts keeps → list_any (λ h. is_scope s h && not (keeps h)) gs ≡ false → ((o : TaskId) (h : Scope) → list_any (λ x. is_scope s x && opened_by o x) gs ≡ true → find (opened_by o) gs ≡ Some h → h.number.0 ≤ s.0) → ((t : TaskId) (x : Task) → find (is_task t) ts ≡ Some x → x.struck ≡ None → meets s gs (Some x.under) ≡ true → ⊥) → (u : ScopeId) → meets s gs (Some u) ≡ true → is_number s.0 (keeper keeps gs (Some u)) ≡ true
all_kept_here ts n gs keeps s f o live k last quiet u m =
    true_from_ne_false (is_number s.0 (keeper keeps gs (Some u)))
    (λ e.
    let b : Below ts gs keeps s (suc u.0) = keeper_from ts n gs keeps s u f o k m (λ same. true≢false (sym (ap (is_number s.0) same ∙ eq-eqb s.0 s.0 refl) ∙ e)) in
    ⊎_elim (λ a. found_last gs s b.opener a (last b.opener) b.last) (λ a. quiet b.opener b.task b.stands (live b.opener b.task b.scope b.stands b.keeps_it b.at_home) a) b.above)
