-- Changes of tasks and of faults leave the tree sound.
use Rattle.std.proofs.Common.{◌≡◌, ℕ, ◌<◌, ◌≤◌, Bool, true, false, cond, ◌||◌, ◌&&◌, List, [], ◌∷◌, Option, Some, None, filter, map, refl, ◌⊎◌, sym, ap, ◌∙◌, subst, arith, inl, inr}
use Rattle.std.specs.List.{find, list_any}
use Rattle.std.proofs.lemmas.Bool.{eq-eqb, or_right}
use Rattle.rx_rules.proofs.Common.{Fault, PlaceId, TaskId, ScopeId, is_task, is_scope, wants, opened_by, the_root, change_first}
use Rattle.rx_rules.specs.declared.tasks.Where.TheVariants.{At}
use Rattle.rx_rules.specs.declared.tasks.Task.{Task}
use Rattle.rx_rules.specs.declared.tasks.Scope.{Scope}
use Rattle.rx_tree_laws.specs.Chains.{meets, Falls, HasOpener, Opened}
use Rattle.rx_tree_laws.specs.Sound.{TasksFall}

-- an opener in the new list of tasks: as before, but for what may change
pub record Stays (us : List Task) (o : TaskId) (x : Task) (p : PlaceId) : Type 0 where
  pub task : Task
  pub stands : find (is_task o) us ≡ Some task
  pub under : task.under ≡ x.under
  pub place : task.place ≡ At p

opener_is : (g : Scope) (o : TaskId) → g.opener ≡ Some o → opened_by o g ≡ true
opener_is g o e = rw e (eq-eqb o.0 o.0 refl)

head_stays : (ts us : List Task) (g : Scope) (gs : List Scope) (o : Option TaskId) → g.opener ≡ o → ((t : TaskId) (x : Task) (p : PlaceId) → list_any (opened_by t) (g ∷ gs) ≡ true → find (is_task t) ts ≡ Some x → x.place ≡ At p → Stays us t x p) → HasOpener ts g gs o → HasOpener us g gs o
head_stays ts us g gs None e stay h = h
head_stays ts us g gs (Some o) e stay h =
    let w : Stays us o h.task g.home = stay o h.task g.home (ap (λ b. b || list_any (opened_by o) gs) (opener_is g o e)) h.stands h.at_home in
    record {
      task = w.task;
      stands = w.stands;
      at_home = w.place;
      older = subst (λ (v : ScopeId). v.0 < g.number.0) (sym w.under) h.older;
      rooted = h.rooted;
      hangs = subst (λ (v : ScopeId). (s : ScopeId) → meets s gs (Some v) ≡ true → meets s gs g.parent ≡ true) (sym w.under) h.hangs;
      above = subst (λ (v : ScopeId). (s : ScopeId) → meets s gs g.parent ≡ true → list_any (λ k. is_scope s k && opened_by o k) gs ≡ false → meets s gs (Some v) ≡ true) (sym w.under) h.above;
    }

pub opened_stays : (ts us : List Task) (gs : List Scope) → ((t : TaskId) (x : Task) (p : PlaceId) → list_any (opened_by t) gs ≡ true → find (is_task t) ts ≡ Some x → x.place ≡ At p → Stays us t x p) → Opened ts gs → Opened us gs
opened_stays ts us [] stay h = tt
opened_stays ts us (g ∷ gs) stay h =
    (head_stays ts us g gs g.opener refl stay h.0, opened_stays ts us gs (λ t x p a. stay t x p (or_right (opened_by t g) (list_any (opened_by t) gs) a)) h.1)

-- what a look-up finds after a change of the first that passes q
pub find_change : {X : Type 0} (p q : X → Bool) (f : X → X) → ((x : X) → p (f x) ≡ p x) → (xs : List X) (x : X) → find p xs ≡ Some x → (find p (change_first q f xs) ≡ Some x) ⊎ ((find p (change_first q f xs) ≡ Some (f x)) × (find q xs ≡ Some x))
find_change p q f same [] x e = cc
find_change p q f same (y ∷ ys) x e =
    (elim (q y) as (λ a. cond (p y) (Some y) (find p ys) ≡ Some x → (find p (cond a (f y ∷ ys) (y ∷ change_first q f ys)) ≡ Some x) ⊎ ((find p (cond a (f y ∷ ys) (y ∷ change_first q f ys)) ≡ Some (f x)) × (cond a (Some y) (find q ys) ≡ Some x))) [
      | true ↦
          (elim (p y) as (λ b. p y ≡ b → cond b (Some y) (find p ys) ≡ Some x → (find p (f y ∷ ys) ≡ Some x) ⊎ ((find p (f y ∷ ys) ≡ Some (f x)) × (Some y ≡ Some x))) [
            | true ↦ λ w k. let at : p (f y) ≡ true = same y ∙ w in inr (rw at (ap (λ v. Some (f v)) (let g : y ≡ x = cc in g)), k)
            | false ↦ λ w k. let at : p (f y) ≡ false = same y ∙ w in inl (rw at k)
          ]) refl
      | false ↦
          (elim (p y) as (λ b. p y ≡ b → cond b (Some y) (find p ys) ≡ Some x → (find p (y ∷ change_first q f ys) ≡ Some x) ⊎ ((find p (y ∷ change_first q f ys) ≡ Some (f x)) × (find q ys ≡ Some x))) [
            | true ↦ λ w k. inl (rw w k)
            | false ↦ λ w k. (let r : (find p (change_first q f ys) ≡ Some x) ⊎ ((find p (change_first q f ys) ≡ Some (f x)) × (find q ys ≡ Some x)) = find_change p q f same ys x k in rw w r)
          ]) refl
    ]) e

pub fall_change : (q : Task → Bool) (f : Task → Task) → ((x : Task) → (f x).number ≡ x.number) → (n : ℕ) (ts : List Task) → TasksFall n ts → TasksFall n (change_first q f ts)
fall_change q f same n [] h = tt
fall_change q f same n (x ∷ xs) h =
    elim (q x) as (λ b. TasksFall n (cond b (f x ∷ xs) (x ∷ change_first q f xs))) [
      | true ↦ (rw (same x) h.0, rw (same x) h.1)
      | false ↦ (h.0, fall_change q f same x.number.0 xs h.1)
    ]

pub fall_less : (n m : ℕ) (ts : List Task) → n ≤ m → TasksFall n ts → TasksFall m ts
fall_less n m [] le h = tt
fall_less n m (x ∷ xs) le h = (let a : x.number.0 < n = h.0 in omega arith, h.1)

pub fall_filter : (q : Task → Bool) (n : ℕ) (ts : List Task) → TasksFall n ts → TasksFall n (filter q ts)
fall_filter q n [] h = tt
fall_filter q n (x ∷ xs) h =
    elim (q x) as (λ b. TasksFall n (cond b (x ∷ filter q xs) (filter q xs))) [
      | true ↦ (h.0, fall_filter q x.number.0 xs h.1)
      | false ↦ fall_less x.number.0 n (filter q xs) (let a : x.number.0 < n = h.0 in omega arith) (fall_filter q x.number.0 xs h.1)
    ]

pub fall_map : (f : Task → Task) → ((x : Task) → (f x).number ≡ x.number) → (n : ℕ) (ts : List Task) → TasksFall n ts → TasksFall n (map f ts)
fall_map f same n [] h = tt
fall_map f same n (x ∷ xs) h = (rw (same x) h.0, rw (same x) (fall_map f same x.number.0 xs h.1))

-- what a look-up finds in a filtered list
pub find_filter : {X : Type 0} (p q : X → Bool) (xs : List X) (x : X) → find p xs ≡ Some x → q x ≡ true → find p (filter q xs) ≡ Some x
find_filter p q [] x e k = cc
find_filter p q (y ∷ ys) x e k =
    (elim (p y) as (λ b. p y ≡ b → cond b (Some y) (find p ys) ≡ Some x → find p (cond (q y) (y ∷ filter q ys) (filter q ys)) ≡ Some x) [
      | true ↦ λ w h. let same : y ≡ x = cc in let at : q y ≡ true = ap q same ∙ k in rw at (rw w h)
      | false ↦ λ w h. elim (q y) as (λ c. find p (cond c (y ∷ filter q ys) (filter q ys)) ≡ Some x) [
        | true ↦ rw w (find_filter p q ys x h k)
        | false ↦ find_filter p q ys x h k
      ]
    ]) refl e

pub find_map : {X : Type 0} (p : X → Bool) (f : X → X) → ((x : X) → p (f x) ≡ p x) → (xs : List X) (x : X) → find p xs ≡ Some x → find p (map f xs) ≡ Some (f x)
find_map p f same [] x e = cc
find_map p f same (y ∷ ys) x e =
    (elim (p y) as (λ b. p y ≡ b → cond b (Some y) (find p ys) ≡ Some x → find p (map f (y ∷ ys)) ≡ Some (f x)) [
      | true ↦ λ w h. let at : p (f y) ≡ true = same y ∙ w in rw at (ap (λ v. Some (f v)) (let g : y ≡ x = cc in g))
      | false ↦ λ w h. let at : p (f y) ≡ false = same y ∙ w in rw at (find_map p f same ys x h)
    ]) refl e

-- Faults of scopes.

abbrev pub faulted : (Scope → List Fault) → (Scope → List Fault) → Scope → Scope
faulted b e g = record g { body = b g; ends = e g }

-- a walk does not see them
pub wants_faulted : {X : Type 0} (b e : Scope → List Fault) (want : Option ScopeId) (g : Scope) (x y : X) → cond (wants want (faulted b e g)) x y ≡ cond (wants want g) x y
wants_faulted b e None g x y = refl
wants_faulted b e (Some s) g x y = refl

module _ (b e : Scope → List Fault) (q : Scope → Bool) where
  pub meets_faulted : (s : ScopeId) (gs : List Scope) (want : Option ScopeId) → meets s (change_first q (faulted b e) gs) want ≡ meets s gs want
  meets_faulted s [] want = refl
  meets_faulted s (g ∷ gs) want =
      elim (q g) as (λ c. meets s (cond c (faulted b e g ∷ gs) (g ∷ change_first q (faulted b e) gs)) want ≡ meets s (g ∷ gs) want) [
        | true ↦ wants_faulted b e want g (is_scope s g || meets s gs g.parent) (meets s gs want)
        | false ↦ ap (λ v. cond (wants want g) (is_scope s g || v) (meets s (change_first q (faulted b e) gs) want)) (meets_faulted s gs g.parent) ∙ ap (λ v. cond (wants want g) (is_scope s g || meets s gs g.parent) v) (meets_faulted s gs want)
      ]

  pub falls_faulted : (n : ℕ) (gs : List Scope) → Falls n gs → Falls n (change_first q (faulted b e) gs)
  falls_faulted n [] h = tt
  falls_faulted n (g ∷ gs) h =
      elim (q g) as (λ c. Falls n (cond c (faulted b e g ∷ gs) (g ∷ change_first q (faulted b e) gs))) [
        | true ↦ h
        | false ↦ (h.0, falls_faulted g.number.0 gs h.1)
      ]

  pub any_faulted : (p : Scope → Bool) → ((g : Scope) → p (faulted b e g) ≡ p g) → (gs : List Scope) → list_any p (change_first q (faulted b e) gs) ≡ list_any p gs
  any_faulted p same [] = refl
  any_faulted p same (g ∷ gs) =
      elim (q g) as (λ c. list_any p (cond c (faulted b e g ∷ gs) (g ∷ change_first q (faulted b e) gs)) ≡ list_any p (g ∷ gs)) [
        | true ↦ ap (λ v. v || list_any p gs) (same g)
        | false ↦ ap (λ v. p g || v) (any_faulted p same gs)
      ]

  head_faulted : (ts : List Task) (g : Scope) (gs : List Scope) (o : Option TaskId) → HasOpener ts g gs o → HasOpener ts g (change_first q (faulted b e) gs) o
  head_faulted ts g gs None h = (ap (change_first q (faulted b e)) h.0, h.1)
  head_faulted ts g gs (Some o) h =
      record {
        task = h.task;
        stands = h.stands;
        at_home = h.at_home;
        older = h.older;
        rooted = meets_faulted the_root gs g.parent ∙ h.rooted;
        hangs = λ s m. meets_faulted s gs g.parent ∙ h.hangs s (sym (meets_faulted s gs (Some h.task.under)) ∙ m);
        above = λ s m a. meets_faulted s gs (Some h.task.under) ∙ h.above s (sym (meets_faulted s gs g.parent) ∙ m) (sym (any_faulted (λ k. is_scope s k && opened_by o k) (λ k. refl) gs) ∙ a);
      }

  own_faulted : (ts : List Task) (g : Scope) (gs : List Scope) (o : Option TaskId) → HasOpener ts g gs o → HasOpener ts (faulted b e g) gs o
  own_faulted ts g gs None h = h
  own_faulted ts g gs (Some o) h = record { task = h.task; stands = h.stands; at_home = h.at_home; older = h.older; rooted = h.rooted; hangs = h.hangs; above = h.above }

  pub opened_faulted : (ts : List Task) (gs : List Scope) → Opened ts gs → Opened ts (change_first q (faulted b e) gs)
  opened_faulted ts [] h = tt
  opened_faulted ts (g ∷ gs) h =
      elim (q g) as (λ c. Opened ts (cond c (faulted b e g ∷ gs) (g ∷ change_first q (faulted b e) gs))) [
        | true ↦ (own_faulted ts g gs g.opener h.0, h.1)
        | false ↦ (head_faulted ts g gs g.opener h.0, opened_faulted ts gs h.1)
      ]
