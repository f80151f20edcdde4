-- The totals after each change of the tree.
use Rattle.std.proofs.Common.{◌≡◌, ℕ, suc, ◌<◌, ◌≤◌, ◌+◌, ◌^◌, Bool, true, false, cond, ◌&&◌, not, List, [], ◌∷◌, Option, Some, None, is_none, is_some, filter, length, count_by, refl, sym, ap, ◌∙◌, arith}
use Rattle.std.proofs.lemmas.Bool.{true≢false}
use Rattle.std.proofs.lemmas.List.Sums.{count_by-le-length}
use Rattle.rx_rules.proofs.Common.{ScopeId, Tree, is_under, on_chain, change_first, without}
use Rattle.rx_rules.specs.declared.tasks.Where.{Where}
use Rattle.rx_rules.specs.declared.tasks.Where.TheVariants.{At, Travel}
use Rattle.rx_rules.specs.declared.tasks.Blow.{Blow}
use Rattle.rx_rules.specs.declared.tasks.Task.{Task}
use Rattle.rx_rules.specs.declared.tasks.Scope.{Scope}
use Rattle.rx_tree_laws.specs.Chains.{meets, Falls}
use Rattle.rx_tree_laws.proofs.Reached.{sound}
use Rattle.rx_tree_laws.specs.Sound.{Sound}
use Rattle.rx_tree_laws.proofs.Releasing.{each_all, on_meets}
use Rattle.rx_finish.specs.declared.totals.Totals.{Totals}
use Rattle.rx_finish.specs.Callers.{does_travel}
use Rattle.rx_finish.specs.Totals.{is_live, is_travelling, totals_of}
use Rattle.rx_counts.specs.declared.ledger.CountLedger.{CountLedger}
use Rattle.rx_counts.specs.Stands.{StandsFor}
use Rattle.rx_counts.specs.Inside.Totalling.{more_scopes, fewer_scopes, more_tasks, lands, ends}
use Rattle.rx_counts.proofs.Counting.{one, count_cons, count_same, count_filter, sum_change}
use Rattle.rx_counts.proofs.Asking.{tasks_length}

-- the totals of so many scopes and of these tasks
pub record AreOf (t : Totals) (n : ℕ) (ts : List Task) : Type 0 where
  pub scopes : t.scopes ≡ n
  pub live : t.live ≡ count_by is_live ts
  pub travel : t.travel ≡ count_by is_travelling ts

pub are : (t : Totals) (T : Tree) → t ≡ totals_of T → AreOf t (length T.scopes) T.tasks
are t T e = record { scopes = ap (λ (v : Totals). v.scopes) e; live = ap (λ (v : Totals). v.live) e; travel = ap (λ (v : Totals). v.travel) e }

pub totals_are : (t : Totals) (T : Tree) → AreOf t (length T.scopes) T.tasks → t ≡ totals_of T
totals_are t T h = rw (sym h.scopes, sym h.live, sym h.travel) refl

-- no total is above the number of all that have been numbered
pub few_tasks : (T : Tree) (p : Task → Bool) → Sound T → count_by p T.tasks ≤ T.next_task
few_tasks T p h = let a = count_by-le-length p T.tasks in let b = tasks_length T.next_task T.tasks h.tasks_fall in omega arith

pub scopes_length : (T : Tree) → Sound T → length T.scopes ≤ T.next_scope
scopes_length T h = go T.next_scope T.scopes h.falls
  where
    go : (n : ℕ) (gs : List Scope) → Falls n gs → length gs ≤ n
    go n [] f = omega arith
    go n (g ∷ gs) f = let a : g.number.0 < n = f.0 in let b : length gs ≤ g.number.0 = go g.number.0 gs f.1 in omega arith

pub few_scopes : {room : ℕ} (l : CountLedger) (T : Tree) → StandsFor l room T → T.next_scope < 2 ^ 31 → l.totals.scopes + 1 < 2 ^ 32
few_scopes l T st low =
    let a = scopes_length T (sound st.reached) in
    let b = (are l.totals T st.fit.totals).scopes in
    omega arith

pub few_live : {room : ℕ} (l : CountLedger) (T : Tree) → StandsFor l room T → T.next_task < 2 ^ 31 → (l.totals.live + 1 < 2 ^ 32) × (l.totals.travel + 1 < 2 ^ 32)
few_live l T st low =
    let a = few_tasks T is_live (sound st.reached) in
    let b = few_tasks T is_travelling (sound st.reached) in
    let c = are l.totals T st.fit.totals in
    let d = c.live in
    let e = c.travel in
    (omega arith, omega arith)

-- tasks that count as others do
pub same_tasks : (t : Totals) (n : ℕ) (ts us : List Task) → ((p : Task → Bool) → count_by p ts ≡ count_by p us) → AreOf t n ts → AreOf t n us
same_tasks t n ts us same h = record { scopes = h.scopes; live = h.live ∙ same is_live; travel = h.travel ∙ same is_travelling }

-- a task that waits, or goes on, counts as before
pub waits_same : (t : Totals) (n : ℕ) (q : Task → Bool) (b : Bool) (ts : List Task) → AreOf t n ts → AreOf t n (change_first q (λ x. record x { waits = b }) ts)
waits_same t n q b ts h =
    record {
      scopes = h.scopes;
      live = h.live ∙ sym (sum_change (λ x. one (is_live x)) q (λ x. record x { waits = b }) ts (λ x. refl));
      travel = h.travel ∙ sym (sum_change (λ x. one (is_travelling x)) q (λ x. record x { waits = b }) ts (λ x. refl));
    }

-- as many scopes
pub length_change : {X : Type 0} (q : X → Bool) (f : X → X) (xs : List X) → length (change_first q f xs) ≡ length xs
length_change q f [] = refl
length_change q f (x ∷ xs) =
    elim (q x) as (λ b. length (cond b (f x ∷ xs) (x ∷ change_first q f xs)) ≡ suc (length xs)) [
      | true ↦ refl
      | false ↦ ap suc (length_change q f xs)
    ]

pub one_scope : (t : Totals) (n : ℕ) (ts : List Task) → AreOf t n ts → AreOf (more_scopes t) (suc n) ts
one_scope t n ts h = record { scopes = (let a = h.scopes in omega arith); live = h.live; travel = h.travel }

-- a task that is born
live_none : (o : Option Blow) (w : Where) → is_some o ≡ true → one (is_none o && not (does_travel w)) ≡ 0
live_none (Some b) w e = refl
live_none None w e = absurd (true≢false (sym e))

travel_none : (o : Option Blow) (w : Where) → is_some o ≡ true → one (is_none o && does_travel w) ≡ 0
travel_none (Some b) w e = refl
travel_none None w e = absurd (true≢false (sym e))

live_some : (o : Option Blow) (w : Where) → is_some o ≡ false → one (is_none o && not (does_travel w)) ≡ one (not (does_travel w))
live_some (Some b) w e = absurd (true≢false e)
live_some None w e = refl

travel_some : (o : Option Blow) (w : Where) → is_some o ≡ false → one (is_none o && does_travel w) ≡ one (does_travel w)
travel_some (Some b) w e = absurd (true≢false e)
travel_some None w e = refl

pub one_born : (t : Totals) (n : ℕ) (ts : List Task) (y : Task) (w : Where) (b : Bool) → y.place ≡ w → is_some y.struck ≡ b → AreOf t n ts → AreOf (more_tasks b w t) n (y ∷ ts)
one_born t n ts y w true at e h =
    let a = count_cons is_live y ts in
    let b = count_cons is_travelling y ts in
    let c = live_none y.struck y.place e in
    let d = travel_none y.struck y.place e in
    record { scopes = h.scopes; live = (let k = h.live in omega arith); travel = (let k = h.travel in omega arith) }
one_born t n ts y (At p) false at e h =
    let a = count_cons is_live y ts in
    let b = count_cons is_travelling y ts in
    let c = live_some y.struck y.place e ∙ ap (λ v. one (not (does_travel v))) at in
    let d = travel_some y.struck y.place e ∙ ap (λ v. one (does_travel v)) at in
    record { scopes = h.scopes; live = (let k = h.live in omega arith); travel = (let k = h.travel in omega arith) }
one_born t n ts y (Travel from to) false at e h =
    let a = count_cons is_live y ts in
    let b = count_cons is_travelling y ts in
    let c = live_some y.struck y.place e ∙ ap (λ v. one (not (does_travel v))) at in
    let d = travel_some y.struck y.place e ∙ ap (λ v. one (does_travel v)) at in
    record { scopes = h.scopes; live = (let k = h.live in omega arith); travel = (let k = h.travel in omega arith) }

-- a task that arrives
pub one_lands : (t : Totals) (n : ℕ) (ts : List Task) (x y : Task) → x.struck ≡ None → y.struck ≡ None → does_travel x.place ≡ true → does_travel y.place ≡ false → AreOf t n (x ∷ ts) → (1 ≤ t.travel) × AreOf (lands t) n (y ∷ ts)
one_lands t n ts x y sx sy tx ty h =
    let a = count_cons is_live x ts in
    let b = count_cons is_travelling x ts in
    let c = count_cons is_live y ts in
    let d = count_cons is_travelling y ts in
    let e = live_some x.struck x.place (ap is_some sx) ∙ ap (λ v. one (not v)) tx in
    let f = travel_some x.struck x.place (ap is_some sx) ∙ ap one tx in
    let g = live_some y.struck y.place (ap is_some sy) ∙ ap (λ v. one (not v)) ty in
    let i = travel_some y.struck y.place (ap is_some sy) ∙ ap one ty in
    let k = h.live in
    let l = h.travel in
    (omega arith, record { scopes = h.scopes; live = omega arith; travel = omega arith })

-- a task that ends
pub one_ends : (t : Totals) (n : ℕ) (ts : List Task) (x : Task) → x.struck ≡ None → does_travel x.place ≡ false → AreOf t n (x ∷ ts) → (1 ≤ t.live) × AreOf (ends t) n ts
one_ends t n ts x sx tx h =
    let a = count_cons is_live x ts in
    let b = count_cons is_travelling x ts in
    let e = live_some x.struck x.place (ap is_some sx) ∙ ap (λ v. one (not v)) tx in
    let f = travel_some x.struck x.place (ap is_some sx) ∙ ap one tx in
    let k = h.live in
    let l = h.travel in
    (omega arith, record { scopes = h.scopes; live = omega arith; travel = omega arith })

-- Struck tasks that go leave the totals.

stays_live : (o : Option Blow) (u v : Bool) → not (u && is_some o) ≡ false → is_none o && v ≡ false
stays_live (Some b) u v e = refl
stays_live None true v e = absurd (true≢false e)
stays_live None false v e = absurd (true≢false e)

-- scopes that go
length_filter : {X : Type 0} (q : X → Bool) (xs : List X) → length (filter (λ x. not (q x)) xs) + count_by q xs ≡ length xs
length_filter q [] = refl
length_filter q (x ∷ xs) =
    let a = count_cons q x xs in
    let b = length_filter q xs in
    (elim (q x) as (λ v. q x ≡ v → length (cond (not v) (x ∷ filter (λ x. not (q x)) xs) (filter (λ x. not (q x)) xs)) + count_by q (x ∷ xs) ≡ suc (length xs)) [
      | true ↦ λ e. let c = ap one e in omega arith
      | false ↦ λ e. let c = ap one e in omega arith
    ]) refl

-- a scope is released
pub one_freed : (t : Totals) (T : Tree) (s : ScopeId) (n : ℕ) → count_by (λ g. meets s T.scopes (Some g.number)) T.scopes ≡ n + 1 → AreOf t (length T.scopes) T.tasks → (n + 1 ≤ t.scopes) × AreOf (fewer_scopes (n + 1) t) (length (without T s).scopes) (without T s).tasks
one_freed t T s n many h =
    let gone : count_by (λ g. on_chain T s g.number) T.scopes ≡ n + 1 = count_same (λ g. on_chain T s g.number) (λ g. meets s T.scopes (Some g.number)) T.scopes (each_all _ (λ (g : Scope). on_meets s T.scopes (Some g.number)) T.scopes) ∙ many in
    let a = length_filter (λ (g : Scope). on_chain T s g.number) T.scopes in
    let b = h.scopes in (
      omega arith,
      record {
        scopes = omega arith;
        live = h.live ∙ sym (count_filter is_live (λ x. not (is_under T s x && is_some x.struck)) T.tasks (each_all _ (λ (x : Task). stays_live x.struck (is_under T s x) (not (does_travel x.place))) T.tasks));
        travel = h.travel ∙ sym (count_filter is_travelling (λ x. not (is_under T s x && is_some x.struck)) T.tasks (each_all _ (λ (x : Task). stays_live x.struck (is_under T s x) (does_travel x.place)) T.tasks));
      },
    )
