-- Who may ask for what after an act of its own, after an entry of another, and when it is started.
use Rattle.std.proofs.Common.{◌≡◌, ℕ, ◌<◌, ◌==◌, Bool, true, false, cond, drop, List, [], ◌∷◌, ◌++◌, map, reverse, Some, None, slice_index_or, refl, ap, ◌∙◌, sym, subst, arith, inl, inr}
use Rattle.std.proofs.lemmas.Bool.{eq-eqb, ne_eqb}
use Rattle.std.proofs.lemmas.List.{reverse-append, reverse-reverse}
use Rattle.rx_rules.proofs.Common.{PlaceId, ScopeId, TaskId, PlaceSet, Fault, Term, Does, Opens, Calls, Spawns, Waits, Releases, Prints, Counts, Tree, task_of, inner, own_scope, the_root, Allowed, AllowedAct, Unstruck, made, made_act, born, tree_of, Reached, Given, Folds}
use Rattle.rx_rules.specs.declared.tasks.Kind.{Kind}
use Rattle.rx_rules.specs.declared.tasks.Kind.TheVariants.{Finish, Call}
use Rattle.rx_rules.specs.declared.tasks.Scope.{Scope}
use Rattle.rx_rules.specs.declared.tasks.Task.{Task}
use Rattle.rx_rules.specs.declared.tasks.Where.TheVariants.{At, Travel}
use Rattle.rx_rules.specs.declared.entries.Act.{Act}
use Rattle.rx_rules.specs.declared.entries.Act.TheVariants.{Open, At as Called, Spawn, Arrive, Wait, Release, Print, Census}
use Rattle.rx_rules.specs.declared.entries.Entry.{Entry}
use Rattle.rx_rules.specs.declared.entries.Entry.TheVariants.{Step, Root, Death, Join}
use Rattle.rx_rules.specs.Plays.{Fits}
use Rattle.rx_tree_laws.specs.Sound.{Sound}
use Rattle.rx_tree_laws.proofs.Reached.{sound}
use Rattle.rx_tree_laws.proofs.Reach.{task_below}
use Rattle.rx_tree_laws.proofs.Histories.{fold_reached}
use Rattle.rx_finish.specs.declared.ledger.Caller.{Caller}
use Rattle.rx_finish.specs.Callers.{MayAsk, MayAskMoving, MayAskArrive, MayAskRelease, HasNumbers, HasFinish, IsMoving, Travels, WaitsInside, does_travel}
use Rattle.rx_finish.specs.Calls.{landing}
use Rattle.rx_finish.proofs.Allowed.{Free, own_is}
use Rattle.rx_tree_laws.specs.Held.{is_held, HeldInFront}
use Rattle.rx_tree_laws.specs.Spine.{Spine}
use Rattle.rx_tree_laws.proofs.Granting.{AfterGrant}
use Rattle.rx_tree_laws.proofs.SpineGrants.{GrantsSpine}
use Rattle.rx_chronicle.specs.Told.{parents_told, parent_told}
use Rattle.rx_ledger.specs.Answering.{fresh_caller}
use Rattle.rx_ledger.specs.Owned.{Owned, own_after, own_told}
use Rattle.rx_ledger.specs.Staying.{NotBy}
use Rattle.rx_ledger.specs.TermAsks.{kinds_told, Serves, MayAskNext, who_after}
use Rattle.rx_ledger.proofs.Begins.{unborn}
use Rattle.rx_ledger.proofs.Called.{own_append}
use Rattle.rx_ledger.proofs.GoesOn.{so_says, landed_on, released_on, opened_on, called_on, started_on, waits_on}
use Rattle.rx_chronicle.proofs.Linking.{link, links, top, inner_top}
use Rattle.rx_ledger.proofs.StaysGood.{caller_stays, moving_stays, travels_stays, waits_stays}
use Rattle.rx_ledger.proofs.TermAsks.{kinds_of, newest}

-- The scopes that the entries tell of a task.

-- its own entry
pub own_mine : (es : List Entry) (t : TaskId) (act : Act) (batch : List (List ℕ)) → own_told (es ++ Step t act batch ∷ []) t ≡ own_after act (own_told es t)
own_mine es t act batch =
    own_append t [] es (Step t act batch ∷ []) ∙ ap (λ (b : Bool). cond b (own_after act (own_told es t)) (own_told es t)) (eq-eqb t.0 t.0 refl)

-- that of another
pub own_others : (es : List Entry) (e : Entry) (t : TaskId) → NotBy t e → own_told (es ++ e ∷ []) t ≡ own_told es t
own_others es (Step u act batch) t other =
    own_append t [] es (Step u act batch ∷ []) ∙ ap (λ (b : Bool). cond b (own_after act (own_told es t)) (own_told es t)) (ne_eqb u.0 t.0 (λ e. other (sym e)))
own_others es (Root lost masked thrown) t other = own_append t [] es (Root lost masked thrown ∷ [])
own_others es (Death d) t other = own_append t [] es (Death d ∷ [])
own_others es (Join p) t other = own_append t [] es (Join p ∷ [])

-- A caller that acts.

-- it stands as it says
pub stands_free : (T : Tree) (who : Caller) (P Q : Task → Type 0) → MayAsk T who P → Unstruck T who.task Q → Free T who P
stands_free T who P Q may act =
    elim may.caller [
      | inl s ↦ (let same : Some act.task ≡ Some s.task = sym act.stands ∙ s.stands in let it : act.task ≡ s.task = cc in record { at = s; unstruck = subst (λ (x : Task). x.struck ≡ None) it act.unstruck })
      | inr s ↦ absurd (let none : Some act.task ≡ None = sym act.stands ∙ s.none in let v : ⊥ = cc in v)
    ]

-- the scope of its own that it names is its inner one
own_named : (T : Tree) (who : Caller) (P Q : Task → Type 0) (g : Scope) → MayAsk T who P → Unstruck T who.task Q → own_scope T who.task ≡ Some g → g.number ≡ who.inner
own_named T who P Q g may act own = own_is T who P (stands_free T who P Q may act) g own

pub released_inner : (T : Tree) (who : Caller) (P : Task → Type 0) (s : ScopeId) (lost : PlaceSet) (masked : ℕ) (thrown : List Fault) → MayAsk T who P → AllowedAct T who.task (Release s lost masked thrown) → who.inner ≡ s
released_inner T who P s lost masked thrown may act = sym (own_named T who P _ act.asks.1 may act act.asks.2.0) ∙ act.asks.2.1

-- its inner scope is that of its task
inside : (T : Tree) (who : Caller) (P Q : Task → Type 0) (may : MayAsk T who P) (act : Unstruck T who.task Q) → who.inner ≡ inner T act.task
inside T who P Q may act = sym (so_says T who P act.task may act.stands).inner_is

-- After an entry of another task.

pub others_stay : (n : ℕ) (T : Tree) (e : Entry) (who : Caller) → Reached T → Allowed T e → NotBy who.task e → HasNumbers (made n T e) → (b : Bool) → Serves T who b → Serves (made n T e) who b
others_stay n T e who r may other few false h =
    record { caller = caller_stays n T e who r may other IsMoving IsMoving (moving_stays n T e who r may other) h.caller; numbers = few }
others_stay n T e who r may other few true h =
    record { caller = caller_stays n T e who r may other (WaitsInside T who) (WaitsInside (made n T e) who) (waits_stays n T e who r may other) h.caller; numbers = few }

pub others_travel : (n : ℕ) (T : Tree) (e : Entry) (who : Caller) → Reached T → Allowed T e → NotBy who.task e → HasNumbers (made n T e) → MayAskArrive T who → MayAskArrive (made n T e) who
others_travel n T e who r may other few h =
    record { caller = caller_stays n T e who r may other Travels Travels (travels_stays n T e who r may other) h.caller; numbers = few }

-- After an act of its own.

module _ (U : Given) (es : List Entry) (who : Caller) (folds : Folds U es) where
  abbrev T : Tree
  T = tree_of U.places es

  reached : Reached T
  reached = fold_reached U.places es folds.some folds.few folds.allowed

  -- it arrives where it was to
  pub landed : (p : PlaceId) → MayAskArrive T who → AllowedAct T who.task (Arrive p) → HasNumbers (made_act T who.task (Arrive p)) → MayAskMoving (made_act T who.task (Arrive p)) (record who { place = At p })
  landed p may act few =
      let says = (so_says T who Travels act.task may act.stands).says in
      let is : landing who.place ≡ p = sym (ap landing says.place) ∙ ap landing act.asks.1 in
      subst (λ (q : PlaceId). MayAskMoving (made_act T who.task (Arrive q)) (record who { place = At q })) is
      (landed_on T who reached may (subst (λ (q : PlaceId). AllowedAct T who.task (Arrive q)) (sym is) act) (subst (λ (q : PlaceId). HasNumbers (made_act T who.task (Arrive q))) (sym is) few))

  released : (s : ScopeId) (lost : PlaceSet) (masked : ℕ) (thrown : List Fault) → MayAskRelease T who → AllowedAct T who.task (Release s lost masked thrown) → HasNumbers (made_act T who.task (Release s lost masked thrown)) → MayAskMoving (made_act T who.task (Release s lost masked thrown)) (record who { inner = parent_told es s })
  released s lost masked thrown may act few =
      let is : who.inner ≡ s = released_inner T who (WaitsInside T who) s lost masked thrown may act in
      subst (λ (q : ScopeId). MayAskMoving (made_act T who.task (Release q lost masked thrown)) (record who { inner = parent_told es q })) is
      (released_on U es who lost masked thrown folds may (subst (λ (q : ScopeId). AllowedAct T who.task (Release q lost masked thrown)) (sym is) act) (subst (λ (q : ScopeId). HasNumbers (made_act T who.task (Release q lost masked thrown))) (sym is) few))

  -- how the task stands then, whose term is this, where numbers suffice
  pub record Goes (few : Type 0) (parents : List ScopeId) (act : Act) (batch : List (List ℕ)) (after : Term) : Type 0 where
    pub held : HeldInFront after
    pub spine : Spine after (kinds_told (es ++ Step who.task act batch ∷ []) who.task)
    pub serves : few → Serves (made_act T who.task act) (who_after parents act who) (is_held after)

  module _ (few : Type 0) (parents : List ScopeId) (batch : List (List ℕ)) (after : Term) where
    goes_so : (act : Act) (b : Bool) (ks : List Kind) → HeldInFront after × (is_held after ≡ b) → reverse (kinds_of (own_after act (own_told es who.task))) ≡ ks → Spine after ks → (few → Serves (made_act T who.task act) (who_after parents act who) b) → Goes few parents act batch after
    goes_so act b ks held same spine serves =
        record {
          held = held.0;
          spine = subst (λ (l : List Kind). Spine after l) (sym (ap (λ (o : Owned). reverse (kinds_of o)) (own_mine es who.task act batch) ∙ same)) spine;
          serves = λ k. subst (λ (c : Bool). Serves (made_act T who.task act) (who_after parents act who) c) (sym held.1) (serves k);
        }

    pub goes_on : (here : PlaceId) (t : Term) (d : Does) (act : Act) → parents ≡ parents_told es → Fits here t d act → (few → MayAskNext T who d) → (few → HasNumbers (made_act T who.task act)) → AfterGrant d after → GrantsSpine (kinds_told es who.task) d after → AllowedAct T who.task act → Goes few parents act batch after
    goes_on here t Opens (Open s r path) told fits may numbers grant spine act =
        goes_so (Open s r path) false (kinds_told es who.task ++ Finish ∷ []) grant (reverse-append (Finish ∷ []) (kinds_of (own_told es who.task))) spine
        (λ k. let is : who.inner ≡ r = inside T who IsMoving _ (may k) act ∙ sym act.asks.2 in
        subst (λ (v : ScopeId). MayAskMoving (made_act T who.task (Open s v path)) (record who { inner = s })) is
        (opened_on T (sound reached) who s path (may k) (subst (λ (v : ScopeId). AllowedAct T who.task (Open s v path)) (sym is) act) (subst (λ (v : ScopeId). HasNumbers (made_act T who.task (Open s v path))) (sym is) (numbers k))))
    goes_on here t (Calls place) (Called from to s r c path) told fits may numbers grant spine act =
        goes_so (Called from to s r c path) true (kinds_told es who.task ++ Call ∷ []) grant (reverse-append (Call ∷ []) (kinds_of (own_told es who.task))) spine
        (λ k. let is : who.inner ≡ r = inside T who IsMoving _ (may k).asks act ∙ sym act.asks.2 in
        subst (λ (v : ScopeId). MayAskRelease (made_act T who.task (Called from to s v c path)) (record who { inner = s })) is
        (called_on T (sound reached) who s c from to path (may k).asks (subst (λ (v : ScopeId). AllowedAct T who.task (Called from to s v c path)) (sym is) act) (subst (λ (v : ScopeId). HasNumbers (made_act T who.task (Called from to s v c path))) (sym is) (numbers k))))
    goes_on here t (Spawns place) (Spawn c s from to path) told fits may numbers grant spine act =
        goes_so (Spawn c s from to path) false (kinds_told es who.task) grant refl spine (λ k. started_on T (sound reached) who c s from to path (may k).asks act (numbers k))
    goes_on here t (Waits faults) (Wait s thrown) told fits may numbers grant spine act =
        goes_so (Wait s thrown) true (kinds_told es who.task) grant refl spine.0
        (λ k. let is : who.inner ≡ s = sym (own_named T who (HasFinish T who) _ act.asks.1 (may k) act act.asks.2.0) ∙ act.asks.2.1 in
        subst (λ (v : ScopeId). MayAskRelease (made_act T who.task (Wait v thrown)) who) is
        (waits_on T (sound reached) who thrown (may k) (subst (λ (v : ScopeId). AllowedAct T who.task (Wait v thrown)) (sym is) act) (subst (λ (v : ScopeId). HasNumbers (made_act T who.task (Wait v thrown))) (sym is) (numbers k))))
    goes_on here t Releases (Release s lost masked thrown) told fits may numbers grant spine act =
        let new = newest (own_told es who.task) spine.0 spine.1 spine.2 in
        let left : reverse (kinds_of (drop 1 (own_told es who.task))) ≡ spine.0 =
        ap (λ (o : Owned). reverse (kinds_of (drop 1 o))) new.2 ∙ (ap (λ (ks : List Kind). reverse ks) new.3 ∙ reverse-reverse spine.0) in
        goes_so (Release s lost masked thrown) false spine.0 grant left spine.3
        (λ k. subst (λ (xs : List ScopeId). MayAskMoving (made_act T who.task (Release s lost masked thrown)) (record who { inner = slice_index_or xs s.0 the_root })) (sym told)
        (released s lost masked thrown (may k) act (numbers k)))
    goes_on here t (Prints value) (Print z path) told fits may numbers grant spine act = goes_so (Print z path) false (kinds_told es who.task) grant refl spine may
    goes_on here t (Counts name) (Census n path) told fits may numbers grant spine act = goes_so (Census n path) false (kinds_told es who.task) grant refl spine may
    goes_on here t d act told fits may numbers grant spine allowed = absurd fits

-- A task that is started.

-- at its place it may go on, and on its way it may arrive
abbrev pub MayCome : Tree → TaskId → ScopeId → PlaceId → PlaceId → Bool → Type 0
MayCome V c s from to true = MayAskMoving V (fresh_caller c s (At to))
MayCome V c s from to false = MayAskArrive V (fresh_caller c s (Travel from to))

-- it stands as it was started, struck or not
comes : (T V : Tree) (c : TaskId) (s : ScopeId) (from to : PlaceId) → task_of V c ≡ Some (born T c s from to) → links V c ≡ [] → HasNumbers V → MayCome V c s from to (from.0 == to.0)
comes T V c s from to stands none few =
    let x : Task = born T c s from to in
    let inside_it : inner V x ≡ s = inner_top V x ∙ ap (λ ls. top ls s) none in
    (elim (from.0 == to.0) as (λ b. from.0 == to.0 ≡ b → MayCome V c s from to b) [
      | true ↦ λ e.
          let place : x.place ≡ At to = ap (λ (b : Bool). cond b (At to) (Travel from to)) e in
          record { caller = inl (record { task = x; stands = stands; says = record { under = refl; place = place }; inner_is = inside_it; allowed = record { place = to; is_at = place; moves = refl } }); numbers = few }
      | false ↦ λ e.
          let place : x.place ≡ Travel from to = ap (λ (b : Bool). cond b (At to) (Travel from to)) e in
          record { caller = inl (record { task = x; stands = stands; says = record { under = refl; place = place }; inner_is = inside_it; allowed = record { travels = ap does_travel place } }); numbers = few }
    ]) refl

module _ (T : Tree) (so : Sound T) (t c : TaskId) (s : ScopeId) (from to : PlaceId) (path : List ℕ) where
  -- the callee of an at
  pub callee_comes : (r : ScopeId) → AllowedAct T t (Called from to s r c path) → HasNumbers (made_act T t (Called from to s r c path)) → MayCome (made_act T t (Called from to s r c path)) c s from to (from.0 == to.0)
  callee_comes r act few =
      let next : c.0 ≡ T.next_task = act.asks.3 in
      let low : t.0 < T.next_task = task_below T.next_task T.tasks t act.task so.tasks_fall act.stands in
      let mine : (c.0 == c.0) ≡ true = eq-eqb c.0 c.0 refl in
      let other : (c.0 == t.0) ≡ false = ne_eqb c.0 t.0 (λ e. absurd (omega (arith, low, next, e))) in
      let apart : (t.0 == c.0) ≡ false = ne_eqb t.0 c.0 (λ e. absurd (omega (arith, low, next, e))) in
      let none : links (made_act T t (Called from to s r c path)) c ≡ [] = rw apart (ap (map link) (unborn T so c next)) in
      let stands : task_of (made_act T t (Called from to s r c path)) c ≡ Some (born T c s from to) = rw other (rw mine refl) in
      comes T (made_act T t (Called from to s r c path)) c s from to stands none few

  -- the child of a spawn
  pub child_comes : AllowedAct T t (Spawn c s from to path) → HasNumbers (made_act T t (Spawn c s from to path)) → MayCome (made_act T t (Spawn c s from to path)) c s from to (from.0 == to.0)
  child_comes act few =
      let next : c.0 ≡ T.next_task = act.asks.1 in
      let mine : (c.0 == c.0) ≡ true = eq-eqb c.0 c.0 refl in
      let none : links (made_act T t (Spawn c s from to path)) c ≡ [] = ap (map link) (unborn T so c next) in
      let stands : task_of (made_act T t (Spawn c s from to path)) c ≡ Some (born T c s from to) = rw mine refl in
      comes T (made_act T t (Spawn c s from to path)) c s from to stands none few
