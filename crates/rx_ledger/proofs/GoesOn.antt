-- The ticket of a reply serves the next request.
use Rattle.std.proofs.Common.{◌≡◌, ℕ, ◌<◌, ◌==◌, Bool, true, false, cond, not, ◌&&◌, is_some, List, [], ◌∷◌, Option, Some, None, refl, ap, ◌∙◌, sym, subst, arith, inl, inr}
use Rattle.std.specs.List.{find}
use Rattle.std.proofs.lemmas.Bool.{eq-eqb, ne_eqb}
use Rattle.rx_rules.proofs.Common.{Reached, PlaceId, TaskId, ScopeId, Tree, task_of, is_task, is_scope, inner, own_scope, opened_by, is_under, AllowedAct, made_act, born, home_for, change_first, waiting, resumed, without, place_number, tree_of, Given, Folds, Fault, PlaceSet}
use Rattle.rx_rules.specs.declared.tasks.Where.TheVariants.{At, Travel}
use Rattle.rx_rules.specs.declared.entries.Act.{Act}
use Rattle.rx_rules.specs.declared.entries.Act.TheVariants.{Open, At as Calls, Spawn, Arrive, Wait, Release, Print, Census}
use Rattle.rx_rules.specs.declared.entries.Entry.{Entry}
use Rattle.rx_rules.specs.declared.entries.Entry.TheVariants.{Step}
use Rattle.rx_rules.specs.declared.tasks.Kind.TheVariants.{Call}
use Rattle.rx_rules.specs.declared.tasks.Task.{Task}
use Rattle.rx_rules.specs.declared.tasks.Scope.{Scope}
use Rattle.rx_rules.specs.declared.tasks.Blow.{Blow}
use Rattle.rx_tree_laws.proofs.Waiting.{waiter_owns}
use Rattle.rx_finish.specs.Calls.{landing}
use Rattle.rx_tree_laws.specs.Sound.{Sound}
use Rattle.rx_tree_laws.proofs.Reached.{sound}
use Rattle.rx_tree_laws.proofs.Opening.{own_place}
use Rattle.rx_tree_laws.proofs.Stay.{find_filter}
use Rattle.rx_tree_laws.proofs.Reach.{task_below}
use Rattle.rx_tree_laws.proofs.Histories.{fold_reached}
use Rattle.rx_finish.specs.declared.ledger.Caller.{Caller}
use Rattle.rx_finish.specs.Callers.{Says, MayAsk, MayAskMoving, MayAskWait, MayAskRelease, MayAskArrive, HasFinish, WaitsInside, IsMoving, Travels, HasNumbers}
use Rattle.rx_base.proofs.SameIds.{task-is}
use Rattle.rx_rules.specs.declared.tasks.Blow.{Blow}
use Rattle.rx_rules.proofs.Lookups.{number-of}
use Rattle.rx_rules.proofs.Append.{tree-push}
use Rattle.rx_chronicle.specs.Told.{parent_told}
use Rattle.rx_chronicle.proofs.Uncovers.{uncovers}
use Rattle.rx_ledger.specs.declared.asks.Request.{Request}
use Rattle.rx_ledger.specs.declared.asks.Reply.TheVariants.{Opened, Called, Spawned, Landed, Waits, Released, Ended, Printed, Census as Counted, RootDone, NotYet, Lost, NoMemory}
use Rattle.rx_ledger.specs.Asking.{MayApply}
use Rattle.rx_ledger.specs.Answering.{Appends}
use Rattle.rx_ledger.specs.GoingOn.{TicketsGoOn}

-- a caller that acts stands as it says
pub record So (T : Tree) (who : Caller) (x : Task) : Type 0 where
  pub says : Says who x
  pub inner_is : inner T x ≡ who.inner

pub so_says : (T : Tree) (who : Caller) (P : Task → Type 0) (x : Task) → MayAsk T who P → task_of T who.task ≡ Some x → So T who x
so_says T who P x h found =
    elim h.caller [
      | inl s ↦ (let same : Some s.task ≡ Some x = sym s.stands ∙ found in let it : s.task ≡ x = cc in subst (λ (y : Task). So T who y) it (record { says = s.says; inner_is = s.inner_is }))
      | inr s ↦ absurd (let none : None ≡ Some x = sym s.none ∙ found in let v : ⊥ = cc in v)
    ]

-- who was changed is found changed
pub found_changed : (f : Task → Task) (t : TaskId) (xs : List Task) (x : Task) → ((y : Task) → (f y).number ≡ y.number) → find (is_task t) xs ≡ Some x → find (is_task t) (change_first (is_task t) f xs) ≡ Some (f x)
found_changed f t [] x keeps e = absurd (let v : ⊥ = cc in v)
found_changed f t (y ∷ ys) x keeps e =
    (elim (is_task t y) as (λ b. is_task t y ≡ b → cond b (Some y) (find (is_task t) ys) ≡ Some x → find (is_task t) (cond b (f y ∷ ys) (y ∷ change_first (is_task t) f ys)) ≡ Some (f x)) [
      | true ↦ λ w k.
          let same : y ≡ x = cc in
          let it : is_task t (f y) ≡ true = ap (λ (n : TaskId). n.0 == t.0) (keeps y) ∙ w in
          ap (λ (b : Bool). cond b (Some (f y)) (find (is_task t) ys)) it ∙ ap (λ (z : Task). Some (f z)) same
      | false ↦ λ w k. ap (λ (b : Bool). cond b (Some y) (find (is_task t) (change_first (is_task t) f ys))) w ∙ found_changed f t ys x keeps k
    ]) refl e

record Faulted (p : Scope → Bool) (gs : List Scope) (g : Scope) : Type 0 where
  scope : Scope
  found : find p gs ≡ Some scope
  number : scope.number ≡ g.number

-- a scope is found with other faults
found_faulted : (p q : Scope → Bool) (f : Scope → Scope) (gs : List Scope) (g : Scope) → ((k : Scope) → p (f k) ≡ p k) → ((k : Scope) → (f k).number ≡ k.number) → find p gs ≡ Some g → Faulted p (change_first q f gs) g
found_faulted p q f [] g same keeps e = absurd (let v : ⊥ = cc in v)
found_faulted p q f (k ∷ ks) g same keeps e =
    (elim (p k) as (λ b. p k ≡ b → cond b (Some k) (find p ks) ≡ Some g → Faulted p (change_first q f (k ∷ ks)) g) [
      | true ↦ λ w j.
          let it : k ≡ g = cc in
          elim (q k) as (λ c. Faulted p (cond c (f k ∷ ks) (k ∷ change_first q f ks)) g) [
            | true ↦ record { scope = f k; found = ap (λ (b : Bool). cond b (Some (f k)) (find p ks)) (same k ∙ w); number = keeps k ∙ ap (λ (z : Scope). z.number) it }
            | false ↦ record { scope = k; found = ap (λ (b : Bool). cond b (Some k) (find p (change_first q f ks))) w; number = ap (λ (z : Scope). z.number) it }
          ]
      | false ↦ λ w j.
          let rest = found_faulted p q f ks g same keeps j in
          elim (q k) as (λ c. Faulted p (cond c (f k ∷ ks) (k ∷ change_first q f ks)) g) [
            | true ↦ record { scope = g; found = ap (λ (b : Bool). cond b (Some (f k)) (find p ks)) (same k ∙ w) ∙ j; number = refl }
            | false ↦ record { scope = rest.scope; found = ap (λ (b : Bool). cond b (Some k) (find p (change_first q f ks))) w ∙ rest.found; number = rest.number }
          ]
    ]) refl e

-- who travels does not wait
traveller_moves : (T : Tree) (t : TaskId) (x : Task) (from to : PlaceId) → Reached T → task_of T t ≡ Some x → x.struck ≡ None → x.place ≡ Travel from to → x.waits ≡ false
traveller_moves T t x from to r found free travels =
    (elim x.waits as (λ b. x.waits ≡ b → b ≡ false) [
      | true ↦ λ e.
          let own = waiter_owns T t x r found free e in
          let place : x.place ≡ At own.0.home = own_place T.tasks T.scopes t x own.0 (sound r).opened found own.1 in
          let both : Travel from to ≡ At own.0.home = sym travels ∙ place in
          absurd (let v : ⊥ = cc in v)
      | false ↦ λ e. refl
    ]) refl

-- it arrived
pub landed_on : (T : Tree) (who : Caller) → Reached T → MayAskArrive T who → AllowedAct T who.task (Arrive (landing who.place)) → HasNumbers (made_act T who.task (Arrive (landing who.place))) → MayAskMoving (made_act T who.task (Arrive (landing who.place))) (record who { place = At (landing who.place) })
landed_on T who r may act few =
    let x = act.task in
    let so = so_says T who Travels x may act.stands in
    record {
      caller = inl (record {
        task = record x { place = At (landing who.place) };
        stands = found_changed (λ y. record y { place = At (landing who.place) }) who.task T.tasks x (λ y. refl) act.stands;
        says = record { under = so.says.under; place = refl };
        inner_is = so.inner_is;
        allowed = record { place = landing who.place; is_at = refl; moves = traveller_moves T who.task x act.asks.0 (landing who.place) r act.stands act.unstruck act.asks.1 };
      });
      numbers = few;
    }

pub free_stays : (b : Bool) (o : Option Blow) → o ≡ None → not (b && is_some o) ≡ true
free_stays true o e = ap (λ (v : Option Blow). not (true && is_some v)) e
free_stays false o e = refl

-- it released its scope
pub released_on : (U : Given) (es : List Entry) (who : Caller) (lost : PlaceSet) (masked : ℕ) (thrown : List Fault) → Folds U es → MayAskRelease (tree_of U.places es) who → AllowedAct (tree_of U.places es) who.task (Release who.inner lost masked thrown) → HasNumbers (made_act (tree_of U.places es) who.task (Release who.inner lost masked thrown)) → MayAskMoving (made_act (tree_of U.places es) who.task (Release who.inner lost masked thrown)) (record who { inner = parent_told es who.inner })
released_on U es who lost masked thrown folds may act few =
    let T : Tree = tree_of U.places es in
    let m = act in
    let z = m.task in
    let h = sound (fold_reached U.places es folds.some folds.few folds.allowed) in
    let so = so_says T who (WaitsInside T who) z may m.stands in
    let left : find (is_task who.task) (without T who.inner).tasks ≡ Some z = find_filter (is_task who.task) (λ x. not (is_under T who.inner x && is_some x.struck)) T.tasks z m.stands (free_stays (is_under T who.inner z) z.struck m.unstruck) in
    let found = found_changed resumed who.task (without T who.inner).tasks z (λ y. refl) left in
    record {
      caller = inl (record {
        task = resumed z;
        stands = found;
        says = record { under = so.says.under; place = so.says.place };
        inner_is = uncovers U es who.task who.inner lost masked thrown (resumed z) folds act found;
        allowed = record { place = m.asks.1.home; is_at = own_place T.tasks T.scopes who.task z m.asks.1 h.opened m.stands m.asks.2.0; moves = refl };
      });
      numbers = few;
    }

module _ (T : Tree) (h : Sound T) where
  -- it opened a finish
  pub opened_on : (who : Caller) (s : ScopeId) (path : List ℕ) → MayAskMoving T who → AllowedAct T who.task (Open s who.inner path) → HasNumbers (made_act T who.task (Open s who.inner path)) → MayAskMoving (made_act T who.task (Open s who.inner path)) (record who { inner = s })
  opened_on who s path may act few =
      let x = act.task in
      let so = so_says T who IsMoving x may act.stands in
      let own : (who.task.0 == x.number.0) ≡ true = eq-eqb who.task.0 x.number.0 (sym (number-of T who.task x act.stands)) in
      record {
        caller = inl (record {
          task = x;
          stands = act.stands;
          says = record { under = so.says.under; place = so.says.place };
          inner_is = rw (own, inner, own_scope) refl;
          allowed = record { place = act.asks.0.0; is_at = act.asks.0.1.0; moves = act.asks.0.1.1 };
        });
        numbers = few;
      }

  -- it started a task
  pub started_on : (who : Caller) (child : TaskId) (s : ScopeId) (from to : PlaceId) (path : List ℕ) → MayAsk T who IsMoving → AllowedAct T who.task (Spawn child s from to path) → HasNumbers (made_act T who.task (Spawn child s from to path)) → MayAskMoving (made_act T who.task (Spawn child s from to path)) who
  started_on who child s from to path may act few =
      let x = act.task in
      let so = so_says T who IsMoving x may act.stands in
      let low : who.task.0 < T.next_task = task_below T.next_task T.tasks who.task x h.tasks_fall act.stands in
      let next : child.0 ≡ T.next_task = act.asks.1 in
      let other : (child.0 == who.task.0) ≡ false = ne_eqb child.0 who.task.0 (λ e. absurd (omega (arith, low, next, e))) in
      record {
        caller = inl (record {
          task = x;
          stands = rw other act.stands;
          says = so.says;
          inner_is = so.inner_is;
          allowed = record { place = from; is_at = act.asks.0.0; moves = act.asks.0.1 };
        });
        numbers = few;
      }

  -- it waits at its finish
  pub waits_on : (who : Caller) (thrown : List Fault) → MayAskWait T who → AllowedAct T who.task (Wait who.inner thrown) → HasNumbers (made_act T who.task (Wait who.inner thrown)) → MayAskRelease (made_act T who.task (Wait who.inner thrown)) who
  waits_on who thrown may act few =
      let x = act.task in
      let so = so_says T who (HasFinish T who) x may act.stands in
      let own = found_faulted (opened_by who.task) (is_scope who.inner) (λ g. record g { body = thrown }) T.scopes act.asks.1 (λ g. refl) (λ g. refl) act.asks.2.0 in
      let number : x.number ≡ who.task = task-is x.number who.task (number-of T who.task x act.stands) in
      let found : find (opened_by x.number) (change_first (is_scope who.inner) (λ g. record g { body = thrown }) T.scopes) ≡ Some own.scope = subst (λ (t : TaskId). find (opened_by t) (change_first (is_scope who.inner) (λ g. record g { body = thrown }) T.scopes) ≡ Some own.scope) (sym number) own.found in
      record {
        caller = inl (record {
          task = waiting x;
          stands = found_changed waiting who.task T.tasks x (λ y. refl) act.stands;
          says = record { under = so.says.under; place = so.says.place };
          inner_is = rw (found, inner, own_scope) (own.number ∙ act.asks.2.1);
          allowed = record { waits = refl; scope = own.scope; own = own.found };
        });
        numbers = few;
      }

  -- it opened an at
  pub called_on : (who : Caller) (s : ScopeId) (child : TaskId) (from to : PlaceId) (path : List ℕ) → MayAsk T who IsMoving → AllowedAct T who.task (Calls from to s who.inner child path) → HasNumbers (made_act T who.task (Calls from to s who.inner child path)) → MayAskRelease (made_act T who.task (Calls from to s who.inner child path)) (record who { inner = s })
  called_on who s child from to path may act few =
      let x = act.task in
      let so = so_says T who IsMoving x may act.stands in
      let low : who.task.0 < T.next_task = task_below T.next_task T.tasks who.task x h.tasks_fall act.stands in
      let next : child.0 ≡ T.next_task = act.asks.3 in
      let other : (child.0 == who.task.0) ≡ false = ne_eqb child.0 who.task.0 (λ e. absurd (omega (arith, low, next, e))) in
      let there : find (is_task who.task) (born T child s from to ∷ T.tasks) ≡ Some x = rw other act.stands in
      let own : (who.task.0 == x.number.0) ≡ true = eq-eqb who.task.0 x.number.0 (sym (number-of T who.task x act.stands)) in
      let mine : (who.task.0 == who.task.0) ≡ true = eq-eqb who.task.0 who.task.0 refl in
      let g : Scope = record { number = s; kind = Call; opener = Some who.task; home = home_for T who.task; parent = Some who.inner; body = []; ends = [] } in
      record {
        caller = inl (record {
          task = waiting x;
          stands = found_changed waiting who.task (born T child s from to ∷ T.tasks) x (λ y. refl) there;
          says = record { under = so.says.under; place = so.says.place };
          inner_is = rw (own, inner, own_scope) refl;
          allowed = record { waits = refl; scope = g; own = rw mine refl };
        });
        numbers = few;
      }

-- the tree of the longer history
pub grown : (U : Given) (es es' : List Entry) (who : Caller) (act : Act) (batch : List (List ℕ)) → Appends (tree_of U.places es) es who act batch es' → tree_of U.places es' ≡ made_act (tree_of U.places es) who.task act
grown U es es' who act batch a = ap (tree_of U.places) a.added ∙ tree-push U.places es (Step who.task act batch)

-- a request that comes back
again : (U : Given) (es es' : List Entry) (q request : Request) → request ≡ q → es' ≡ es → MayApply (tree_of U.places es) q → MayApply (tree_of U.places es') request
again U es es' q request back same may =
    subst (λ (z : Request). MayApply (tree_of U.places es') z) (sym back) (subst (λ (fs : List Entry). MayApply (tree_of U.places fs) q) (sym same) may)

pub tickets_go_on : TicketsGoOn
tickets_go_on U es es' q (Opened ticket scope) folds may h few =
    let T = tree_of U.places es in
    let so = sound (fold_reached U.places es folds.some folds.few folds.allowed) in
    let asks = (subst (λ (z : Request). MayApply T z) h.asked may).0 in
    let same = grown U es es' h.who (Open scope h.who.inner h.path) q.batch h.entry in
    let on = opened_on T so h.who scope h.path asks h.entry.allowed (subst HasNumbers same few) in
    subst (λ (w : Caller). MayAskMoving (tree_of U.places es') w) (sym h.ticket_is) (subst (λ (V : Tree). MayAskMoving V (record h.who { inner = scope })) (sym same) on)
tickets_go_on U es es' q (Called ticket callee) folds may h few =
    let T = tree_of U.places es in
    let so = sound (fold_reached U.places es folds.some folds.few folds.allowed) in
    let asks = (subst (λ (z : Request). MayApply T z) h.asked may).0 in
    let same = grown U es es' h.who (Calls (place_number h.who.place) h.to h.scope h.who.inner h.child h.path) q.batch h.entry in
    let on = called_on T so h.who h.scope h.child (place_number h.who.place) h.to h.path asks.asks h.entry.allowed (subst HasNumbers same few) in
    subst (λ (w : Caller). MayAskRelease (tree_of U.places es') w) (sym h.ticket_is) (subst (λ (V : Tree). MayAskRelease V (record h.who { inner = h.scope })) (sym same) on)
tickets_go_on U es es' q (Spawned ticket child) folds may h few =
    let T = tree_of U.places es in
    let so = sound (fold_reached U.places es folds.some folds.few folds.allowed) in
    let asks = (subst (λ (z : Request). MayApply T z) h.asked may).0 in
    let same = grown U es es' h.who (Spawn h.child h.scope (place_number h.who.place) h.to h.path) q.batch h.entry in
    let on = started_on T so h.who h.child h.scope (place_number h.who.place) h.to h.path asks.asks h.entry.allowed (subst HasNumbers same few) in
    subst (λ (w : Caller). MayAskMoving (tree_of U.places es') w) (sym h.ticket_is) (subst (λ (V : Tree). MayAskMoving V h.who) (sym same) on)
tickets_go_on U es es' q (Landed ticket) folds may h few =
    let T = tree_of U.places es in
    let asks = (subst (λ (z : Request). MayApply T z) h.asked may).0 in
    let same = grown U es es' h.who (Arrive (landing h.who.place)) q.batch h.entry in
    let on = landed_on T h.who (fold_reached U.places es folds.some folds.few folds.allowed) asks h.entry.allowed (subst HasNumbers same few) in
    subst (λ (w : Caller). MayAskMoving (tree_of U.places es') w) (sym h.ticket_is) (subst (λ (V : Tree). MayAskMoving V (record h.who { place = At (landing h.who.place) })) (sym same) on)
tickets_go_on U es es' q (Waits ticket) folds may h few =
    let T = tree_of U.places es in
    let so = sound (fold_reached U.places es folds.some folds.few folds.allowed) in
    let asks = (subst (λ (z : Request). MayApply T z) h.asked may).0 in
    let same = grown U es es' h.who (Wait h.who.inner h.thrown) q.batch h.entry in
    let on = waits_on T so h.who h.thrown asks h.entry.allowed (subst HasNumbers same few) in
    subst (λ (w : Caller). MayAskRelease (tree_of U.places es') w) (sym h.ticket_is) (subst (λ (V : Tree). MayAskRelease V h.who) (sym same) on)
tickets_go_on U es es' q (Released ticket outcome) folds may h few =
    let asks = (subst (λ (z : Request). MayApply (tree_of U.places es) z) h.asked may).0 in
    let same = grown U es es' h.who (Release h.who.inner outcome.lost outcome.masked outcome.thrown) q.batch h.entry in
    let on = released_on U es h.who outcome.lost outcome.masked outcome.thrown folds asks h.entry.allowed (subst HasNumbers same few) in
    subst (λ (w : Caller). MayAskMoving (tree_of U.places es') w) (sym h.ticket_is) (subst (λ (V : Tree). MayAskMoving V (record h.who { inner = parent_told es h.who.inner })) (sym same) on)
tickets_go_on U es es' q Ended folds may h few = tt
tickets_go_on U es es' q (Counted ticket places) folds may h few =
    let T = tree_of U.places es in
    let asks = (subst (λ (z : Request). MayApply T z) h.asked may).0 in
    let same = grown U es es' h.who (Census places h.path) q.batch h.entry in
    subst (λ (w : Caller). MayAskMoving (tree_of U.places es') w) (sym h.ticket_is) (subst (λ (V : Tree). MayAskMoving V h.who) (sym same) asks)
tickets_go_on U es es' q (Printed ticket) folds may h few =
    let T = tree_of U.places es in
    let asks = (subst (λ (z : Request). MayApply T z) h.asked may).0 in
    let same = grown U es es' h.who (Print h.value h.path) q.batch h.entry in
    subst (λ (w : Caller). MayAskMoving (tree_of U.places es') w) (sym h.ticket_is) (subst (λ (V : Tree). MayAskMoving V h.who) (sym same) asks)
tickets_go_on U es es' q RootDone folds may h few = tt
tickets_go_on U es es' q (NotYet place request) folds may h few = again U es es' q request h.0 h.2 may
tickets_go_on U es es' q (Lost place at) folds may h few = tt
tickets_go_on U es es' q (NoMemory request) folds may h few = again U es es' q request h.0 h.1 may
