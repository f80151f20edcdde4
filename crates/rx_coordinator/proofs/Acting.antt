-- Which requests a row may make, and which it may not.
use Rattle.std.proofs.Common.{◌≡◌, ◌≢◌, ℕ, ◌+◌, ◌<◌, ◌≤◌, ◌==◌, Bool, true, false, cond, not, List, [], length, Option, Some, None, is_some, option_map, All, IsSome, refl, rules, ap, ◌∙◌, sym, subst, arith}
use Rattle.std.proofs.lemmas.Bool.{true≢false, eqb-true, eqb-false, not-true}
use Rattle.rx_rules.proofs.Common.{TaskId, ScopeId, PlaceId, Fault, Tree, is_finish, task_of, scope_of, inner, own_scope, opened_by, the_root, AllowedAct, Allowed, made_act, tree_of, opening, Reached, IsOlder}
use Rattle.rx_base.proofs.SameIds.{task-is, scope-is}
use Rattle.rx_rules.specs.declared.tasks.Scope.{Scope}
use Rattle.rx_rules.specs.declared.tasks.Kind.{Kind}
use Rattle.rx_rules.specs.declared.tasks.Kind.TheVariants.{Finish, Call}
use Rattle.rx_rules.specs.declared.entries.Act.TheVariants.{At as CallAct, Spawn as SpawnAct, Wait as WaitAct, End as EndAct}
use Rattle.rx_rules.specs.declared.entries.Entry.TheVariants.{Death as DeathEntry}
use Rattle.rx_rules.specs.declared.entries.Entry.{Entry}
use Rattle.rx_rules.proofs.Lookups.{number-of}
use Rattle.rx_tree_laws.specs.Sound.{Sound}
use Rattle.rx_tree_laws.proofs.Reached.{sound}
use Rattle.rx_tree_laws.proofs.Reach.{task_below}
use Rattle.rx_tree_laws.proofs.Opening.{own_chain}
use Rattle.rx_tree_laws.proofs.Waiting.{waiter_owns}
use Rattle.rx_tree_laws.proofs.Histories.{older-from, none_yet}
use Rattle.rx_tree_laws.proofs.Parents.{based}
use Rattle.rx_tree_laws.proofs.Changes.{each_found}
use Rattle.rx_finish.specs.Callers.{MayAskArrive, MayAskWait, MayAskRelease, MayAskEnd, Travels, HasFinish, WaitsInside, IsBare, HasNumbers, HasRoot, does_travel}
use Rattle.rx_counts.specs.declared.ledger.ScopeSeen.{ScopeSeen}
use Rattle.rx_counts.specs.Seen.{seen}
use Rattle.rx_coordinator.specs.declared.seats.Seat.{Seat}
use Rattle.rx_coordinator.specs.declared.seats.Seats.{Seats}
use Rattle.rx_coordinator.specs.declared.coordinator.Coordinator.{Coordinator}
use Rattle.rx_coordinator.specs.Seats.{seat_at}
use Rattle.rx_coordinator.specs.Telling.{seat_in, seat_told}
use Rattle.rx_coordinator.specs.declared.requests.Request.{Request}
use Rattle.rx_coordinator.specs.declared.requests.Request.TheVariants.{At as CallIt, Spawn, Wait, End, Death}
use Rattle.rx_coordinator.specs.declared.requests.Answer.{Answer}
use Rattle.rx_coordinator.specs.declared.requests.Answer.TheVariants.{Called, Spawned, Waits, Ended, Died}
use Rattle.rx_coordinator.specs.Stands.{StandsAfter, Told, HasEntry, IsReplyTo}
use Rattle.rx_coordinator.specs.Inside.Rows.{finish_in, parent_in, parent_or_root, away_in, held_in}
use Rattle.rx_coordinator.proofs.Finding.{scope_found}
use Rattle.rx_coordinator.proofs.Telling.{own_spawn, others_told}
use Rattle.rx_coordinator.proofs.Asking.{Seated, seated, asks_as, number_is, LiveSeat}

-- One that travels, and one that waits.

pub record AwaySeat (T : Tree) (t : TaskId) (w : Seat) : Type 0 where
  pub told : seat_told T t ≡ Some w
  pub seat : Seated T t w
  pub may : MayAskArrive T w.who
  pub goes : does_travel seat.task.place ≡ true

pub away_seat : (c : Coordinator) (p : ℕ) (es : List Entry) → StandsAfter c p es → (t : TaskId) (w : Seat) → away_in (seat_at c.seats t.0) ≡ Some w → AwaySeat (tree_of p es) t w
away_seat c p es st t w e = of_row (seat_at c.seats t.0) refl e where
  of_row : (o : Option Seat) → seat_at c.seats t.0 ≡ o → away_in o ≡ Some w → AwaySeat (tree_of p es) t w
  of_row None k j = absurd (let v : ⊥ = cc in v)
  of_row (Some x) k j = of_travel (does_travel x.who.place) refl j where
    of_travel : (b : Bool) → does_travel x.who.place ≡ b → away_in (Some x) ≡ Some w → AwaySeat (tree_of p es) t w
    of_travel false m n = absurd (let none : None ≡ Some w = sym (ap (λ (b : Bool). cond b (Some x) None) m) ∙ n in let v : ⊥ = cc in v)
    of_travel true m n =
        let same : Some x ≡ Some w = sym (ap (λ (b : Bool). cond b (Some x) None) m) ∙ n in
        let it : x ≡ w = cc in
        let told : seat_told (tree_of p es) t ≡ Some w = sym (st.seats t) ∙ (k ∙ same) in
        let s : Seated (tree_of p es) t w = seated (tree_of p es) t w told in
        let goes : does_travel s.task.place ≡ true = ap (λ (y : Seat). does_travel y.who.place) s.is ∙ (sym (ap (λ (y : Seat). does_travel y.who.place) it) ∙ m) in
        record { told = told; seat = s; may = asks_as (tree_of p es) t w s Travels st.numbers (record { travels = goes }); goes = goes }

pub record HeldSeat (T : Tree) (t : TaskId) (w : Seat) : Type 0 where
  pub told : seat_told T t ≡ Some w
  pub seat : Seated T t w
  pub may : MayAskRelease T w.who
  pub waits : seat.task.waits ≡ true
  pub scope : Scope
  pub own : own_scope T t ≡ Some scope
  pub inside : scope.number ≡ w.who.inner
  pub stands : scope_of T w.who.inner ≡ Some scope
  pub up : scope.parent ≡ Some (parent_or_root scope.parent)

pub own_here : (T : Tree) (t : TaskId) (w : Seat) (s : Seated T t w) (g : Scope) → Sound T → own_scope T t ≡ Some g → (g.number ≡ w.who.inner) × (scope_of T w.who.inner ≡ Some g) × (w.who.scope.0 < w.who.inner.0)
own_here T t w s g h own =
    let x = s.task in
    let number : x.number ≡ t = task-is x.number t (number-of T t x s.stands) in
    let own2 : own_scope T x.number ≡ Some g = ap (λ (v : TaskId). own_scope T v) number ∙ own in
    let is_g : inner T x ≡ g.number = rw (own2, inner) refl in
    let inside : g.number ≡ w.who.inner = sym is_g ∙ ap (λ (y : Seat). y.who.inner) s.is in
    let older = (own_chain T.tasks T.next_scope T.scopes t x g h.falls h.opened s.stands own).older in
    let under : x.under ≡ w.who.scope = ap (λ (y : Seat). y.who.scope) s.is in (
      inside,
      ap (λ (v : ScopeId). scope_of T v) (sym inside) ∙ scope_found (opened_by t) T.next_scope T.scopes g h.falls own,
      (let a = ap (λ (v : ScopeId). v.0) inside in let b = ap (λ (v : ScopeId). v.0) under in omega (arith, older, a, b)),
    )

-- a scope that a task opened has a parent
has_parent : (T : Tree) (t : TaskId) (w : Seat) (s : Seated T t w) (g : Scope) → Reached T → own_scope T t ≡ Some g → g.parent ≡ Some (parent_or_root g.parent)
has_parent T t w s g r own =
    let here = own_here T t w s g (sound r) own in
    let low = here.2 in
    let inside = ap (λ (v : ScopeId). v.0) here.0 in
    let base : g.parent ≡ None → g.number.0 ≡ 0 = each_found (λ (k : Scope). k.parent ≡ None → k.number.0 ≡ 0) (opened_by t) T.scopes g (based r) own in
    (elim g.parent as (λ o. g.parent ≡ o → o ≡ Some (parent_or_root o)) [
      | None ↦ λ k. (let zero_is = base k in absurd (omega (arith, low, inside, zero_is)))
      | Some q ↦ λ k. refl
    ]) refl

pub held_seat : (c : Coordinator) (p : ℕ) (es : List Entry) → StandsAfter c p es → (t : TaskId) (w : Seat) → held_in (seat_at c.seats t.0) ≡ Some w → HeldSeat (tree_of p es) t w
held_seat c p es st t w e = of_row (seat_at c.seats t.0) refl e where
  of_row : (o : Option Seat) → seat_at c.seats t.0 ≡ o → held_in o ≡ Some w → HeldSeat (tree_of p es) t w
  of_row None k j = absurd (let v : ⊥ = cc in v)
  of_row (Some x) k j = of_waits x.waits refl j where
    of_waits : (b : Bool) → x.waits ≡ b → held_in (Some x) ≡ Some w → HeldSeat (tree_of p es) t w
    of_waits false m n = absurd (let none : None ≡ Some w = sym (ap (λ (b : Bool). cond b (Some x) None) m) ∙ n in let v : ⊥ = cc in v)
    of_waits true m n =
        let T : Tree = tree_of p es in
        let same : Some x ≡ Some w = sym (ap (λ (b : Bool). cond b (Some x) None) m) ∙ n in
        let it : x ≡ w = cc in
        let told : seat_told (tree_of p es) t ≡ Some w = sym (st.seats t) ∙ (k ∙ same) in
        let s : Seated (tree_of p es) t w = seated (tree_of p es) t w told in
        let waits : s.task.waits ≡ true = ap (λ (y : Seat). y.waits) s.is ∙ (sym (ap (λ (y : Seat). y.waits) it) ∙ m) in
        let own = waiter_owns T t s.task st.tree.reached s.stands s.unstruck waits in
        let here = own_here T t w s own.0 (sound st.tree.reached) own.1 in
        let own2 : own_scope T w.who.task ≡ Some own.0 = ap (λ (v : TaskId). own_scope T v) (number_is T t w s) ∙ own.1 in
        record {
          told = told;
          seat = s;
          may = asks_as T t w s (WaitsInside T w.who) st.numbers (record { waits = waits; scope = own.0; own = own2 });
          waits = waits;
          scope = own.0;
          own = own.1;
          inside = here.0;
          stands = here.1;
          up = has_parent T t w s own.0 st.tree.reached own.1;
        }

-- Who may end, and who may wait.

pub bare_of : (T : Tree) (t : TaskId) (w : Seat) → Reached T → Seated T t w → w.who.inner ≡ w.who.scope → own_scope T t ≡ None
bare_of T t w r s e =
    (elim (own_scope T t) as (λ o. own_scope T t ≡ o → o ≡ None) [
      | None ↦ λ k. refl
      | Some g ↦ λ k.
          let here = own_here T t w s g (sound r) k in
          let low = here.2 in
          let same = ap (λ (v : ScopeId). v.0) e in
          absurd (omega (arith, low, same))
    ]) refl

pub end_may : (T : Tree) (t : TaskId) (w : Seat) → Reached T → HasNumbers T → LiveSeat T t w → w.who.inner ≡ w.who.scope → MayAskEnd T w.who
end_may T t w r few live e =
    let none = bare_of T t w r live.seat e in
    let none2 : own_scope T w.who.task ≡ None = ap (λ (v : TaskId). own_scope T v) (number_is T t w live.seat) ∙ none in
    asks_as T t w live.seat (IsBare T w.who) few (record { moving = live.moving; none_open = none2 })

-- with no scope of its own a task works in the scope that it hangs under
pub under_of : (T : Tree) (t : TaskId) (w : Seat) → Seated T t w → own_scope T t ≡ None → w.who.inner ≡ w.who.scope
under_of T t w s none =
    let x = s.task in
    let number : x.number ≡ t = task-is x.number t (number-of T t x s.stands) in
    let none2 : own_scope T x.number ≡ None = ap (λ (v : TaskId). own_scope T v) number ∙ none in
    let is_u : inner T x ≡ x.under = rw (none2, inner) refl in
    sym (ap (λ (y : Seat). y.who.inner) s.is) ∙ (is_u ∙ ap (λ (y : Seat). y.who.scope) s.is)

pub own_of : (T : Tree) (t : TaskId) (w : Seat) → Seated T t w → w.who.inner ≢ w.who.scope → (g : Scope) × (own_scope T t ≡ Some g)
own_of T t w s ne =
    (elim (own_scope T t) as (λ o. own_scope T t ≡ o → (g : Scope) × (o ≡ Some g)) [
      | None ↦ λ k. absurd (ne (under_of T t w s k))
      | Some g ↦ λ k. (g, refl)
    ]) refl

finish_is : (k : Kind) → is_finish k ≡ true → k ≡ Finish
finish_is Finish e = refl
finish_is Call e = absurd (true≢false (sym e))

pub finish_of : (T : Tree) (t : TaskId) (w : Seat) (s : Seated T t w) (g : Scope) → Reached T → own_scope T t ≡ Some g → finish_in (scope_of T w.who.inner) ≡ true → g.kind ≡ Finish
finish_of T t w s g r own seen = finish_is g.kind (sym (ap finish_in (own_here T t w s g (sound r) own).1) ∙ seen)

pub wait_may : (T : Tree) (t : TaskId) (w : Seat) → Reached T → HasNumbers T → LiveSeat T t w → w.who.inner ≢ w.who.scope → finish_in (scope_of T w.who.inner) ≡ true → MayAskWait T w.who
wait_may T t w r few live ne seen =
    let own = own_of T t w live.seat ne in
    let finish : own.0.kind ≡ Finish = finish_of T t w live.seat own.0 r own.1 seen in
    let own2 : own_scope T w.who.task ≡ Some own.0 = ap (λ (v : TaskId). own_scope T v) (number_is T t w live.seat) ∙ own.1 in
    asks_as T t w live.seat (HasFinish T w.who) few (record { moving = live.moving; scope = own.0; own = own2; finish = finish })

-- Which requests may not be made.

spawn_asks : (T : Tree) (t : TaskId) (to : PlaceId) (a : Answer) (e : Entry) → Told T (Spawn t to) a e → Allowed T e → to.0 < T.places
spawn_asks T t to (Spawned b) e told may = (let m : AllowedAct T t (SpawnAct b.child b.scope told.0 to []) = subst (Allowed T) told.1 may in m.asks.3)
spawn_asks T t to _ e told may = absurd told

pub no_spawn : (T : Tree) (t : TaskId) (to : PlaceId) → (to.0 < T.places → ⊥) → HasEntry T (Spawn t to) → ⊥
no_spawn T t to out h = out (spawn_asks T t to h.0 h.1 h.2 h.3)

call_asks : (T : Tree) (t : TaskId) (to : PlaceId) (a : Answer) (e : Entry) → Told T (CallIt t to) a e → Allowed T e → to.0 < T.places
call_asks T t to (Called b) e told may = (let m : AllowedAct T t (CallAct told.0 to b.scope told.1 b.child []) = subst (Allowed T) told.2 may in m.asks.4)
call_asks T t to _ e told may = absurd told

pub no_call : (T : Tree) (t : TaskId) (to : PlaceId) → (to.0 < T.places → ⊥) → HasEntry T (CallIt t to) → ⊥
no_call T t to out h = out (call_asks T t to h.0 h.1 h.2 h.3)

end_asks : (T : Tree) (t : TaskId) (thrown : List Fault) (a : Answer) (e : Entry) → Told T (End t thrown) a e → Allowed T e → own_scope T t ≡ None
end_asks T t thrown Ended e told may = (let m : AllowedAct T t (EndAct thrown) = subst (Allowed T) told may in m.asks.1)
end_asks T t thrown _ e told may = absurd told

pub no_end : (T : Tree) (t : TaskId) (w : Seat) (thrown : List Fault) → Seated T t w → w.who.inner ≢ w.who.scope → HasEntry T (End t thrown) → ⊥
no_end T t w thrown s ne h = ne (under_of T t w s (end_asks T t thrown h.0 h.1 h.2 h.3))

wait_asks : (T : Tree) (t : TaskId) (thrown : List Fault) (a : Answer) (e : Entry) → Told T (Wait t thrown) a e → Allowed T e → (g : Scope) × (own_scope T t ≡ Some g) × (g.kind ≡ Finish)
wait_asks T t thrown Waits e told may = (let m : AllowedAct T t (WaitAct told.0 thrown) = subst (Allowed T) told.1 may in (m.asks.1, m.asks.2.0, m.asks.3))
wait_asks T t thrown _ e told may = absurd told

pub no_wait : (T : Tree) (t : TaskId) (w : Seat) (thrown : List Fault) → Reached T → Seated T t w → w.who.inner ≡ w.who.scope → HasEntry T (Wait t thrown) → ⊥
no_wait T t w thrown r s e h =
    let own = wait_asks T t thrown h.0 h.1 h.2 h.3 in
    let low = (own_here T t w s own.0 (sound r) own.1).2 in
    let same = ap (λ (v : ScopeId). v.0) e in
    absurd (omega (arith, low, same))

pub no_finish : (T : Tree) (t : TaskId) (w : Seat) (thrown : List Fault) → Reached T → Seated T t w → finish_in (scope_of T w.who.inner) ≡ false → HasEntry T (Wait t thrown) → ⊥
no_finish T t w thrown r s e h =
    let own = wait_asks T t thrown h.0 h.1 h.2 h.3 in
    let here = own_here T t w s own.0 (sound r) own.1 in
    let yes : finish_in (scope_of T w.who.inner) ≡ true = ap finish_in here.1 ∙ ap (λ (k : Kind). is_finish k) own.2 in
    true≢false (sym yes ∙ e)

die_asks : (T : Tree) (d : PlaceId) (a : Answer) (e : Entry) → Told T (Death d) a e → Allowed T e → Allowed T (DeathEntry d)
die_asks T d Died e told may = subst (Allowed T) told may
die_asks T d _ e told may = absurd told

pub no_death : (T : Tree) (d : PlaceId) → (Allowed T (DeathEntry d) → ⊥) → HasEntry T (Death d) → ⊥
no_death T d out h = out (die_asks T d h.0 h.1 h.2 h.3)

-- The same coordinator after another way through the code.
pub asked_as : (p : ℕ) (es : List Entry) (q : Request) (a b : Answer) (c d : Coordinator) → a ≡ b → c ≡ d → IsReplyTo p es q b (StandsAfter d p) → IsReplyTo p es q a (StandsAfter c p)
asked_as p es q a b c d e f h = subst (λ (x : Answer). IsReplyTo p es q x (StandsAfter c p)) (sym e) (subst (λ (x : Coordinator). IsReplyTo p es q b (StandsAfter x p)) (sym f) h)

-- who is not yet born has no row
pub none_yet_told : (T : Tree) (t : TaskId) → Reached T → T.next_task ≤ t.0 → seat_told T t ≡ None
none_yet_told T t r low =
    (elim (task_of T t) as (λ o. task_of T t ≡ o → seat_in T o ≡ None) [
      | None ↦ λ k. refl
      | Some x ↦ λ k. (let below = task_below T.next_task T.tasks t x (sound r).tasks_fall k in absurd (omega (arith, below, low)))
    ]) refl

-- Comparisons of scopes.

pub same_of : (a b : ScopeId) → true ≡ (a.0 == b.0) → a ≡ b
same_of a b e = scope-is a b (eqb-true a.0 b.0 (sym e))

pub other_of : (a b : ScopeId) → false ≡ (a.0 == b.0) → a ≢ b
other_of a b e = λ k. eqb-false a.0 b.0 (sym e) (ap (λ (v : ScopeId). v.0) k)

pub ne_of : (a b : ScopeId) → true ≡ not (a.0 == b.0) → a ≢ b
ne_of a b e = other_of a b (sym (not-true (a.0 == b.0) (sym e)))

pub eq_of : (a b : ScopeId) → false ≡ not (a.0 == b.0) → a ≡ b
eq_of a b e = same_of a b ((elim (a.0 == b.0) as (λ c. false ≡ not c → true ≡ c) [ true ↦ λ k. refl | false ↦ λ k. absurd (true≢false (sym k)) ]) e)

-- The root.

pub root_of : (T : Tree) (b : Bool) → is_some (option_map seen (scope_of T the_root)) ≡ b → (b ≡ true → HasRoot T) × (HasRoot T → b ≡ true)
root_of T b e =
    ((λ k. of_found (scope_of T the_root) refl (e ∙ k)), λ h. sym e ∙ ap (λ (o : Option Scope). is_some (option_map seen o)) h.stands)
  where
    of_found : (o : Option Scope) → scope_of T the_root ≡ o → is_some (option_map seen (scope_of T the_root)) ≡ true → HasRoot T
    of_found None f k = absurd (true≢false (sym k ∙ ap (λ (o : Option Scope). is_some (option_map seen o)) f))
    of_found (Some g) f k = record { root = g; stands = f }

-- Rows of a child.

pub over_put : {X : Type 0} (q n m : ℕ) (r s o : X) → n ≡ m → cond (q == m) r (cond (q == n) s o) ≡ cond (q == m) r o
over_put q n m r s o e =
    (elim (q == m) as (λ b. q == m ≡ b → cond b r (cond (q == n) s o) ≡ cond b r o) [
      | true ↦ λ k. refl
      | false ↦ λ k. ap (λ (j : ℕ). cond (q == j) s o) e ∙ ap (λ (b : Bool). cond b s o) k
    ]) refl

pub back_out : {X : Type 0} (q n : ℕ) (s o z : X) → (q ≡ n → o ≡ z) → cond (q == n) z (cond (q == n) s o) ≡ o
back_out q n s o z e =
    (elim (q == n) as (λ b. q == n ≡ b → cond b z (cond b s o) ≡ o) [
      | true ↦ λ k. sym (e (eqb-true q n k))
      | false ↦ λ k. refl
    ]) refl

pub spawn_others : (T : Tree) → Reached T → (t : TaskId) (w : Seat) → seat_told T t ≡ Some w → (child : TaskId) (s : ScopeId) (from to : PlaceId) → AllowedAct T t (SpawnAct child s from to []) → (u : TaskId) → u.0 ≢ child.0 → seat_told (made_act T t (SpawnAct child s from to [])) u ≡ seat_told T u
spawn_others T r t w told child s from to may u new =
    (elim (u.0 == t.0) as (λ b. u.0 == t.0 ≡ b → seat_told (made_act T t (SpawnAct child s from to [])) u ≡ seat_told T u) [
      | true ↦ λ k.
          let same : t ≡ u = task-is t u (sym (eqb-true u.0 t.0 k)) in
          subst (λ (v : TaskId). seat_told (made_act T t (SpawnAct child s from to [])) v ≡ seat_told T v) same (own_spawn T r t w told child s from to [] may ∙ sym told)
      | false ↦ λ k. others_told T r t u (eqb-false u.0 t.0 k) (SpawnAct child s from to []) may (λ e. new (sym e))
    ]) refl

-- What the ledger tells of a scope.

some_same : {X : Type 0} (a b : X) → Some a ≡ Some b → a ≡ b
some_same a b e = cc

pub finish_told : (o : Option Scope) (v : ScopeSeen) → option_map seen o ≡ Some v → is_finish v.kind ≡ finish_in o
finish_told None v e = absurd (let x : ⊥ = cc in x)
finish_told (Some g) v e = (let same : seen g ≡ v = some_same (seen g) v e in ap (λ (x : ScopeSeen). is_finish x.kind) (sym same))

pub none_told : (o : Option Scope) → option_map seen o ≡ None → (false ≡ finish_in o) × (the_root ≡ parent_in o)
none_told None e = (refl, refl)
none_told (Some g) e = absurd (let x : ⊥ = cc in x)

pub parent_told : (o : Option Scope) (v : ScopeSeen) → option_map seen o ≡ Some v → parent_or_root v.parent ≡ parent_in o
parent_told None v e = absurd (let x : ⊥ = cc in x)
parent_told (Some g) v e = (let same : seen g ≡ v = some_same (seen g) v e in ap (λ (x : ScopeSeen). parent_or_root x.parent) (sym same))

-- each death stands before the next entry
pub later_than : (c : Coordinator) (p : ℕ) (es : List Entry) → StandsAfter c p es → All (IsOlder c.entries) (tree_of p es).dead
later_than c p es st = subst (λ (n : ℕ). All (IsOlder n) (tree_of p es).dead) (sym st.count) (let zero_less : 0 + length es ≡ length es = omega arith in subst (λ (n : ℕ). All (IsOlder n) (tree_of p es).dead) zero_less (older-from 0 (opening p) es none_yet))

pub some_is : {X : Type 0} (o : Option X) (x : X) → o ≡ Some x → IsSome o
some_is o x e = subst IsSome (sym e) (search rules)

-- Two rows changed.
pub rows_changed : (S S1 S2 : Seats) (T V : Tree) (t child : TaskId) (o1 o2 : Option Seat) → ((q : ℕ) → seat_at S1 q ≡ cond (q == child.0) o1 (seat_at S q)) → ((q : ℕ) → seat_at S2 q ≡ cond (q == t.0) o2 (seat_at S1 q)) → ((u : TaskId) → seat_at S u.0 ≡ seat_told T u) → seat_told V child ≡ o1 → seat_told V t ≡ o2 → ((u : TaskId) → u.0 ≢ t.0 → u.0 ≢ child.0 → seat_told V u ≡ seat_told T u) → (u : TaskId) → seat_at S2 u.0 ≡ seat_told V u
rows_changed S S1 S2 T V t child o1 o2 one two told first own others u =
    two u.0 ∙ (elim (u.0 == t.0) as (λ b. u.0 == t.0 ≡ b → cond b o2 (seat_at S1 u.0) ≡ seat_told V u) [
      | true ↦ λ w. let same : t ≡ u = task-is t u (sym (eqb-true u.0 t.0 w)) in subst (λ (v : TaskId). o2 ≡ seat_told V v) same (sym own)
      | false ↦ λ w. one u.0 ∙ (elim (u.0 == child.0) as (λ b. u.0 == child.0 ≡ b → cond b o1 (seat_at S u.0) ≡ seat_told V u) [
        | true ↦ λ k. let same : child ≡ u = task-is child u (sym (eqb-true u.0 child.0 k)) in subst (λ (v : TaskId). o1 ≡ seat_told V v) same (sym first)
        | false ↦ λ k. told u ∙ sym (others u (eqb-false u.0 t.0 w) (eqb-false u.0 child.0 k))
      ]) refl
    ]) refl
