-- What a row says of its task, and that the ledger may be asked for it.
use Rattle.std.proofs.Common.{◌≡◌, ◌≢◌, ℕ, ◌+◌, ◌-◌, ◌==◌, Bool, true, false, cond, List, [], ◌∷◌, ◌++◌, length, Option, Some, None, is_none, refl, ap, ◌∙◌, sym, subst, arith, inl, length-append}
use Rattle.std.proofs.lemmas.Bool.{eqb-true, eqb-false, eq-eqb, ne_eqb, true≢false}
use Rattle.rx_rules.proofs.Common.{TaskId, PlaceId, Tree, task_of, AllowedAct, Allowed, made, made_act, tree_of, opening}
use Rattle.rx_base.proofs.SameIds.{task-is}
use Rattle.rx_rules.specs.declared.tasks.Where.{Where}
use Rattle.rx_rules.specs.declared.tasks.Where.TheVariants.{At, Travel}
use Rattle.rx_rules.specs.declared.tasks.Blow.{Blow}
use Rattle.rx_rules.specs.declared.tasks.Task.{Task}
use Rattle.rx_rules.specs.declared.entries.Act.{Act}
use Rattle.rx_rules.specs.declared.entries.Entry.{Entry}
use Rattle.rx_rules.specs.declared.entries.Entry.TheVariants.{Step}
use Rattle.rx_rules.proofs.Lookups.{number-of}
use Rattle.rx_rules.proofs.Append.{tree-push, act-places}
use Rattle.rx_runs.proofs.Append.{allowed-push}
use Rattle.rx_finish.specs.Callers.{CallerStands, MayAsk, MayAskMoving, IsMoving, HasNumbers, does_travel}
use Rattle.rx_finish.specs.Calls.{WasLost, blow_of}
use Rattle.rx_counts.specs.Stands.{StandsFor}
use Rattle.rx_counts.specs.declared.ledger.CountLedger.{CountLedger}
use Rattle.rx_coordinator.specs.declared.seats.Seat.{Seat}
use Rattle.rx_coordinator.specs.declared.seats.Seats.{Seats}
use Rattle.rx_coordinator.specs.declared.coordinator.Coordinator.{Coordinator}
use Rattle.rx_coordinator.specs.Seats.{seat_at}
use Rattle.rx_coordinator.specs.Telling.{seat_of, seat_in, seat_told}
use Rattle.rx_coordinator.specs.Stands.{StandsAfter}
use Rattle.rx_coordinator.specs.Inside.Rows.{live_in}

-- the task of a row
pub record Seated (T : Tree) (t : TaskId) (w : Seat) : Type 0 where
  pub task : Task
  pub stands : task_of T t ≡ Some task
  pub unstruck : task.struck ≡ None
  pub is : seat_of T task ≡ w

pub seated : (T : Tree) (t : TaskId) (w : Seat) → seat_told T t ≡ Some w → Seated T t w
seated T t w told = of_found (task_of T t) refl told where
  of_found : (o : Option Task) → task_of T t ≡ o → seat_in T o ≡ Some w → Seated T t w
  of_found None f e = absurd (let v : ⊥ = cc in v)
  of_found (Some x) f e = of_blow x.struck refl e where
    of_blow : (b : Option Blow) → x.struck ≡ b → seat_in T (Some x) ≡ Some w → Seated T t w
    of_blow None k j =
        let same : Some (seat_of T x) ≡ Some w = sym (ap (λ (b : Option Blow). cond (is_none b) (Some (seat_of T x)) None) k) ∙ j in
        record { task = x; stands = f; unstruck = k; is = (let it : seat_of T x ≡ w = cc in it) }
    of_blow (Some b) k j =
        let none : None ≡ Some w = sym (ap (λ (c : Option Blow). cond (is_none c) (Some (seat_of T x)) None) k) ∙ j in
        absurd (let v : ⊥ = cc in v)

none_some : (o : Option Blow) (b : Blow) → o ≡ None → o ≡ Some b → ⊥
none_some None b e f = (let v : ⊥ = cc in v)
none_some (Some a) b e f = (let v : ⊥ = cc in v)

module _ (T : Tree) (t : TaskId) (w : Seat) (s : Seated T t w) where
  pub number_is : w.who.task ≡ t
  number_is = sym (ap (λ (y : Seat). y.who.task) s.is) ∙ task-is s.task.number t (number-of T t s.task s.stands)

  pub found_is : task_of T w.who.task ≡ Some s.task
  found_is = ap (λ (v : TaskId). task_of T v) number_is ∙ s.stands

  pub stands_as : (P : Task → Type 0) → P s.task → CallerStands T w.who P
  stands_as P h =
      record {
        task = s.task;
        stands = found_is;
        says = record { under = ap (λ (y : Seat). y.who.scope) s.is; place = ap (λ (y : Seat). y.who.place) s.is };
        inner_is = ap (λ (y : Seat). y.who.inner) s.is;
        allowed = h;
      }

  pub asks_as : (P : Task → Type 0) → HasNumbers T → P s.task → MayAsk T w.who P
  asks_as P few h = record { caller = inl (stands_as P h); numbers = few }

  -- no death has struck it
  pub not_lost : (place : PlaceId) (at : ℕ) → WasLost T w.who place at → ⊥
  not_lost place at lost =
      let found = found_is in
      let blow : blow_of T w.who.task ≡ None = rw (found, blow_of) s.unstruck in
      none_some (blow_of T w.who.task) (record { place = place; entry = at }) blow lost

-- at a place
at_place : (v : Where) → does_travel v ≡ false → (p : PlaceId) × (v ≡ At p)
at_place (At p) e = (p, refl)
at_place (Travel from to) e = absurd (true≢false e)

pub record IsLiveRow (o : Option Seat) (w : Seat) : Type 0 where
  pub there : o ≡ Some w
  pub waits : w.waits ≡ false
  pub stays : does_travel w.who.place ≡ false

pub live_is : (o : Option Seat) (w : Seat) → live_in o ≡ Some w → IsLiveRow o w
live_is None w e = absurd (let v : ⊥ = cc in v)
live_is (Some x) w e = of_waits x.waits refl e where
  of_waits : (b : Bool) → x.waits ≡ b → live_in (Some x) ≡ Some w → IsLiveRow (Some x) w
  of_waits true k j =
      let none : None ≡ Some w = sym (ap (λ (b : Bool). cond b None (cond (does_travel x.who.place) None (Some x))) k) ∙ j in
      absurd (let v : ⊥ = cc in v)
  of_waits false k j = of_travel (does_travel x.who.place) refl (sym (ap (λ (b : Bool). cond b None (cond (does_travel x.who.place) None (Some x))) k) ∙ j) where
    of_travel : (b : Bool) → does_travel x.who.place ≡ b → cond (does_travel x.who.place) None (Some x) ≡ Some w → IsLiveRow (Some x) w
    of_travel true m n =
        let none : None ≡ Some w = sym (ap (λ (b : Bool). cond b None (Some x)) m) ∙ n in
        absurd (let v : ⊥ = cc in v)
    of_travel false m n =
        let same : Some x ≡ Some w = sym (ap (λ (b : Bool). cond b None (Some x)) m) ∙ n in
        let it : x ≡ w = cc in
        record { there = same; waits = sym (ap (λ (y : Seat). y.waits) it) ∙ k; stays = sym (ap (λ (y : Seat). does_travel y.who.place) it) ∙ m }

pub live_moving : (T : Tree) (t : TaskId) (w : Seat) (s : Seated T t w) → w.waits ≡ false → does_travel w.who.place ≡ false → IsMoving s.task
live_moving T t w s waits stays =
    let at = at_place s.task.place (ap (λ (y : Seat). does_travel y.who.place) s.is ∙ stays) in
    record { place = at.0; is_at = at.1; moves = ap (λ (y : Seat). y.waits) s.is ∙ waits }

-- One entry more.

pub stands_after : (c c' : Coordinator) (p : ℕ) (es : List Entry) (e : Entry) → StandsAfter c p es → Allowed (tree_of p es) e → StandsFor c'.ledger (16 - (made (length es) (tree_of p es) e).places) (made (length es) (tree_of p es) e) → HasNumbers (made (length es) (tree_of p es) e) → c'.entries ≡ c.entries + 1 → ((t : TaskId) → seat_at c'.seats t.0 ≡ seat_told (made (length es) (tree_of p es) e) t) → StandsAfter c' p (es ++ e ∷ [])
stands_after c c' p es e st may stood few more seats =
    let push = sym (tree-push p es e) in
    let long : length (es ++ e ∷ []) ≡ length es + 1 = (let a = length-append es (e ∷ []) in omega (arith, a)) in
    record {
      some = st.some;
      few = st.few;
      allowed = allowed-push 0 _ es e st.allowed may;
      tree = subst (λ (V : Tree). StandsFor c'.ledger (16 - V.places) V) push stood;
      numbers = subst HasNumbers push few;
      count = more ∙ (ap (λ (n : ℕ). n + 1) st.count ∙ sym long);
      seats = λ t. seats t ∙ ap (λ (V : Tree). seat_told V t) push;
    }

-- an act of a task
pub act_after : (c c' : Coordinator) (p : ℕ) (es : List Entry) (t : TaskId) (act : Act) → StandsAfter c p es → AllowedAct (tree_of p es) t act → StandsFor c'.ledger (16 - (tree_of p es).places) (made_act (tree_of p es) t act) → HasNumbers (made_act (tree_of p es) t act) → c'.entries ≡ c.entries + 1 → ((u : TaskId) → seat_at c'.seats u.0 ≡ seat_told (made_act (tree_of p es) t act) u) → StandsAfter c' p (es ++ Step t act [] ∷ [])
act_after c c' p es t act st may stood few more seats =
    stands_after c c' p es (Step t act []) st may
    (subst (λ (n : ℕ). StandsFor c'.ledger (16 - n) (made_act (tree_of p es) t act)) (sym (act-places (tree_of p es) t act)) stood) few more seats

-- one row changed
pub row_changed : (S S' : Seats) (T V : Tree) (t : TaskId) (o : Option Seat) → ((q : ℕ) → seat_at S' q ≡ cond (q == t.0) o (seat_at S q)) → ((u : TaskId) → seat_at S u.0 ≡ seat_told T u) → seat_told V t ≡ o → ((u : TaskId) → u.0 ≢ t.0 → seat_told V u ≡ seat_told T u) → (u : TaskId) → seat_at S' u.0 ≡ seat_told V u
row_changed S S' T V t o put told own others u =
    put u.0 ∙ (elim (u.0 == t.0) as (λ b. u.0 == t.0 ≡ b → cond b o (seat_at S u.0) ≡ seat_told V u) [
      | true ↦ λ w. let same : t ≡ u = task-is t u (sym (eqb-true u.0 t.0 w)) in subst (λ (v : TaskId). o ≡ seat_told V v) same (sym own)
      | false ↦ λ w. told u ∙ sym (others u (eqb-false u.0 t.0 w))
    ]) refl

-- A row that the table has.

pub record LiveSeat (T : Tree) (t : TaskId) (w : Seat) : Type 0 where
  pub told : seat_told T t ≡ Some w
  pub seat : Seated T t w
  pub moving : IsMoving seat.task
  pub may : MayAskMoving T w.who

pub live_seat : (c : Coordinator) (p : ℕ) (es : List Entry) → StandsAfter c p es → (t : TaskId) (w : Seat) → live_in (seat_at c.seats t.0) ≡ Some w → LiveSeat (tree_of p es) t w
live_seat c p es st t w e =
    let T : Tree = tree_of p es in
    let row = live_is (seat_at c.seats t.0) w e in
    let told : seat_told (tree_of p es) t ≡ Some w = sym (st.seats t) ∙ row.there in
    let s : Seated (tree_of p es) t w = seated (tree_of p es) t w told in
    let moving : IsMoving s.task = live_moving (tree_of p es) t w s row.waits row.stays in
    record { told = told; seat = s; moving = moving; may = asks_as (tree_of p es) t w s IsMoving st.numbers moving }

-- an act of the task of a row
pub act_of : (T : Tree) (t : TaskId) (w : Seat) (s : Seated T t w) (act : Act) → AllowedAct T w.who.task act → AllowedAct T t act
act_of T t w s act may = subst (λ (v : TaskId). AllowedAct T v act) (number_is T t w s) may

pub made_of : (l : CountLedger) (n : ℕ) (T : Tree) (t : TaskId) (w : Seat) (s : Seated T t w) (act : Act) → StandsFor l n (made_act T w.who.task act) → StandsFor l n (made_act T t act)
made_of l n T t w s act h = subst (λ (v : TaskId). StandsFor l n (made_act T v act)) (number_is T t w s) h

-- before the first entry
pub main_told : (p : ℕ) (t : TaskId) → seat_told (opening p) t ≡ cond (t.0 == 0) (Some (record { who = record { task = record { 0 = 0 }; scope = record { 0 = 0 }; inner = record { 0 = 0 }; place = At (record { 0 = 0 }) }; waits = false })) None
main_told p t =
    (elim (t.0 == 0) as (λ b. t.0 == 0 ≡ b → seat_told (opening p) t ≡ cond b (Some (record { who = record { task = record { 0 = 0 }; scope = record { 0 = 0 }; inner = record { 0 = 0 }; place = At (record { 0 = 0 }) }; waits = false })) None) [
      | true ↦ λ e. (let is : (0 == t.0) ≡ true = eq-eqb 0 t.0 (sym (eqb-true t.0 0 e)) in rw is refl)
      | false ↦ λ e. (let off : (0 == t.0) ≡ false = ne_eqb 0 t.0 (λ k. eqb-false t.0 0 e (sym k)) in rw off refl)
    ]) refl
