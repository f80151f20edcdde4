-- Those who wait in two sessions, beside one tree.
use Rattle.std.proofs.Common.{◌⊎◌, ◌<◌, ◌==◌, suc, cond, All, ◌≡◌, ℕ, ◌≤◌, Bool, true, false, List, [], length, Option, Some, None, refl, ap, sym, ◌∙◌, subst, arith, inl, inr}
use Rattle.std.proofs.lemmas.Bool.{true≢false, eq-eqb, cases_order}
use Rattle.rx_rules.proofs.Common.{TaskId, Tree, AllowedAct, Allowed, made, tree_of, Reached, IsOlder}
use Rattle.rx_base.proofs.SameIds.{task-is}
use Rattle.rx_rules.specs.declared.entries.Act.{Act}
use Rattle.rx_rules.specs.declared.entries.Act.TheVariants.{Spawn as SpawnAct, Release as ReleaseAct}
use Rattle.rx_rules.specs.declared.entries.Entry.{Entry}
use Rattle.rx_rules.specs.declared.entries.Entry.TheVariants.{Step, Root as RootEntry}
use Rattle.rx_tree_laws.proofs.Histories.{reached_now, dead-now}
use Rattle.rx_finish.specs.declared.ledger.Outcome.{Outcome}
use Rattle.rx_coordinator.specs.declared.requests.Request.{Request}
use Rattle.rx_coordinator.specs.declared.requests.Request.TheVariants.{Release, Root}
use Rattle.rx_coordinator.specs.declared.requests.Answer.{Answer}
use Rattle.rx_coordinator.specs.declared.waiters.Waiter.{Waiter}
use Rattle.rx_coordinator.specs.declared.waiters.Waiter.TheVariants.{Task as TaskWaits, Root as Host}
use Rattle.rx_coordinator.specs.declared.waiters.Waiters.{Waiters}
use Rattle.rx_coordinator.specs.Telling.{seat_of, seat_told}
use Rattle.rx_coordinator.specs.Waiters.{waiter_at}
use Rattle.rx_coordinator.specs.Stands.{IsReplyTo, Told, May}
use Rattle.rx_coordinator.specs.Parking.{WaiterIsThere, PassedBy, FreedFrom, waiter_of, request_of, answer_to}
use Rattle.rx_coordinator.specs.Inside.Walks.{IsSame}
use Rattle.rx_coordinator.proofs.Telling.{others_told, told_some}
use Rattle.rx_coordinator.proofs.Newcomers.{root_told}
use Rattle.rx_lines.specs.Replies.{outcome_text}
use Rattle.rx_lines.specs.Session.{Are}
use Rattle.rx_lines.proofs.OneEntry.{item_one, released_names, root_names, one}
use Rattle.rx_lines.proofs.Asking.{may_told, row_still}
use Rattle.rx_lines.proofs.GoingBack.{Back, entry_back, no_change, back_on, may_back}
use Rattle.rx_lines.proofs.Viewing.{IsPut, Keeps, IsTree, IsMade, Lands, View, Rows, grows}
use Rattle.rx_lines.proofs.Viewing.View.{refused, short, parked, tells, sends}

-- whoever waits does so where the tree says
abbrev pub There : Tree → Waiters → Type 0
There T ws = (k : ℕ) (who : Waiter) → waiter_at ws k ≡ Some who → WaiterIsThere T k who

-- a tree that can be reached by so many entries, and those who wait in it
pub record Fine (T : Tree) (n : ℕ) (ws : Waiters) : Type 0 where
  pub reached : Reached T
  pub older : All (IsOlder n) T.dead
  pub there : There T ws

-- After an answer.

fine-tree : (T V : Tree) (n m : ℕ) (ws us : Waiters) → IsTree T n V m → Fine T n ws → There V us → Fine V m us
fine-tree T V n m ws us is f there =
    record {
      reached = subst Reached (sym is.0) f.reached;
      older = subst (λ (k : ℕ). All (IsOlder k) V.dead) (sym is.1) (subst (λ (U : Tree). All (IsOlder n) U.dead) (sym is.0) f.older);
      there = there;
    }

made-reached : (T V : Tree) (n m : ℕ) (e : Entry) → IsMade T n e V m → Reached T → All (IsOlder n) T.dead → Allowed T e
    → Reached V × All (IsOlder m) V.dead
made-reached T V n m e is r o may = (
  subst Reached (sym is.0) (reached_now n T e r o may),
  subst (λ (k : ℕ). All (IsOlder k) V.dead) (sym is.1) (subst (λ (U : Tree). All (IsOlder (suc n)) U.dead) (sym is.0) (dead-now n T e o)),
)

made-back : (T V : Tree) (n m : ℕ) (e : Entry) → IsMade T n e V m → Reached T → Allowed T e → Back T V
made-back T V n m e is r may = subst (Back T) (sym is.0) (entry_back T r n e may)

module _ (T V : Tree) (n m : ℕ) (ws us : Waiters) (f : Fine T n ws) (q : Request) (a : Answer) where
  pub fine_view : View T n ws q a V m us → There V us → Fine V m us
  fine_view (refused h) there = fine-tree T V n m ws us h.3 f there
  fine_view (short h) there = fine-tree T V n m ws us h.2 f there
  fine_view (parked h) there = fine-tree T V n m ws us h.9 f there
  fine_view (tells h) there =
      let r = made-reached T V n m h.0 h.6 f.reached f.older h.3 in
      record { reached = r.0; older = r.1; there = there }
  fine_view (sends h) there = on h.10 where
    on : Lands (made n T h.3) (suc n) h.2.child V m → Fine V m us
    on (inl l) =
        let r = made-reached (made n T h.3) V (suc n) m l.0 l.3 (reached_now n T h.3 f.reached f.older h.7) (dead-now n T h.3 f.older) l.2 in
        record { reached = r.0; older = r.1; there = there }
    on (inr l) =
        record {
          reached = subst Reached (sym l.1.0) (reached_now n T h.3 f.reached f.older h.7);
          older = subst (λ (k : ℕ). All (IsOlder k) V.dead) (sym l.1.1) (subst (λ (U : Tree). All (IsOlder (suc n)) U.dead) (sym l.1.0) (dead-now n T h.3 f.older));
          there = there;
        }

  pub back_view : View T n ws q a V m us → Back T V
  back_view (refused h) = no_change T V h.3.0
  back_view (short h) = no_change T V h.2.0
  back_view (parked h) = no_change T V h.9.0
  back_view (tells h) = made-back T V n m h.0 h.6 f.reached h.3
  back_view (sends h) =
      back_on T (made n T h.3) V grew (entry_back T f.reached n h.3 h.7) (on h.10)
    where
      grew : T.next_task ≤ (made n T h.3).next_task
      grew =
          let more = ap (λ (e : Entry). (made n T e).next_task) h.6.1 in
          let one_more : (made n T (Step h.0 (SpawnAct h.2.child h.2.scope h.6.0 h.1 []) [])).next_task ≡ suc T.next_task = refl in
          omega (arith, more, one_more)

      on : Lands (made n T h.3) (suc n) h.2.child V m → Back (made n T h.3) V
      on (inl l) = made-back (made n T h.3) V (suc n) m l.0 l.3 (reached_now n T h.3 f.reached f.older h.7) l.2
      on (inr l) = no_change (made n T h.3) V l.1.0

-- Rows after two answers.

-- who asks for a release waits at one scope
one-row : (T : Tree) (q : Request) (who : Waiter) (k l : ℕ) → waiter_of q ≡ Some who → May T q → WaiterIsThere T k who
    → WaiterIsThere T l who → k ≡ l
one-row T (Release t) who k l is may at to = by who (item_one (Some (TaskWaits t)) who (TaskWaits t) is refl) at to where
  by : (z : Waiter) → z ≡ TaskWaits t → WaiterIsThere T k z → WaiterIsThere T l z → k ≡ l
  by z e x y =
      let told : seat_told T t ≡ Some (seat_of T may.task) = told_some T t may.task (seat_of T may.task) may.stands may.unstruck refl in
      let here : WaiterIsThere T k (TaskWaits t) = subst (WaiterIsThere T k) e x in
      let there : WaiterIsThere T l (TaskWaits t) = subst (WaiterIsThere T l) e y in
      sym (here.1 (seat_of T may.task) told).1 ∙ (there.1 (seat_of T may.task) told).1
one-row T Root who k l is may at to =
    let e : who ≡ Host = item_one (Some Host) who Host is refl in
    let here : k ≡ 0 = subst (WaiterIsThere T k) e at in
    let there : l ≡ 0 = subst (WaiterIsThere T l) e to in
    here ∙ sym there
one-row T _ who k l is may at to = absurd (let v : ⊥ = cc in v)

put-here : (n : ℕ) (who : Waiter) (ws us : Waiters) → IsPut n who ws us → waiter_at us n ≡ Some who
put-here n who ws us put = put n ∙ ap (λ (b : Bool). cond b (Some who) (waiter_at ws n)) (eq-eqb n n refl)

module _ (T V : Tree) (ws vs us xs : Waiters) (back : Back T V) (at : There T ws) where
  same-keeps : IsSame ws us → IsSame vs xs → Keeps T ws vs → Keeps V us xs
  same-keeps here there on k who may i =
      let old : waiter_at ws k ≡ Some who = sym (here k) ∙ i in
      there k ∙ on k who (may_back T V back k who (at k who old) may) old

  put-keeps : (n : ℕ) (z : Waiter) → IsPut n z ws us → IsPut n z vs xs → Keeps T ws vs → Keeps V us xs
  put-keeps n z here there on k who may i =
      there k ∙ (elim (k == n) as (λ b. cond b (Some z) (waiter_at ws k) ≡ Some who → cond b (Some z) (waiter_at vs k) ≡ Some who) [
        | true ↦ λ j. j
        | false ↦ λ j. on k who (may_back T V back k who (at k who j) may) j
      ]) (sym (here k) ∙ i)

-- who waits in the one waits in the other, after an answer too
pub rows_keep : (T V : Tree) (q : Request) (ws vs us xs : Waiters) → Back T V → There T ws → There V us → There V xs → Keeps T ws vs
    → Rows T q V ws vs us xs → Keeps V us xs
rows_keep T V q ws vs us xs back at here there on (inl h) = same-keeps T V ws vs us xs back at h.0 h.1 on
rows_keep T V q ws vs us xs back at here there on (inr h) =
    let may : May V q = subst (λ (U : Tree). May U q) (sym h.5) h.4 in
    let same : h.1.0 ≡ h.2.0 = one-row V q h.0 h.1.0 h.2.0 h.3 may (here h.1.0 h.0 (put-here h.1.0 h.0 ws us h.6)) (there h.2.0 h.0 (put-here h.2.0 h.0 vs xs h.7)) in
    put-keeps T V ws vs us xs back at h.1.0 h.0 h.6 (subst (λ (n : ℕ). IsPut n h.0 vs xs) (sym same) h.7) on

pub rows_turned : (T V : Tree) (q : Request) (ws vs us xs : Waiters) → Rows T q V ws vs us xs → Rows T q V vs ws xs us
rows_turned T V q ws vs us xs (inl h) = inl (h.1, h.0)
rows_turned T V q ws vs us xs (inr h) = inr (h.0, h.2, h.1, h.3, h.4, h.5, h.7, h.6)

-- A release that has waited, said of trees.

pub record FreedAt (T : Tree) (n : ℕ) (ws : Waiters) (who : Waiter) (o : Outcome) (V : Tree) (m : ℕ) (us : Waiters) : Type 0 where
  pub row : ℕ
  pub here : waiter_at ws row ≡ Some who
  pub gone : waiter_at us row ≡ None
  pub entry : Entry
  pub told : Told T (request_of who) (answer_to who o) entry
  pub may : Allowed T entry
  pub is : IsMade T n entry V m
  pub before : (k : ℕ) → k < row → PassedBy T k (waiter_at ws k) (waiter_at us k)
  pub later : (k : ℕ) → row < k → waiter_at us k ≡ waiter_at ws k

-- the entry of a release
abbrev Makes : ℕ → List Entry → Waiter → Outcome → List Entry → Type 0
Makes p es who o fs =
    (e : Entry) × Told (tree_of p es) (request_of who) (answer_to who o) e × Allowed (tree_of p es) e × IsMade (tree_of p es) (length es) e (tree_of p fs) (length fs)

makes : (p : ℕ) (es fs : List Entry) (who : Waiter) (o : Outcome) → IsReplyTo p es (request_of who) (answer_to who o) (Are fs)
    → Makes p es who o fs
makes p es fs (TaskWaits t) o k = (k.0, k.1, k.2, grows p es fs k.0 k.3)
makes p es fs Host o k = (k.0, k.1, k.2, grows p es fs k.0 k.3)

pub freed_at : (p : ℕ) (es fs : List Entry) (ws us : Waiters) (n : ℕ) (who : Waiter) (o : Outcome) → FreedFrom p es n who o ws (Are fs) us
    → FreedAt (tree_of p es) (length es) ws who o (tree_of p fs) (length fs) us
freed_at p es fs ws us n who o h =
    let k = makes p es fs who o h.2 in
    record { row = n; here = h.0; gone = h.1; entry = k.0; told = k.1; may = k.2; is = k.3; before = h.3; later = h.4 }

-- who was passed by and waits still has waited
kept-row : (T : Tree) (k : ℕ) (o now : Option Waiter) (z : Waiter) → PassedBy T k o now → now ≡ Some z → o ≡ Some z
kept-row T k None now z h e = absurd (let v : ⊥ = cc in v)
kept-row T k (Some who) now z (inl h) e = sym h.1 ∙ e
kept-row T k (Some who) now z (inr h) e = absurd (let none : now ≡ None = h.1 in let v : ⊥ = cc in v)

-- and who may be released was not dropped
passed-on : (T : Tree) (k : ℕ) (o now : Option Waiter) (z : Waiter) → o ≡ Some z → May T (request_of z) → PassedBy T k o now
    → now ≡ Some z
passed-on T k o now z e may h = by (subst (λ (x : Option Waiter). PassedBy T k x now) e h) where
  by : PassedBy T k (Some z) now → now ≡ Some z
  by (inl i) = i.1
  by (inr i) = absurd (i.0 may)

-- all were passed by
abbrev pub Passed : Tree → Waiters → Waiters → Type 0
Passed T ws us = (k : ℕ) → PassedBy T k (waiter_at ws k) (waiter_at us k)

-- or stayed
abbrev pub Stayed : Tree → Waiters → Waiters → Type 0
Stayed T ws us = (k : ℕ) → (waiter_at us k ≡ waiter_at ws k) ⊎ PassedBy T k (waiter_at ws k) (waiter_at us k)

stayed-row : (T : Tree) (k : ℕ) (ws us : Waiters) (z : Waiter)
    → (waiter_at us k ≡ waiter_at ws k) ⊎ PassedBy T k (waiter_at ws k) (waiter_at us k) → waiter_at us k ≡ Some z
    → waiter_at ws k ≡ Some z
stayed-row T k ws us z (inl h) e = sym h ∙ e
stayed-row T k ws us z (inr h) e = kept-row T k (waiter_at ws k) (waiter_at us k) z h e

stayed-on : (T : Tree) (k : ℕ) (ws us : Waiters) (z : Waiter)
    → (waiter_at us k ≡ waiter_at ws k) ⊎ PassedBy T k (waiter_at ws k) (waiter_at us k) → waiter_at ws k ≡ Some z
    → May T (request_of z) → waiter_at us k ≡ Some z
stayed-on T k ws us z (inl h) e may = h ∙ e
stayed-on T k ws us z (inr h) e may = passed-on T k (waiter_at ws k) (waiter_at us k) z e may h

pub stayed_keep : (T V : Tree) (ws vs us xs : Waiters) → V ≡ T → Stayed T ws us → Stayed T vs xs → Keeps T ws vs → Keeps V us xs
stayed_keep T V ws vs us xs e here there on = subst (λ (U : Tree). Keeps U us xs) (sym e) (λ k z may i.
    stayed-on T k vs xs z (there k) (on k z may (stayed-row T k ws us z (here k) i)) may)

pub fine_stayed : (T V : Tree) (n m : ℕ) (ws us : Waiters) → IsTree T n V m → Stayed T ws us → Fine T n ws → Fine V m us
fine_stayed T V n m ws us is h f =
    fine-tree T V n m ws us is f (subst (λ (U : Tree). There U us) (sym is.0) (λ k z i. f.there k z (stayed-row T k ws us z (h k) i)))

module _ (T : Tree) (n : ℕ) (ws : Waiters) (f : Fine T n ws) (who : Waiter) (o : Outcome) (V : Tree) (m : ℕ) (us : Waiters) (x : FreedAt T n ws who o V m us) where
  pub freed_may : May T (request_of who)
  freed_may = may_told T (request_of who) (answer_to who o) x.entry x.told x.may

  -- it was not passed by
  pub not_passed : (now : Option Waiter) → PassedBy T x.row (Some who) now → ⊥
  not_passed now (inl h) =
      true≢false (sym (row_still T x.row who o x.entry x.told x.may (f.there x.row who x.here)) ∙ h.0.1)
  not_passed now (inr h) = h.0 freed_may

  -- nor is it where others were
  pub passes_not : (vs xs : Waiters) → Keeps T ws vs → PassedBy T x.row (waiter_at vs x.row) (waiter_at xs x.row) → ⊥
  passes_not vs xs on h =
      not_passed (waiter_at xs x.row) (subst (λ (y : Option Waiter). PassedBy T x.row y (waiter_at xs x.row)) (on x.row who freed_may x.here) h)

  -- the other rows stood there before
  row-before : (k : ℕ) (z : Waiter) → waiter_at us k ≡ Some z → (k ≡ x.row → ⊥) × (waiter_at ws k ≡ Some z)
  row-before k z i =
      elim (cases_order k x.row) [
        | inl same ↦ absurd (let none : None ≡ Some z = sym x.gone ∙ (ap (waiter_at us) (sym same) ∙ i) in let v : ⊥ = cc in v)
        | inr (inl low) ↦ (λ e. absurd (omega (arith, low, e)), kept-row T k (waiter_at ws k) (waiter_at us k) z (x.before k low) i)
        | inr (inr high) ↦ (λ e. absurd (omega (arith, high, e)), sym (x.later k high) ∙ i)
      ]

  pub freed_back : Back T V
  freed_back = made-back T V n m x.entry x.is f.reached x.may

  -- who waits there waits there still
  stays : (z : Waiter) → who ≡ z → Told T (request_of z) (answer_to z o) x.entry → (k : ℕ) (y : Waiter) → (k ≡ x.row → ⊥)
      → waiter_at ws k ≡ Some y → WaiterIsThere (made n T x.entry) k y
  stays z is told k Host apart i = f.there k Host i
  stays (TaskWaits t) is told k (TaskWaits u) apart i =
      let act : Act = ReleaseAct told.0 o.lost o.masked o.thrown in
      let may : AllowedAct T t act = subst (Allowed T) told.1 x.may in
      let seat : seat_told T t ≡ Some (seat_of T may.task) = told_some T t may.task (seat_of T may.task) may.stands may.unstruck refl in
      let at : WaiterIsThere T x.row (TaskWaits t) = subst (WaiterIsThere T x.row) is (f.there x.row who x.here) in
      let mine = (at.1 (seat_of T may.task) seat).1 in
      let there : WaiterIsThere T k (TaskWaits u) = f.there k (TaskWaits u) i in
      let other : (u.0 ≡ t.0 → ⊥) = λ e. apart (sym (there.1 (seat_of T may.task) (ap (λ (v : TaskId). seat_told T v) (task-is u t e) ∙ seat)).1 ∙ mine) in
      subst (λ (e : Entry). WaiterIsThere (made n T e) k (TaskWaits u)) (sym told.1)
      (there.0, λ w e. there.1 w (sym (others_told T f.reached t u other act may tt) ∙ e))
  stays Host is told k (TaskWaits u) apart i =
      let there : WaiterIsThere T k (TaskWaits u) = f.there k (TaskWaits u) i in
      let may : Allowed T (RootEntry o.lost o.masked o.thrown) = subst (Allowed T) told x.may in
      subst (λ (e : Entry). WaiterIsThere (made n T e) k (TaskWaits u)) (sym told)
      (there.0, λ w e. there.1 w (sym (root_told T f.reached may.2.is_quiet u) ∙ e))

  pub fine_freed : Fine V m us
  fine_freed =
      let r = made-reached T V n m x.entry x.is f.reached f.older x.may in
      record {
        reached = r.0;
        older = r.1;
        there = λ k z i.
            let old = row-before k z i in
            subst (λ (U : Tree). WaiterIsThere U k z) (sym x.is.0) (stays who refl x.told k z old.0 old.1);
      }

-- what two releases of one name
freed-text : (T : Tree) (n : ℕ) (who : Waiter) (o w : Outcome) (e f : Entry) → Told T (request_of who) (answer_to who o) e
    → Told T (request_of who) (answer_to who w) f → Allowed T e → Allowed T f → outcome_text o ≡ outcome_text w
freed-text T n (TaskWaits t) o w e f h k x y = released_names T n t o w e f h k x y
freed-text T n Host o w e f h k x y = root_names T n o w e f h k x y

-- Two sessions release the same.
module _ (T : Tree) (n : ℕ) (ws vs : Waiters) (f : Fine T n ws) (g : Fine T n vs) (on : Keeps T ws vs) (back : Keeps T vs ws)
    (who z : Waiter) (o w : Outcome) (V W : Tree) (m k : ℕ) (us xs : Waiters) (x : FreedAt T n ws who o V m us) (y : FreedAt T n vs z w W k xs) where
  row-one : x.row ≡ y.row
  row-one =
      elim (cases_order x.row y.row) [
        | inl same ↦ same
        | inr (inl low) ↦ absurd (passes_not T n ws f who o V m us x vs xs on (y.before x.row low))
        | inr (inr low) ↦ absurd (passes_not T n vs g z w W k xs y ws us back (x.before y.row low))
      ]

  freed_who : z ≡ who
  freed_who = item_one (waiter_at vs y.row) z who y.here (ap (waiter_at vs) (sym row-one) ∙ on x.row who (freed_may T n ws f who o V m us x) x.here)

  told-here : Told T (request_of who) (answer_to who w) y.entry
  told-here = subst (λ (v : Waiter). Told T (request_of v) (answer_to v w) y.entry) freed_who y.told

  freed_names : outcome_text o ≡ outcome_text w
  freed_names = freed-text T n who o w x.entry y.entry x.told told-here x.may y.may

  freed_tree : IsTree V m W k
  freed_tree =
      let same = one T n (request_of who) (answer_to who o) (answer_to who w) x.entry y.entry x.told told-here x.may y.may in
      (y.is.0 ∙ (sym same.1 ∙ sym x.is.0), y.is.1 ∙ sym x.is.1)

  freed_keep : Keeps V us xs
  freed_keep l p may i =
      let old = row-before T n ws f who o V m us x l p i in
      let before = may_back T V (freed_back T n ws f who o V m us x) l p (f.there l p old.1) may in
      let there : waiter_at vs l ≡ Some p = on l p before old.1 in
      elim (cases_order l y.row) [
        | inl same ↦ absurd (old.0 (same ∙ sym row-one))
        | inr (inl low) ↦ passed-on T l (waiter_at vs l) (waiter_at xs l) p there before (y.before l low)
        | inr (inr high) ↦ y.later l high ∙ there
      ]

  pub freed_both : (who ≡ z) × (outcome_text o ≡ outcome_text w) × IsTree V m W k × Keeps V us xs
  freed_both = (sym freed_who, freed_names, freed_tree, freed_keep)
