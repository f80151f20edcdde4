-- What each request does to those who wait.
use Rattle.std.proofs.Common.{◌≡◌, ◌≢◌, ◌⊎◌, ℕ, ◌<◌, ◌==◌, Bool, true, false, not, ◌&&◌, cond, List, [], ◌∷◌, ◌++◌, length, Option, Some, None, is_some, refl, ap, ◌∙◌, sym, subst, arith, inl, inr}
use Rattle.std.specs.List.{find}
use Rattle.std.proofs.lemmas.Bool.{true≢false, eq-eqb, eqb-true, eqb-false, ne_eqb, cases_lt}
use Rattle.rx_rules.proofs.Common.{TaskId, ScopeId, PlaceId, PlaceSet, Fault, Tree, is_task, task_of, is_under, inner, quiet, on_chain, the_root, Allowed, AllowedAct, made_act, resumed, without, tree_of, Reached, acts}
use Rattle.rx_base.proofs.SameIds.{task-is, scope-is}
use Rattle.rx_rules.specs.declared.tasks.Where.{Where}
use Rattle.rx_rules.specs.declared.tasks.Where.TheVariants.{At, Travel}
use Rattle.rx_rules.specs.declared.tasks.Blow.{Blow}
use Rattle.rx_rules.specs.declared.tasks.Task.{Task}
use Rattle.rx_rules.specs.declared.entries.Act.{Act}
use Rattle.rx_rules.specs.declared.entries.Act.TheVariants.{Open as OpenAct, At as CallAct, Spawn as SpawnAct, Arrive as ArriveAct, Wait as WaitAct, Release as ReleaseAct, End as EndAct, Print as PrintAct, Census as CensusAct}
use Rattle.rx_rules.specs.declared.entries.Entry.{Entry}
use Rattle.rx_rules.specs.declared.entries.Entry.TheVariants.{Step, Join as JoinEntry, Death as DeathEntry, Root as RootEntry}
use Rattle.rx_rules.proofs.Append.{tree-push}
use Rattle.rx_tree_laws.proofs.Reached.{sound}
use Rattle.rx_tree_laws.proofs.Stay.{find_filter}
use Rattle.rx_tree_laws.proofs.Reach.{task_below}
use Rattle.rx_tree_laws.proofs.Opening.{own_place}
use Rattle.rx_tree_laws.proofs.Freeing.{way_stays}
use Rattle.rx_finish.specs.declared.ledger.Outcome.{Outcome}
use Rattle.rx_coordinator.specs.declared.seats.Seat.{Seat}
use Rattle.rx_coordinator.specs.declared.coordinator.Coordinator.{Coordinator}
use Rattle.rx_coordinator.specs.declared.requests.Request.{Request}
use Rattle.rx_coordinator.specs.declared.requests.Request.TheVariants.{Open, At as CallIt, Spawn, Send, Arrive, Wait, Release, End, Death, Join, Root}
use Rattle.rx_coordinator.specs.declared.requests.Answer.{Answer}
use Rattle.rx_coordinator.specs.declared.requests.Answer.TheVariants.{Bad, Full, NoMemory, NotYet, Opened, Called, Spawned, Sent, Landed, Waits, Released, Ended, Died, Joined, RootDone}
use Rattle.rx_coordinator.specs.declared.waiters.Waiter.{Waiter}
use Rattle.rx_coordinator.specs.declared.waiters.Waiter.TheVariants.{Task as TaskWaits, Root as Host}
use Rattle.rx_coordinator.specs.declared.waiters.Waiters.{Waiters}
use Rattle.rx_coordinator.specs.declared.waiters.Due.{Due}
use Rattle.rx_coordinator.specs.declared.parking.Parking.{Parking}
use Rattle.rx_coordinator.specs.Telling.{seat_of, seat_told}
use Rattle.rx_coordinator.specs.Waiters.{waiter_at, ScopeIsDue}
use Rattle.rx_coordinator.specs.Seats.{seat_at}
use Rattle.rx_coordinator.specs.Inside.Rows.{held_in, scope_in}
use Rattle.rx_coordinator.specs.Inside.Walks.{AllThere, AllDue, NextDue, ParkedIs, IsLeft}
use Rattle.rx_coordinator.specs.Stands.{StandsAfter, IsReplyTo, Landing, Awaits, May, Busy}
use Rattle.rx_coordinator.specs.Parking.{AllWait, Parks, WaiterIsThere, HasToWait, IsParked, Puts, AskedBeside, PassedBy, waiter_of, request_of, answer_to, scope_numbered}
use Rattle.rx_coordinator.proofs.Telling.{told_some, own_open, own_call, own_spawn, own_arrive, own_wait}
use Rattle.rx_coordinator.proofs.Asking.{Seated, seated}
use Rattle.rx_coordinator.proofs.Waiting.{NotAmong, own_waits, act_waits, all_there, end_waits, fewer_wait, join_waits, death_waits, root_waits}
use Rattle.rx_ledger.proofs.GoesOn.{found_changed, free_stays}

-- a task that does not wait is none of those who wait
pub not_among : (T : Tree) (t : TaskId) (x : Task) → task_of T t ≡ Some x → x.struck ≡ None → (x.waits ≡ true → ⊥) → (ws : Waiters) (d : Due) → AllWait T ws d → NotAmong ws t
not_among T t x found free off ws d h n u e = λ k.
    let same : u ≡ t = task-is u t k in
    let told : seat_told T t ≡ Some (seat_of T x) = told_some T t x (seat_of T x) found free refl in
    let at : seat_told T u ≡ Some (seat_of T x) = ap (λ (v : TaskId). seat_told T v) same ∙ told in
    off ((h.there n (TaskWaits u) e).1 (seat_of T x) at).0

not_waiting : (x : Task) → x.waits ≡ false → x.waits ≡ true → ⊥
not_waiting x off on = true≢false (sym on ∙ off)

at_or_away : (p from to : PlaceId) (v : Where) → v ≡ At p → v ≡ Travel from to → ⊥
at_or_away p from to v a b = (let both : At p ≡ Travel from to = sym a ∙ b in let x : ⊥ = cc in x)

-- a task that travels does not wait
still_away : (T : Tree) → Reached T → (t : TaskId) (x : Task) → task_of T t ≡ Some x → x.struck ≡ None → (from to : PlaceId) → x.place ≡ Travel from to → x.waits ≡ true → ⊥
still_away T r t x found free from to away on =
    let told : seat_told T t ≡ Some (seat_of T x) = told_some T t x (seat_of T x) found free refl in
    let own = own_waits T t (seat_of T x) r told on in
    at_or_away own.0.home from to x.place (own_place T.tasks T.scopes t x own.0 (sound r).opened found own.1) away

-- acts of a task that moves
abbrev pub Moves : Act → Type 0
Moves (ReleaseAct s lost masked thrown) = ⊥
Moves (EndAct thrown) = ⊥
Moves (PrintAct value path) = ⊥
Moves (CensusAct places path) = ⊥
Moves _ = Unit {0}

module _ (T : Tree) (r : Reached T) (t : TaskId) (ws : Waiters) (d : Due) (h : AllWait T ws d) where
  own_row : (act : Act) (may : AllowedAct T t act) → seat_told T t ≡ Some (seat_of T may.task)
  own_row act may = told_some T t may.task (seat_of T may.task) may.stands may.unstruck refl

  pub moves_wait : (act : Act) → AllowedAct T t act → Moves act → AllWait (made_act T t act) ws d
  moves_wait (OpenAct s q path) may ok =
      let act : Act = OpenAct s q path in
      let own = own_open T r t (seat_of T may.task) (own_row act may) s q path may in
      let y = seated (made_act T t act) t _ own in
      act_waits T r t act may y.task _ y.stands own (acts t act r may) (λ u low. tt) (omega arith) ws d
      (not_among T t may.task may.stands may.unstruck (not_waiting may.task may.asks.0.1.1) ws d h) h
  moves_wait (CallAct from to s q callee path) may ok =
      let act : Act = CallAct from to s q callee path in
      let own = own_call T r t (seat_of T may.task) (own_row act may) from to s q callee path may in
      let y = seated (made_act T t act) t _ own in
      let next : callee.0 ≡ T.next_task = may.asks.3 in
      act_waits T r t act may y.task _ y.stands own (acts t act r may) (λ u low. λ e. absurd (omega (arith, e, low, next))) (omega arith) ws d
      (not_among T t may.task may.stands may.unstruck (not_waiting may.task may.asks.0.1) ws d h) h
  moves_wait (SpawnAct child s from to path) may ok =
      let act : Act = SpawnAct child s from to path in
      let own = own_spawn T r t (seat_of T may.task) (own_row act may) child s from to path may in
      let y = seated (made_act T t act) t _ own in
      let next : child.0 ≡ T.next_task = may.asks.1 in
      act_waits T r t act may y.task _ y.stands own (acts t act r may) (λ u low. λ e. absurd (omega (arith, e, low, next))) (omega arith) ws d
      (not_among T t may.task may.stands may.unstruck (not_waiting may.task may.asks.0.1) ws d h) h
  moves_wait (ArriveAct p) may ok =
      let act : Act = ArriveAct p in
      let own = own_arrive T r t (seat_of T may.task) (own_row act may) p may in
      let y = seated (made_act T t act) t _ own in
      act_waits T r t act may y.task _ y.stands own (acts t act r may) (λ u low. tt) (omega arith) ws d
      (not_among T t may.task may.stands may.unstruck (still_away T r t may.task may.stands may.unstruck may.asks.0 p may.asks.1) ws d h) h
  moves_wait (WaitAct s thrown) may ok =
      let act : Act = WaitAct s thrown in
      let own = own_wait T r t (seat_of T may.task) (own_row act may) s thrown may in
      let y = seated (made_act T t act) t _ own in
      act_waits T r t act may y.task _ y.stands own (acts t act r may) (λ u low. tt) (omega arith) ws d
      (not_among T t may.task may.stands may.unstruck (not_waiting may.task may.asks.0.1.1) ws d h) h
  moves_wait _ may ok = absurd ok

  -- a task that is none of those who wait releases its scope
  pub release_waits : (s : ScopeId) (lost : PlaceSet) (masked : ℕ) (thrown : List Fault) → AllowedAct T t (ReleaseAct s lost masked thrown) → NotAmong ws t → AllWait (made_act T t (ReleaseAct s lost masked thrown)) ws d
  release_waits s lost masked thrown may apart =
      let act : Act = ReleaseAct s lost masked thrown in
      let V : Tree = made_act T t act in
      let x = may.task in
      let left : find (is_task t) (without T s).tasks ≡ Some x = find_filter (is_task t) (λ y. not (is_under T s y && is_some y.struck)) T.tasks x may.stands (free_stays (is_under T s x) x.struck may.unstruck) in
      let there : task_of V t ≡ Some (resumed x) = found_changed resumed t (without T s).tasks x (λ y. refl) left in
      let own = told_some V t (resumed x) (seat_of V (resumed x)) there may.unstruck refl in
      act_waits T r t act may (resumed x) _ there own (acts t act r may) (λ u low. tt) (omega arith) ws d apart h

-- Answers.

-- the coordinator with those who wait
abbrev pub parking : Coordinator → Waiters → Due → Parking
parking c ws d = record { core = c; waiters = ws; due = d }

abbrev pub Kept : Coordinator → Waiters → Due → ℕ → List Entry → Type 0
Kept c ws d p es = Parks (parking c ws d) p es

pub kept : (c : Coordinator) (ws : Waiters) (d : Due) (p : ℕ) (es : List Entry) → StandsAfter c p es → AllWait (tree_of p es) ws d → Kept c ws d p es
kept c ws d p es st h = record { stands = st; all = h }

-- one step more
pub after_step : (p : ℕ) (es : List Entry) (t : TaskId) (act : Act) (e : Entry) (ws : Waiters) (d : Due) → e ≡ Step t act [] → AllWait (made_act (tree_of p es) t act) ws d → AllWait (tree_of p (es ++ e ∷ [])) ws d
after_step p es t act e ws d is h =
    subst (λ (f : Entry). AllWait (tree_of p (es ++ f ∷ [])) ws d) (sym is) (subst (λ (V : Tree). AllWait V ws d) (sym (tree-push p es (Step t act []))) h)

-- a step of a task that moves
step_moves : (p : ℕ) (es : List Entry) (t : TaskId) (act : Act) (e : Entry) (ws : Waiters) (d : Due) → Reached (tree_of p es) → AllWait (tree_of p es) ws d → e ≡ Step t act [] → Allowed (tree_of p es) e → Moves act → AllWait (tree_of p (es ++ e ∷ [])) ws d
step_moves p es t act e ws d r h is may ok =
    after_step p es t act e ws d is (moves_wait (tree_of p es) r t ws d h act (subst (Allowed (tree_of p es)) is may) ok)

-- requests that leave it to others who waits
abbrev pub LeavesOthers : Request → Type 0
LeavesOthers (Release t) = ⊥
LeavesOthers (End t thrown) = ⊥
LeavesOthers (Death d) = ⊥
LeavesOthers Root = ⊥
LeavesOthers _ = Unit {0}

module _ (p : ℕ) (es : List Entry) (c : Coordinator) (ws : Waiters) (d : Due) (r : Reached (tree_of p es)) (h : AllWait (tree_of p es) ws d) where
  lands : (e : Entry) (t : TaskId) → Reached (tree_of p (es ++ e ∷ [])) → AllWait (tree_of p (es ++ e ∷ [])) ws d → Landing p (es ++ e ∷ []) t (StandsAfter c p) → Landing p (es ++ e ∷ []) t (Kept c ws d p)
  lands e t r2 h2 (inl l) =
      inl (l.0, l.1, l.2, kept c ws d p _ l.3 (step_moves p (es ++ e ∷ []) t (ArriveAct l.1.0) l.0 ws d r2 h2 l.1.1 l.2 tt))
  lands e t r2 h2 (inr l) = inr (l.0, kept c ws d p _ l.1 h2)

  -- each entry that the request may make leaves all who wait
  pub asked_moving : (q : Request) (a : Answer) → LeavesOthers q → IsReplyTo p es q a (StandsAfter c p) → IsReplyTo p es q a (Kept c ws d p)
  asked_moving q Bad ok k = (k.0, kept c ws d p es k.1 h)
  asked_moving q Full ok k = (k.0, k.1, kept c ws d p es k.2 h)
  asked_moving q NoMemory ok k = (k.0, kept c ws d p es k.1 h)
  asked_moving q (NotYet place) ok k = (k.0, k.1, kept c ws d p es k.2 h)
  asked_moving (Open t) (Opened s) ok k =
      (k.0, k.1, k.2, kept c ws d p _ k.3 (step_moves p es t (OpenAct s k.1.0 []) k.0 ws d r h k.1.1 k.2 tt))
  asked_moving (CallIt t to) (Called b) ok k =
      (k.0, k.1, k.2, kept c ws d p _ k.3 (step_moves p es t (CallAct k.1.0 to b.scope k.1.1 b.child []) k.0 ws d r h k.1.2 k.2 tt))
  asked_moving (Spawn t to) (Spawned b) ok k =
      (k.0, k.1, k.2, kept c ws d p _ k.3 (step_moves p es t (SpawnAct b.child b.scope k.1.0 to []) k.0 ws d r h k.1.1 k.2 tt))
  asked_moving (Send t to) (Sent b) ok k =
      let act : Act = SpawnAct b.child b.scope k.1.0 to [] in
      let may : AllowedAct (tree_of p es) t act = subst (Allowed (tree_of p es)) k.1.1 k.2 in
      let r2 : Reached (tree_of p (es ++ k.0 ∷ [])) = subst (λ (f : Entry). Reached (tree_of p (es ++ f ∷ []))) (sym k.1.1) (subst Reached (sym (tree-push p es (Step t act []))) (acts t act r may)) in
      let h2 = step_moves p es t act k.0 ws d r h k.1.1 k.2 tt in
      (k.0, k.1, k.2, lands k.0 b.child r2 h2 k.3)
  asked_moving (Arrive t) Landed ok k =
      (k.0, k.1, k.2, kept c ws d p _ k.3 (step_moves p es t (ArriveAct k.1.0) k.0 ws d r h k.1.1 k.2 tt))
  asked_moving (Wait t thrown) Waits ok k =
      (k.0, k.1, k.2, kept c ws d p _ k.3 (step_moves p es t (WaitAct k.1.0 thrown) k.0 ws d r h k.1.1 k.2 tt))
  asked_moving Join (Joined q) ok k =
      (k.0, k.1, k.2, kept c ws d p _ k.3 (subst (λ (f : Entry). AllWait (tree_of p (es ++ f ∷ [])) ws d) (sym k.1) (subst (λ (V : Tree). AllWait V ws d) (sym (tree-push p es (JoinEntry q))) (join_waits (tree_of p es) ws d h))))
  asked_moving (Release t) _ ok k = absurd ok
  asked_moving (End t thrown) _ ok k = absurd ok
  asked_moving (Death q) _ ok k = absurd ok
  asked_moving Root _ ok k = absurd ok
  asked_moving _ _ ok k = absurd k.1

-- who held no scope does not wait
pub none_held : (c : Coordinator) (p : ℕ) (es : List Entry) → StandsAfter c p es → (t : TaskId) → ((w : Seat) → held_in (seat_at c.seats t.0) ≡ Some w → ⊥) → Awaits (tree_of p es) t → ⊥
none_held c p es st t none a =
    let w = seat_of (tree_of p es) a.task in
    let row : seat_at c.seats t.0 ≡ Some w = st.seats t ∙ told_some (tree_of p es) t a.task w a.stands a.unstruck refl in
    none w (ap held_in row ∙ ap (λ (b : Bool). cond b (Some w) None) a.waits)

-- a task that waits at a scope for which it is not among those who wait is not among them at all
pub not_parked : (T : Tree) (t : TaskId) (w : Seat) → seat_told T t ≡ Some w → (ws : Waiters) (d : Due) → AllWait T ws d → (waiter_at ws w.who.inner.0 ≡ Some (TaskWaits t) → ⊥) → NotAmong ws t
not_parked T t w told ws d h none n u e = λ k.
    let same : u ≡ t = task-is u t k in
    let at : seat_told T u ≡ Some w = ap (λ (v : TaskId). seat_told T v) same ∙ told in
    let row = (h.there n (TaskWaits u) e).1 w at in
    none (ap (waiter_at ws) row.1 ∙ (e ∙ ap (λ (v : TaskId). Some (TaskWaits v)) same))

-- nor is it parked
pub none_parked : (ws : Waiters) (t : TaskId) → NotAmong ws t → IsParked ws (Some (TaskWaits t)) → ⊥
none_parked ws t apart k = apart k.0 t k.1 refl

-- one more waits
pub one_waits_more : (T : Tree) (ws us : Waiters) (d : Due) (s : ScopeId) (who : Waiter) → ((n : ℕ) → waiter_at us n ≡ cond (n == s.0) (Some who) (waiter_at ws n)) → WaiterIsThere T s.0 who → HasToWait T s.0 who → AllWait T ws d → AllWait T us d
one_waits_more T ws us d s who put at has h = record { there = λ n z e. each n z e (WaiterIsThere T) at (h.there n z); wait = λ n z e. each n z e (λ m y. ScopeIsDue d m ⊎ HasToWait T m y) (inr has) (h.wait n z) } where
  each : (n : ℕ) (z : Waiter) → waiter_at us n ≡ Some z → (P : ℕ → Waiter → Type 0) → P s.0 who → (waiter_at ws n ≡ Some z → P n z) → P n z
  each n z e P new old =
      (elim (n == s.0) as (λ b. n == s.0 ≡ b → cond b (Some who) (waiter_at ws n) ≡ Some z → P n z) [
        | true ↦ λ i j. (let same : who ≡ z = cc in subst (λ (m : ℕ). P m z) (sym (eqb-true n s.0 i)) (subst (P s.0) same new))
        | false ↦ λ i j. old j
      ]) refl (sym (put n) ∙ e)

pub died_waits : (p : ℕ) (es : List Entry) (q : PlaceId) (e : Entry) (ws : Waiters) (d f : Due) → ((n : ℕ) → ScopeIsDue f n) → e ≡ DeathEntry q → AllWait (tree_of p es) ws d → AllWait (tree_of p (es ++ e ∷ [])) ws f
died_waits p es q e ws d f all is h =
    let b : Blow = record { place = q; entry = length es } in
    subst (λ (g : Entry). AllWait (tree_of p (es ++ g ∷ [])) ws f) (sym is) (subst (λ (V : Tree). AllWait V ws f) (sym (tree-push p es (DeathEntry q))) (death_waits (tree_of p es) b ws d f all h))

pub root_done : (p : ℕ) (es : List Entry) (lost : PlaceSet) (masked : ℕ) (thrown : List Fault) (e : Entry) (ws : Waiters) (d : Due) → Reached (tree_of p es) → e ≡ RootEntry lost masked thrown → Allowed (tree_of p es) e → AllWait (tree_of p es) ws d → AllWait (tree_of p (es ++ e ∷ [])) ws d
root_done p es lost masked thrown e ws d r is may h =
    let m : Allowed (tree_of p es) (RootEntry lost masked thrown) = subst (Allowed (tree_of p es)) is may in
    subst (λ (g : Entry). AllWait (tree_of p (es ++ g ∷ [])) ws d) (sym is) (subst (λ (V : Tree). AllWait V ws d) (sym (tree-push p es (RootEntry lost masked thrown))) (root_waits (tree_of p es) r m.2.is_quiet ws d h))

module _ (p : ℕ) (es : List Entry) (c : Coordinator) (ws : Waiters) (d : Due) (h : AllWait (tree_of p es) ws d) where
  -- an answer to a death that is not `Died`
  pub no_death_told : (q : PlaceId) (a : Answer) → (a ≡ Died → ⊥) → IsReplyTo p es (Death q) a (StandsAfter c p) → IsReplyTo p es (Death q) a (Kept c ws d p)
  no_death_told q Bad out k = (k.0, kept c ws d p es k.1 h)
  no_death_told q Full out k = (k.0, k.1, kept c ws d p es k.2 h)
  no_death_told q NoMemory out k = (k.0, kept c ws d p es k.1 h)
  no_death_told q (NotYet place) out k = (k.0, k.1, kept c ws d p es k.2 h)
  no_death_told q Died out k = absurd (out refl)
  no_death_told q _ out k = absurd k.1

  -- an answer to an end that is not `Ended`
  pub no_end_told : (t : TaskId) (thrown : List Fault) (a : Answer) → (a ≡ Ended → ⊥) → IsReplyTo p es (End t thrown) a (StandsAfter c p) → IsReplyTo p es (End t thrown) a (Kept c ws d p)
  no_end_told t thrown Bad out k = (k.0, kept c ws d p es k.1 h)
  no_end_told t thrown Full out k = (k.0, k.1, kept c ws d p es k.2 h)
  no_end_told t thrown NoMemory out k = (k.0, kept c ws d p es k.1 h)
  no_end_told t thrown (NotYet place) out k = (k.0, k.1, kept c ws d p es k.2 h)
  no_end_told t thrown Ended out k = absurd (out refl)
  no_end_told t thrown _ out k = absurd k.1

  -- an answer to a release by one who does not wait yet that is not `NotYet`
  pub release_told : (t : TaskId) (a : Answer) → Reached (tree_of p es) → NotAmong ws t → ((place : PlaceId) → a ≡ NotYet place → ⊥) → IsReplyTo p es (Release t) a (StandsAfter c p) → IsReplyTo p es (Release t) a (Kept c ws d p) × Puts (Some (TaskWaits t)) a ws ws
  release_told t Bad r apart out k = ((k.0, kept c ws d p es k.1 h), λ n. refl)
  release_told t Full r apart out k = ((k.0, k.1, kept c ws d p es k.2 h), λ n. refl)
  release_told t NoMemory r apart out k = ((k.0, kept c ws d p es k.1 h), λ n. refl)
  release_told t (NotYet place) r apart out k = absurd (out place refl)
  release_told t (Released o) r apart out k =
      let act : Act = ReleaseAct k.1.0 o.lost o.masked o.thrown in
      let may : AllowedAct (tree_of p es) t act = subst (Allowed (tree_of p es)) k.1.1 k.2 in
      ((k.0, k.1, k.2, kept c ws d p _ k.3 (after_step p es t act k.0 ws d k.1.1 (release_waits (tree_of p es) r t ws d h k.1.0 o.lost o.masked o.thrown may apart))), λ n. refl)
  release_told t _ r apart out k = absurd k.1

  -- the same of the root
  pub root_release_told : (a : Answer) → Reached (tree_of p es) → ((place : PlaceId) → a ≡ NotYet place → ⊥) → IsReplyTo p es Root a (StandsAfter c p) → IsReplyTo p es Root a (Kept c ws d p) × Puts (Some Host) a ws ws
  root_release_told Bad r out k = ((k.0, kept c ws d p es k.1 h), λ n. refl)
  root_release_told Full r out k = ((k.0, k.1, kept c ws d p es k.2 h), λ n. refl)
  root_release_told NoMemory r out k = ((k.0, kept c ws d p es k.1 h), λ n. refl)
  root_release_told (NotYet place) r out k = absurd (out place refl)
  root_release_told (RootDone o) r out k =
      ((k.0, k.1, k.2, kept c ws d p _ k.3 (root_done p es o.lost o.masked o.thrown k.0 ws d r k.1 k.2 h)), λ n. refl)
  root_release_told _ r out k = absurd k.1

  -- who has to wait is put to those who wait, or memory ran out
  pub parked_told : (q : Request) (who : Waiter) (s : ScopeId) (place : PlaceId) (us : Waiters) (a : Answer) → waiter_of q ≡ Some who → May (tree_of p es) q → Busy (tree_of p es) q place → StandsAfter c p es → WaiterIsThere (tree_of p es) s.0 who → HasToWait (tree_of p es) s.0 who → ParkedIs s who place ws a us → IsReplyTo p es q a (Kept c us d p) × Puts (Some who) a ws us
  parked_told q who s place us (NotYet x) is may busy st at has k =
      ((may, subst (Busy (tree_of p es) q) (sym k.0) busy, kept c us d p es st (one_waits_more (tree_of p es) ws us d s who k.1 at has h)), (s, k.1))
  parked_told q who s place us NoMemory is may busy st at has k =
      ((may, kept c us d p es st (fewer_wait (tree_of p es) ws us d (λ n z e. sym (k n) ∙ e) h)), k)
  parked_told q who s place us _ is may busy st at has k = absurd k

-- the row of a task that has to wait
pub waits_told : (T : Tree) (t : TaskId) (w : Seat) → Reached T → seat_told T t ≡ Some w → (a : Seated T t w) → w.waits ≡ true → (place : PlaceId) → Busy T (Release t) place → WaiterIsThere T w.who.inner.0 (TaskWaits t) × HasToWait T w.who.inner.0 (TaskWaits t)
waits_told T t w r told a on place busy =
    let found : task_of T t ≡ Some busy.0 = busy.1 in
    let here : task_of T t ≡ Some a.task = a.stands in
    let same : busy.0 ≡ a.task = cc in
    let inside : inner T a.task ≡ w.who.inner = ap (λ (y : Seat). y.who.inner) a.is in
    let hindered : quiet T w.who.inner ≡ false = ap (quiet T) (sym (ap (λ (y : Task). inner T y) same ∙ inside)) ∙ busy.2.busy in
    ((task_below T.next_task T.tasks t a.task (sound r).tasks_fall a.stands, λ v e. rows v e), ((w, told), hindered))
  where
    rows : (v : Seat) → seat_told T t ≡ Some v → (v.waits ≡ true) × (v.who.inner.0 ≡ w.who.inner.0)
    rows v e =
        let both : Some w ≡ Some v = sym told ∙ e in
        let it : w ≡ v = cc in
        (sym (ap (λ (y : Seat). y.waits) it) ∙ on, sym (ap (λ (y : Seat). y.who.inner.0) it))

-- the host does not wait yet
pub no_host : (T : Tree) (ws : Waiters) (d : Due) → AllWait T ws d → (waiter_at ws 0 ≡ Some Host → ⊥) → IsParked ws (Some Host) → ⊥
no_host T ws d h none k = (let zero : k.0 ≡ 0 = h.there k.0 Host k.1 in none (ap (waiter_at ws) (sym zero) ∙ k.1))

-- A release that is asked for again.

module _ (p : ℕ) (es : List Entry) (ws : Waiters) (d : Due) (h : AllWait (tree_of p es) ws d) (r : Reached (tree_of p es)) (c : Coordinator) (s : ScopeId) (who : Waiter)
    (next : NextDue ws d (Some (s, who))) where
  -- without the row
  gone : (us : Waiters) → ((n : ℕ) → waiter_at us n ≡ cond (n == s.0) None (waiter_at ws n)) → (n : ℕ) (z : Waiter) → waiter_at us n ≡ Some z → (n ≢ s.0) × (waiter_at ws n ≡ Some z)
  gone us left n z e =
      (elim (n == s.0) as (λ b. n == s.0 ≡ b → cond b None (waiter_at ws n) ≡ Some z → (n ≢ s.0) × (waiter_at ws n ≡ Some z)) [
        | true ↦ λ i j. absurd (let v : ⊥ = cc in v)
        | false ↦ λ i j. (eqb-false n s.0 i, j)
      ]) refl (sym (left n) ∙ e)

  pub less : (us : Waiters) → ((n : ℕ) → waiter_at us n ≡ cond (n == s.0) None (waiter_at ws n)) → AllWait (tree_of p es) us d
  less us left = fewer_wait (tree_of p es) ws us d (λ n z e. (gone us left n z e).1) h

  -- the row of a task that is no more among those who wait
  alone : (us : Waiters) → ((n : ℕ) → waiter_at us n ≡ cond (n == s.0) None (waiter_at ws n)) → (t : TaskId) (w : Seat) → who ≡ TaskWaits t → seat_told (tree_of p es) t ≡ Some w → NotAmong us t
  alone us left t w is told n u e = λ k.
      let same : u ≡ t = task-is u t k in
      let g = gone us left n (TaskWaits u) e in
      let at : seat_told (tree_of p es) u ≡ Some w = ap (λ (v : TaskId). seat_told (tree_of p es) v) same ∙ told in
      let here = (h.there s.0 (TaskWaits t) (next.1 ∙ ap (λ (z : Waiter). Some z) is)).1 w told in
      let there = (h.there n (TaskWaits u) g.1).1 w at in
      g.0 (sym there.1 ∙ here.1)

  pub freed_told : (us : Waiters) → ((n : ℕ) → waiter_at us n ≡ cond (n == s.0) None (waiter_at ws n)) → (o : Outcome) (z : Waiter) → who ≡ z → IsReplyTo p es (request_of z) (answer_to z o) (StandsAfter c p) → IsReplyTo p es (request_of z) (answer_to z o) (Kept c us d p)
  freed_told us left o (TaskWaits t) is k =
      let act : Act = ReleaseAct k.1.0 o.lost o.masked o.thrown in
      let may : AllowedAct (tree_of p es) t act = subst (Allowed (tree_of p es)) k.1.1 k.2 in
      let told = told_some (tree_of p es) t may.task (seat_of (tree_of p es) may.task) may.stands may.unstruck refl in
      (k.0, k.1, k.2, kept c us d p _ k.3 (after_step p es t act k.0 us d k.1.1 (release_waits (tree_of p es) r t us d (less us left) k.1.0 o.lost o.masked o.thrown may (alone us left t _ is told))))
  freed_told us left o Host is k =
      (k.0, k.1, k.2, kept c us d p _ k.3 (root_done p es o.lost o.masked o.thrown k.0 us d r k.1 k.2 (less us left)))

  -- who has to wait on
  has : (z : Waiter) → who ≡ z → (place : PlaceId) → May (tree_of p es) (request_of z) → Busy (tree_of p es) (request_of z) place → HasToWait (tree_of p es) s.0 z
  has (TaskWaits t) is place may busy =
      let T : Tree = tree_of p es in
      let w = seat_of T may.task in
      let told : seat_told T t ≡ Some w = told_some T t may.task w may.stands may.unstruck refl in
      let row = (h.there s.0 (TaskWaits t) (next.1 ∙ ap (λ (y : Waiter). Some y) is)).1 w told in
      let found : task_of T t ≡ Some busy.0 = busy.1 in
      let here : task_of T t ≡ Some may.task = may.stands in
      let same : busy.0 ≡ may.task = cc in
      let inside : inner T busy.0 ≡ scope_numbered s.0 = ap (λ (y : Task). inner T y) same ∙ scope-is (inner T may.task) (scope_numbered s.0) row.1 in
      ((w, told), ap (quiet T) (sym inside) ∙ busy.2.busy)
  has Host is place may busy =
      let zero : s.0 ≡ 0 = h.there s.0 Host (next.1 ∙ ap (λ (y : Waiter). Some y) is) in
      (tt, ap (λ (n : ℕ). quiet (tree_of p es) (scope_numbered n)) zero ∙ busy.busy)

  -- those before it and after it
  later : (e : Due) → ((n : ℕ) → ScopeIsDue d n → ScopeIsDue d s.0 → s.0 < n → ScopeIsDue e n) → (n : ℕ) (z : Waiter) → waiter_at ws n ≡ Some z → n ≢ s.0 → ScopeIsDue d n ⊎ HasToWait (tree_of p es) n z → ScopeIsDue e n ⊎ HasToWait (tree_of p es) n z
  later e past n z i apart (inr k) = inr k
  later e past n z i apart (inl due) =
      elim (cases_lt n s.0) [
        | inl low ↦ absurd (let none : None ≡ Some z = sym (next.2 n due low) ∙ i in let v : ⊥ = cc in v)
        | inr high ↦ inl (past n due next.0 (omega (arith, high, apart)))
      ]

  pub waits_on : (e : Due) → ((n : ℕ) → ScopeIsDue d n → ScopeIsDue d s.0 → s.0 < n → ScopeIsDue e n) → (place : PlaceId) → IsReplyTo p es (request_of who) (NotYet place) (StandsAfter c p) → Kept c ws e p es
  waits_on e past place k = kept c ws e p es k.2 (record { there = h.there; wait = on }) where
    on : (n : ℕ) (z : Waiter) → waiter_at ws n ≡ Some z → ScopeIsDue e n ⊎ HasToWait (tree_of p es) n z
    on n z i =
        (elim (n == s.0) as (λ b. n == s.0 ≡ b → ScopeIsDue e n ⊎ HasToWait (tree_of p es) n z) [
          | true ↦ λ w.
              let same : n ≡ s.0 = eqb-true n s.0 w in
              let at : Some who ≡ Some z = sym next.1 ∙ (ap (waiter_at ws) (sym same) ∙ i) in
              let it : who ≡ z = cc in
              inr (subst (λ (m : ℕ). HasToWait (tree_of p es) m z) (sym same) (subst (HasToWait (tree_of p es) s.0) it (has who refl place k.0 k.1)))
          | false ↦ λ w. later e past n z i (eqb-false n s.0 w) (h.wait n z i)
        ]) refl

  pub drops : (us : Waiters) → ((n : ℕ) → waiter_at us n ≡ cond (n == s.0) None (waiter_at ws n)) → (e : Due) → ((n : ℕ) → ScopeIsDue d n → ScopeIsDue d s.0 → s.0 < n → ScopeIsDue e n) → IsReplyTo p es (request_of who) Bad (StandsAfter c p) → Kept c us e p es
  drops us left e past k =
      kept c us e p es k.1 (record {
        there = λ n z i. h.there n z (gone us left n z i).1;
        wait = λ n z i. (let g = gone us left n z i in later e past n z g.1 g.0 (h.wait n z g.1));
      })

-- no other answers to a release that is asked for again
pub short_told : (p : ℕ) (es : List Entry) (z : Waiter) (a : Answer) (S : List Entry → Type 0) → (a ≡ Bad → ⊥) → ((place : PlaceId) → a ≡ NotYet place → ⊥) → ((o : Outcome) → a ≡ Released o → ⊥) → ((o : Outcome) → a ≡ RootDone o → ⊥) → IsReplyTo p es (request_of z) a S → S es
short_told p es z Bad S bad yet done root k = absurd (bad refl)
short_told p es z Full S bad yet done root k = k.2
short_told p es z NoMemory S bad yet done root k = k.1
short_told p es z (NotYet place) S bad yet done root k = absurd (yet place refl)
short_told p es z (Released o) S bad yet done root k = absurd (done o refl)
short_told p es z (RootDone o) S bad yet done root k = absurd (root o refl)
short_told p es (TaskWaits t) _ S bad yet done root k = absurd k.1
short_told p es Host _ S bad yet done root k = absurd k.1

-- a release of a task is told of a task, and one of the root of the host
pub released_is : (p : ℕ) (es : List Entry) (z : Waiter) (o : Outcome) (S : List Entry → Type 0) → IsReplyTo p es (request_of z) (Released o) S → IsReplyTo p es (request_of z) (answer_to z o) S
released_is p es (TaskWaits t) o S k = k
released_is p es Host o S k = absurd k.1

pub root_is : (p : ℕ) (es : List Entry) (z : Waiter) (o : Outcome) (S : List Entry → Type 0) → IsReplyTo p es (request_of z) (RootDone o) S → IsReplyTo p es (request_of z) (answer_to z o) S
root_is p es (TaskWaits t) o S k = absurd k.1
root_is p es Host o S k = k

-- The end of a task.

-- what a row tells of the scope that its task hangs under
pub under_is : (c : Coordinator) (p : ℕ) (es : List Entry) → StandsAfter c p es → (t : TaskId) (act : Act) (may : AllowedAct (tree_of p es) t act) → scope_in (seat_at c.seats t.0) ≡ may.task.under
under_is c p es st t act may =
    ap scope_in (st.seats t ∙ told_some (tree_of p es) t may.task (seat_of (tree_of p es) may.task) may.stands may.unstruck refl)

module _ (p : ℕ) (es : List Entry) (t : TaskId) (thrown : List Fault) (e : Entry) (is : e ≡ Step t (EndAct thrown) []) (may : Allowed (tree_of p es) e) (r : Reached (tree_of p es)) where
  ends : AllowedAct (tree_of p es) t (EndAct thrown)
  ends = subst (Allowed (tree_of p es)) is may

  tree : tree_of p (es ++ e ∷ []) ≡ made_act (tree_of p es) t (EndAct thrown)
  tree = ap (λ (f : Entry). tree_of p (es ++ f ∷ [])) is ∙ tree-push p es (Step t (EndAct thrown) [])

  pub leads : (c : Coordinator) → StandsAfter c p es → on_chain (tree_of p (es ++ e ∷ [])) the_root (scope_in (seat_at c.seats t.0)) ≡ true
  leads c st =
      subst (λ (V : Tree). on_chain V the_root (scope_in (seat_at c.seats t.0)) ≡ true) (sym tree)
      (subst (λ (s : ScopeId). on_chain (made_act (tree_of p es) t (EndAct thrown)) the_root s ≡ true) (sym (under_is c p es st t (EndAct thrown) ends))
      (way_stays (tree_of p es) t thrown ends.task r ends ends.stands))

  pub end_told : (c : Coordinator) → StandsAfter c p es → (ws : Waiters) (d f : Due) → AllWait (tree_of p es) ws d → ((n : ℕ) → ScopeIsDue d n → ScopeIsDue f n)
      → (AllThere (tree_of p (es ++ e ∷ [])) ws d → AllDue (tree_of p (es ++ e ∷ [])) ws (scope_in (seat_at c.seats t.0)) f) → AllWait (tree_of p (es ++ e ∷ [])) ws f
  end_told c st ws d f h kept due =
      let T : Tree = tree_of p es in
      let apart = not_among T t ends.task ends.stands ends.unstruck (not_waiting ends.task ends.asks.0.1.1) ws d h in
      let there : AllThere (tree_of p (es ++ e ∷ [])) ws d = subst (λ (V : Tree). AllThere V ws d) (sym tree) (all_there T t thrown r ends ws d apart h) in
      let all : AllDue (made_act T t (EndAct thrown)) ws ends.task.under f =
      subst (λ (s : ScopeId). AllDue (made_act T t (EndAct thrown)) ws s f) (under_is c p es st t (EndAct thrown) ends)
      (subst (λ (V : Tree). AllDue V ws (scope_in (seat_at c.seats t.0)) f) tree (due there)) in
      subst (λ (V : Tree). AllWait V ws f) (sym tree) (end_waits T t thrown r ends ws d f apart h kept all)

-- Requests that are none of releases, ends and deaths.
pub others_beside : (p : ℕ) (es : List Entry) (q : Request) (a : Answer) (c : Coordinator) (ws : Waiters) (d : Due) → Reached (tree_of p es) → AllWait (tree_of p es) ws d
    → ((t : TaskId) → q ≡ Release t → ⊥) → (q ≡ Root → ⊥) → ((t : TaskId) (thrown : List Fault) → q ≡ End t thrown → ⊥) → ((x : PlaceId) → q ≡ Death x → ⊥)
    → IsReplyTo p es q a (StandsAfter c p) → AskedBeside p es q ws a (Kept c ws d p) ws
others_beside p es (Release t) a c ws d r h f g i j k = absurd (f t refl)
others_beside p es Root a c ws d r h f g i j k = absurd (g refl)
others_beside p es (End t thrown) a c ws d r h f g i j k = absurd (i t thrown refl)
others_beside p es (Death x) a c ws d r h f g i j k = absurd (j x refl)
others_beside p es (Open t) a c ws d r h f g i j k = inr ((λ x. absurd x), asked_moving p es c ws d r h (Open t) a tt k, λ n. refl)
others_beside p es (CallIt t to) a c ws d r h f g i j k = inr ((λ x. absurd x), asked_moving p es c ws d r h (CallIt t to) a tt k, λ n. refl)
others_beside p es (Spawn t to) a c ws d r h f g i j k = inr ((λ x. absurd x), asked_moving p es c ws d r h (Spawn t to) a tt k, λ n. refl)
others_beside p es (Send t to) a c ws d r h f g i j k = inr ((λ x. absurd x), asked_moving p es c ws d r h (Send t to) a tt k, λ n. refl)
others_beside p es (Arrive t) a c ws d r h f g i j k = inr ((λ x. absurd x), asked_moving p es c ws d r h (Arrive t) a tt k, λ n. refl)
others_beside p es (Wait t thrown) a c ws d r h f g i j k = inr ((λ x. absurd x), asked_moving p es c ws d r h (Wait t thrown) a tt k, λ n. refl)
others_beside p es Join a c ws d r h f g i j k = inr ((λ x. absurd x), asked_moving p es c ws d r h Join a tt k, λ n. refl)

-- Who was passed by.

pub passed_same : (T : Tree) (n : ℕ) (x y : Option Waiter) → y ≡ x → ((who : Waiter) → y ≡ Some who → HasToWait T n who) → PassedBy T n x y
passed_same T n None y e h = e
passed_same T n (Some who) y e h = inl (h who e, e)

pub passed_gone : (T : Tree) (n : ℕ) (x y : Option Waiter) (who : Waiter) → x ≡ Some who → (May T (request_of who) → ⊥) → y ≡ None → PassedBy T n x y
passed_gone T n None y who e bad none = absurd (let v : ⊥ = cc in v)
passed_gone T n (Some z) y who e bad none = inr ((let same : who ≡ z = cc in subst (λ (v : Waiter). May T (request_of v) → ⊥) same bad), none)

-- a row that is left is the same, or none
pub left_other : (n : ℕ) (ws us : Waiters) → IsLeft n ws us → (m : ℕ) → m ≢ n → waiter_at us m ≡ waiter_at ws m
left_other n ws us left m apart = left m ∙ ap (λ (b : Bool). cond b None (waiter_at ws m)) (ne_eqb m n apart)

pub left_none : (n : ℕ) (ws us : Waiters) → IsLeft n ws us → waiter_at us n ≡ None
left_none n ws us left = left n ∙ ap (λ (b : Bool). cond b None (waiter_at ws n)) (eq-eqb n n refl)
