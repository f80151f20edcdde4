-- What was noted of a request makes the entries for which its answer stands.
use Rattle.std.proofs.Common.{◌==◌, ◌||◌, not, ◌≡◌, ℕ, Bool, true, false, cond, List, [], ◌∷◌, ◌++◌, length, Some, None, refl, ap, sym, ◌∙◌, subst, append_assoc, append-nil, inl, inr}
use Rattle.std.proofs.lemmas.Bool.{true≢false}
use Rattle.rx_rules.proofs.Common.{PlaceId, ScopeId, TaskId, Fault, Tree, task_of, own_scope, inner, Allowed, AllowedAct, made, place_number, tree_of, Reached}
use Rattle.rx_base.proofs.SameIds.{task-is, scope-is}
use Rattle.rx_rules.specs.declared.tasks.Task.{Task}
use Rattle.rx_rules.specs.declared.tasks.Scope.{Scope}
use Rattle.rx_rules.specs.declared.tasks.Where.TheVariants.{At as Here, Travel}
use Rattle.rx_rules.specs.declared.entries.Act.{Act}
use Rattle.rx_rules.specs.declared.entries.Act.TheVariants.{Open as OpenAct, At as CallAct, Spawn as SpawnAct, Arrive as ArriveAct, Wait as WaitAct, Release as ReleaseAct}
use Rattle.rx_rules.specs.declared.entries.Entry.{Entry}
use Rattle.rx_rules.specs.declared.entries.Entry.TheVariants.{Step}
use Rattle.rx_rules.proofs.Lookups.{number-of}
use Rattle.rx_rules.proofs.Append.{tree-push}
use Rattle.rx_finish.specs.Calls.{landing}
use Rattle.rx_finish.specs.declared.ledger.Born.{Born}
use Rattle.rx_finish.specs.declared.ledger.Outcome.{Outcome}
use Rattle.rx_coordinator.specs.declared.seats.Seat.{Seat}
use Rattle.rx_coordinator.specs.declared.requests.Request.{Request}
use Rattle.rx_coordinator.specs.declared.requests.Request.TheVariants.{Open, At, Spawn, Send, Arrive, Wait, Release, End, Death, Join, Root}
use Rattle.rx_coordinator.specs.declared.requests.Answer.{Answer}
use Rattle.rx_coordinator.specs.declared.requests.Answer.TheVariants.{Bad, Full, NoMemory, NotYet, Opened, Called, Spawned, Sent, Landed, Waits, Released, Ended, Died, Joined, RootDone}
use Rattle.rx_coordinator.specs.declared.waiters.Waiter.{Waiter}
use Rattle.rx_coordinator.specs.declared.waiters.Waiter.TheVariants.{Task as TaskWaits, Root as Host}
use Rattle.rx_coordinator.specs.declared.waiters.Waiters.{Waiters}
use Rattle.rx_coordinator.specs.Seats.{new_seat}
use Rattle.rx_coordinator.specs.Telling.{seat_of, seat_told}
use Rattle.rx_coordinator.specs.Stands.{Told, IsReplyTo, Landing, May}
use Rattle.rx_coordinator.specs.Parking.{AskedBeside, WaiterIsThere, request_of, answer_to}
use Rattle.rx_coordinator.proofs.Telling.{told_some}
use Rattle.rx_coordinator.proofs.Asking.{seated}
use Rattle.rx_coordinator.proofs.Newcomers.{child_spawn}
use Rattle.rx_lines.specs.Session.{Are}
use Rattle.rx_lines.specs.Inside.Noting.{asker, row_inner, row_place, note_of, landings, entries_of, freed_entry}

-- the entries that the row of the asking task makes
abbrev Makes : Tree → Request → Answer → Entry → Type 0
Makes T q a e = e ∷ [] ≡ entries_of (note_of (seat_told T (asker q)) q) a

one : (e f : Entry) → e ≡ f → e ∷ [] ≡ f ∷ []
one e f h = ap (λ (x : Entry). x ∷ []) h

-- a task that works in a scope of its own
inner-own : (T : Tree) (t : TaskId) (x : Task) (g : Scope) → task_of T t ≡ Some x → own_scope T t ≡ Some g → inner T x ≡ g.number
inner-own T t x g found own =
    let number : x.number ≡ t = task-is x.number t (number-of T t x found) in
    let own2 : own_scope T x.number ≡ Some g = ap (λ (v : TaskId). own_scope T v) number ∙ own in
    rw (own2, inner) refl

module _ (T : Tree) (t : TaskId) where
  -- what the row of an unstruck task tells
  row : (x : Task) → task_of T t ≡ Some x → x.struck ≡ None → seat_told T t ≡ Some (seat_of T x)
  row x found free = told_some T t x (seat_of T x) found free refl

  inner-is : (act : Act) (may : AllowedAct T t act) → row_inner (seat_told T t) ≡ inner T may.task
  inner-is act may = ap row_inner (row may.task may.stands may.unstruck)

  place-is : (act : Act) (may : AllowedAct T t act) → row_place (seat_told T t) ≡ may.task.place
  place-is act may = ap row_place (row may.task may.stands may.unstruck)

  open-made : (a : Answer) (e : Entry) → Told T (Open t) a e → Allowed T e → Makes T (Open t) a e
  open-made (Opened s) e h x =
      let p : AllowedAct T t (OpenAct s h.0 []) = subst (Allowed T) h.1 x in
      let under : h.0 ≡ row_inner (seat_told T t) = p.asks.2 ∙ sym (inner-is (OpenAct s h.0 []) p) in
      one e _ (h.1 ∙ ap (λ (r : ScopeId). Step t (OpenAct s r []) []) under)
  open-made _ e h x = absurd h

  call-made : (to : PlaceId) (a : Answer) (e : Entry) → Told T (At t to) a e → Allowed T e → Makes T (At t to) a e
  call-made to (Called b) e h x =
      let p : AllowedAct T t (CallAct h.0 to b.scope h.1 b.child []) = subst (Allowed T) h.2 x in
      let under : h.1 ≡ row_inner (seat_told T t) = p.asks.2 ∙ sym (inner-is (CallAct h.0 to b.scope h.1 b.child []) p) in
      let from : h.0 ≡ place_number (row_place (seat_told T t)) = sym (ap place_number (place-is (CallAct h.0 to b.scope h.1 b.child []) p ∙ p.asks.0.0)) in
      one e _ (h.2 ∙ (ap (λ (r : ScopeId). Step t (CallAct h.0 to b.scope r b.child []) []) under
      ∙ ap (λ (q : PlaceId). Step t (CallAct q to b.scope (row_inner (seat_told T t)) b.child []) []) from))
  call-made to _ e h x = absurd h

  spawn-made : (to : PlaceId) (a : Answer) (e : Entry) → Told T (Spawn t to) a e → Allowed T e → Makes T (Spawn t to) a e
  spawn-made to (Spawned b) e h x =
      let p : AllowedAct T t (SpawnAct b.child b.scope h.0 to []) = subst (Allowed T) h.1 x in
      let from : h.0 ≡ place_number (row_place (seat_told T t)) = sym (ap place_number (place-is (SpawnAct b.child b.scope h.0 to []) p ∙ p.asks.0.0)) in
      one e _ (h.1 ∙ ap (λ (q : PlaceId). Step t (SpawnAct b.child b.scope q to []) []) from)
  spawn-made to _ e h x = absurd h

  arrive-made : (a : Answer) (e : Entry) → Told T (Arrive t) a e → Allowed T e → Makes T (Arrive t) a e
  arrive-made Landed e h x =
      let p : AllowedAct T t (ArriveAct h.0) = subst (Allowed T) h.1 x in
      let to : h.0 ≡ landing (row_place (seat_told T t)) = sym (ap landing (place-is (ArriveAct h.0) p ∙ p.asks.1)) in
      one e _ (h.1 ∙ ap (λ (q : PlaceId). Step t (ArriveAct q) []) to)
  arrive-made _ e h x = absurd h

  wait-made : (thrown : List Fault) (a : Answer) (e : Entry) → Told T (Wait t thrown) a e → Allowed T e → Makes T (Wait t thrown) a e
  wait-made thrown Waits e h x =
      let p : AllowedAct T t (WaitAct h.0 thrown) = subst (Allowed T) h.1 x in
      let own : inner T p.task ≡ p.asks.1.number = inner-own T t p.task p.asks.1 p.stands p.asks.2.0 in
      let in_it : h.0 ≡ row_inner (seat_told T t) = sym (inner-is (WaitAct h.0 thrown) p ∙ (own ∙ p.asks.2.1)) in
      one e _ (h.1 ∙ ap (λ (r : ScopeId). Step t (WaitAct r thrown) []) in_it)
  wait-made thrown _ e h x = absurd h

  release-made : (a : Answer) (e : Entry) → Told T (Release t) a e → Allowed T e → Makes T (Release t) a e
  release-made (Released o) e h x =
      let p : AllowedAct T t (ReleaseAct h.0 o.lost o.masked o.thrown) = subst (Allowed T) h.1 x in
      let own : inner T p.task ≡ p.asks.1.number = inner-own T t p.task p.asks.1 p.stands p.asks.2.0 in
      let in_it : h.0 ≡ row_inner (seat_told T t) = sym (inner-is (ReleaseAct h.0 o.lost o.masked o.thrown) p ∙ (own ∙ p.asks.2.1)) in
      one e _ (h.1 ∙ ap (λ (r : ScopeId). Step t (ReleaseAct r o.lost o.masked o.thrown) []) in_it)
  release-made _ e h x = absurd h

  end-made : (thrown : List Fault) (a : Answer) (e : Entry) → Told T (End t thrown) a e → Makes T (End t thrown) a e
  end-made thrown Ended e h = one e _ h
  end-made thrown _ e h = absurd h

module _ (T : Tree) where
  death-made : (d : PlaceId) (a : Answer) (e : Entry) → Told T (Death d) a e → Makes T (Death d) a e
  death-made d Died e h = one e _ h
  death-made d _ e h = absurd h

  join-made : (a : Answer) (e : Entry) → Told T Join a e → Makes T Join a e
  join-made (Joined p) e h = one e _ h
  join-made _ e h = absurd h

  root-made : (a : Answer) (e : Entry) → Told T Root a e → Makes T Root a e
  root-made (RootDone o) e h = one e _ h
  root-made _ e h = absurd h

  send-told : (t : TaskId) (to : PlaceId) (a : Answer) (e : Entry) → Told T (Send t to) a e → ⊥
  send-told t to _ e h = h

  told-made : (q : Request) (a : Answer) (e : Entry) → Told T q a e → Allowed T e → Makes T q a e
  told-made (Open t) a e h x = open-made T t a e h x
  told-made (At t to) a e h x = call-made T t to a e h x
  told-made (Spawn t to) a e h x = spawn-made T t to a e h x
  told-made (Send t to) a e h x = absurd (send-told t to a e h)
  told-made (Arrive t) a e h x = arrive-made T t a e h x
  told-made (Wait t thrown) a e h x = wait-made T t thrown a e h x
  told-made (Release t) a e h x = release-made T t a e h x
  told-made (End t thrown) a e h x = end-made T t thrown a e h
  told-made (Death d) a e h x = death-made d a e h
  told-made Join a e h x = join-made a e h
  told-made Root a e h x = root-made a e h

-- A task that is sent.

not-travel : (a p q : PlaceId) → Here a ≡ Travel p q → ⊥
not-travel a p q e = cc

none-some : (w : Seat) → None ≡ Some w → ⊥
none-some w e = cc

-- the row of the new task
module _ (p : ℕ) (es : List Entry) (t : TaskId) (to : PlaceId) (b : Born) (e : Entry) (r : Reached (tree_of p es)) (h : Told (tree_of p es) (Spawn t to) (Spawned b) e) (x : Allowed (tree_of p es) e) where
  child-row : seat_told (tree_of p (es ++ e ∷ [])) b.child ≡ cond b.lost None (Some (new_seat b.child b.scope h.0 to))
  child-row =
      let may : AllowedAct (tree_of p es) t (SpawnAct b.child b.scope h.0 to []) = subst (Allowed (tree_of p es)) h.1 x in
      ap (λ (W : Tree). seat_told W b.child) (tree-push p es e ∙ ap (made (length es) (tree_of p es)) h.1)
      ∙ (child_spawn (tree_of p es) r t b.child b.scope h.0 to [] may
      ∙ ap (λ (k : Bool). cond k None (Some (new_seat b.child b.scope h.0 to))) (sym h.2))

  -- it travels
  goes : b.lost ≡ false → (h.0.0 == to.0) ≡ false → seat_told (tree_of p (es ++ e ∷ [])) b.child ≡ Some (record (new_seat b.child b.scope h.0 to) { who = record (new_seat b.child b.scope h.0 to).who { place = Travel h.0 to } })
  goes free apart =
      child-row ∙ (ap (λ (k : Bool). cond k None (Some (new_seat b.child b.scope h.0 to))) free
      ∙ ap (λ (k : Bool). (let w : Seat = record { who = record { task = b.child; scope = b.scope; inner = b.scope; place = cond k (Here to) (Travel h.0 to) }; waits = false } in Some w)) apart)

  -- who may arrive travels
  lands : (f : Entry) → Told (tree_of p (es ++ e ∷ [])) (Arrive b.child) Landed f → Allowed (tree_of p (es ++ e ∷ [])) f → ((b.lost || (h.0.0 == to.0)) ≡ false) × (f ≡ Step b.child (ArriveAct to) [])
  lands f k y = by b.lost refl where
    may : AllowedAct (tree_of p (es ++ e ∷ [])) b.child (ArriveAct k.0)
    may = subst (Allowed (tree_of p (es ++ e ∷ []))) k.1 y

    there : seat_told (tree_of p (es ++ e ∷ [])) b.child ≡ Some (seat_of (tree_of p (es ++ e ∷ [])) may.task)
    there = row (tree_of p (es ++ e ∷ [])) b.child may.task may.stands may.unstruck

    by-place : b.lost ≡ false → (k2 : Bool) → (h.0.0 == to.0) ≡ k2 → ((b.lost || (h.0.0 == to.0)) ≡ false) × (f ≡ Step b.child (ArriveAct to) [])
    by-place free true same =
        let w : Seat = record { who = record { task = b.child; scope = b.scope; inner = b.scope; place = Here to }; waits = false } in
        let stays : seat_told (tree_of p (es ++ e ∷ [])) b.child ≡ Some w =
        child-row ∙ (ap (λ (c : Bool). cond c None (Some (new_seat b.child b.scope h.0 to))) free
        ∙ ap (λ (c : Bool). (let v : Seat = record { who = record { task = b.child; scope = b.scope; inner = b.scope; place = cond c (Here to) (Travel h.0 to) }; waits = false } in Some v)) same) in
        let at : Here to ≡ Travel may.asks.0 k.0 = ap row_place (sym stays ∙ there) ∙ may.asks.1 in
        absurd (not-travel to may.asks.0 k.0 at)
    by-place free false apart =
        let at : Travel h.0 to ≡ Travel may.asks.0 k.0 = ap row_place (sym (goes free apart) ∙ there) ∙ may.asks.1 in
        let same : to ≡ k.0 = ap landing at in (
          ap (λ (c : Bool). c || (h.0.0 == to.0)) free ∙ apart,
          k.1 ∙ ap (λ (q : PlaceId). Step b.child (ArriveAct q) []) (sym same),
        )

    by : (k1 : Bool) → b.lost ≡ k1 → ((b.lost || (h.0.0 == to.0)) ≡ false) × (f ≡ Step b.child (ArriveAct to) [])
    by true gone = absurd (none-some (seat_of (tree_of p (es ++ e ∷ [])) may.task) (sym (child-row ∙ ap (λ (c : Bool). cond c None (Some (new_seat b.child b.scope h.0 to))) gone) ∙ there))
    by false free = by-place free (h.0.0 == to.0) refl

  -- who travels may arrive
  may-land : (b.lost || (h.0.0 == to.0)) ≡ false → May (tree_of p (es ++ e ∷ [])) (Arrive b.child)
  may-land off = by b.lost refl where
    by-place : b.lost ≡ false → (k : Bool) → (h.0.0 == to.0) ≡ k → May (tree_of p (es ++ e ∷ [])) (Arrive b.child)
    by-place free true same = absurd (true≢false (sym (ap (λ (c : Bool). c || (h.0.0 == to.0)) free ∙ same) ∙ off))
    by-place free false apart =
        let w : Seat = record { who = record { task = b.child; scope = b.scope; inner = b.scope; place = Travel h.0 to }; waits = false } in
        let s = seated (tree_of p (es ++ e ∷ [])) b.child w (goes free apart) in
        let place : s.task.place ≡ Travel h.0 to = ap (λ (z : Seat). z.who.place) s.is in
        (Landed, Step b.child (ArriveAct to) [], (to, refl), record { task = s.task; stands = s.stands; unstruck = s.unstruck; asks = (h.0, place) })

    by : (k : Bool) → b.lost ≡ k → May (tree_of p (es ++ e ∷ [])) (Arrive b.child)
    by true gone = absurd (true≢false (sym (ap (λ (c : Bool). c || (h.0.0 == to.0)) gone) ∙ off))
    by false free = by-place free (h.0.0 == to.0) refl

  -- the place from which it starts is that of the row
  starts : h.0 ≡ place_number (row_place (seat_told (tree_of p es) t))
  starts =
      let may : AllowedAct (tree_of p es) t (SpawnAct b.child b.scope h.0 to []) = subst (Allowed (tree_of p es)) h.1 x in
      sym (ap place_number (place-is (tree_of p es) t (SpawnAct b.child b.scope h.0 to []) may ∙ may.asks.0.0))

  -- the entries, where it lands or not
  sent-with : (ls : List Entry) → landings (note_of (seat_told (tree_of p es) t) (Send t to)) b ≡ ls → es ++ (e ∷ ls) ≡ es ++ entries_of (note_of (seat_told (tree_of p es) t) (Send t to)) (Sent b)
  sent-with ls k =
      ap (λ (z : List Entry). es ++ z)
      (ap (λ (z : Entry). z ∷ ls) (h.1 ∙ ap (λ (q : PlaceId). Step t (SpawnAct b.child b.scope q to []) []) starts)
      ∙ ap (λ (z : List Entry). Step t (SpawnAct b.child b.scope (place_number (row_place (seat_told (tree_of p es) t))) to []) [] ∷ z) (sym k))

  landing-is : (c : Bool) → (b.lost || (h.0.0 == to.0)) ≡ c → landings (note_of (seat_told (tree_of p es) t) (Send t to)) b ≡ cond c [] (Step b.child (ArriveAct to) [] ∷ [])
  landing-is c k =
      ap (λ (q : PlaceId). cond (b.lost || (q.0 == to.0)) [] (Step b.child (ArriveAct to) [] ∷ [])) (sym starts)
      ∙ ap (λ (v : Bool). cond v [] (Step b.child (ArriveAct to) [] ∷ [])) k

  sent-made : (fs : List Entry) → Landing p (es ++ e ∷ []) b.child (Are fs) → fs ≡ es ++ entries_of (note_of (seat_told (tree_of p es) t) (Send t to)) (Sent b)
  sent-made fs (inl k) =
      let l = lands k.0 k.1 k.2 in
      sym k.3 ∙ (append_assoc es (e ∷ []) (k.0 ∷ [])
      ∙ (ap (λ (f : Entry). es ++ (e ∷ f ∷ [])) l.1 ∙ sent-with (Step b.child (ArriveAct to) [] ∷ []) (landing-is false l.0)))
  sent-made fs (inr k) = sym k.1 ∙ sent-with [] (landing-is true (off (b.lost || (h.0.0 == to.0)) refl)) where
    off : (c : Bool) → (b.lost || (h.0.0 == to.0)) ≡ c → (b.lost || (h.0.0 == to.0)) ≡ true
    off true j = j
    off false j = absurd (k.0 (may-land j))

-- the entries after an answer
pub asked-made : (p : ℕ) (es : List Entry) (q : Request) (a : Answer) (fs : List Entry) → Reached (tree_of p es) → IsReplyTo p es q a (Are fs) → fs ≡ es ++ entries_of (note_of (seat_told (tree_of p es) (asker q)) q) a
asked-made p es q Bad fs r k = sym k.1 ∙ sym (append-nil es)
asked-made p es q Full fs r k = sym k.2 ∙ sym (append-nil es)
asked-made p es q NoMemory fs r k = sym k.1 ∙ sym (append-nil es)
asked-made p es q (NotYet place) fs r k = sym k.2 ∙ sym (append-nil es)
asked-made p es (Send t to) (Sent b) fs r k = sent-made p es t to b k.0 r k.1 k.2 fs k.3
asked-made p es q a fs r k = sym k.3 ∙ ap (λ (z : List Entry). es ++ z) (told-made (tree_of p es) q a k.0 k.1 k.2)

pub beside-made : (p : ℕ) (es : List Entry) (q : Request) (ws us : Waiters) (a : Answer) (fs : List Entry) → Reached (tree_of p es) → AskedBeside p es q ws a (Are fs) us → fs ≡ es ++ entries_of (note_of (seat_told (tree_of p es) (asker q)) q) a
beside-made p es q ws us a fs r (inl k) = sym k.2 ∙ (sym (append-nil es) ∙ ap (λ (v : Answer). es ++ entries_of (note_of (seat_told (tree_of p es) (asker q)) q) v) (sym k.1))
beside-made p es q ws us a fs r (inr k) = asked-made p es q a fs r k.1

-- the entry of a release that has waited
pub freed-made : (p : ℕ) (es : List Entry) (s : ScopeId) (who : Waiter) (o : Outcome) (fs : List Entry) → WaiterIsThere (tree_of p es) s.0 who → IsReplyTo p es (request_of who) (answer_to who o) (Are fs) → fs ≡ es ++ freed_entry s who o ∷ []
freed-made p es s (TaskWaits t) o fs there k =
    let may : AllowedAct (tree_of p es) t (ReleaseAct k.1.0 o.lost o.masked o.thrown) = subst (Allowed (tree_of p es)) k.1.1 k.2 in
    let told = row (tree_of p es) t may.task may.stands may.unstruck in
    let own : inner (tree_of p es) may.task ≡ k.1.0 = inner-own (tree_of p es) t may.task may.asks.1 may.stands may.asks.2.0 ∙ may.asks.2.1 in
    let at : inner (tree_of p es) may.task ≡ s = scope-is (inner (tree_of p es) may.task) s (there.1 (seat_of (tree_of p es) may.task) told).1 in
    let same : k.1.0 ≡ s = sym own ∙ at in
    sym k.3 ∙ ap (λ (f : Entry). es ++ f ∷ []) (k.1.1 ∙ ap (λ (r : ScopeId). Step t (ReleaseAct r o.lost o.masked o.thrown) []) same)
freed-made p es s Host o fs there k = sym k.3 ∙ ap (λ (f : Entry). es ++ f ∷ []) k.1
