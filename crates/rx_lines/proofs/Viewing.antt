-- What an answer does, said of trees: two answers to one request where the same ran out do the same.
use Rattle.std.proofs.Common.{◌⊎◌, ◌==◌, suc, cond, length, ◌≡◌, ℕ, Bool, true, false, List, [], ◌∷◌, ◌++◌, Option, Some, None, refl, ap, sym, ◌∙◌, subst, arith, inl, inr, length-append}
use Rattle.std.proofs.lemmas.Bool.{true≢false}
use Rattle.rx_rules.proofs.Common.{TaskId, ScopeId, PlaceId, Tree, Allowed, made, tree_of}
use Rattle.rx_rules.specs.declared.entries.Entry.{Entry}
use Rattle.rx_rules.proofs.Append.{tree-push}
use Rattle.rx_finish.specs.declared.ledger.Born.{Born}
use Rattle.rx_coordinator.specs.declared.requests.Request.{Request}
use Rattle.rx_coordinator.specs.declared.requests.Request.TheVariants.{Spawn, Send, Arrive, Release, Root}
use Rattle.rx_coordinator.specs.declared.requests.Answer.{Answer}
use Rattle.rx_coordinator.specs.declared.requests.Answer.TheVariants.{Bad, Full, NoMemory, NotYet, Spawned, Sent, Landed}
use Rattle.rx_coordinator.specs.declared.waiters.Waiter.{Waiter}
use Rattle.rx_coordinator.specs.declared.waiters.Waiter.TheVariants.{Task as TaskWaits, Root as Host}
use Rattle.rx_coordinator.specs.declared.waiters.Waiters.{Waiters}
use Rattle.rx_coordinator.specs.Waiters.{waiter_at}
use Rattle.rx_coordinator.specs.Stands.{IsReplyTo, Landing, Told, May, Busy}
use Rattle.rx_coordinator.specs.Parking.{IsParked, Puts, AskedBeside, waiter_of, request_of}
use Rattle.rx_coordinator.specs.Inside.Walks.{IsSame}
use Rattle.rx_lines.specs.Replies.{answer_text}
use Rattle.rx_lines.specs.Session.{Are, ran_out}
use Rattle.rx_lines.specs.Determined.{refusal}
use Rattle.rx_lines.proofs.OneEntry.{item_one, spawned_one, none_sent, one}
use Rattle.rx_lines.proofs.Asking.{may_told, idle_told}

-- one more waits
abbrev pub IsPut : ℕ → Waiter → Waiters → Waiters → Type 0
IsPut n who ws us = (k : ℕ) → waiter_at us k ≡ cond (k == n) (Some who) (waiter_at ws k)

-- who waits in the one and may be released waits in the other
abbrev pub Keeps : Tree → Waiters → Waiters → Type 0
Keeps T ws us = (k : ℕ) (who : Waiter) → May T (request_of who) → waiter_at ws k ≡ Some who → waiter_at us k ≡ Some who

-- the tree after so many entries, and after one more
abbrev pub IsTree : Tree → ℕ → Tree → ℕ → Type 0
IsTree T n V m = (V ≡ T) × (m ≡ n)

abbrev pub IsMade : Tree → ℕ → Entry → Tree → ℕ → Type 0
IsMade T n e V m = (V ≡ made n T e) × (m ≡ suc n)

-- a task lands where it travels
abbrev pub Lands : Tree → ℕ → TaskId → Tree → ℕ → Type 0
Lands T n t V m =
    ((e : Entry) × Told T (Arrive t) Landed e × Allowed T e × IsMade T n e V m) ⊎ ((May T (Arrive t) → ⊥) × IsTree T n V m)

-- who asks does not wait yet
abbrev pub IsFree : Waiters → Request → Type 0
IsFree ws q = IsParked ws (waiter_of q) → ⊥

pub data View (T : Tree) (n : ℕ) (ws : Waiters) (q : Request) (a : Answer) (V : Tree) (m : ℕ) (us : Waiters) : Type 0 where
  refused : (a ≡ Bad) × (IsParked ws (waiter_of q) ⊎ (May T q → ⊥)) × IsSame ws us × IsTree T n V m → View T n ws q a V m us
  short : (ran_out a ≡ true) × IsSame ws us × IsTree T n V m → View T n ws q a V m us
  parked : (place : PlaceId) × (who : Waiter) × (s : ScopeId) × (a ≡ NotYet place) × (waiter_of q ≡ Some who) × May T q × Busy T q place × IsFree ws q
      × IsPut s.0 who ws us × IsTree T n V m → View T n ws q a V m us
  tells : (e : Entry) × (ran_out a ≡ false) × Told T q a e × Allowed T e × IsFree ws q × IsSame ws us × IsMade T n e V m
      → View T n ws q a V m us
  sends : (t : TaskId) × (to : PlaceId) × (b : Born) × (e : Entry) × (q ≡ Send t to) × (a ≡ Sent b) × Told T (Spawn t to) (Spawned b) e × Allowed T e
      × IsFree ws q × IsSame ws us × Lands (made n T e) (suc n) b.child V m → View T n ws q a V m us

-- From histories to trees.

module _ (p : ℕ) where
  pub stays : (es fs : List Entry) → es ≡ fs → IsTree (tree_of p es) (length es) (tree_of p fs) (length fs)
  stays es fs e = (ap (tree_of p) (sym e), ap length (sym e))

  pub grows : (es fs : List Entry) (e : Entry) → es ++ e ∷ [] ≡ fs → IsMade (tree_of p es) (length es) e (tree_of p fs) (length fs)
  grows es fs e is =
      (ap (tree_of p) (sym is) ∙ tree-push p es e, ap length (sym is) ∙ (let a = length-append es (e ∷ []) in omega (arith, a)))

  lands : (es gs : List Entry) (T : Tree) (n : ℕ) (t : TaskId) → tree_of p es ≡ T → length es ≡ n → Landing p es t (Are gs)
      → Lands T n t (tree_of p gs) (length gs)
  lands es gs T n t same long (inl h) =
      subst (λ (m : ℕ). Lands T m t (tree_of p gs) (length gs)) long
      (subst (λ (U : Tree). Lands U (length es) t (tree_of p gs) (length gs)) same (inl (h.0, h.1, h.2, grows es gs h.0 h.3)))
  lands es gs T n t same long (inr h) =
      subst (λ (m : ℕ). Lands T m t (tree_of p gs) (length gs)) long
      (subst (λ (U : Tree). Lands U (length es) t (tree_of p gs) (length gs)) same (inr (h.0, stays es gs h.1)))

  module _ (es fs : List Entry) (ws us : Waiters) where
    abbrev Seen : Request → Answer → Type 0
    Seen q a = View (tree_of p es) (length es) ws q a (tree_of p fs) (length fs) us

    -- nobody is put to those who wait
    same-rows : (o : Option Waiter) (a : Answer) → ((place : PlaceId) → a ≡ NotYet place → ⊥) → Puts o a ws us → IsSame ws us
    same-rows None a off h = h
    same-rows (Some who) (NotYet place) off h = absurd (off place refl)
    same-rows (Some who) _ off h = h

    waits : (q : Request) (place : PlaceId) → May (tree_of p es) q → Busy (tree_of p es) q place → IsFree ws q
        → Puts (waiter_of q) (NotYet place) ws us → es ≡ fs → Seen q (NotYet place)
    waits (Release t) place may busy free h e = parked (place, TaskWaits t, h.0, refl, refl, may, busy, free, h.1, stays es fs e)
    waits Root place may busy free h e = parked (place, Host, h.0, refl, refl, may, busy, free, h.1, stays es fs e)
    waits _ place may busy free h e = absurd busy

    asked : (q : Request) (a : Answer) → (IsParked ws (waiter_of q) → a ≡ Bad) → IsReplyTo p es q a (Are fs)
        → Puts (waiter_of q) a ws us → Seen q a
    asked q Bad bad k h = refused (refl, inr k.0, same-rows (waiter_of q) Bad (λ place e. (let v : ⊥ = cc in v)) h, stays es fs k.1)
    asked q Full bad k h = short (refl, same-rows (waiter_of q) Full (λ place e. (let v : ⊥ = cc in v)) h, stays es fs k.2)
    asked q NoMemory bad k h = short (refl, same-rows (waiter_of q) NoMemory (λ place e. (let v : ⊥ = cc in v)) h, stays es fs k.1)
    asked q (NotYet place) bad k h = waits q place k.0 k.1 (λ i. let e = bad i in (let v : ⊥ = cc in v)) h k.2
    asked (Send t to) (Sent b) bad k h =
        let at = grows es (es ++ k.0 ∷ []) k.0 refl in
        sends (
          t,
          to,
          b,
          k.0,
          refl,
          refl,
          k.1,
          k.2,
          λ i. i,
          h,
          lands (es ++ k.0 ∷ []) fs (made (length es) (tree_of p es) k.0) (suc (length es)) b.child at.0 at.1 k.3,
        )
    asked q a bad k h =
        tells (
          k.0,
          refl,
          k.1,
          k.2,
          λ i. let e = bad i in (let v : ⊥ = cc in v),
          same-rows (waiter_of q) a (λ place e. (let v : ⊥ = cc in v)) h,
          grows es fs k.0 k.3,
        )

    -- the answer to a request
    pub view : (q : Request) (a : Answer) → AskedBeside p es q ws a (Are fs) us → Seen q a
    view q a (inl h) = refused (h.1, inl h.0, h.3, stays es fs h.2)
    view q a (inr h) = asked q a h.0 h.1 h.2

-- Two answers to one request.

-- the rows afterwards
abbrev pub Rows : Tree → Request → Tree → Waiters → Waiters → Waiters → Waiters → Type 0
Rows T q V ws vs us xs =
    (IsSame ws us × IsSame vs xs)
    ⊎ ((who : Waiter) × (s : ScopeId) × (r : ScopeId) × (waiter_of q ≡ Some who) × May T q × (V ≡ T) × IsPut s.0 who ws us × IsPut r.0 who vs xs)

out-both : (a b : Answer) → refusal a ≡ refusal b → ran_out a ≡ false → ran_out b ≡ true → ⊥
out-both a b e f g =
    let none : refusal a ≡ None = ap (λ (c : Bool). cond c (Some a) None) f in
    let some : refusal b ≡ Some b = ap (λ (c : Bool). cond c (Some b) None) g in
    let k : None ≡ Some b = sym none ∙ (e ∙ some) in
    (let v : ⊥ = cc in v)

out-one : (a b : Answer) → refusal a ≡ refusal b → ran_out a ≡ true → ran_out b ≡ true → a ≡ b
out-one a b e f g =
    let here : refusal a ≡ Some a = ap (λ (c : Bool). cond c (Some a) None) f in
    let there : refusal b ≡ Some b = ap (λ (c : Bool). cond c (Some b) None) g in
    item_one (refusal b) a b (sym e ∙ here) there

-- who is parked in one of two, and may be released, is so in the other
parked-on : (T : Tree) (ws vs : Waiters) (q : Request) → Keeps T ws vs → May T q → IsParked ws (waiter_of q)
    → IsParked vs (waiter_of q)
parked-on T ws vs (Release t) on may i = (i.0, on i.0 (TaskWaits t) may i.1)
parked-on T ws vs Root on may i = (i.0, on i.0 Host may i.1)
parked-on T ws vs _ on may i = i

lands-one : (T : Tree) (n : ℕ) (t : TaskId) (V W : Tree) (m k : ℕ) → Lands T n t V m → Lands T n t W k → IsTree V m W k
lands-one T n t V W m k (inl h) (inl i) =
    let same = one T n (Arrive t) Landed Landed h.0 i.0 h.1 i.1 h.2 i.2 in
    (i.3.0 ∙ (sym same.1 ∙ sym h.3.0), i.3.1 ∙ sym h.3.1)
lands-one T n t V W m k (inl h) (inr i) = absurd (i.0 (Landed, h.0, h.1, h.2))
lands-one T n t V W m k (inr h) (inl i) = absurd (h.0 (Landed, i.0, i.1, i.2))
lands-one T n t V W m k (inr h) (inr i) = (i.1.0 ∙ sym h.1.0, i.1.1 ∙ sym h.1.1)

module _ (T : Tree) (n : ℕ) (ws vs : Waiters) (on : Keeps T ws vs) (back : Keeps T vs ws) (q : Request) (a b : Answer) (out : refusal a ≡ refusal b) (V W : Tree) (m k : ℕ) (us xs : Waiters) where
  abbrev Same : Type 0
  Same = (answer_text a ≡ answer_text b) × IsTree V m W k × Rows T q V ws vs us xs

  -- no answer is a refusal in one of two alone
  no-one : (x y : Waiters) → Keeps T x y → IsParked x (waiter_of q) ⊎ (May T q → ⊥) → May T q → IsFree y q → ⊥
  no-one x y keeps (inl i) may free = free (parked-on T x y q keeps may i)
  no-one x y keeps (inr bad) may free = bad may

  may-send : (t : TaskId) (to : PlaceId) (c : Born) (e : Entry) → q ≡ Send t to → Told T (Spawn t to) (Spawned c) e → Allowed T e
      → May T q
  may-send t to c e is told may = subst (May T) (sym is) (Spawned c, e, told, may)

  no-parked-sent : (t : TaskId) (to place : PlaceId) → q ≡ Send t to → Busy T q place → ⊥
  no-parked-sent t to place is busy = subst (λ (r : Request). Busy T r place) is busy

  no-told-sent : (t : TaskId) (to : PlaceId) (c : Answer) (e : Entry) → q ≡ Send t to → Told T q c e → ⊥
  no-told-sent t to c e is told = none_sent T t to c e (subst (λ (r : Request). Told T r c e) is told)

  -- this did not run out
  kept : (c d : Answer) → c ≡ d → ran_out d ≡ false → ran_out c ≡ false
  kept c d e f = ap ran_out e ∙ f

  pub agree : View T n ws q a V m us → View T n vs q b W k xs → Same
  agree (refused h) (refused i) = (ap answer_text (h.0 ∙ sym i.0), (i.3.0 ∙ sym h.3.0, i.3.1 ∙ sym h.3.1), inl (h.2, i.2))
  agree (refused h) (short i) = absurd (out-both a b out (kept a Bad h.0 refl) i.0)
  agree (refused h) (parked i) = absurd (no-one ws vs on h.1 i.5 i.7)
  agree (refused h) (tells i) = absurd (no-one ws vs on h.1 (may_told T q b i.0 i.2 i.3) i.4)
  agree (refused h) (sends i) = absurd (no-one ws vs on h.1 (may-send i.0 i.1 i.2 i.3 i.4 i.6 i.7) i.8)
  agree (short h) (refused i) = absurd (out-both b a (sym out) (kept b Bad i.0 refl) h.0)
  agree (short h) (short i) = (ap answer_text (out-one a b out h.0 i.0), (i.2.0 ∙ sym h.2.0, i.2.1 ∙ sym h.2.1), inl (h.1, i.1))
  agree (short h) (parked i) = absurd (out-both b a (sym out) (kept b (NotYet i.0) i.3 refl) h.0)
  agree (short h) (tells i) = absurd (out-both b a (sym out) i.1 h.0)
  agree (short h) (sends i) = absurd (out-both b a (sym out) (kept b (Sent i.2) i.5 refl) h.0)
  agree (parked h) (refused i) = absurd (no-one vs ws back i.1 h.5 h.7)
  agree (parked h) (short i) = absurd (out-both a b out (kept a (NotYet h.0) h.3 refl) i.0)
  agree (parked h) (parked i) =
      let who : i.1 ≡ h.1 = item_one (waiter_of q) i.1 h.1 i.4 h.4 in (
        ap answer_text h.3 ∙ sym (ap answer_text i.3),
        (i.9.0 ∙ sym h.9.0, i.9.1 ∙ sym h.9.1),
        inr (h.1, h.2, i.2, h.4, h.5, h.9.0, h.8, subst (λ (z : Waiter). IsPut i.2.0 z vs xs) who i.8),
      )
  agree (parked h) (tells i) = absurd (idle_told T q b i.0 h.0 i.2 i.3 h.6)
  agree (parked h) (sends i) = absurd (no-parked-sent i.0 i.1 h.0 i.4 h.6)
  agree (tells h) (refused i) = absurd (no-one vs ws back i.1 (may_told T q a h.0 h.2 h.3) h.4)
  agree (tells h) (short i) = absurd (out-both a b out h.1 i.0)
  agree (tells h) (parked i) = absurd (idle_told T q a h.0 i.0 h.2 h.3 i.6)
  agree (tells h) (tells i) =
      let same = one T n q a b h.0 i.0 h.2 i.2 h.3 i.3 in
      (same.0, (i.6.0 ∙ (sym same.1 ∙ sym h.6.0), i.6.1 ∙ sym h.6.1), inl (h.5, i.5))
  agree (tells h) (sends i) = absurd (no-told-sent i.0 i.1 a h.0 i.4 h.2)
  agree (sends h) (refused i) = absurd (no-one vs ws back i.1 (may-send h.0 h.1 h.2 h.3 h.4 h.6 h.7) h.8)
  agree (sends h) (short i) = absurd (out-both a b out (kept a (Sent h.2) h.5 refl) i.0)
  agree (sends h) (parked i) = absurd (no-parked-sent h.0 h.1 i.0 h.4 i.6)
  agree (sends h) (tells i) = absurd (no-told-sent h.0 h.1 b i.0 h.4 i.2)
  agree (sends h) (sends i) =
      let asks : Send i.0 i.1 ≡ Send h.0 h.1 = sym i.4 ∙ h.4 in
      let task : i.0 ≡ h.0 = send-task i.0 h.0 i.1 h.1 asks in
      let to : i.1 ≡ h.1 = send-to i.0 h.0 i.1 h.1 asks in
      let told : Told T (Spawn h.0 h.1) (Spawned i.2) i.3 = subst (λ (p : PlaceId). Told T (Spawn h.0 p) (Spawned i.2) i.3) to (subst (λ (u : TaskId). Told T (Spawn u i.1) (Spawned i.2) i.3) task i.6) in
      let same = spawned_one T n h.0 h.1 h.2 i.2 h.3 i.3 h.6 told h.7 i.7 in
      let there : Lands (made n T h.3) (suc n) h.2.child W k = subst (λ (e : Entry). Lands (made n T e) (suc n) h.2.child W k) (sym same.1) (subst (λ (c : Born). Lands (made n T i.3) (suc n) c.child W k) (sym same.0) i.10) in
      let text : answer_text (Sent h.2) ≡ answer_text (Sent i.2) = ap (λ (c : Born). answer_text (Sent c)) same.0 in (
        ap answer_text h.5 ∙ (text ∙ sym (ap answer_text i.5)),
        lands-one (made n T h.3) (suc n) h.2.child V W m k h.10 there,
        inl (h.9, i.9),
      )
    where
      send-task : (t u : TaskId) (x y : PlaceId) → Send t x ≡ Send u y → t ≡ u
      send-task t u x y e = cc

      send-to : (t u : TaskId) (x y : PlaceId) → Send t x ≡ Send u y → x ≡ y
      send-to t u x y e = cc

-- a request for which memory or numbers ran out changes nothing
pub out_stays : (T : Tree) (n : ℕ) (ws : Waiters) (q : Request) (a : Answer) (V : Tree) (m : ℕ) (us : Waiters) → ran_out a ≡ true
    → View T n ws q a V m us → IsSame ws us × IsTree T n V m
out_stays T n ws q a V m us out (refused h) = (h.2, h.3)
out_stays T n ws q a V m us out (short h) = (h.1, h.2)
out_stays T n ws q a V m us out (parked h) = absurd (true≢false (sym out ∙ ap ran_out h.3))
out_stays T n ws q a V m us out (tells h) = absurd (true≢false (sym out ∙ h.1))
out_stays T n ws q a V m us out (sends h) = absurd (true≢false (sym out ∙ ap ran_out h.5))
