-- The store answers a call in one way.
use Rattle.std.proofs.Common.{◌≡◌, ℕ, ℤ, ◌<◌, ◌≤◌, Bool, true, false, cond, Some, None, refl, ap, ◌∙◌, sym, subst, arith, ⊎_elim}
use Rattle.std.proofs.lemmas.Bool.{true≢false, cases_lt}
use Rattle.rx_rules.proofs.Common.{PlaceId, GlobalRef, Number, Ref, Stale, Index, Answer, Gives, Fails, Does, Local, Makes, Gets, Puts, Forgets, Opens, Calls, Spawns, Waits, Releases, Prints, Counts, Done, Tells, State, Live, block_of, fits, IsLeastFree, is_index, word_at, Reads, Refuses, MayCell}
use Rattle.rx_rules.specs.declared.events.Cell.{Cell}
use Rattle.rx_rules.specs.declared.events.Cell.TheVariants.{Make, MakeFull, Get, Put, Forget, GetRefused, PutRefused, ForgetStale}

pub least_once : (w : ℕ) (S : State) (n a b : ℕ) → IsLeastFree w S n a → IsLeastFree w S n b → a ≡ b
least_once w S n a b h k =
    ⊎_elim
    (λ (lt : a < b). absurd (true≢false (sym h.here ∙ k.least a lt)))
    (λ (ge : b ≤ a).
    ⊎_elim
    (λ (lt : b < a). absurd (true≢false (sym k.here ∙ h.least b lt)))
    (λ (le : a ≤ b). omega (arith, ge, le))
    (cases_lt b a))
    (cases_lt a b)

-- a block that is read is not refused
pub not_refused : (S : State) (r : GlobalRef) (i : ℤ) (b : Live) (stale : Bool) → Reads S r i b → Refuses S r i stale → ⊥
not_refused S r i b true h k = let e : Some b ≡ None = sym h.block ∙ k in cc
not_refused S r i b false h k =
    let same : b ≡ k.0 = (let e : Some b ≡ Some k.0 = sym h.block ∙ k.1 in cc) in
    true≢false (sym h.index ∙ ap (λ (q : Live). is_index i q.words) same ∙ k.2)

pub one_refusal : (S : State) (r : GlobalRef) (i : ℤ) (a b : Bool) → Refuses S r i a → Refuses S r i b → a ≡ b
one_refusal S r i true true h k = refl
one_refusal S r i false false h k = refl
one_refusal S r i true false h k = let e : None ≡ Some k.0 = sym h ∙ k.1 in cc
one_refusal S r i false true h k = let e : None ≡ Some h.0 = sym k ∙ h.1 in cc

make_once : (w : ℕ) (S : State) (name words : ℕ) (here : PlaceId) (c d : Cell) (a b : Answer) → Tells (Makes name words) here c a → Tells (Makes name words) here d b → MayCell w S c → MayCell w S d → (c ≡ d) × (a ≡ b)
make_once w S name words here (Make a0 a1 a2) (Make b0 b1 b2) a b h k m o =
    let n : a0 ≡ b0 = h.0 ∙ sym k.0 in
    let least : IsLeastFree w S b0 a1 = subst (λ (v : ℕ). IsLeastFree w S v a1) n m.0 in
    let start : a1 ≡ b1 = least_once w S b0 a1 b1 least o.0 in
    let gen : a2 ≡ b2 = m.1 ∙ sym o.1 in (
      ap (λ (v : ℕ). Make v a1 a2) n ∙ ap (λ (v : ℕ). Make b0 v a2) start ∙ ap (λ (v : ℕ). Make b0 b1 v) gen,
      h.1 ∙ ap (λ (v : ℕ). Gives name (Ref (record { home = here; start = v; generation = a2 }))) start ∙ ap (λ (v : ℕ). Gives name (Ref (record { home = here; start = b1; generation = v }))) gen ∙ sym k.1,
    )
make_once w S name words here (Make a0 a1 a2) (MakeFull b0) a b h k m o = absurd (true≢false (sym (subst (λ (v : ℕ). fits w S v a1 ≡ true) (h.0 ∙ sym k.0) m.0.here) ∙ o a1))
make_once w S name words here (Make a0 a1 a2) (Get b0 b1 b2) a b h k m o = absurd k
make_once w S name words here (Make a0 a1 a2) (Put b0 b1 b2) a b h k m o = absurd k
make_once w S name words here (Make a0 a1 a2) (Forget b0) a b h k m o = absurd k
make_once w S name words here (Make a0 a1 a2) (GetRefused b0 b1 b2) a b h k m o = absurd k
make_once w S name words here (Make a0 a1 a2) (PutRefused b0 b1 b2 b3) a b h k m o = absurd k
make_once w S name words here (Make a0 a1 a2) (ForgetStale b0) a b h k m o = absurd k
make_once w S name words here (MakeFull a0) (Make b0 b1 b2) a b h k m o = absurd (true≢false (sym (subst (λ (v : ℕ). fits w S v b1 ≡ true) (k.0 ∙ sym h.0) o.0.here) ∙ m b1))
make_once w S name words here (MakeFull a0) (MakeFull b0) a b h k m o = (ap (λ (v : ℕ). MakeFull v) (h.0 ∙ sym k.0), h.1 ∙ sym k.1)
make_once w S name words here (MakeFull a0) (Get b0 b1 b2) a b h k m o = absurd k
make_once w S name words here (MakeFull a0) (Put b0 b1 b2) a b h k m o = absurd k
make_once w S name words here (MakeFull a0) (Forget b0) a b h k m o = absurd k
make_once w S name words here (MakeFull a0) (GetRefused b0 b1 b2) a b h k m o = absurd k
make_once w S name words here (MakeFull a0) (PutRefused b0 b1 b2 b3) a b h k m o = absurd k
make_once w S name words here (MakeFull a0) (ForgetStale b0) a b h k m o = absurd k
make_once w S name words here (Get a0 a1 a2) d a b h k m o = absurd h
make_once w S name words here (Put a0 a1 a2) d a b h k m o = absurd h
make_once w S name words here (Forget a0) d a b h k m o = absurd h
make_once w S name words here (GetRefused a0 a1 a2) d a b h k m o = absurd h
make_once w S name words here (PutRefused a0 a1 a2 a3) d a b h k m o = absurd h
make_once w S name words here (ForgetStale a0) d a b h k m o = absurd h

get_once : (w : ℕ) (S : State) (here : PlaceId) (name : ℕ) (target : GlobalRef) (index : ℤ) (c d : Cell) (a b : Answer) → Tells (Gets name target index) here c a → Tells (Gets name target index) here d b → MayCell w S c → MayCell w S d → (c ≡ d) × (a ≡ b)
get_once w S here name target index (Make a0 a1 a2) d a b h k m o = absurd h
get_once w S here name target index (MakeFull a0) d a b h k m o = absurd h
get_once w S here name target index (Get a0 a1 a2) (Make b0 b1 b2) a b h k m o = absurd k
get_once w S here name target index (Get a0 a1 a2) (MakeFull b0) a b h k m o = absurd k
get_once w S here name target index (Get a0 a1 a2) (Get b0 b1 b2) a b h k m o =
    let r : a0 ≡ b0 = h.0 ∙ sym k.0 in
    let i : a1 ≡ b1 = h.1 ∙ sym k.1 in
    let block : block_of S b0 ≡ Some m.0 = subst (λ (v : GlobalRef). block_of S v ≡ Some m.0) r m.1.block in
    let same : m.0 ≡ o.0 = (let e : Some m.0 ≡ Some o.0 = sym block ∙ o.1.block in cc) in
    let v : a2 ≡ b2 = m.2 ∙ ap (λ (q : Live). word_at q.words a1) same ∙ ap (λ (q : ℤ). word_at o.0.words q) i ∙ sym o.2 in (
      ap (λ (q : GlobalRef). Get q a1 a2) r ∙ ap (λ (q : ℤ). Get b0 q a2) i ∙ ap (λ (q : ℤ). Get b0 b1 q) v,
      h.2 ∙ ap (λ (q : ℤ). Gives name (Number q)) v ∙ sym k.2,
    )
get_once w S here name target index (Get a0 a1 a2) (Put b0 b1 b2) a b h k m o = absurd k
get_once w S here name target index (Get a0 a1 a2) (Forget b0) a b h k m o = absurd k
get_once w S here name target index (Get a0 a1 a2) (GetRefused b0 b1 b2) a b h k m o = absurd (not_refused S b0 b1 m.0 b2
    (subst (λ (q : GlobalRef). Reads S q b1 m.0) (h.0 ∙ sym k.0) (subst (λ (q : ℤ). Reads S a0 q m.0) (h.1 ∙ sym k.1) m.1)) o)
get_once w S here name target index (Get a0 a1 a2) (PutRefused b0 b1 b2 b3) a b h k m o = absurd k
get_once w S here name target index (Get a0 a1 a2) (ForgetStale b0) a b h k m o = absurd k
get_once w S here name target index (Put a0 a1 a2) d a b h k m o = absurd h
get_once w S here name target index (Forget a0) d a b h k m o = absurd h
get_once w S here name target index (GetRefused a0 a1 a2) (Make b0 b1 b2) a b h k m o = absurd k
get_once w S here name target index (GetRefused a0 a1 a2) (MakeFull b0) a b h k m o = absurd k
get_once w S here name target index (GetRefused a0 a1 a2) (Get b0 b1 b2) a b h k m o = absurd (not_refused S a0 a1 o.0 a2
    (subst (λ (q : GlobalRef). Reads S q a1 o.0) (k.0 ∙ sym h.0) (subst (λ (q : ℤ). Reads S b0 q o.0) (k.1 ∙ sym h.1) o.1)) m)
get_once w S here name target index (GetRefused a0 a1 a2) (Put b0 b1 b2) a b h k m o = absurd k
get_once w S here name target index (GetRefused a0 a1 a2) (Forget b0) a b h k m o = absurd k
get_once w S here name target index (GetRefused a0 a1 a2) (GetRefused b0 b1 b2) a b h k m o =
    let r : a0 ≡ b0 = h.0 ∙ sym k.0 in
    let i : a1 ≡ b1 = h.1 ∙ sym k.1 in
    let stale : a2 ≡ b2 = one_refusal S b0 b1 a2 b2 (subst (λ (q : GlobalRef). Refuses S q b1 a2) r (subst (λ (q : ℤ). Refuses S a0 q a2) i m)) o in (
      ap (λ (q : GlobalRef). GetRefused q a1 a2) r ∙ ap (λ (q : ℤ). GetRefused b0 q a2) i ∙ ap (λ (q : Bool). GetRefused b0 b1 q) stale,
      h.2 ∙ ap (λ (q : Bool). Fails (cond q Stale Index)) stale ∙ sym k.2,
    )
get_once w S here name target index (GetRefused a0 a1 a2) (PutRefused b0 b1 b2 b3) a b h k m o = absurd k
get_once w S here name target index (GetRefused a0 a1 a2) (ForgetStale b0) a b h k m o = absurd k
get_once w S here name target index (PutRefused a0 a1 a2 a3) d a b h k m o = absurd h
get_once w S here name target index (ForgetStale a0) d a b h k m o = absurd h

put_once : (w : ℕ) (S : State) (here : PlaceId) (target : GlobalRef) (index value : ℤ) (c d : Cell) (a b : Answer) → Tells (Puts target index value) here c a → Tells (Puts target index value) here d b → MayCell w S c → MayCell w S d → (c ≡ d) × (a ≡ b)
put_once w S here target index value (Make a0 a1 a2) d a b h k m o = absurd h
put_once w S here target index value (MakeFull a0) d a b h k m o = absurd h
put_once w S here target index value (Get a0 a1 a2) d a b h k m o = absurd h
put_once w S here target index value (Put a0 a1 a2) (Make b0 b1 b2) a b h k m o = absurd k
put_once w S here target index value (Put a0 a1 a2) (MakeFull b0) a b h k m o = absurd k
put_once w S here target index value (Put a0 a1 a2) (Get b0 b1 b2) a b h k m o = absurd k
put_once w S here target index value (Put a0 a1 a2) (Put b0 b1 b2) a b h k m o =
    (ap (λ (q : GlobalRef). Put q a1 a2) (h.0 ∙ sym k.0) ∙ ap (λ (q : ℤ). Put b0 q a2) (h.1 ∙ sym k.1) ∙ ap (λ (q : ℤ). Put b0 b1 q) (h.2 ∙ sym k.2), h.3 ∙ sym k.3)
put_once w S here target index value (Put a0 a1 a2) (Forget b0) a b h k m o = absurd k
put_once w S here target index value (Put a0 a1 a2) (GetRefused b0 b1 b2) a b h k m o = absurd k
put_once w S here target index value (Put a0 a1 a2) (PutRefused b0 b1 b2 b3) a b h k m o = absurd (not_refused S b0 b1 m.0 b3
    (subst (λ (q : GlobalRef). Reads S q b1 m.0) (h.0 ∙ sym k.0) (subst (λ (q : ℤ). Reads S a0 q m.0) (h.1 ∙ sym k.1) m.1)) o)
put_once w S here target index value (Put a0 a1 a2) (ForgetStale b0) a b h k m o = absurd k
put_once w S here target index value (Forget a0) d a b h k m o = absurd h
put_once w S here target index value (GetRefused a0 a1 a2) d a b h k m o = absurd h
put_once w S here target index value (PutRefused a0 a1 a2 a3) (Make b0 b1 b2) a b h k m o = absurd k
put_once w S here target index value (PutRefused a0 a1 a2 a3) (MakeFull b0) a b h k m o = absurd k
put_once w S here target index value (PutRefused a0 a1 a2 a3) (Get b0 b1 b2) a b h k m o = absurd k
put_once w S here target index value (PutRefused a0 a1 a2 a3) (Put b0 b1 b2) a b h k m o = absurd (not_refused S a0 a1 o.0 a3
    (subst (λ (q : GlobalRef). Reads S q a1 o.0) (k.0 ∙ sym h.0) (subst (λ (q : ℤ). Reads S b0 q o.0) (k.1 ∙ sym h.1) o.1)) m)
put_once w S here target index value (PutRefused a0 a1 a2 a3) (Forget b0) a b h k m o = absurd k
put_once w S here target index value (PutRefused a0 a1 a2 a3) (GetRefused b0 b1 b2) a b h k m o = absurd k
put_once w S here target index value (PutRefused a0 a1 a2 a3) (PutRefused b0 b1 b2 b3) a b h k m o =
    let r : a0 ≡ b0 = h.0 ∙ sym k.0 in
    let i : a1 ≡ b1 = h.1 ∙ sym k.1 in
    let stale : a3 ≡ b3 = one_refusal S b0 b1 a3 b3 (subst (λ (q : GlobalRef). Refuses S q b1 a3) r (subst (λ (q : ℤ). Refuses S a0 q a3) i m)) o in (
      ap (λ (q : GlobalRef). PutRefused q a1 a2 a3) r ∙ ap (λ (q : ℤ). PutRefused b0 q a2 a3) i ∙ ap (λ (q : ℤ). PutRefused b0 b1 q a3) (h.2 ∙ sym k.2) ∙ ap (λ (q : Bool). PutRefused b0 b1 b2 q) stale,
      h.3 ∙ ap (λ (q : Bool). Fails (cond q Stale Index)) stale ∙ sym k.3,
    )
put_once w S here target index value (PutRefused a0 a1 a2 a3) (ForgetStale b0) a b h k m o = absurd k
put_once w S here target index value (ForgetStale a0) d a b h k m o = absurd h

forget_once : (w : ℕ) (S : State) (here : PlaceId) (target : GlobalRef) (c d : Cell) (a b : Answer) → Tells (Forgets target) here c a → Tells (Forgets target) here d b → MayCell w S c → MayCell w S d → (c ≡ d) × (a ≡ b)
forget_once w S here target (Make a0 a1 a2) d a b h k m o = absurd h
forget_once w S here target (MakeFull a0) d a b h k m o = absurd h
forget_once w S here target (Get a0 a1 a2) d a b h k m o = absurd h
forget_once w S here target (Put a0 a1 a2) d a b h k m o = absurd h
forget_once w S here target (Forget a0) (Make b0 b1 b2) a b h k m o = absurd k
forget_once w S here target (Forget a0) (MakeFull b0) a b h k m o = absurd k
forget_once w S here target (Forget a0) (Get b0 b1 b2) a b h k m o = absurd k
forget_once w S here target (Forget a0) (Put b0 b1 b2) a b h k m o = absurd k
forget_once w S here target (Forget a0) (Forget b0) a b h k m o = (ap (λ (q : GlobalRef). Forget q) (h.0 ∙ sym k.0), h.1 ∙ sym k.1)
forget_once w S here target (Forget a0) (GetRefused b0 b1 b2) a b h k m o = absurd k
forget_once w S here target (Forget a0) (PutRefused b0 b1 b2 b3) a b h k m o = absurd k
forget_once w S here target (Forget a0) (ForgetStale b0) a b h k m o = (let e : Some m.0 ≡ None = sym (subst (λ (q : GlobalRef). block_of S q ≡ Some m.0) (h.0 ∙ sym k.0) m.1) ∙ o in cc)
forget_once w S here target (GetRefused a0 a1 a2) d a b h k m o = absurd h
forget_once w S here target (PutRefused a0 a1 a2 a3) d a b h k m o = absurd h
forget_once w S here target (ForgetStale a0) (Make b0 b1 b2) a b h k m o = absurd k
forget_once w S here target (ForgetStale a0) (MakeFull b0) a b h k m o = absurd k
forget_once w S here target (ForgetStale a0) (Get b0 b1 b2) a b h k m o = absurd k
forget_once w S here target (ForgetStale a0) (Put b0 b1 b2) a b h k m o = absurd k
forget_once w S here target (ForgetStale a0) (Forget b0) a b h k m o = (let e : Some o.0 ≡ None = sym (subst (λ (q : GlobalRef). block_of S q ≡ Some o.0) (k.0 ∙ sym h.0) o.1) ∙ m in cc)
forget_once w S here target (ForgetStale a0) (GetRefused b0 b1 b2) a b h k m o = absurd k
forget_once w S here target (ForgetStale a0) (PutRefused b0 b1 b2 b3) a b h k m o = absurd k
forget_once w S here target (ForgetStale a0) (ForgetStale b0) a b h k m o = (ap (λ (q : GlobalRef). ForgetStale q) (h.0 ∙ sym k.0), h.1 ∙ sym k.1)

-- the event and the answer of a store call
pub tell_once : (w : ℕ) (S : State) (here : PlaceId) (d : Does) (c e : Cell) (a b : Answer) → Tells d here c a → Tells d here e b → MayCell w S c → MayCell w S e → (c ≡ e) × (a ≡ b)
tell_once w S here (Makes name words) c e a b h k m o = make_once w S name words here c e a b h k m o
tell_once w S here (Gets name target index) c e a b h k m o = get_once w S here name target index c e a b h k m o
tell_once w S here (Puts target index value) c e a b h k m o = put_once w S here target index value c e a b h k m o
tell_once w S here (Forgets target) c e a b h k m o = forget_once w S here target c e a b h k m o
tell_once w S here (Local left vars) c e a b h k m o = absurd h
tell_once w S here Opens c e a b h k m o = absurd h
tell_once w S here (Calls place) c e a b h k m o = absurd h
tell_once w S here (Spawns place) c e a b h k m o = absurd h
tell_once w S here (Waits faults) c e a b h k m o = absurd h
tell_once w S here Releases c e a b h k m o = absurd h
tell_once w S here (Prints value) c e a b h k m o = absurd h
tell_once w S here (Counts name) c e a b h k m o = absurd h
tell_once w S here (Done faults) c e a b h k m o = absurd h
