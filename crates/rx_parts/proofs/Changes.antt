-- What an item makes of one task.
use Rattle.std.proofs.Common.{◌≡◌, ◌≢◌, ℕ, zero, suc, ◌+◌, ◌<◌, ◌≤◌, Bool, true, false, ◌==◌, List, [], ◌∷◌, ◌++◌, length, slice_get, slice_set, Some, None, refl, arith, ap, sym, ◌∙◌, subst, length-set, length-append}
use Rattle.std.proofs.lemmas.Bool.{eqb-true, eq-eqb, ne_eqb, true≢false}
use Rattle.std.proofs.lemmas.List.{append-nil}
use Rattle.rx_rules.proofs.Common.{PlaceId, TaskId, Fault, births_of, Done, does, move_of, birth_in, started_by}
use Rattle.rx_rules.specs.declared.entries.Act.{Act}
use Rattle.rx_rules.specs.declared.entries.Act.TheVariants.{Open, At as Calls, Spawn, Arrive, End}
use Rattle.rx_rules.specs.declared.entries.Entry.{Entry}
use Rattle.rx_rules.specs.declared.entries.Entry.TheVariants.{Step}
use Rattle.rx_rules.specs.Plays.{Fits}
use Rattle.rx_runs.specs.Segments.{Stand}
use Rattle.rx_parts.specs.Ledger.{LedgerItem, Actor, Away, Present, Walks, actor_born, actors_born, actor_arrived, actor_granted, actor_ended, IsHostEntry, ItemMakes, hosts, arrives, asks, ends}
use Rattle.rx_parts.proofs.Lists.{one_item, not_none, inside, outside, got_set, got_right}
use Rattle.rx_runs.proofs.Fitting.{get_left, set_other}

-- the task that the item starts stands behind the others
abbrev pub StartsNext : ℕ → LedgerItem → List Actor → List Actor → Act → Stand → Type 0
StartsNext n i before after act z =
    (c : TaskId) → started_by act ≡ Some c → (from to : PlaceId) × (slice_get after (length before) ≡ Some (actor_born n i from to z))

-- item n leaves task k as it was, or is its arrival, its request or its end
pub data Change (n k : ℕ) (i : LedgerItem) (before after : List Actor) (a : Actor) : Actor → Type 0 where
  same : move_of n k i.entry ≡ None → Change n k i before after a a
  lands : (t : TaskId) (p : PlaceId) → t.0 ≡ k → i.entry ≡ Step t (Arrive p) [] → i.by ≡ a.holder → a.phase ≡ Away → i.events ≡ [] → Change n k i before after a (actor_arrived n i p a)
  goes_on : (t : TaskId) (act : Act) (z : Stand) → t.0 ≡ k → i.entry ≡ Step t act z.batch → i.by ≡ a.holder → a.phase ≡ Present → Walks a.birth.to a.stand i.events z → z.low ≤ n → Fits a.birth.to z.term (does z.vars a.birth.to.0 z.term) act → StartsNext n i before after act z → Change n k i before after a (actor_granted n i act z a)
  leaves : (t : TaskId) (faults : List Fault) (z : Stand) → t.0 ≡ k → i.entry ≡ Step t (End faults) z.batch → i.by ≡ a.holder → a.phase ≡ Present → Walks a.birth.to a.stand i.events z → z.low ≤ n → does z.vars a.birth.to.0 z.term ≡ Done faults → Change n k i before after a (actor_ended n i faults z a)

host_moves : (n k : ℕ) (e : Entry) → IsHostEntry e → move_of n k e ≡ None
host_moves n k (Step t act batch) h = absurd h
host_moves n k _ h = refl

other_moves : (n k : ℕ) (e : Entry) (t : TaskId) (act : Act) (batch : List (List ℕ)) → e ≡ Step t act batch → t.0 ≢ k → move_of n k e ≡ None
other_moves n k e t act batch h o = ap (move_of n k) h ∙ rw (ne_eqb t.0 k o) refl

pub own_moves : (n k : ℕ) (e : Entry) (t : TaskId) (act : Act) (batch : List (List ℕ)) → e ≡ Step t act batch → t.0 ≡ k → move_of n k e ≡ Some (n, act, batch)
own_moves n k e t act batch h s = ap (move_of n k) h ∙ rw (eq-eqb t.0 k s) refl

starts_next : (n : ℕ) (i : LedgerItem) (before set : List Actor) (act : Act) (z : Stand) → length set ≡ length before → StartsNext n i before (set ++ actors_born n i act z) act z
starts_next n i before set (Calls from to s r b x) z e c h = (from, to, ap (slice_get (set ++ actor_born n i from to z ∷ [])) (let g : length before ≡ length set + 0 = omega arith in g) ∙ got_right set (actor_born n i from to z ∷ []) 0)
starts_next n i before set (Spawn b s from to x) z e c h = (from, to, ap (slice_get (set ++ actor_born n i from to z ∷ [])) (let g : length before ≡ length set + 0 = omega arith in g) ∙ got_right set (actor_born n i from to z ∷ []) 0)
starts_next n i before set _ z e c h = absurd (let f : ⊥ = cc in f)

-- what item n makes of task k, where it stands afterwards
abbrev pub Changed : ℕ → ℕ → LedgerItem → List Actor → List Actor → Actor → Type 0
Changed n k i before after a = (b : Actor) × (slice_get after k ≡ Some b) × Change n k i before after a b

asked : (n k : ℕ) (i : LedgerItem) (before : List Actor) (a : Actor) (t : TaskId) (act : Act) (b : Actor) (z : Stand) → i.entry ≡ Step t act z.batch → slice_get before t.0 ≡ Some b → i.by ≡ b.holder → b.phase ≡ Present → Walks b.birth.to b.stand i.events z → z.low ≤ n → Fits b.birth.to z.term (does z.vars b.birth.to.0 z.term) act → slice_get before k ≡ Some a → (v : Bool) → (t.0 == k) ≡ v → Changed n k i before (slice_set before t.0 (actor_granted n i act z b) ++ actors_born n i act z) a
asked n k i before a t act b z e stands by here walks low fits got v h =
    let size : length (slice_set before t.0 (actor_granted n i act z b)) ≡ length before = length-set before t.0 (actor_granted n i act z b) in
    let old : k < length before = inside before k a got in
    asked_at n k i before a t act b z (slice_set before t.0 (actor_granted n i act z b)) e stands by here walks low fits got size (omega (arith, size, old)) refl v h
  where
    asked_at : (n k : ℕ) (i : LedgerItem) (before : List Actor) (a : Actor) (t : TaskId) (act : Act) (b : Actor) (z : Stand) (set : List Actor) → i.entry ≡ Step t act z.batch → slice_get before t.0 ≡ Some b → i.by ≡ b.holder → b.phase ≡ Present → Walks b.birth.to b.stand i.events z → z.low ≤ n → Fits b.birth.to z.term (does z.vars b.birth.to.0 z.term) act → slice_get before k ≡ Some a → length set ≡ length before → k < length set → set ≡ slice_set before t.0 (actor_granted n i act z b) → (v : Bool) → (t.0 == k) ≡ v → Changed n k i before (set ++ actors_born n i act z) a
    asked_at n k i before a t act b z set e stands by here walks low fits got size left is true h =
        let it : t.0 ≡ k = eqb-true t.0 k h in
        let one : b ≡ a = one_item (slice_get before k) b a (subst (λ (j : ℕ). slice_get before j ≡ Some b) it stands) got in
        let own : slice_get set k ≡ Some (actor_granted n i act z b) = ap (λ v. slice_get v k) is ∙ subst (λ (j : ℕ). slice_get (slice_set before t.0 (actor_granted n i act z b)) j ≡ Some (actor_granted n i act z b)) it (got_set before t.0 b (actor_granted n i act z b) stands) in
        subst (λ (v : Actor). Changed n k i before (set ++ actors_born n i act z) v) one
        (actor_granted n i act z b, get_left set (actors_born n i act z) k left ∙ own, goes_on t act z it e by here walks low fits (starts_next n i before set act z size))
    asked_at n k i before a t act b z set e stands by here walks low fits got size left is false h =
        let o : t.0 ≢ k = λ w. true≢false (sym (eq-eqb t.0 k w) ∙ h) in
        (a, get_left set (actors_born n i act z) k left ∙ ap (λ v. slice_get v k) is ∙ set_other before t.0 k (actor_granted n i act z b) o ∙ got, same (other_moves n k i.entry t act z.batch e o))

pub changed : {n : ℕ} {before after : List Actor} {i : LedgerItem} → ItemMakes n before i after → (k : ℕ) (a : Actor) → slice_get before k ≡ Some a → Changed n k i before after a
changed {n = n} {i = i} (hosts h) k a got = (a, got, same (host_moves n k i.entry h))
changed {n = n} {before = before} {i = i} (arrives t p b e stands by away none) k a got = either (t.0 == k) refl where
  either : (v : Bool) → (t.0 == k) ≡ v → Changed n k i before (slice_set before t.0 (actor_arrived n i p b)) a
  either true h =
      let it : t.0 ≡ k = eqb-true t.0 k h in
      let one : b ≡ a = one_item (slice_get before k) b a (subst (λ (j : ℕ). slice_get before j ≡ Some b) it stands) got in
      subst (λ (v : Actor). Changed n k i before (slice_set before t.0 (actor_arrived n i p b)) v) one
      (actor_arrived n i p b, subst (λ (j : ℕ). slice_get (slice_set before t.0 (actor_arrived n i p b)) j ≡ Some (actor_arrived n i p b)) it (got_set before t.0 b (actor_arrived n i p b) stands), lands t p it e by away none)
  either false h =
      let o : t.0 ≢ k = λ w. true≢false (sym (eq-eqb t.0 k w) ∙ h) in
      (a, set_other before t.0 k (actor_arrived n i p b) o ∙ got, same (other_moves n k i.entry t (Arrive p) [] e o))
changed {n = n} {before = before} {i = i} (asks t act b z e stands by here walks low fits) k a got = asked n k i before a t act b z e stands by here walks low fits got (t.0 == k) refl
changed {n = n} {before = before} {i = i} (ends t faults b z e stands by here walks low done) k a got = either (t.0 == k) refl where
  either : (v : Bool) → (t.0 == k) ≡ v → Changed n k i before (slice_set before t.0 (actor_ended n i faults z b)) a
  either true h =
      let it : t.0 ≡ k = eqb-true t.0 k h in
      let one : b ≡ a = one_item (slice_get before k) b a (subst (λ (j : ℕ). slice_get before j ≡ Some b) it stands) got in
      subst (λ (v : Actor). Changed n k i before (slice_set before t.0 (actor_ended n i faults z b)) v) one
      (actor_ended n i faults z b, subst (λ (j : ℕ). slice_get (slice_set before t.0 (actor_ended n i faults z b)) j ≡ Some (actor_ended n i faults z b)) it (got_set before t.0 b (actor_ended n i faults z b) stands), leaves t faults z it e by here walks low done)
  either false h =
      let o : t.0 ≢ k = λ w. true≢false (sym (eq-eqb t.0 k w) ∙ h) in
      (a, set_other before t.0 k (actor_ended n i faults z b) o ∙ got, same (other_moves n k i.entry t (End faults) z.batch e o))

-- the number of tasks
born_size : (n : ℕ) (i : LedgerItem) (t : TaskId) (act : Act) (batch : List (List ℕ)) (z : Stand) → length (actors_born n i act z) ≡ births_of (Step t act batch)
born_size n i t (Open s r x) batch z = refl
born_size n i t _ batch z = refl

host_size : (e : Entry) → IsHostEntry e → births_of e ≡ 0
host_size (Step t act batch) h = absurd h
host_size _ h = refl

pub sized : {n : ℕ} {before after : List Actor} {i : LedgerItem} → ItemMakes n before i after → length after ≡ length before + births_of i.entry
sized {before = before} {i = i} (hosts h) = let z : births_of i.entry ≡ 0 = host_size i.entry h in omega arith
sized {n = n} {before = before} {i = i} (arrives t p b e stands by away none) =
    let z : births_of i.entry ≡ 0 = ap births_of e in let s : length (slice_set before t.0 (actor_arrived n i p b)) ≡ length before = length-set before t.0 (actor_arrived n i p b) in omega arith
sized {n = n} {before = before} {i = i} (asks t act b z e stands by here walks low fits) =
    let set : List Actor = slice_set before t.0 (actor_granted n i act z b) in
    let s : length (slice_set before t.0 (actor_granted n i act z b)) ≡ length before = length-set before t.0 (actor_granted n i act z b) in
    let m : length (actors_born n i act z) ≡ births_of i.entry = born_size n i t act z.batch z ∙ ap births_of (sym e) in
    let w : length (slice_set before t.0 (actor_granted n i act z b) ++ actors_born n i act z) ≡ length (slice_set before t.0 (actor_granted n i act z b)) + length (actors_born n i act z) = length-append (slice_set before t.0 (actor_granted n i act z b)) (actors_born n i act z) in
    omega (arith, s, m, w)
sized {n = n} {before = before} {i = i} (ends t faults b z e stands by here walks low done) =
    let m : births_of i.entry ≡ 0 = ap births_of e in let s : length (slice_set before t.0 (actor_ended n i faults z b)) ≡ length before = length-set before t.0 (actor_ended n i faults z b) in omega arith

-- a task that stands there now and did not before
pub record Came (n k : ℕ) (i : LedgerItem) (before : List Actor) (b : Actor) : Type 0 where
  pub task : TaskId
  pub act : Act
  pub batch : List (List ℕ)
  pub entry : i.entry ≡ Step task act batch
  pub old : task.0 < length before
  pub number : k ≡ length before
  pub started : TaskId
  pub starts : started_by act ≡ Some started
  pub from : PlaceId
  pub to : PlaceId
  pub stand : Stand
  pub is_it : b ≡ actor_born n i from to stand
  pub birth_told : (m : ℕ) → birth_in m started.0 (Step task act batch) ≡ Some (record { from = from; to = to; low = suc m })

none_came : (n k : ℕ) (i : LedgerItem) (before after : List Actor) (b : Actor) → length after ≡ length before → slice_get before k ≡ None → slice_get after k ≡ Some b → ⊥
none_came n k i before after b e gone got =
    let out : length before ≤ k = outside before k gone in
    let low : k < length after = inside after k b got in
    omega (arith, e, out, low)

came_none : (n k : ℕ) (i : LedgerItem) (before after : List Actor) (b : Actor) → length after ≡ length before → slice_get before k ≡ None → slice_get after k ≡ Some b → Came n k i before b
came_none n k i before after b e gone got =
    let out : length before ≤ k = outside before k gone in
    let low : k < length after = inside after k b got in
    absurd (omega arith)

only_one : {X : Type 0} (xs : List X) (x y : X) (k : ℕ) → length xs ≤ k → slice_get (xs ++ x ∷ []) k ≡ Some y → (k ≡ length xs) × (y ≡ x)
only_one [] x y zero h got = (refl, let e : x ≡ y = cc in sym e)
only_one [] x y (suc k) h got = absurd (let f : ⊥ = cc in f)
only_one (z ∷ xs) x y zero h got = absurd (omega arith)
only_one (z ∷ xs) x y (suc k) h got = let r = only_one xs x y k (omega arith) got in (ap suc r.0, r.1)

pub came_act : (n k : ℕ) (i : LedgerItem) (before set : List Actor) (t : TaskId) (act : Act) (batch : List (List ℕ)) (z : Stand) (b : Actor) → i.entry ≡ Step t act batch → t.0 < length before → length set ≡ length before → slice_get before k ≡ None → slice_get (set ++ actors_born n i act z) k ≡ Some b → (c : Came n k i before b) × (c.stand ≡ z)
came_act n k i before set t (Calls from to s r c x) batch z b e old size gone got =
    let out : length before ≤ k = outside before k gone in
    let one = only_one set (actor_born n i from to z) b k (omega arith) got in
    (record { task = t; act = Calls from to s r c x; batch = batch; entry = e; old = old; number = one.0 ∙ size; started = c; starts = refl; from = from; to = to; stand = z; is_it = one.1; birth_told = λ m. rw (eq-eqb c.0 c.0 refl) refl }, refl)
came_act n k i before set t (Spawn c s from to x) batch z b e old size gone got =
    let out : length before ≤ k = outside before k gone in
    let one = only_one set (actor_born n i from to z) b k (omega arith) got in
    (record { task = t; act = Spawn c s from to x; batch = batch; entry = e; old = old; number = one.0 ∙ size; started = c; starts = refl; from = from; to = to; stand = z; is_it = one.1; birth_told = λ m. rw (eq-eqb c.0 c.0 refl) refl }, refl)
came_act n k i before set t _ batch z b e old size gone got = absurd (none_came n k i before (set ++ []) b (ap length (append-nil set) ∙ size) gone got)

pub came : {n : ℕ} {before after : List Actor} {i : LedgerItem} → ItemMakes n before i after → (k : ℕ) (b : Actor) → slice_get before k ≡ None → slice_get after k ≡ Some b → Came n k i before b
came {n = n} {before = before} {i = i} (hosts h) k b gone got = absurd (not_none (slice_get before k) b got gone)
came {n = n} {before = before} {i = i} (arrives t p a e stands by away none) k b gone got = came_none n k i before (slice_set before t.0 (actor_arrived n i p a)) b (length-set before t.0 (actor_arrived n i p a)) gone got
came {n = n} {before = before} {i = i} (asks t act a z e stands by here walks low fits) k b gone got =
    (came_act n k i before (slice_set before t.0 (actor_granted n i act z a)) t act z.batch z b e (inside before t.0 a stands) (length-set before t.0 (actor_granted n i act z a)) gone got).0
came {n = n} {before = before} {i = i} (ends t faults a z e stands by here walks low done) k b gone got = came_none n k i before (slice_set before t.0 (actor_ended n i faults z a)) b (length-set before t.0 (actor_ended n i faults z a)) gone got
