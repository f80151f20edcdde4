-- Along a history of the ledger: terms, numbers, entries and births of its tasks.
use Rattle.std.proofs.Common.{◌≡◌, ◌≢◌, ◌⊎◌, ℕ, suc, ◌+◌, ◌<◌, ◌≤◌, List, [], ◌∷◌, ◌++◌, length, slice_get, Option, Some, None, refl, arith, ap, sym, ◌∙◌, subst, append_assoc, inl, inr}
use Rattle.std.specs.List.{cons_option}
use Rattle.std.proofs.lemmas.Bool.{ne_eqb}
use Rattle.std.proofs.lemmas.List.{append-nil}
use Rattle.std.proofs.lemmas.List.Sums.{sum_by-cons}
use Rattle.rx_rules.proofs.Common.{TaskId, PlaceId, Tree, Allowed, made, AllAllowed, births, births_of, Starts, Moves, Birth, StartsSo, started_by, move_of, moves_from, birth_in, birth_from}
use Rattle.rx_rules.specs.declared.entries.Act.{Act}
use Rattle.rx_rules.specs.declared.entries.Act.TheVariants.{Open, At as Calls, Spawn, Arrive, Wait, Release, End, Print, Census}
use Rattle.rx_rules.specs.declared.entries.Entry.{Entry}
use Rattle.rx_rules.specs.declared.entries.Entry.TheVariants.{Step, Root, Death, Join}
use Rattle.rx_runs.specs.Segments.{Stand}
use Rattle.rx_rules.proofs.Numbers.{next-made}
use Rattle.rx_runs.proofs.Wider.{SoFor}
use Rattle.rx_parts.specs.Ledger.{LedgerItem, Actor, actor_born, ItemMakes, hosts, arrives, asks, ends, AllMake, entries_of, IsHostEntry}
use Rattle.rx_parts.proofs.Lists.{one_item, not_none, inside, outside, past}
use Rattle.rx_parts.proofs.Changes.{Change, same, lands, goes_on, leaves, changed, came, sized, own_moves}
use Rattle.rx_parts.proofs.Tasks.{later, ActorOk, ok_step, ok_new}
use Rattle.rx_tree_laws.proofs.Births.{started-next}

-- Terms.

abbrev pub Agree : Starts → List Actor → Type 0
Agree starts actors = (k : ℕ) (a : Actor) → slice_get actors k ≡ Some a → slice_get starts k ≡ Some a.start

abbrev pub AllOk : Starts → List Actor → Type 0
AllOk starts actors = (k : ℕ) (a : Actor) → slice_get actors k ≡ Some a → ActorOk starts a

-- the number of the task that an entry starts
abbrev pub Numbered : ℕ → Entry → Type 0
Numbered size e = (t : TaskId) (act : Act) (batch : List (List ℕ)) → e ≡ Step t act batch → (c : TaskId) → started_by act ≡ Some c → c.0 ≡ size

pub agree_back : (starts : Starts) (n : ℕ) (before : List Actor) (h : List LedgerItem) (last : List Actor) → AllMake n before h last → Agree starts last → Agree starts before
agree_back starts n before h last l g k a got = let z = later n before h last l k a got in g k z.0 z.1 ∙ ap Some z.2.start

pub numbered : (T : Tree) (size : ℕ) (e : Entry) → Allowed T e → T.next_task ≡ size → Numbered size e
numbered T size e h s t act batch is c st = started-next T t act (subst (Allowed T) is h) c st ∙ s

starts_so : (starts : Starts) (n size : ℕ) (i : LedgerItem) (after : List Actor) (act : Act) (z : Stand) → Agree starts after → ((c : TaskId) → started_by act ≡ Some c → c.0 ≡ size) → ((c : TaskId) → started_by act ≡ Some c → (from to : PlaceId) × (slice_get after size ≡ Some (actor_born n i from to z))) → StartsSo starts z.term z.vars act
starts_so starts n size i after act z agree num new = either (started_by act) refl where
  either : (o : Option TaskId) → started_by act ≡ o → SoFor starts z.term z.vars o
  either None e = tt
  either (Some c) e = let x = new c e in ap (slice_get starts) (num c e) ∙ agree size (actor_born n i x.0 x.1 z) x.2

ok_makes : (starts : Starts) (n : ℕ) (before : List Actor) (i : LedgerItem) (after : List Actor) → ItemMakes n before i after → Agree starts after → Numbered (length before) i.entry → AllOk starts before → AllOk starts after
ok_makes starts n before i after m agree num ok k b got = either (slice_get before k) refl where
  either : (o : Option Actor) → slice_get before k ≡ o → ActorOk starts b
  either None e = let c = came m k b e got in subst (ActorOk starts) (sym c.is_it) (ok_new n i c.from c.to c.stand)
  either (Some a) e =
      let c = changed m k a e in
      let it : c.0 ≡ b = one_item (slice_get after k) c.0 b c.1 got in
      subst (ActorOk starts) it (ok_step c.2 (λ t act z is new. starts_so starts n (length before) i after act z agree (num t act z.batch is) new) (ok k a e))

-- the number of tasks is that of the tree
pub size_next : (n : ℕ) (T : Tree) (before : List Actor) (i : LedgerItem) (after : List Actor) → ItemMakes n before i after → T.next_task ≡ length before → (made n T i.entry).next_task ≡ length after
size_next n T before i after m s = next-made n T i.entry ∙ (let e : length after ≡ length before + births_of i.entry = sized m in omega (arith, s, e))

pub ok_along : (starts : Starts) (n : ℕ) (T : Tree) (before : List Actor) (h : List LedgerItem) (last : List Actor) → AllAllowed n T (entries_of h) → T.next_task ≡ length before → AllMake n before h last → Agree starts last → AllOk starts before → AllOk starts last
ok_along starts n T before [] last a s l g ok = subst (AllOk starts) l ok
ok_along starts n T before (i ∷ h) last a s l g ok =
    ok_along starts (suc n) (made n T i.entry) l.0 h last a.1 (size_next n T before i l.0 l.1 s) l.2 g
    (ok_makes starts n before i l.0 l.1 (agree_back starts (suc n) l.0 h last l.2 g) (numbered T (length before) i.entry a.0 s) ok)

pub sized_along : (n : ℕ) (before : List Actor) (h : List LedgerItem) (last : List Actor) → AllMake n before h last → length last ≡ length before + births (entries_of h)
sized_along n before [] last l = ap length (sym l) ∙ (let e : length before ≡ length before + 0 = omega arith in e)
sized_along n before (i ∷ h) last l =
    let one : length l.0 ≡ length before + births_of i.entry = sized l.1 in
    let two : length last ≡ length l.0 + births (entries_of h) = sized_along (suc n) l.0 h last l.2 in
    let three : births (i.entry ∷ entries_of h) ≡ births_of i.entry + births (entries_of h) = sum_by-cons births_of i.entry (entries_of h) in
    omega (arith, one, two, three)

-- Entries.

abbrev pub moves_in : Option Actor → Moves
moves_in o = elim o [ Some a ↦ a.moves | None ↦ [] ]

-- who acts is there
pub acts_old : {n : ℕ} {before after : List Actor} {i : LedgerItem} → ItemMakes n before i after → (u : TaskId) (act : Act) (batch : List (List ℕ)) → i.entry ≡ Step u act batch → u.0 < length before
acts_old {before = before} {i = i} (hosts h) u act batch e = absurd (subst IsHostEntry e h)
acts_old {before = before} {i = i} (arrives t p a is stands by away none) u act batch e = let f : Step t (Arrive p) [] ≡ Step u act batch = sym is ∙ e in let g : t ≡ u = cc in subst (λ (v : TaskId). v.0 < length before) g (inside before t.0 a stands)
acts_old {before = before} {i = i} (asks t bct a z is stands by here walks low fits) u act batch e = let f : Step t bct z.batch ≡ Step u act batch = sym is ∙ e in let g : t ≡ u = cc in subst (λ (v : TaskId). v.0 < length before) g (inside before t.0 a stands)
acts_old {before = before} {i = i} (ends t faults a z is stands by here walks low done) u act batch e = let f : Step t (End faults) z.batch ≡ Step u act batch = sym is ∙ e in let g : t ≡ u = cc in subst (λ (v : TaskId). v.0 < length before) g (inside before t.0 a stands)

not_yet : (n k size : ℕ) (e : Entry) → ((u : TaskId) (act : Act) (batch : List (List ℕ)) → e ≡ Step u act batch → u.0 < size) → size ≤ k → move_of n k e ≡ None
not_yet n k size (Step t act batch) h le = let low : t.0 < size = h t act batch refl in rw (ne_eqb t.0 k (λ w. omega arith)) refl
not_yet n k size _ h le = refl

moved_by : (n k : ℕ) (i : LedgerItem) (before after : List Actor) (a b : Actor) → Change n k i before after a b → b.moves ≡ a.moves ++ cons_option (move_of n k i.entry) []
moved_by n k i before after a b (same h) = sym (append-nil a.moves) ∙ ap (λ o. a.moves ++ cons_option o []) (sym h)
moved_by n k i before after a b (lands t p it e by away none) = ap (λ o. a.moves ++ cons_option o []) (sym (own_moves n k i.entry t (Arrive p) [] e it))
moved_by n k i before after a b (goes_on t act z it e by here walks low fits new) = ap (λ o. a.moves ++ cons_option o []) (sym (own_moves n k i.entry t act z.batch e it))
moved_by n k i before after a b (leaves t faults z it e by here walks low done) = ap (λ o. a.moves ++ cons_option o []) (sym (own_moves n k i.entry t (End faults) z.batch e it))

moves_step : (n : ℕ) (before : List Actor) (i : LedgerItem) (after : List Actor) (k : ℕ) → ItemMakes n before i after → moves_in (slice_get after k) ≡ moves_in (slice_get before k) ++ cons_option (move_of n k i.entry) []
moves_step n before i after k m = either (slice_get before k) refl where
  -- in both cases no entry of it stands here
  none_yet : slice_get before k ≡ None → (p : Option Actor) → slice_get after k ≡ p → moves_in p ≡ cons_option (move_of n k i.entry) []
  none_yet e None f = ap (λ o. cons_option o []) (sym (not_yet n k (length before) i.entry (acts_old m) (outside before k e)))
  none_yet e (Some b) f = let c = came m k b e f in ap (λ (v : Actor). v.moves) c.is_it ∙ ap (λ o. cons_option o []) (sym (not_yet n k (length before) i.entry (acts_old m) (outside before k e)))

  either : (o : Option Actor) → slice_get before k ≡ o → moves_in (slice_get after k) ≡ moves_in o ++ cons_option (move_of n k i.entry) []
  either None e = none_yet e (slice_get after k) refl
  either (Some a) e = let c = changed m k a e in ap moves_in c.1 ∙ moved_by n k i before after a c.0 c.2

cons_then : {X : Type 0} (o : Option X) (xs : List X) → cons_option o [] ++ xs ≡ cons_option o xs
cons_then None xs = refl
cons_then (Some x) xs = refl

pub moves_along : (n : ℕ) (before : List Actor) (h : List LedgerItem) (last : List Actor) (k : ℕ) → AllMake n before h last → moves_in (slice_get last k) ≡ moves_in (slice_get before k) ++ moves_from n (entries_of h) k
moves_along n before [] last k l = ap (λ v. moves_in (slice_get v k)) (sym l) ∙ sym (append-nil (moves_in (slice_get before k)))
moves_along n before (i ∷ h) last k l =
    moves_along (suc n) l.0 h last k l.2
    ∙ ap (λ v. v ++ moves_from (suc n) (entries_of h) k) (moves_step n before i l.0 k l.1)
    ∙ append_assoc (moves_in (slice_get before k)) (cons_option (move_of n k i.entry) []) (moves_from (suc n) (entries_of h) k)
    ∙ ap (λ v. moves_in (slice_get before k) ++ v) (cons_then (move_of n k i.entry) (moves_from (suc n) (entries_of h) k))

-- Births.

pub birth_none : (n k size : ℕ) (e : Entry) → Numbered size e → (k < size) ⊎ (size + births_of e ≤ k) → birth_in n k e ≡ None
birth_none n k size (Step t (Open s r x) batch) h o = refl
birth_none n k size (Step t (Calls from to s r c x) batch) h o = let e : c.0 ≡ size = h t (Calls from to s r c x) batch refl c refl in rw (ne_eqb c.0 k (apart o e)) refl where
  apart : {c : TaskId} {k size : ℕ} → (k < size) ⊎ (size + 1 ≤ k) → c.0 ≡ size → c.0 ≢ k
  apart (inl l) e w = omega arith
  apart (inr l) e w = omega arith
birth_none n k size (Step t (Spawn c s from to x) batch) h o = let e : c.0 ≡ size = h t (Spawn c s from to x) batch refl c refl in rw (ne_eqb c.0 k (apart o e)) refl where
  apart : {c : TaskId} {k size : ℕ} → (k < size) ⊎ (size + 1 ≤ k) → c.0 ≡ size → c.0 ≢ k
  apart (inl l) e w = omega arith
  apart (inr l) e w = omega arith
birth_none n k size (Step t (Arrive p) batch) h o = refl
birth_none n k size (Step t (Wait s thrown) batch) h o = refl
birth_none n k size (Step t (Release s lost masked thrown) batch) h o = refl
birth_none n k size (Step t (End thrown) batch) h o = refl
birth_none n k size (Step t (Print value x) batch) h o = refl
birth_none n k size (Step t (Census places x) batch) h o = refl
birth_none n k size (Root lost masked thrown) h o = refl
birth_none n k size (Death d) h o = refl
birth_none n k size (Join p) h o = refl

abbrev birth_or : Option Birth → Birth → Birth
birth_or o b = elim o [ Some v ↦ v | None ↦ b ]

-- of a task that is born later
pub birth_late : (n : ℕ) (T : Tree) (before : List Actor) (h : List LedgerItem) (last : List Actor) → AllAllowed n T (entries_of h) → T.next_task ≡ length before → AllMake n before h last → (k : ℕ) (z : Actor) → length before ≤ k → slice_get last k ≡ Some z → birth_from n (entries_of h) k ≡ z.birth
birth_late n T before [] last a s l k z le got = absurd (not_none (slice_get last k) z got (past last k (subst (λ v. length v ≤ k) l le)))
birth_late n T before (i ∷ h) last a s l k z le got =
    either (λ out. birth_late (suc n) (made n T i.entry) l.0 h last a.1 (size_next n T before i l.0 l.1 s) l.2 k z out got) (slice_get l.0 k) refl
  where
    num : Numbered (length before) i.entry
    num = numbered T (length before) i.entry a.0 s

    either : (length l.0 ≤ k → birth_from (suc n) (entries_of h) k ≡ z.birth) → (o : Option Actor) → slice_get l.0 k ≡ o → birth_from n (entries_of (i ∷ h)) k ≡ z.birth
    either rest None e =
        let out : length l.0 ≤ k = outside l.0 k e in
        let size : length l.0 ≡ length before + births_of i.entry = sized l.1 in
        ap (λ (o : Option Birth). birth_or o (birth_from (suc n) (entries_of h) k)) (birth_none n k (length before) i.entry num (inr (omega (arith, out, size))))
        ∙ rest out
    either rest (Some b) e =
        let c = came l.1 k b (past before k le) e in
        let number : c.started.0 ≡ k = num c.task c.act c.batch c.entry c.started c.starts ∙ sym c.number in
        let born : birth_in n k i.entry ≡ Some (record { from = c.from; to = c.to; low = suc n }) = ap (birth_in n k) c.entry ∙ subst (λ (v : ℕ). birth_in n v (Step c.task c.act c.batch) ≡ Some (record { from = c.from; to = c.to; low = suc n })) number (c.birth_told n) in
        let w = later (suc n) l.0 h last l.2 k b e in
        let it : w.0 ≡ z = one_item (slice_get last k) w.0 z w.1 got in
        ap (λ (o : Option Birth). birth_or o (birth_from (suc n) (entries_of h) k)) born ∙ ap (λ (v : Actor). v.birth) (sym c.is_it) ∙ sym w.2.birth ∙ ap (λ (v : Actor). v.birth) it

-- a task that is there from the start has no birth
pub birth_early : (n : ℕ) (T : Tree) (before : List Actor) (h : List LedgerItem) (last : List Actor) → AllAllowed n T (entries_of h) → T.next_task ≡ length before → AllMake n before h last → (k : ℕ) → k < length before → birth_from n (entries_of h) k ≡ birth_from 0 [] k
birth_early n T before [] last a s l k low = refl
birth_early n T before (i ∷ h) last a s l k low =
    let num : Numbered (length before) i.entry = numbered T (length before) i.entry a.0 s in
    let size : length l.0 ≡ length before + births_of i.entry = sized l.1 in
    ap (λ (o : Option Birth). birth_or o (birth_from (suc n) (entries_of h) k)) (birth_none n k (length before) i.entry num (inl low))
    ∙ birth_early (suc n) (made n T i.entry) l.0 h last a.1 (size_next n T before i l.0 l.1 s) l.2 k (omega (arith, low, size))
