-- A legal history of a place has few events: each costs its task a store call of its own, whatever its entries went on to name,
-- and the tasks' own store calls are bounded along the history of the ledger.
use Rattle.std.proofs.Common.{◌≡◌, ◌≢◌, ℕ, zero, suc, ◌+◌, ◌*◌, ◌<◌, ◌≤◌, Bool, true, false, ◌==◌, List, [], ◌∷◌, ◌++◌, length, slice_get, slice_set, sum_by, Some, refl, arith, ap, sym, ◌∙◌, subst, inl, inr}
use Rattle.std.specs.List.{filter_map}
use Rattle.std.proofs.Math.Nat.{suc-mul}
use Rattle.std.proofs.lemmas.Bool.{eqb-true, eq-eqb, ne_eqb, true≢false}
use Rattle.std.proofs.lemmas.List.{append-nil}
use Rattle.std.proofs.lemmas.List.Sums.{sum_by-append, sum_by-cons}
use mathlib.Core.List.{IsPrefix}
use Rattle.rx_rules.proofs.Common.{PlaceId, Block, work, Term, Vars, Empty, items, does, child, granted, answered, Starts, Cells, Moves, cell_of, brought, started_by, Given}
use Rattle.rx_base.proofs.Prefixes.{prefix-trans}
use Rattle.rx_rules.specs.declared.entries.Act.{Act}
use Rattle.rx_rules.specs.declared.entries.Act.TheVariants.{At as Calls, Spawn}
use Rattle.rx_rules.specs.declared.events.PlaceEvent.{PlaceEvent}
use Rattle.rx_runs.specs.Segments as segments
use Rattle.rx_runs.specs.Segments.{Stand, StandGoes}
use Rattle.rx_runs.proofs.Segments.{joined}
use Rattle.rx_runs.proofs.Weighing.{share, tells_store}
use Rattle.rx_parts.specs.Ledger.{LedgerItem, Actor, Away, Present, Over, Walks, stays, local, stores, main_actor, first_stand, actor_born, actors_born, actor_arrived, actor_granted, actor_ended, ItemMakes, hosts, arrives, asks, ends, AllMake, LegalLedger}
use Rattle.rx_parts.specs.Places.{MadeEvent, event_of, journal_of, LegalFrom, LegalPlace, last_carried, seen_by}
use Rattle.rx_parts.proofs.Lists.{one_item, inside}
use Rattle.rx_parts.proofs.Tasks.{later, ActorOk, away, here, over, walk_goes}
use Rattle.rx_parts.proofs.Whole.{starts_of, agrees, legal_ok, legal_later, seen_from, LastEvent, LastOrNone, last_from, cells_of, low_of}
use Rattle.rx_parts_bounds.specs.Nesting.{nest}
use Rattle.rx_parts_bounds.specs.Bounds.{EventsBounded}
use Rattle.rx_parts_bounds.proofs.StoreCalls.{own, kids, own_items, kids_items, owns, gives, handed, local_owns, answer_owns, entry_owns, local_gives, answer_gives, entry_gives}
use Rattle.rx_parts_bounds.proofs.Scripts.{own-work, kids-work}

-- One task.

-- each event costs a store call of its own
counted : {begun : Starts} {here : PlaceId} {a z : Stand} {cells : Cells} {moves : Moves} → StandGoes begun here a cells moves z → length cells + owns z.term ≤ owns a.term
counted segments.stays = omega arith
counted {here = place} {a = a} {z = z} {cells = cells} (segments.local {after = after} {left = left} e p) =
    let h : length cells + owns z.term ≤ owns after = counted p in
    let l : owns after + 0 ≤ owns a.term = local_owns a.vars place.0 a.term after left e in
    omega (arith, h, l)
counted {here = place} {a = a} {z = z} (segments.stores {cells = more} {stamp = stamp} {cell = cell} {x = x} answer le tells b p) =
    let h : length more + owns z.term ≤ owns (answered answer a.term) = counted p in
    let l : owns (answered answer a.term) + 1 ≤ owns a.term = answer_owns a.vars place.0 a.term answer (tells_store (does a.vars place.0 a.term) place cell answer tells) in
    let s : length ((stamp, cell, x) ∷ more) ≡ suc (length more) = refl in
    omega (arith, h, l, s)
counted {here = place} {a = a} {z = z} {cells = cells} (segments.asks {act = act} le fits so p) =
    let h : length cells + owns z.term ≤ owns (granted (brought act) a.term) = counted p in
    let l = entry_owns a.vars place a.term act fits in
    omega (arith, h, l)

-- a walk gives nothing more away
walk_gives : {here : PlaceId} {a z : Stand} {cells : Cells} → Walks here a cells z → gives z.term ≤ gives a.term
walk_gives stays = omega arith
walk_gives {here = place} {a = a} {z = z} (local {after = after} {left = left} e w) =
    let h : gives z.term ≤ gives after = walk_gives w in
    let l : gives after + 0 ≤ gives a.term = local_gives a.vars place.0 a.term after left e in
    omega (arith, h, l)
walk_gives {here = place} {a = a} {z = z} (stores {cell = cell} answer le tells b w) =
    let h : gives z.term ≤ gives (answered answer a.term) = walk_gives w in
    let l : gives (answered answer a.term) + 0 ≤ gives a.term = answer_gives a.vars place.0 a.term answer (tells_store (does a.vars place.0 a.term) place cell answer tells) in
    omega (arith, h, l)

-- All tasks.

-- the store calls of a task itself from its start, and those that it may still give away
abbrev weight : Actor → ℕ
weight a = owns a.start.0 + gives a.stand.term

abbrev total : List Actor → ℕ
total actors = sum_by weight actors

sum_set : (xs : List Actor) (k : ℕ) (x y : Actor) → slice_get xs k ≡ Some x → total (slice_set xs k y) + weight x ≡ total xs + weight y
sum_set [] k x y h = absurd (let f : ⊥ = cc in f)
sum_set (v ∷ xs) zero x y h =
    let it : v ≡ x = cc in
    let alike : weight v ≡ weight x = ap weight it in
    let one : total (y ∷ xs) ≡ weight y + total xs = sum_by-cons weight y xs in
    let two : total (v ∷ xs) ≡ weight v + total xs = sum_by-cons weight v xs in
    omega (arith, alike, one, two)
sum_set (v ∷ xs) (suc k) x y h =
    let r : total (slice_set xs k y) + weight x ≡ total xs + weight y = sum_set xs k x y h in
    let one : total (v ∷ slice_set xs k y) ≡ weight v + total (slice_set xs k y) = sum_by-cons weight v (slice_set xs k y) in
    let two : total (v ∷ xs) ≡ weight v + total xs = sum_by-cons weight v xs in
    omega (arith, r, one, two)

born_one : (n : ℕ) (i : LedgerItem) (from to : PlaceId) (z : Stand) → total (actor_born n i from to z ∷ []) ≤ owns (child z.term) + gives (child z.term)
born_one n i from to z =
    let one : total (actor_born n i from to z ∷ []) ≡ weight (actor_born n i from to z) + 0 = sum_by-cons weight (actor_born n i from to z) [] in omega (arith, one)

born_total : (n : ℕ) (i : LedgerItem) (act : Act) (z : Stand) → total (actors_born n i act z) ≤ share handed (child z.term) (started_by act)
born_total n i (Calls from to s r c x) z = born_one n i from to z
born_total n i (Spawn c s from to x) z = born_one n i from to z
born_total n i _ z = omega arith

makes_total : {n : ℕ} {before after : List Actor} {i : LedgerItem} → ItemMakes n before i after → total after ≤ total before
makes_total (hosts h) = omega arith
makes_total {n = n} {before = before} {i = i} (arrives t p a e got by gone none) =
    let s : total (slice_set before t.0 (actor_arrived n i p a)) + weight a ≡ total before + weight (actor_arrived n i p a) = sum_set before t.0 a (actor_arrived n i p a) got in
    let w : weight (actor_arrived n i p a) ≡ weight a = refl in
    omega (arith, s, w)
makes_total {n = n} {before = before} {i = i} (asks t act a z e got by there walks low fits) =
    let s : total (slice_set before t.0 (actor_granted n i act z a)) + weight a ≡ total before + weight (actor_granted n i act z a) = sum_set before t.0 a (actor_granted n i act z a) got in
    let w : weight (actor_granted n i act z a) ≡ owns a.start.0 + gives (granted (brought act) z.term) = refl in
    let v : weight a ≡ owns a.start.0 + gives a.stand.term = refl in
    let b : total (actors_born n i act z) ≤ share handed (child z.term) (started_by act) = born_total n i act z in
    let g : gives (granted (brought act) z.term) + share handed (child z.term) (started_by act) + 0 ≤ gives z.term = entry_gives z.vars a.birth.to z.term act fits in
    let l : gives z.term ≤ gives a.stand.term = walk_gives walks in
    let all : total (slice_set before t.0 (actor_granted n i act z a) ++ actors_born n i act z) ≡ total (slice_set before t.0 (actor_granted n i act z a)) + total (actors_born n i act z) = sum_by-append weight (slice_set before t.0 (actor_granted n i act z a)) (actors_born n i act z) in
    omega (arith, s, w, v, b, g, l, all)
makes_total {n = n} {before = before} {i = i} (ends t faults a z e got by there walks low done) =
    let s : total (slice_set before t.0 (actor_ended n i faults z a)) + weight a ≡ total before + weight (actor_ended n i faults z a) = sum_set before t.0 a (actor_ended n i faults z a) got in
    let w : weight (actor_ended n i faults z a) ≡ owns a.start.0 + gives z.term = refl in
    let v : weight a ≡ owns a.start.0 + gives a.stand.term = refl in
    let l : gives z.term ≤ gives a.stand.term = walk_gives walks in
    omega (arith, s, w, v, l)

all_total : (n : ℕ) (before : List Actor) (h : List LedgerItem) (last : List Actor) → AllMake n before h last → total last ≤ total before
all_total n before [] last l = let e : total last ≡ total before = ap total (sym l) in omega arith
all_total n before (i ∷ h) last l =
    let one : total l.0 ≤ total before = makes_total l.1 in
    let two : total last ≤ total l.0 = all_total (suc n) l.0 h last l.2 in omega (arith, one, two)

-- The events of one task at a place.

by_task : (code : Block) (U : Given) (p t : ℕ) (journal : List PlaceEvent) (seen : List LedgerItem) (legal : LegalLedger code U seen) (a : Actor) → slice_get legal.actors t ≡ Some a → LastEvent code U p t journal seen → length (filter_map (cell_of t) journal) ≤ owns a.start.0
by_task code U p t journal seen legal a got l = by_ok (legal_ok (starts_of l.may.legal.actors) code U l.event.carried l.may.legal (agrees l.may.legal.actors) l.event.task.0 l.may.actor l.may.stands) where
  on : AllMake (length l.event.carried) l.may.legal.actors l.within.0 legal.actors
  on = legal_later code U l.event.carried seen l.may.legal legal l.within

  same_start : a.start ≡ l.may.actor.start
  same_start =
      let w = later (length l.event.carried) l.may.legal.actors l.within.0 legal.actors on t l.may.actor (subst (λ (v : ℕ). slice_get l.may.legal.actors v ≡ Some l.may.actor) l.is_of l.may.stands) in
      ap (λ (v : Actor). v.start) (one_item (slice_get legal.actors t) a w.0 got w.1) ∙ w.2.start

  by_here : (first : ℕ) (rest : Moves) → StandGoes (starts_of l.may.legal.actors) l.may.actor.birth.to (first_stand first l.may.actor.start) l.may.actor.named rest l.may.actor.stand → length (filter_map (cell_of t) journal) ≤ owns a.start.0
  by_here first rest g =
      let event : StandGoes (starts_of l.may.legal.actors) l.may.actor.birth.to l.may.stand ((l.event.stamp, l.event.cell, l.event.path) ∷ []) [] _ = segments.stores l.may.answer (low_of l) l.may.tells l.may.begins segments.stays in
      let n = counted (joined g (walk_goes l.may.walks event)) in
      let size : length (filter_map (cell_of t) journal) ≡ length (l.may.actor.named ++ (l.may.since ++ (l.event.stamp, l.event.cell, l.event.path) ∷ [])) = ap length (cells_of l) in
      let start : owns a.start.0 ≡ owns l.may.actor.start.0 = ap (λ (v : Term × Vars). owns v.0) same_start in
      omega (arith, n, size, start)

  by_ok : ActorOk (starts_of l.may.legal.actors) l.may.actor → length (filter_map (cell_of t) journal) ≤ owns a.start.0
  by_ok (away f tr mv c s) = absurd (let e : Away ≡ Present = sym f ∙ l.may.here in let g : ⊥ = cc in g)
  by_ok (here f first rest landed g) = by_here first rest g
  by_ok (over f b) = absurd (let e : Over ≡ Present = sym f ∙ l.may.here in let g : ⊥ = cc in g)

task_count : (code : Block) (U : Given) (p : ℕ) (k : List MadeEvent) (legal : LegalLedger code U (seen_by k)) → LegalPlace code U p k → (t : ℕ) (a : Actor) → slice_get legal.actors t ≡ Some a → length (filter_map (cell_of t) (journal_of k)) ≤ owns a.start.0
task_count code U p k legal place t a got = by (last_from code U p t [] 0 [] k tt place) where
  by : LastOrNone code U p t [] [] k → length (filter_map (cell_of t) (journal_of k)) ≤ owns a.start.0
  by (inl e) = let z : length (filter_map (cell_of t) (journal_of k)) ≡ 0 = ap length e in omega arith
  by (inr l) = by_task code U p t (journal_of k) (seen_by k) legal a got l

-- The events of all tasks.

-- how many are of tasks n, n + 1, ..
abbrev counts : ℕ → List Actor → List PlaceEvent → ℕ
counts n [] j = 0
counts n (a ∷ actors) j = length (filter_map (cell_of n) j) + counts (suc n) actors j

own_length : (t : ℕ) (m : MadeEvent) (j : List PlaceEvent) → m.task.0 ≡ t → length (filter_map (cell_of t) (event_of m ∷ j)) ≡ suc (length (filter_map (cell_of t) j))
own_length t m j e = rw (eq-eqb m.task.0 t e) refl

other_length : (t : ℕ) (m : MadeEvent) (j : List PlaceEvent) → m.task.0 ≢ t → length (filter_map (cell_of t) (event_of m ∷ j)) ≡ length (filter_map (cell_of t) j)
other_length t m j o = rw (ne_eqb m.task.0 t o) refl

counts_past : (n : ℕ) (actors : List Actor) (m : MadeEvent) (j : List PlaceEvent) → m.task.0 < n → counts n actors (event_of m ∷ j) ≡ counts n actors j
counts_past n [] m j low = refl
counts_past n (a ∷ actors) m j low =
    let one : length (filter_map (cell_of n) (event_of m ∷ j)) ≡ length (filter_map (cell_of n) j) = other_length n m j (λ e. omega arith) in
    let two : counts (suc n) actors (event_of m ∷ j) ≡ counts (suc n) actors j = counts_past (suc n) actors m j (omega arith) in
    omega (arith, one, two)

counts_one : (n : ℕ) (actors : List Actor) (m : MadeEvent) (j : List PlaceEvent) → n ≤ m.task.0 → m.task.0 < n + length actors → counts n actors (event_of m ∷ j) ≡ suc (counts n actors j)
counts_one n [] m j low high = absurd (let f : m.task.0 < n + 0 = high in omega arith)
counts_one n (a ∷ actors) m j low high =
    either (λ o. counts_one (suc n) actors m j (let ne : m.task.0 ≢ n = o in omega (arith, low, ne)) (let s : length (a ∷ actors) ≡ suc (length actors) = refl in omega (arith, high, s))) (m.task.0 == n) refl
  where
    either : (m.task.0 ≢ n → counts (suc n) actors (event_of m ∷ j) ≡ suc (counts (suc n) actors j)) → (b : Bool) → (m.task.0 == n) ≡ b → counts n (a ∷ actors) (event_of m ∷ j) ≡ suc (counts n (a ∷ actors) j)
    either f true e =
        let it : m.task.0 ≡ n = eqb-true m.task.0 n e in
        let one : length (filter_map (cell_of n) (event_of m ∷ j)) ≡ suc (length (filter_map (cell_of n) j)) = own_length n m j it in
        let two : counts (suc n) actors (event_of m ∷ j) ≡ counts (suc n) actors j = counts_past (suc n) actors m j (omega arith) in
        omega (arith, one, two)
    either f false e =
        let o : m.task.0 ≢ n = λ w. true≢false (sym (eq-eqb m.task.0 n w) ∙ e) in
        let one : length (filter_map (cell_of n) (event_of m ∷ j)) ≡ length (filter_map (cell_of n) j) = other_length n m j o in
        let two : counts (suc n) actors (event_of m ∷ j) ≡ suc (counts (suc n) actors j) = f o in
        omega (arith, one, two)

-- each event is of a task with a number below n
abbrev AllOld : ℕ → List MadeEvent → Type 0
AllOld n [] = Unit {0}
AllOld n (m ∷ k) = (m.task.0 < n) × AllOld n k

counts_all : (actors : List Actor) (k : List MadeEvent) → AllOld (length actors) k → length k ≤ counts 0 actors (journal_of k)
counts_all actors [] h = omega arith
counts_all actors (m ∷ k) h =
    let one : counts 0 actors (journal_of (m ∷ k)) ≡ suc (counts 0 actors (journal_of k)) = counts_one 0 actors m (journal_of k) (omega arith) (let l : m.task.0 < length actors = h.0 in omega arith) in
    let two : length k ≤ counts 0 actors (journal_of k) = counts_all actors k h.1 in
    let three : length (m ∷ k) ≡ suc (length k) = refl in
    omega (arith, one, two, three)

counts_weigh : (n : ℕ) (actors : List Actor) (j : List PlaceEvent) → ((k : ℕ) (a : Actor) → slice_get actors k ≡ Some a → length (filter_map (cell_of (n + k)) j) ≤ owns a.start.0) → counts n actors j ≤ total actors
counts_weigh n [] j f = omega arith
counts_weigh n (a ∷ actors) j f =
    let z : n + 0 ≡ n = omega arith in
    let one : length (filter_map (cell_of n) j) ≤ owns a.start.0 = subst (λ (v : ℕ). length (filter_map (cell_of v) j) ≤ owns a.start.0) z (f 0 a refl) in
    let two : counts (suc n) actors j ≤ total actors = counts_weigh (suc n) actors j (λ k b got. let e : n + suc k ≡ suc n + k = omega arith in subst (λ (v : ℕ). length (filter_map (cell_of v) j) ≤ owns b.start.0) e (f (suc k) b got)) in
    let three : total (a ∷ actors) ≡ weight a + total actors = sum_by-cons weight a actors in
    omega (arith, one, two, three)

all_old : (code : Block) (U : Given) (h : List LedgerItem) (legal : LegalLedger code U h) (p : ℕ) (before : List PlaceEvent) (low : ℕ) (seen : List LedgerItem) (k : List MadeEvent) → LegalFrom code U p before low seen k → IsPrefix (last_carried seen k) h → AllOld (length legal.actors) k
all_old code U h legal p before low seen [] l e = tt
all_old code U h legal p before low seen (m ∷ k) l e =
    let within : IsPrefix m.carried h = prefix-trans m.carried (last_carried m.carried k) h (seen_from code U p (before ++ event_of m ∷ []) m.stamp m.carried k l.3) e in
    let on = legal_later code U m.carried h l.0.legal legal within in
    let w = later (length m.carried) l.0.legal.actors within.0 legal.actors on m.task.0 l.0.actor l.0.stands in
    (inside legal.actors m.task.0 w.0 w.1, all_old code U h legal p (before ++ event_of m ∷ []) m.stamp m.carried k l.3 e)

seen_legal : (code : Block) (U : Given) (p : ℕ) (before : List PlaceEvent) (low : ℕ) (seen : List LedgerItem) (k : List MadeEvent) → LegalFrom code U p before low seen k → LegalLedger code U seen → LegalLedger code U (last_carried seen k)
seen_legal code U p before low seen [] h legal = legal
seen_legal code U p before low seen (m ∷ k) h legal = seen_legal code U p (before ++ event_of m ∷ []) m.stamp m.carried k h.3 h.0.legal

script_weighs : (code : Block) (places : ℕ) → total (main_actor code places ∷ []) ≤ (1 + nest code) * work code
script_weighs code places =
    let a : owns (items code [] Empty) ≡ own code + 0 = own_items code [] in
    let b : gives (items code [] Empty) ≡ kids code + 0 = kids_items code [] in
    let c : own code ≤ work code = own-work code in
    let d : kids code ≤ nest code * work code = kids-work code in
    let s : 1 + nest code ≡ suc (nest code) = omega arith in
    let e : (1 + nest code) * work code ≡ nest code * work code + work code = ap (λ v. v * work code) s ∙ suc-mul (nest code) (work code) in
    let f : total (main_actor code places ∷ []) ≡ weight (main_actor code places) + 0 = sum_by-cons weight (main_actor code places) [] in
    let g : weight (main_actor code places) ≡ owns (items code [] Empty) + gives (items code [] Empty) = refl in
    omega (arith, a, b, c, d, e, f, g)

few : (code : Block) (U : Given) (p : ℕ) (k : List MadeEvent) → LegalLedger code U (seen_by k) → LegalPlace code U p k → length k ≤ (1 + nest code) * work code
few code U p k legal place =
    let one : length k ≤ counts 0 legal.actors (journal_of k) = counts_all legal.actors k (all_old code U (seen_by k) legal p [] 0 [] k place ([], append-nil (seen_by k))) in
    let two : counts 0 legal.actors (journal_of k) ≤ total legal.actors = counts_weigh 0 legal.actors (journal_of k) (λ t a got. let z : 0 + t ≡ t = omega arith in subst (λ (v : ℕ). length (filter_map (cell_of v) (journal_of k)) ≤ owns a.start.0) (sym z) (task_count code U p k legal place t a got)) in
    let three : total legal.actors ≤ total (main_actor code U.places ∷ []) = all_total 0 (main_actor code U.places ∷ []) (seen_by k) legal.actors legal.made in
    let four : total (main_actor code U.places ∷ []) ≤ (1 + nest code) * work code = script_weighs code U.places in
    omega (arith, one, two, three, four)

pub events_bounded : EventsBounded
events_bounded code U p [] place = omega arith
events_bounded code U p (m ∷ k) place = few code U p (m ∷ k) (seen_legal code U p (event_of m ∷ []) m.stamp m.carried k place.3 place.0.legal) place
