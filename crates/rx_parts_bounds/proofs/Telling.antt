-- A whole run is told item by item: each entry names the events that its task made since its entry before.
use Rattle.std.proofs.Common.{◌≡◌, ◌≢◌, ◌⊎◌, ℕ, suc, ◌+◌, ◌<◌, ◌≤◌, Bool, true, false, cond, not, ◌==◌, List, [], ◌∷◌, ◌++◌, length, slice_get, slice_set, Option, Some, None, All, refl, arith, ap, sym, ◌∙◌, subst, inl, inr, append_assoc, length-set}
use Rattle.std.specs.List.{cons_option}
use Rattle.std.proofs.lemmas.Bool.{eqb-true, eq-eqb, ne_eqb, true≢false}
use Rattle.std.proofs.lemmas.List.Sums.{sum_by-cons}
use Rattle.rx_rules.proofs.Common.{PlaceId, TaskId, Fault, Term, Vars, Done, does, granted, child, Tree, Allowed, made, AllAllowed, births, births_of, Reached, IsOlder, Starts, Cells, Moves, Birth, Plays, BeginsWithArrival, Tells, StartsSo, started_by, travels, brought, begun, vars_told, moves_from, birth_in, birth_from, FromOn}
use Rattle.rx_rules.specs.declared.entries.Act.{Act}
use Rattle.rx_rules.specs.declared.entries.Act.TheVariants.{At as Calls, Spawn, Arrive, End}
use Rattle.rx_rules.specs.declared.entries.Entry.{Entry}
use Rattle.rx_rules.specs.declared.entries.Entry.TheVariants.{Step, Root, Death, Join}
use Rattle.rx_base.proofs.Elements.{get-within}
use Rattle.rx_rules.specs.declared.entries.Act.{Act}
use Rattle.rx_rules.specs.declared.entries.Act.TheVariants.{At as Calls, Spawn, Arrive, End}
use Rattle.rx_rules.specs.declared.entries.Entry.{Entry}
use Rattle.rx_rules.specs.declared.entries.Entry.TheVariants.{Step, Root, Death, Join}
use Rattle.rx_rules.specs.Plays as rules
use Rattle.rx_rules.specs.Plays.{Fits}
use Rattle.rx_rules.proofs.Inverting.{cells_from_low}
use Rattle.rx_rules.proofs.Numbers.{next-made}
use Rattle.rx_tree_laws.proofs.Histories.{reached_now, dead-now}
use Rattle.rx_runs.specs.Segments.{Stand}
use Rattle.rx_runs.proofs.Sharing.{act_below}
use Rattle.rx_runs.proofs.Wider.{SoFor}
use Rattle.rx_parts.specs.Ledger.{LedgerItem, Actor, Away, Present, Over, Walks, stays, local, stores, first_stand, actor_born, actors_born, actor_arrived, actor_granted, actor_ended, IsHostEntry, ItemMakes, hosts, arrives, asks, ends, entries_of}
use Rattle.rx_parts.proofs.Lists.{one_item, not_none, inside, outside, got_set}
use Rattle.rx_parts.proofs.Changes.{Change, same, lands, goes_on, leaves, changed, came, came_act, sized}
use Rattle.rx_parts.proofs.Along.{Numbered, numbered, birth_none, size_next}
use Rattle.rx_runs.proofs.Fitting.{get_left}

-- The next entry of a task.

-- act n is granted where the term stands at z, and then the term makes these
abbrev AsksNext : Starts → PlaceId → Stand → ℕ → Act → Cells → Moves → Type 0
AsksNext starts here z n act later more =
    Fits here z.term (does z.vars here.0 z.term) act × StartsSo starts z.term z.vars act
    × Plays starts here (suc n) (vars_told (does z.vars here.0 z.term) act z.vars) (granted (brought act) z.term) [] later more

-- or it is the task's end
abbrev EndsNext : PlaceId → Stand → Act → Cells → Moves → Type 0
EndsNext here z act later more = (faults : List Fault) × (does z.vars here.0 z.term ≡ Done faults) × (act ≡ End faults) × (later ≡ []) × (more ≡ [])

-- The walk to the next entry, and what the entry then is.
pub record NextAsk (starts : Starts) (here : PlaceId) (a : Stand) (cells : Cells) (n : ℕ) (act : Act) (batch : List (List ℕ)) (more : Moves) : Type 0 where
  pub events : Cells
  pub later : Cells
  pub parts : cells ≡ events ++ later
  pub stand : Stand
  pub walks : Walks here a events stand
  pub low : stand.low ≤ n
  pub begun_are : batch ≡ stand.batch
  pub goes : AsksNext starts here stand n act later more ⊎ EndsNext here stand act later more

next_ask : {starts : Starts} {here : PlaceId} {low : ℕ} {vars : Vars} {t : Term} {batch : List (List ℕ)} {cells : Cells} {moves : Moves} (n : ℕ) (act : Act) (last : List (List ℕ)) (more : Moves) → Plays starts here low vars t batch cells moves → moves ≡ (n, act, last) ∷ more → NextAsk starts here (record { low = low; vars = vars; term = t; batch = batch }) cells n act last more
next_ask n act last more (rules.local e p) h =
    let r = next_ask n act last more p h in
    record { events = r.events; later = r.later; parts = r.parts; stand = r.stand; walks = local e r.walks; low = r.low; begun_are = r.begun_are; goes = r.goes }
next_ask n act last more (rules.stores {stamp = stamp} {cell = cell} {x = x} a le tells b p) h =
    let r = next_ask n act last more p h in
    record { events = (stamp, cell, x) ∷ r.events; later = r.later; parts = ap (λ v. (stamp, cell, x) ∷ v) r.parts; stand = r.stand; walks = stores a le tells b r.walks; low = r.low; begun_are = r.begun_are; goes = r.goes }
next_ask {starts = starts} {here = here} {vars = vars} {t = t} n act last more (rules.asks {low = low} {batch = batch} {cells = cells} {moves = rest} {n = k} {act = bct} le fits so p) h =
    let head : ◌≡◌ {A = ℕ × Act × List (List ℕ)} (k, bct, batch) (n, act, last) = cc in
    let tail : rest ≡ more = cc in
    let number : k ≡ n = ap (λ (m : ℕ × Act × List (List ℕ)). m.0) head in
    let acts : bct ≡ act = ap (λ (m : ℕ × Act × List (List ℕ)). m.1) head in
    let batches : batch ≡ last = ap (λ (m : ℕ × Act × List (List ℕ)). m.2) head in
    let p_at : Plays starts here (suc n) (vars_told (does vars here.0 t) bct vars) (granted (brought bct) t) [] cells rest = subst (λ (v : ℕ). Plays starts here (suc v) (vars_told (does vars here.0 t) bct vars) (granted (brought bct) t) [] cells rest) number p in
    let p_act : Plays starts here (suc n) (vars_told (does vars here.0 t) act vars) (granted (brought act) t) [] cells rest = subst (λ (v : Act). Plays starts here (suc n) (vars_told (does vars here.0 t) v vars) (granted (brought v) t) [] cells rest) acts p_at in
    record {
      events = [];
      later = cells;
      parts = refl;
      stand = record { low = low; vars = vars; term = t; batch = batch };
      walks = stays;
      low = subst (λ (v : ℕ). low ≤ v) number le;
      begun_are = sym batches;
      goes = inl (subst (λ (v : Act). Fits here t (does vars here.0 t) v) acts fits, subst (λ (v : Act). StartsSo starts t vars v) acts so, subst (λ (v : Moves). Plays starts here (suc n) (vars_told (does vars here.0 t) act vars) (granted (brought act) t) [] cells v) tail p_act);
    }
next_ask {vars = vars} {t = t} n act last more (rules.ends {low = low} {batch = batch} {n = k} {faults = faults} le e) h =
    let head : ◌≡◌ {A = ℕ × Act × List (List ℕ)} (k, End faults, batch) (n, act, last) = cc in
    let tail : [] ≡ more = cc in
    let number : k ≡ n = ap (λ (m : ℕ × Act × List (List ℕ)). m.0) head in
    let acts : End faults ≡ act = ap (λ (m : ℕ × Act × List (List ℕ)). m.1) head in
    let batches : batch ≡ last = ap (λ (m : ℕ × Act × List (List ℕ)). m.2) head in
    record { events = []; later = []; parts = refl; stand = record { low = low; vars = vars; term = t; batch = batch }; walks = stays; low = subst (λ (v : ℕ). low ≤ v) number le; begun_are = sym batches; goes = inr (faults, e, sym acts, refl, sym tail) }
next_ask n act last more rules.stops h = absurd (let f : ⊥ = cc in f)

-- What a task has still to make, after n entries.

pub data RestOf (starts : Starts) (a : Actor) (cells : Cells) (moves : Moves) : Type 0 where
  away : a.phase ≡ Away → a.stand ≡ first_stand a.birth.low a.start → BeginsWithArrival starts a.birth.to true a.birth.low a.start.1 a.start.0 cells moves → RestOf starts a cells moves
  here : a.phase ≡ Present → Plays starts a.birth.to a.stand.low a.stand.vars a.stand.term a.stand.batch cells moves → RestOf starts a cells moves
  over : a.phase ≡ Over → cells ≡ [] → moves ≡ [] → RestOf starts a cells moves

-- each stamp is below n
abbrev pub Below : ℕ → Cells → Type 0
Below n [] = Unit {0}
Below n (c ∷ cs) = (c.0 < n) × Below n cs

-- the next entry is not before n
abbrev pub NotBefore : ℕ → Moves → Type 0
NotBefore n [] = Unit {0}
NotBefore n (m ∷ ms) = n ≤ m.0

pub record Going (starts : Starts) (n m : ℕ) (whole : Cells) (a : Actor) (cells : Cells) (moves : Moves) : Type 0 where
  pub rest : RestOf starts a cells moves
  pub parts : whole ≡ a.named ++ cells
  pub low : a.stand.low ≤ n
  pub named : Below n a.named
  pub ahead : NotBefore m moves
  pub seat : a.seat ≡ []
  pub holder : a.holder ≡ []

-- and what one makes that is not yet born
abbrev pub Unborn : Starts → ℕ → List Entry → ℕ → Cells → Type 0
Unborn starts n es k cells =
    (s : Term × Vars) → slice_get starts k ≡ Some s → BeginsWithArrival starts (birth_from n es k).to (travels (birth_from n es k)) (birth_from n es k).low s.1 s.0 cells (moves_from n es k)

-- all tasks after n entries, where es are the entries that are left; `left` gives the events that are left
pub record Now (starts : Starts) (n : ℕ) (whole : ℕ → Cells) (actors : List Actor) (left : ℕ → Cells) (es : List Entry) : Type 0 where
  pub going : (k : ℕ) (a : Actor) → slice_get actors k ≡ Some a → Going starts n n (whole k) a (left k) (moves_from n es k)
  pub unborn : (k : ℕ) → length actors ≤ k → Unborn starts n es k (left k) × (left k ≡ whole k)

-- What is known at each point of the history: after n entries, where no entry that comes is before m.
pub record Point (starts : Starts) (n m : ℕ) (whole : ℕ → Cells) (actors : List Actor) : Type 0 where
  pub going : (k : ℕ) (a : Actor) → slice_get actors k ≡ Some a → (cells : Cells) × (moves : Moves) × Going starts n m (whole k) a cells moves
  pub unborn : (k : ℕ) → length actors ≤ k → k < length starts → FromOn (suc m) (whole k)

abbrev pub Points : Starts → (ℕ → Cells) → ℕ → List Actor → List LedgerItem → List Actor → Type 0
Points starts whole n actors [] last = (actors ≡ last) × ((m : ℕ) → Point starts n m whole actors)
Points starts whole n actors (i ∷ h) last = Point starts n n whole actors × ((next : List Actor) × ItemMakes n actors i next × Points starts whole (suc n) next h last)

-- Lists of entries.

weaker : (n : ℕ) (ms : Moves) → NotBefore (suc n) ms → NotBefore n ms
weaker n [] h = tt
weaker n (m ∷ ms) h = let l : suc n ≤ m.0 = h in omega arith

pub moves_after : (n : ℕ) (es : List Entry) (k : ℕ) → NotBefore n (moves_from n es k)
moves_after n [] k = tt
moves_after n (Step t act batch ∷ es) k = either (t.0 == k) (weaker n (moves_from (suc n) es k) (moves_after (suc n) es k)) where
  either : (b : Bool) → NotBefore n (moves_from (suc n) es k) → NotBefore n (cons_option (cond b (Some (n, act, batch)) None) (moves_from (suc n) es k))
  either true h = omega arith
  either false h = h
moves_after n (e ∷ es) k = weaker n (moves_from (suc n) es k) (moves_after (suc n) es k)

own_next : (n : ℕ) (t : TaskId) (act : Act) (batch : List (List ℕ)) (es : List Entry) (k : ℕ) → t.0 ≡ k → moves_from n (Step t act batch ∷ es) k ≡ (n, act, batch) ∷ moves_from (suc n) es k
own_next n t act batch es k e = rw (eq-eqb t.0 k e) refl

other_next : (n : ℕ) (t : TaskId) (act : Act) (batch : List (List ℕ)) (es : List Entry) (k : ℕ) → t.0 ≢ k → moves_from n (Step t act batch ∷ es) k ≡ moves_from (suc n) es k
other_next n t act batch es k o = rw (ne_eqb t.0 k o) refl

-- a birth that is to come has its number
started_low : (n : ℕ) (v : Bool) (from to : PlaceId) (b : Birth) → cond v (Some (let w : Birth = record { from = from; to = to; low = suc n } in w)) None ≡ Some b → b.low ≡ suc n
started_low n true from to b e = let f : ◌≡◌ {A = Birth} (record { from = from; to = to; low = suc n }) b = cc in ap (λ (w : Birth). w.low) (sym f)
started_low n false from to b e = absurd (let f : ⊥ = cc in f)

birth_low : (n k : ℕ) (e : Entry) (b : Birth) → birth_in n k e ≡ Some b → b.low ≡ suc n
birth_low n k (Step t (Calls from to s r c x) batch) b h = started_low n (c.0 == k) from to b h
birth_low n k (Step t (Spawn c s from to x) batch) b h = started_low n (c.0 == k) from to b h
birth_low n k _ b h = absurd (let f : ⊥ = cc in f)

-- who is not born now, and not before, is born later
still_to_come : (n k size : ℕ) (e : Entry) → Numbered size e → size ≤ k → birth_in n k e ≡ None → size + births_of e ≤ k
still_to_come n k size (Step t (Calls from to s r c x) batch) h le no_birth =
    let num : c.0 ≡ size = h t (Calls from to s r c x) batch refl c refl in
    let o : c.0 ≢ k = λ w. let e : birth_in n k (Step t (Calls from to s r c x) batch) ≡ Some (record { from = from; to = to; low = suc n }) = rw (eq-eqb c.0 k w) refl in not_none (birth_in n k (Step t (Calls from to s r c x) batch)) (record { from = from; to = to; low = suc n }) e no_birth in
    omega (arith, num, o, le)
still_to_come n k size (Step t (Spawn c s from to x) batch) h le no_birth =
    let num : c.0 ≡ size = h t (Spawn c s from to x) batch refl c refl in
    let o : c.0 ≢ k = λ w. let e : birth_in n k (Step t (Spawn c s from to x) batch) ≡ Some (record { from = from; to = to; low = suc n }) = rw (eq-eqb c.0 k w) refl in not_none (birth_in n k (Step t (Spawn c s from to x) batch)) (record { from = from; to = to; low = suc n }) e no_birth in
    omega (arith, num, o, le)
still_to_come n k size _ h le no_birth = omega arith

abbrev birth_or : Option Birth → Birth → Birth
birth_or o b = elim o [ Some v ↦ v | None ↦ b ]

birth_ahead : (n k : ℕ) (T : Tree) (es : List Entry) → AllAllowed n T es → T.next_task ≤ k → k < T.next_task + births es → suc n ≤ (birth_from n es k).low
birth_ahead n k T [] a le lt = absurd (let f : k < T.next_task + 0 = lt in omega arith)
birth_ahead n k T (e ∷ es) a le lt =
    either
    (λ past.
    let size : births (e ∷ es) ≡ births_of e + births es = sum_by-cons births_of e es in
    let next : (made n T e).next_task ≡ T.next_task + births_of e = next-made n T e in
    birth_ahead (suc n) k (made n T e) es a.1 (omega (arith, next, past)) (omega (arith, next, size, lt))) (birth_in n k e) refl
  where
    either : (T.next_task + births_of e ≤ k → suc (suc n) ≤ (birth_from (suc n) es k).low) → (o : Option Birth) → birth_in n k e ≡ o → suc n ≤ (birth_from n (e ∷ es) k).low
    either f None h =
        let r : suc (suc n) ≤ (birth_from (suc n) es k).low = f (still_to_come n k T.next_task e (numbered T T.next_task e a.0 refl) le h) in
        let it : (birth_from n (e ∷ es) k).low ≡ (birth_from (suc n) es k).low = ap (λ (o : Option Birth). (birth_or o (birth_from (suc n) es k)).low) h in
        omega (arith, r, it)
    either f (Some b) h =
        let l : b.low ≡ suc n = birth_low n k e b h in
        let it : (birth_from n (e ∷ es) k).low ≡ b.low = ap (λ (o : Option Birth). (birth_or o (birth_from (suc n) es k)).low) h in
        omega (arith, l, it)

-- Stamps.

below_more : (m n : ℕ) → m ≤ n → (cs : Cells) → Below m cs → Below n cs
below_more m n le [] h = tt
below_more m n le (c ∷ cs) h = (let l : c.0 < m = h.0 in omega arith, below_more m n le cs h.1)

below_both : (n : ℕ) (xs ys : Cells) → Below n xs → Below n ys → Below n (xs ++ ys)
below_both n [] ys h k = k
below_both n (x ∷ xs) ys h k = (h.0, below_both n xs ys h.1 k)

from_less : (m n : ℕ) → m ≤ n → (cs : Cells) → FromOn n cs → FromOn m cs
from_less m n le [] h = tt
from_less m n le (c ∷ cs) h = (let l : n ≤ c.0 = h.0 in omega arith, from_less m n le cs h.1)

walk_up : {place : PlaceId} {a z : Stand} {cells : Cells} → Walks place a cells z → a.low ≤ z.low
walk_up stays = omega arith
walk_up (local e w) = walk_up w
walk_up {a = a} {z = z} (stores {stamp = stamp} answer le tells b w) = let r : stamp ≤ z.low = walk_up w in let l : a.low ≤ stamp = le in omega arith

pub walk_below : {place : PlaceId} {a z : Stand} {cells : Cells} → Walks place a cells z → Below (suc z.low) cells
walk_below stays = tt
walk_below (local e w) = walk_below w
walk_below {z = z} (stores {stamp = stamp} answer le tells b w) = (let r : stamp ≤ z.low = walk_up w in omega arith, walk_below w)

-- no event of a task is before its birth, and none before its arrival
begins_from : (starts : Starts) (place : PlaceId) (b : Bool) (n low : ℕ) (vars : Vars) (t : Term) (cells : Cells) (moves : Moves) → suc n ≤ low → NotBefore n moves → BeginsWithArrival starts place b low vars t cells moves → FromOn (suc n) cells
begins_from starts place false n low vars t cells moves le ahead h = from_less (suc n) low le cells (cells_from_low h)
begins_from starts place true n low vars t cells [] le ahead h = subst (FromOn (suc n)) (sym h) tt
begins_from starts place true n low vars t cells ((q, Arrive p, batch) ∷ moves) le ahead h = let l : n ≤ q = ahead in from_less (suc n) (suc q) (omega arith) cells (cells_from_low h.1)
begins_from starts place true n low vars t cells _ le ahead h = absurd h

-- A point.

point_now : (starts : Starts) (n : ℕ) (whole : ℕ → Cells) (T : Tree) (actors : List Actor) (left : ℕ → Cells) (es : List Entry) → AllAllowed n T es → T.next_task ≡ length actors → length starts ≡ length actors + births es → Now starts n whole actors left es → Point starts n n whole actors
point_now starts n whole T actors left es a size all now =
    record {
      going = λ k b got. (left k, moves_from n es k, now.going k b got);
      unborn = λ k le lt.
          let s = get-within starts k lt in
          let u = now.unborn k le in
          let low : suc n ≤ (birth_from n es k).low = birth_ahead n k T es a (omega (arith, size, le)) (omega (arith, size, all, lt)) in
          subst (FromOn (suc n)) u.1 (begins_from starts (birth_from n es k).to (travels (birth_from n es k)) n (birth_from n es k).low s.0.1 s.0.0 (left k) (moves_from n es k) low (moves_after n es k) (u.0 s.0 s.1));
    }

point_last : (starts : Starts) (n : ℕ) (whole : ℕ → Cells) (actors : List Actor) (left : ℕ → Cells) → length starts ≡ length actors + 0 → Now starts n whole actors left [] → (m : ℕ) → Point starts n m whole actors
point_last starts n whole actors left all now m =
    record {
      going = λ k b got. let g = now.going k b got in (left k, [], record { rest = g.rest; parts = g.parts; low = g.low; named = g.named; ahead = tt; seat = g.seat; holder = g.holder });
      unborn = λ k le lt. absurd (omega (arith, all, le, lt));
    }

-- The tasks that an entry does not concern.

going_on : (starts : Starts) (n : ℕ) (whole : Cells) (a : Actor) (cells : Cells) (moves : Moves) → NotBefore (suc n) moves → Going starts n n whole a cells moves → Going starts (suc n) (suc n) whole a cells moves
going_on starts n whole a cells moves ahead g =
    let low : a.stand.low ≤ n = g.low in
    record { rest = g.rest; parts = g.parts; low = omega arith; named = below_more n (suc n) (omega arith) a.named g.named; ahead = ahead; seat = g.seat; holder = g.holder }

abbrev left_after : TaskId → Cells → (ℕ → Cells) → ℕ → Cells
left_after t later left k = cond (t.0 == k) later (left k)

left_own : (t : TaskId) (later : Cells) (left : ℕ → Cells) (k : ℕ) → t.0 ≡ k → left_after t later left k ≡ later
left_own t later left k e = ap (λ b. cond b later (left k)) (eq-eqb t.0 k e)

left_other : (t : TaskId) (later : Cells) (left : ℕ → Cells) (k : ℕ) → t.0 ≢ k → left_after t later left k ≡ left k
left_other t later left k o = ap (λ b. cond b later (left k)) (ne_eqb t.0 k o)

unchanged : (n k : ℕ) (i : LedgerItem) (before after : List Actor) (a b : Actor) (t : TaskId) (act : Act) (batch : List (List ℕ)) → Change n k i before after a b → i.entry ≡ Step t act batch → t.0 ≢ k → b ≡ a
unchanged n k i before after a b t act batch (same h) e o = refl
unchanged n k i before after a b t act batch (lands u p it is by gone none) e o = absurd (let f : Step u (Arrive p) [] ≡ Step t act batch = sym is ∙ e in let g : u ≡ t = cc in o (ap (λ (v : TaskId). v.0) (sym g) ∙ it))
unchanged n k i before after a b t act batch (goes_on u bct z it is by there walks low fits new) e o = absurd (let f : Step u bct z.batch ≡ Step t act batch = sym is ∙ e in let g : u ≡ t = cc in o (ap (λ (v : TaskId). v.0) (sym g) ∙ it))
unchanged n k i before after a b t act batch (leaves u faults z it is by there walks low done) e o = absurd (let f : Step u (End faults) z.batch ≡ Step t act batch = sym is ∙ e in let g : u ≡ t = cc in o (ap (λ (v : TaskId). v.0) (sym g) ∙ it))

-- the rest of a new task
rest_new : (starts : Starts) (n : ℕ) (i : LedgerItem) (from to : PlaceId) (z : Stand) (cells : Cells) (moves : Moves) → BeginsWithArrival starts to (not (from.0 == to.0)) (suc n) z.vars (child z.term) cells moves → RestOf starts (actor_born n i from to z) cells moves
rest_new starts n i from to z cells moves h = either (from.0 == to.0) refl where
  either : (b : Bool) → (from.0 == to.0) ≡ b → RestOf starts (actor_born n i from to z) cells moves
  either true e = here (ap (λ b. cond b Present Away) e) (subst (λ (b : Bool). BeginsWithArrival starts to (not b) (suc n) z.vars (child z.term) cells moves) e h)
  either false e = away (ap (λ b. cond b Present Away) e) refl (subst (λ (b : Bool). BeginsWithArrival starts to (not b) (suc n) z.vars (child z.term) cells moves) e h)

-- After the entry of a task, where it is told what that makes of the task itself and what a new task starts with.
now_step : (starts : Starts) (n : ℕ) (whole : ℕ → Cells) (T : Tree) (actors next : List Actor) (left : ℕ → Cells) (i : LedgerItem) (t : TaskId) (act : Act) (batch : List (List ℕ)) (es : List Entry) (later : Cells) → i.entry ≡ Step t act batch → i.seat ≡ [] → i.holder ≡ [] → Numbered (length actors) (Step t act batch) → t.0 < length actors → ItemMakes n actors i next → ((b : Actor) → slice_get next t.0 ≡ Some b → Going starts (suc n) (suc n) (whole t.0) b later (moves_from (suc n) es t.0)) → ((k : ℕ) (b : Actor) → slice_get actors k ≡ None → slice_get next k ≡ Some b → slice_get starts k ≡ Some b.start) → Now starts n whole actors left (Step t act batch ∷ es) → Now starts (suc n) whole next (left_after t later left) es
now_step starts n whole T actors next left i t act batch es later entry no_seat no_holder num old makes own starts_so now = record { going = going_next; unborn = unborn_next } where
  going_old : (k : ℕ) (a b : Actor) → t.0 ≢ k → slice_get actors k ≡ Some a → slice_get next k ≡ Some b → Going starts (suc n) (suc n) (whole k) b (left_after t later left k) (moves_from (suc n) es k)
  going_old k a b o was got =
      let c = changed makes k a was in
      let it : b ≡ a = one_item (slice_get next k) b c.0 got c.1 ∙ unchanged n k i actors next a c.0 t act batch c.2 entry o in
      let g : Going starts n n (whole k) a (left k) (moves_from (suc n) es k) = subst (λ (v : Moves). Going starts n n (whole k) a (left k) v) (other_next n t act batch es k o) (going_ahead k a o was) in
      subst (λ (v : Cells). Going starts (suc n) (suc n) (whole k) b v (moves_from (suc n) es k)) (sym (left_other t later left k o))
      (subst (λ (v : Actor). Going starts (suc n) (suc n) (whole k) v (left k) (moves_from (suc n) es k)) (sym it) (going_on starts n (whole k) a (left k) (moves_from (suc n) es k) (moves_after (suc n) es k) g))
    where
      going_ahead : (k : ℕ) (a : Actor) → t.0 ≢ k → slice_get actors k ≡ Some a → Going starts n n (whole k) a (left k) (moves_from n (Step t act batch ∷ es) k)
      going_ahead k a o was = now.going k a was

  going_new : (k : ℕ) (b : Actor) → slice_get actors k ≡ None → slice_get next k ≡ Some b → Going starts (suc n) (suc n) (whole k) b (left_after t later left k) (moves_from (suc n) es k)
  going_new k b gone got =
      let out : length actors ≤ k = outside actors k gone in
      let o : t.0 ≢ k = λ w. omega (arith, old, out, w) in
      let c = came makes k b gone got in
      let u = now.unborn k out in
      let same_entry : Step t act batch ≡ Step c.task c.act c.batch = sym entry ∙ c.entry in
      let acts : c.act ≡ act = cc in
      let number : c.started.0 ≡ k = num t act batch refl c.started (ap started_by (sym acts) ∙ c.starts) ∙ sym c.number in
      let born_now : birth_in n k (Step t act batch) ≡ Some (record { from = c.from; to = c.to; low = suc n }) = ap (birth_in n k) same_entry ∙ subst (λ (v : ℕ). birth_in n v (Step c.task c.act c.batch) ≡ Some (record { from = c.from; to = c.to; low = suc n })) number (c.birth_told n) in
      let birth : birth_from n (Step t act batch ∷ es) k ≡ record { from = c.from; to = c.to; low = suc n } = ap (λ (o : Option Birth). birth_or o (birth_from (suc n) es k)) born_now in
      let start : slice_get starts k ≡ Some (child c.stand.term, c.stand.vars) = starts_so k b gone got ∙ ap (λ (v : Actor). Some v.start) c.is_it in
      let b1 = u.0 (child c.stand.term, c.stand.vars) start in
      let b2 : BeginsWithArrival starts c.to (not (c.from.0 == c.to.0)) (suc n) c.stand.vars (child c.stand.term) (left k) (moves_from n (Step t act batch ∷ es) k) = subst (λ (v : Birth). BeginsWithArrival starts v.to (travels v) v.low c.stand.vars (child c.stand.term) (left k) (moves_from n (Step t act batch ∷ es) k)) birth b1 in
      let b3 : BeginsWithArrival starts c.to (not (c.from.0 == c.to.0)) (suc n) c.stand.vars (child c.stand.term) (left k) (moves_from (suc n) es k) = subst (λ (v : Moves). BeginsWithArrival starts c.to (not (c.from.0 == c.to.0)) (suc n) c.stand.vars (child c.stand.term) (left k) v) (other_next n t act batch es k o) b2 in
      let g : Going starts (suc n) (suc n) (whole k) (actor_born n i c.from c.to c.stand) (left k) (moves_from (suc n) es k) =
      record { rest = rest_new starts n i c.from c.to c.stand (left k) (moves_from (suc n) es k) b3; parts = sym u.1; low = omega arith; named = tt; ahead = moves_after (suc n) es k; seat = no_seat; holder = no_holder } in
      subst (λ (v : Cells). Going starts (suc n) (suc n) (whole k) b v (moves_from (suc n) es k)) (sym (left_other t later left k o))
      (subst (λ (v : Actor). Going starts (suc n) (suc n) (whole k) v (left k) (moves_from (suc n) es k)) (sym c.is_it) g)

  going_next : (k : ℕ) (b : Actor) → slice_get next k ≡ Some b → Going starts (suc n) (suc n) (whole k) b (left_after t later left k) (moves_from (suc n) es k)
  going_next k b got = by_task (t.0 == k) refl where
    by_old : t.0 ≢ k → (o : Option Actor) → slice_get actors k ≡ o → Going starts (suc n) (suc n) (whole k) b (left_after t later left k) (moves_from (suc n) es k)
    by_old o None e = going_new k b e got
    by_old o (Some a) e = going_old k a b o e got

    by_task : (v : Bool) → (t.0 == k) ≡ v → Going starts (suc n) (suc n) (whole k) b (left_after t later left k) (moves_from (suc n) es k)
    by_task true e =
        let it : t.0 ≡ k = eqb-true t.0 k e in
        subst (λ (v : Cells). Going starts (suc n) (suc n) (whole k) b v (moves_from (suc n) es k)) (sym (left_own t later left k it))
        (subst (λ (j : ℕ). Going starts (suc n) (suc n) (whole j) b later (moves_from (suc n) es j)) it (own b (subst (λ (j : ℕ). slice_get next j ≡ Some b) (sym it) got)))
    by_task false e = by_old (λ w. true≢false (sym (eq-eqb t.0 k w) ∙ e)) (slice_get actors k) refl

  unborn_next : (k : ℕ) → length next ≤ k → Unborn starts (suc n) es k (left_after t later left k) × (left_after t later left k ≡ whole k)
  unborn_next k le =
      let size : length next ≡ length actors + births_of i.entry = sized makes in
      let size_is : births_of i.entry ≡ births_of (Step t act batch) = ap births_of entry in
      let out : length actors ≤ k = omega (arith, size, le) in
      let o : t.0 ≢ k = λ w. omega (arith, old, out, w) in
      let u = now.unborn k out in
      let none : birth_in n k (Step t act batch) ≡ None = birth_none n k (length actors) (Step t act batch) num (inr (omega (arith, size, size_is, le))) in
      let birth : birth_from n (Step t act batch ∷ es) k ≡ birth_from (suc n) es k = ap (λ (o : Option Birth). birth_or o (birth_from (suc n) es k)) none in (
        λ s got. subst (λ (v : Cells). BeginsWithArrival starts (birth_from (suc n) es k).to (travels (birth_from (suc n) es k)) (birth_from (suc n) es k).low s.1 s.0 v (moves_from (suc n) es k)) (sym (left_other t later left k o))
            (subst (λ (v : Moves). BeginsWithArrival starts (birth_from (suc n) es k).to (travels (birth_from (suc n) es k)) (birth_from (suc n) es k).low s.1 s.0 (left k) v) (other_next n t act batch es k o)
            (subst (λ (v : Birth). BeginsWithArrival starts v.to (travels v) v.low s.1 s.0 (left k) (moves_from n (Step t act batch ∷ es) k)) birth (u.0 s got))),
        left_other t later left k o ∙ u.1,
      )

-- An item of a task.

abbrev told_as : Entry → Cells → LedgerItem
told_as e events = record { by = []; entry = e; events = events; holder = []; seat = [] }

pub record Stepped (starts : Starts) (n : ℕ) (whole : ℕ → Cells) (actors : List Actor) (e : Entry) (es : List Entry) : Type 0 where
  pub item : LedgerItem
  pub is_entry : item.entry ≡ e
  pub next : List Actor
  pub makes : ItemMakes n actors item next
  pub left : ℕ → Cells
  pub now : Now starts (suc n) whole next left es

-- who lands or ends starts no task
no_new_set : (actors : List Actor) (k l : ℕ) (a b : Actor) → slice_get actors l ≡ None → slice_get (slice_set actors k a) l ≡ Some b → ⊥
no_new_set actors k l a b gone got =
    let out : length actors ≤ l = outside actors l gone in
    let size : length (slice_set actors k a) ≡ length actors = length-set actors k a in
    let low : l < length (slice_set actors k a) = inside (slice_set actors k a) l b got in
    omega (arith, out, size, low)

step_arrive : (starts : Starts) (n : ℕ) (whole : ℕ → Cells) (T : Tree) (actors : List Actor) (left : ℕ → Cells) (t : TaskId) (p : PlaceId) (batch : List (List ℕ)) (es : List Entry) (a : Actor) → Numbered (length actors) (Step t (Arrive p) batch) → slice_get actors t.0 ≡ Some a → a.phase ≡ Away → batch ≡ [] → Going starts n n (whole t.0) a (left t.0) (moves_from n (Step t (Arrive p) batch ∷ es) t.0) → a.stand ≡ first_stand a.birth.low a.start → Plays starts a.birth.to (suc n) a.start.1 a.start.0 [] (left t.0) (moves_from (suc n) es t.0) → Now starts n whole actors left (Step t (Arrive p) batch ∷ es) → Stepped starts n whole actors (Step t (Arrive p) batch) es
step_arrive starts n whole T actors left t p batch es a num got gone none g fresh plays now =
    let i : LedgerItem = told_as (Step t (Arrive p) batch) [] in
    let after : Actor = actor_arrived n (told_as (Step t (Arrive p) batch) []) p a in
    let makes : ItemMakes n actors (told_as (Step t (Arrive p) batch) []) (slice_set actors t.0 (actor_arrived n (told_as (Step t (Arrive p) batch) []) p a)) = arrives t p a (ap (Step t (Arrive p)) none) got (sym g.holder) gone refl in
    let low : a.stand.low ≤ n = g.low in
    let plays_on : Plays starts a.birth.to (suc n) a.stand.vars a.stand.term a.stand.batch (left t.0) (moves_from (suc n) es t.0) = subst (λ (v : Stand). Plays starts a.birth.to (suc n) v.vars v.term v.batch (left t.0) (moves_from (suc n) es t.0)) (sym fresh) plays in
    let own : Going starts (suc n) (suc n) (whole t.0) (actor_arrived n (told_as (Step t (Arrive p) batch) []) p a) (left t.0) (moves_from (suc n) es t.0) =
    record { rest = here refl plays_on; parts = g.parts; low = omega arith; named = below_more n (suc n) (omega arith) a.named g.named; ahead = moves_after (suc n) es t.0; seat = refl; holder = g.holder } in
    record {
      item = told_as (Step t (Arrive p) batch) [];
      is_entry = refl;
      next = slice_set actors t.0 (actor_arrived n (told_as (Step t (Arrive p) batch) []) p a);
      makes = makes;
      left = left_after t (left t.0) left;
      now = now_step starts n whole T actors (slice_set actors t.0 (actor_arrived n (told_as (Step t (Arrive p) batch) []) p a)) left (told_as (Step t (Arrive p) batch) []) t (Arrive p) batch es (left t.0) refl refl refl num (inside actors t.0 a got) makes
          (λ b at. subst (λ (v : Actor). Going starts (suc n) (suc n) (whole t.0) v (left t.0) (moves_from (suc n) es t.0)) (one_item (slice_get (slice_set actors t.0 (actor_arrived n (told_as (Step t (Arrive p) batch) []) p a)) t.0) (actor_arrived n (told_as (Step t (Arrive p) batch) []) p a) b (got_set actors t.0 a (actor_arrived n (told_as (Step t (Arrive p) batch) []) p a) got) at) own)
          (λ k b off at. absurd (no_new_set actors t.0 k (actor_arrived n (told_as (Step t (Arrive p) batch) []) p a) b off at)) now;
    }

parts_on : (whole told events later cells : Cells) → whole ≡ told ++ cells → cells ≡ events ++ later → whole ≡ (told ++ events) ++ later
parts_on whole told events later cells h k = h ∙ ap (λ v. told ++ v) k ∙ sym (append_assoc told events later)

told_below : {place : PlaceId} {a z : Stand} (n : ℕ) (told events : Cells) → Below n told → Walks place a events z → z.low ≤ n → Below (suc n) (told ++ events)
told_below {z = z} n told events h w le = below_both (suc n) told events (below_more n (suc n) (omega arith) told h) (below_more (suc z.low) (suc n) (omega arith) events (walk_below w))

step_ask : (starts : Starts) (n : ℕ) (whole : ℕ → Cells) (T : Tree) (actors : List Actor) (left : ℕ → Cells) (t : TaskId) (act : Act) (batch : List (List ℕ)) (es : List Entry) (a : Actor) → Numbered (length actors) (Step t act batch) → slice_get actors t.0 ≡ Some a → a.phase ≡ Present → (g : Going starts n n (whole t.0) a (left t.0) (moves_from n (Step t act batch ∷ es) t.0)) → (r : NextAsk starts a.birth.to a.stand (left t.0) n act batch (moves_from (suc n) es t.0)) → AsksNext starts a.birth.to r.stand n act r.later (moves_from (suc n) es t.0) → Now starts n whole actors left (Step t act batch ∷ es) → Stepped starts n whole actors (Step t act batch) es
step_ask starts n whole T actors left t act batch es a num got there g r (fits, so, plays) now =
    let makes : ItemMakes n actors (told_as (Step t act batch) r.events) (slice_set actors t.0 (actor_granted n (told_as (Step t act batch) r.events) act r.stand a) ++ actors_born n (told_as (Step t act batch) r.events) act r.stand) = asks t act a r.stand (ap (Step t act) r.begun_are) got (sym g.holder) there r.walks r.low fits in
    let own : Going starts (suc n) (suc n) (whole t.0) (actor_granted n (told_as (Step t act batch) r.events) act r.stand a) r.later (moves_from (suc n) es t.0) =
    record { rest = here there plays; parts = parts_on (whole t.0) a.named r.events r.later (left t.0) g.parts r.parts; low = omega arith; named = told_below n a.named r.events g.named r.walks r.low; ahead = moves_after (suc n) es t.0; seat = g.seat; holder = g.holder } in
    let size : length (slice_set actors t.0 (actor_granted n (told_as (Step t act batch) r.events) act r.stand a)) ≡ length actors = length-set actors t.0 (actor_granted n (told_as (Step t act batch) r.events) act r.stand a) in
    let old : t.0 < length actors = inside actors t.0 a got in
    let stands : slice_get (slice_set actors t.0 (actor_granted n (told_as (Step t act batch) r.events) act r.stand a) ++ actors_born n (told_as (Step t act batch) r.events) act r.stand) t.0 ≡ Some (actor_granted n (told_as (Step t act batch) r.events) act r.stand a) =
    get_left (slice_set actors t.0 (actor_granted n (told_as (Step t act batch) r.events) act r.stand a)) (actors_born n (told_as (Step t act batch) r.events) act r.stand) t.0 (omega (arith, size, old)) ∙ got_set actors t.0 a (actor_granted n (told_as (Step t act batch) r.events) act r.stand a) got in
    record {
      item = told_as (Step t act batch) r.events;
      is_entry = refl;
      next = slice_set actors t.0 (actor_granted n (told_as (Step t act batch) r.events) act r.stand a) ++ actors_born n (told_as (Step t act batch) r.events) act r.stand;
      makes = makes;
      left = left_after t r.later left;
      now = now_step starts n whole T actors (slice_set actors t.0 (actor_granted n (told_as (Step t act batch) r.events) act r.stand a) ++ actors_born n (told_as (Step t act batch) r.events) act r.stand) left (told_as (Step t act batch) r.events) t act batch es r.later refl refl refl num old makes
          (λ b at. subst (λ (v : Actor). Going starts (suc n) (suc n) (whole t.0) v r.later (moves_from (suc n) es t.0)) (one_item (slice_get (slice_set actors t.0 (actor_granted n (told_as (Step t act batch) r.events) act r.stand a) ++ actors_born n (told_as (Step t act batch) r.events) act r.stand) t.0) (actor_granted n (told_as (Step t act batch) r.events) act r.stand a) b stands at) own)
          (λ k b off at.
          let c = came_act n k (told_as (Step t act batch) r.events) actors (slice_set actors t.0 (actor_granted n (told_as (Step t act batch) r.events) act r.stand a)) t act batch r.stand b refl old size off at in
          start_of_new starts (length actors) act r.stand c.0.started so k (started_of t act batch c.0.task c.0.act c.0.batch c.0.started c.0.entry c.0.starts) num t batch c.0.number b n (told_as (Step t act batch) r.events) c.0.from c.0.to (c.0.is_it ∙ ap (actor_born n (told_as (Step t act batch) r.events) c.0.from c.0.to) c.1)) now;
    }
  where
    started_of : (t : TaskId) (act : Act) (batch : List (List ℕ)) (u : TaskId) (bct : Act) (other : List (List ℕ)) (c : TaskId) → Step t act batch ≡ Step u bct other → started_by bct ≡ Some c → started_by act ≡ Some c
    started_of t act batch u bct other c e h = let acts : act ≡ bct = cc in ap started_by acts ∙ h

    start_of_new : (starts : Starts) (size : ℕ) (act : Act) (z : Stand) (c : TaskId) → StartsSo starts z.term z.vars act → (k : ℕ) → started_by act ≡ Some c → Numbered size (Step t act batch) → (u : TaskId) (other : List (List ℕ)) → k ≡ size → (b : Actor) (n : ℕ) (i : LedgerItem) (from to : PlaceId) → b ≡ actor_born n i from to z → slice_get starts k ≡ Some b.start
    start_of_new starts size act z c so k st num u other at b n i from to is =
        let s : SoFor starts z.term z.vars (Some c) = subst (SoFor starts z.term z.vars) st so in
        let number : c.0 ≡ k = num t act batch refl c st ∙ sym at in
        subst (λ (v : ℕ). slice_get starts v ≡ Some (child z.term, z.vars)) number s ∙ ap (λ (v : Actor). Some v.start) (sym is)

step_end : (starts : Starts) (n : ℕ) (whole : ℕ → Cells) (T : Tree) (actors : List Actor) (left : ℕ → Cells) (t : TaskId) (act : Act) (batch : List (List ℕ)) (es : List Entry) (a : Actor) → Numbered (length actors) (Step t act batch) → slice_get actors t.0 ≡ Some a → a.phase ≡ Present → (g : Going starts n n (whole t.0) a (left t.0) (moves_from n (Step t act batch ∷ es) t.0)) → (r : NextAsk starts a.birth.to a.stand (left t.0) n act batch (moves_from (suc n) es t.0)) → EndsNext a.birth.to r.stand act r.later (moves_from (suc n) es t.0) → Now starts n whole actors left (Step t act batch ∷ es) → Stepped starts n whole actors (Step t act batch) es
step_end starts n whole T actors left t act batch es a num got there g r (faults, done, is, none, no_more) now =
    let makes : ItemMakes n actors (told_as (Step t act batch) r.events) (slice_set actors t.0 (actor_ended n (told_as (Step t act batch) r.events) faults r.stand a)) = ends t faults a r.stand (ap (λ (v : Act). Step t v batch) is ∙ ap (Step t (End faults)) r.begun_are) got (sym g.holder) there r.walks r.low done in
    let low : r.stand.low ≤ n = r.low in
    let own : Going starts (suc n) (suc n) (whole t.0) (actor_ended n (told_as (Step t act batch) r.events) faults r.stand a) r.later (moves_from (suc n) es t.0) =
    record { rest = over refl none no_more; parts = parts_on (whole t.0) a.named r.events r.later (left t.0) g.parts r.parts; low = omega arith; named = told_below n a.named r.events g.named r.walks r.low; ahead = moves_after (suc n) es t.0; seat = g.seat; holder = g.holder } in
    record {
      item = told_as (Step t act batch) r.events;
      is_entry = refl;
      next = slice_set actors t.0 (actor_ended n (told_as (Step t act batch) r.events) faults r.stand a);
      makes = makes;
      left = left_after t r.later left;
      now = now_step starts n whole T actors (slice_set actors t.0 (actor_ended n (told_as (Step t act batch) r.events) faults r.stand a)) left (told_as (Step t act batch) r.events) t act batch es r.later refl refl refl num (inside actors t.0 a got) makes
          (λ b at. subst (λ (v : Actor). Going starts (suc n) (suc n) (whole t.0) v r.later (moves_from (suc n) es t.0)) (one_item (slice_get (slice_set actors t.0 (actor_ended n (told_as (Step t act batch) r.events) faults r.stand a)) t.0) (actor_ended n (told_as (Step t act batch) r.events) faults r.stand a) b (got_set actors t.0 a (actor_ended n (told_as (Step t act batch) r.events) faults r.stand a) got) at) own)
          (λ k b off at. absurd (no_new_set actors t.0 k (actor_ended n (told_as (Step t act batch) r.events) faults r.stand a) b off at)) now;
    }

-- what one makes first that has yet to arrive
away_first : (starts : Starts) (place : PlaceId) (low : ℕ) (vars : Vars) (t : Term) (cells : Cells) (n : ℕ) (act : Act) (batch : List (List ℕ)) (more : Moves) → BeginsWithArrival starts place true low vars t cells ((n, act, batch) ∷ more) → (p : PlaceId) × (act ≡ Arrive p) × (batch ≡ []) × Plays starts place (suc n) vars t [] cells more
away_first starts place low vars t cells n (Arrive p) batch more h = (p, refl, h.0, h.1)
away_first starts place low vars t cells n _ batch more h = absurd h

step_of : (starts : Starts) (n : ℕ) (whole : ℕ → Cells) (T : Tree) (actors : List Actor) (left : ℕ → Cells) (t : TaskId) (act : Act) (batch : List (List ℕ)) (es : List Entry) (a : Actor) → Numbered (length actors) (Step t act batch) → slice_get actors t.0 ≡ Some a → (g : Going starts n n (whole t.0) a (left t.0) (moves_from n (Step t act batch ∷ es) t.0)) → RestOf starts a (left t.0) (moves_from n (Step t act batch ∷ es) t.0) → Now starts n whole actors left (Step t act batch ∷ es) → Stepped starts n whole actors (Step t act batch) es
step_of starts n whole T actors left t act batch es a num got g (away e fresh h) now =
    arrival (away_first starts a.birth.to a.birth.low a.start.1 a.start.0 (left t.0) n act batch (moves_from (suc n) es t.0) (subst (λ (v : Moves). BeginsWithArrival starts a.birth.to true a.birth.low a.start.1 a.start.0 (left t.0) v) (own_next n t act batch es t.0 refl) h))
  where
    arrival : (p : PlaceId) × (act ≡ Arrive p) × (batch ≡ []) × Plays starts a.birth.to (suc n) a.start.1 a.start.0 [] (left t.0) (moves_from (suc n) es t.0) → Stepped starts n whole actors (Step t act batch) es
    arrival (p, is, none, plays) =
        subst (λ (v : Act). Stepped starts n whole actors (Step t v batch) es) (sym is)
        (step_arrive starts n whole T actors left t p batch es a (subst (λ (v : Act). Numbered (length actors) (Step t v batch)) is num) got e none
        (subst (λ (v : Act). Going starts n n (whole t.0) a (left t.0) (moves_from n (Step t v batch ∷ es) t.0)) is g) fresh plays (subst (λ (v : Act). Now starts n whole actors left (Step t v batch ∷ es)) is now))
step_of starts n whole T actors left t act batch es a num got g (here e h) now = by (next_ask n act batch (moves_from (suc n) es t.0) h (own_next n t act batch es t.0 refl)) where
  by_goes : (r : NextAsk starts a.birth.to a.stand (left t.0) n act batch (moves_from (suc n) es t.0)) → AsksNext starts a.birth.to r.stand n act r.later (moves_from (suc n) es t.0) ⊎ EndsNext a.birth.to r.stand act r.later (moves_from (suc n) es t.0) → Stepped starts n whole actors (Step t act batch) es
  by_goes r (inl x) = step_ask starts n whole T actors left t act batch es a num got e g r x now
  by_goes r (inr x) = step_end starts n whole T actors left t act batch es a num got e g r x now

  by : NextAsk starts a.birth.to a.stand (left t.0) n act batch (moves_from (suc n) es t.0) → Stepped starts n whole actors (Step t act batch) es
  by r = by_goes r r.goes
step_of starts n whole T actors left t act batch es a num got g (over e none h) now =
    absurd (let f : (n, act, batch) ∷ moves_from (suc n) es t.0 ≡ [] = sym (own_next n t act batch es t.0 refl) ∙ h in let j : ⊥ = cc in j)

step_task : (starts : Starts) (n : ℕ) (whole : ℕ → Cells) (T : Tree) (actors : List Actor) (left : ℕ → Cells) (t : TaskId) (act : Act) (batch : List (List ℕ)) (es : List Entry) → Numbered (length actors) (Step t act batch) → t.0 < length actors → Now starts n whole actors left (Step t act batch ∷ es) → Stepped starts n whole actors (Step t act batch) es
step_task starts n whole T actors left t act batch es num old now =
    let a = get-within actors t.0 old in let g = now.going t.0 a.0 a.1 in step_of starts n whole T actors left t act batch es a.0 num a.1 g g.rest now

-- an entry of the host
now_host : (starts : Starts) (n : ℕ) (whole : ℕ → Cells) (actors : List Actor) (left : ℕ → Cells) (e : Entry) (es : List Entry) → IsHostEntry e → Now starts n whole actors left (e ∷ es) → Now starts (suc n) whole actors left es
now_host starts n whole actors left (Step t act batch) es h now = absurd h
now_host starts n whole actors left _ es h now = record { going = λ k a got. going_on starts n (whole k) a (left k) (moves_from (suc n) es k) (moves_after (suc n) es k) (now.going k a got); unborn = now.unborn }

-- The whole history.

abbrev pub Telling : Starts → ℕ → (ℕ → Cells) → List Actor → List Entry → Type 0
Telling starts n whole actors es = (h : List LedgerItem) × (last : List Actor) × (entries_of h ≡ es) × Points starts whole n actors h last

host_step : (starts : Starts) (n : ℕ) (whole : ℕ → Cells) (actors : List Actor) (left : ℕ → Cells) (e : Entry) (es : List Entry) → IsHostEntry e → Now starts n whole actors left (e ∷ es) → Stepped starts n whole actors e es
host_step starts n whole actors left e es h now = record { item = told_as e []; is_entry = refl; next = actors; makes = hosts h; left = left; now = now_host starts n whole actors left e es h now }

by_step : (starts : Starts) (n : ℕ) (whole : ℕ → Cells) (T : Tree) (actors : List Actor) (left : ℕ → Cells) (e : Entry) (es : List Entry) → Allowed T e → Reached T → T.next_task ≡ length actors → Now starts n whole actors left (e ∷ es) → Stepped starts n whole actors e es
by_step starts n whole T actors left (Step t act batch) es a r size now =
    let low : t.0 < T.next_task = act_below T t act r a in
    step_task starts n whole T actors left t act batch es (numbered T (length actors) (Step t act batch) a size) (omega (arith, low, size)) now
by_step starts n whole T actors left (Root lost masked thrown) es a r size now = host_step starts n whole actors left (Root lost masked thrown) es tt now
by_step starts n whole T actors left (Death d) es a r size now = host_step starts n whole actors left (Death d) es tt now
by_step starts n whole T actors left (Join p) es a r size now = host_step starts n whole actors left (Join p) es tt now

told_on : (starts : Starts) (n : ℕ) (whole : ℕ → Cells) (actors : List Actor) (e : Entry) (es : List Entry) → Point starts n n whole actors → (s : Stepped starts n whole actors e es) → Telling starts (suc n) whole s.next es → Telling starts n whole actors (e ∷ es)
told_on starts n whole actors e es point s (h, last, is, points) =
    (s.item ∷ h, last, ap (λ v. s.item.entry ∷ v) is ∙ ap (λ v. v ∷ es) s.is_entry, (point, (s.next, s.makes, points)))

-- the tasks that are there and those to come after it
sizes_on : (starts : Starts) (n : ℕ) (whole : ℕ → Cells) (T : Tree) (actors : List Actor) (e : Entry) (es : List Entry) → T.next_task ≡ length actors → length starts ≡ length actors + births (e ∷ es) → (s : Stepped starts n whole actors e es) → ((made n T e).next_task ≡ length s.next) × (length starts ≡ length s.next + births es)
sizes_on starts n whole T actors e es size all s =
    let next_size : (made n T s.item.entry).next_task ≡ length s.next = size_next n T actors s.item s.next s.makes size in
    let grown : length s.next ≡ length actors + births_of s.item.entry = sized s.makes in
    let grown_by : births_of s.item.entry ≡ births_of e = ap births_of s.is_entry in
    let count : births (e ∷ es) ≡ births_of e + births es = sum_by-cons births_of e es in
    (subst (λ (v : Entry). (made n T v).next_task ≡ length s.next) s.is_entry next_size, omega (arith, all, grown, grown_by, count))

pub tell : (starts : Starts) (n : ℕ) (whole : ℕ → Cells) (T : Tree) (actors : List Actor) (left : ℕ → Cells) (es : List Entry) → Reached T → All (IsOlder n) T.dead → AllAllowed n T es → T.next_task ≡ length actors → length starts ≡ length actors + births es → Now starts n whole actors left es → Telling starts n whole actors es
tell starts n whole T actors left [] r o a size all now = ([], actors, refl, (refl, point_last starts n whole actors left all now))
tell starts n whole T actors left (e ∷ es) r o a size all now =
    on (λ s z. tell starts (suc n) whole (made n T e) s.next s.left es (reached_now n T e r o a.0) (dead-now n T e o) a.1 z.0 z.1 s.now) (by_step starts n whole T actors left e es a.0 r size now)
  where
    on : ((s : Stepped starts n whole actors e es) → ((made n T e).next_task ≡ length s.next) × (length starts ≡ length s.next + births es) → Telling starts (suc n) whole s.next es) → Stepped starts n whole actors e es → Telling starts n whole actors (e ∷ es)
    on f s = told_on starts n whole actors e es (point_now starts n whole T actors left (e ∷ es) a size all now) s (f s (sizes_on starts n whole T actors e es size all s))
