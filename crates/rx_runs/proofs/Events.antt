-- How many events the journals of a game that turns have made can have.
use Rattle.std.proofs.Common.{◌≡◌, ℕ, zero, suc, ◌+◌, ◌*◌, ◌≤◌, Bool, true, false, ◌||◌, List, [], ◌∷◌, ◌++◌, length, replicate, Option, Some, None, slice_get, slice_set, refl, ap, ◌∙◌, sym, subst, arith}
use Rattle.std.specs.List.{cons_option}
use Rattle.std.proofs.lemmas.Bool.{or_right, eq-eqb}
use Rattle.std.proofs.lemmas.List.{length-append}
use Rattle.std.proofs.lemmas.List.Folds.{list_any-append}
use Rattle.rx_rules.proofs.Common.{PlaceId, TaskId, Fault, Block, work, State, Empty, items, answered, does, granted, child, journal_at, Moves, moves_from, move_of, brought, started_by, Given, in_all, Proper, Player, Game, RunsWithoutEntry, stays, local, stores, Turn, planned, arrives, moves, root, MadeByTurns, turns, acted, child_of, closed_by, start_game, tree_in}
use Rattle.rx_rules.specs.declared.entries.Act.TheVariants.{Arrive, End}
use Rattle.rx_rules.specs.declared.entries.Entry.{Entry}
use Rattle.rx_rules.specs.declared.entries.Entry.TheVariants.{Step, Root, Death, Join}
use Rattle.rx_rules.specs.declared.events.PlaceEvent.{PlaceEvent}
use Rattle.rx_rules.specs.declared.events.PlaceEvent.TheVariants.{Done as Did, Close}
use Rattle.rx_base.proofs.Bools.{or-first}
use Rattle.rx_rules.specs.Picked.{ends, opens}
use Rattle.rx_runs.specs.Steps.{steps, started_steps}
use Rattle.rx_runs.specs.Ties.{is_end, has_end}
use Rattle.rx_runs.specs.Games.{GameOk}
use Rattle.rx_runs.specs.Events.{FewEvents, GoingTells}
use Rattle.rx_runs.proofs.Weighing.{share, tells_store}
use Rattle.rx_runs.proofs.Sinking.{steps_items, local_sinks, answer_sinks, entry_sinks, going}
use Rattle.rx_runs.proofs.Pushes.{moves-push}
use Rattle.rx_runs.proofs.Pairs.{set_same}
use Rattle.rx_runs.proofs.Journals.{longer}
use Rattle.rx_runs.proofs.Keeping.{picked_row}
use Rattle.rx_runs.proofs.Comings.{games_come}

-- Local steps and store calls.

tells : {heap n : ℕ} {t : TaskId} {here : PlaceId} {p q : Player} {S Z : State} {j k : List PlaceEvent} → RunsWithoutEntry heap n t here p S j q Z k → length k + steps q.term ≤ length j + steps p.term
tells stays = omega arith
tells {here = here} {p = p} {q = q} {j = j} {k = k} (local {after = after} {left = left} e g) =
    let less : steps after + 1 ≤ steps p.term = local_sinks p.vars here.0 p.term after left e in
    let rest : length k + steps q.term ≤ length j + steps after = tells g in omega (arith, less, rest)
tells {n = n} {t = t} {here = here} {p = p} {q = q} {j = j} {k = k} (stores cell x a told b may g) =
    let less : steps (answered a p.term) + 1 ≤ steps p.term = answer_sinks p.vars here.0 p.term a (tells_store (does p.vars here.0 p.term) here cell a told) in
    let rest : length k + steps q.term ≤ length (j ++ Did t n cell x ∷ []) + steps (answered a p.term) = tells g in
    let long : length (j ++ Did t n cell x ∷ []) ≡ length j + 1 = length-append j (Did t n cell x ∷ []) in omega (arith, less, rest, long)

pub going_tells : GoingTells
going_tells heap n t here p q S Z j k g = tells g

-- Credits: a number for each task, at least the steps that it has left where it has not ended.

abbrev Credits : List Entry → ℕ → List ℕ → List Player → Type 0
Credits es n [] [] = Unit {0}
Credits es n (w ∷ ws) (p ∷ ps) = (has_end (moves_from 0 es n) ≡ false → steps p.term ≤ w) × Credits es (suc n) ws ps
Credits es n [] (p ∷ ps) = ⊥
Credits es n (w ∷ ws) [] = ⊥

abbrev sum_of : List ℕ → ℕ
sum_of [] = 0
sum_of (w ∷ ws) = w + sum_of ws

-- who has not ended after one entry more had not before
still : (es : List Entry) (e : Entry) (m : ℕ) → has_end (moves_from 0 (es ++ e ∷ []) m) ≡ false → has_end (moves_from 0 es m) ≡ false
still es e m h =
    let more : Moves = cons_option (move_of (0 + length es) m e) [] in
    let same : has_end (moves_from 0 (es ++ e ∷ []) m) ≡ (has_end (moves_from 0 es m) || has_end more) = ap has_end (moves-push 0 es e m) ∙ list_any-append is_end (moves_from 0 es m) more in
    or-first (has_end (moves_from 0 es m)) (has_end more) (sym same ∙ h)

grow : (es fs : List Entry) (n : ℕ) (ws : List ℕ) (ps : List Player) → ((m : ℕ) → has_end (moves_from 0 fs m) ≡ false → has_end (moves_from 0 es m) ≡ false) → Credits es n ws ps → Credits fs n ws ps
grow es fs n [] [] f h = tt
grow es fs n (w ∷ ws) (p ∷ ps) f h = (λ e. h.0 (f n e), grow es fs (suc n) ws ps f h.1)
grow es fs n [] (p ∷ ps) f h = absurd h
grow es fs n (w ∷ ws) [] f h = absurd h

credit-get : (es : List Entry) (n : ℕ) (ws : List ℕ) (ps : List Player) (k : ℕ) (p : Player) → Credits es n ws ps → slice_get ps k ≡ Some p → has_end (moves_from 0 es (n + k)) ≡ false → (w : ℕ) × (slice_get ws k ≡ Some w) × (steps p.term ≤ w)
credit-get es n [] [] k p h e free = absurd (let f : ⊥ = cc in f)
credit-get es n (w ∷ ws) (q ∷ ps) zero p h e free =
    let z : n + 0 ≡ n = omega arith in
    let s : q ≡ p = cc in
    (w, refl, subst (λ (r : Player). steps r.term ≤ w) s (h.0 (subst (λ (v : ℕ). has_end (moves_from 0 es v) ≡ false) z free)))
credit-get es n (w ∷ ws) (q ∷ ps) (suc k) p h e free =
    let z : n + suc k ≡ suc n + k = omega arith in credit-get es (suc n) ws ps k p h.1 e (subst (λ (v : ℕ). has_end (moves_from 0 es v) ≡ false) z free)
credit-get es n [] (q ∷ ps) k p h e free = absurd h
credit-get es n (w ∷ ws) [] k p h e free = absurd h

credit-set : (es : List Entry) (n : ℕ) (ws : List ℕ) (ps : List Player) (k v : ℕ) (p : Player) → Credits es n ws ps → (has_end (moves_from 0 es (n + k)) ≡ false → steps p.term ≤ v) → Credits es n (slice_set ws k v) (slice_set ps k p)
credit-set es n [] [] k v p h le = tt
credit-set es n (w ∷ ws) (q ∷ ps) zero v p h le = let z : n ≡ n + 0 = omega arith in (λ e. le (subst (λ (i : ℕ). has_end (moves_from 0 es i) ≡ false) z e), h.1)
credit-set es n (w ∷ ws) (q ∷ ps) (suc k) v p h le =
    let z : suc n + k ≡ n + suc k = omega arith in (h.0, credit-set es (suc n) ws ps k v p h.1 (λ e. le (subst (λ (i : ℕ). has_end (moves_from 0 es i) ≡ false) z e)))
credit-set es n [] (q ∷ ps) k v p h le = absurd h
credit-set es n (w ∷ ws) [] k v p h le = absurd h

credit-more : (es : List Entry) (n : ℕ) (ws vs : List ℕ) (ps qs : List Player) → Credits es n ws ps → ((m : ℕ) → Credits es m vs qs) → Credits es n (ws ++ vs) (ps ++ qs)
credit-more es n [] vs [] qs h k = k n
credit-more es n (w ∷ ws) vs (p ∷ ps) qs h k = (h.0, credit-more es (suc n) ws vs ps qs h.1 k)
credit-more es n [] vs (p ∷ ps) qs h k = absurd h
credit-more es n (w ∷ ws) vs [] qs h k = absurd h

-- the credit of a new task
abbrev young : Player → Option TaskId → List ℕ
young q o = elim o as (λ _. List ℕ) [ Some c ↦ steps (child q.term) ∷ [] | None ↦ [] ]

credit-young : (es : List Entry) (q : Player) (o : Option TaskId) (m : ℕ) → Credits es m (young q o) (elim o as (λ _. List Player) [ Some c ↦ record { term = child q.term; vars = q.vars; batch = [] } ∷ [] | None ↦ [] ])
credit-young es q None m = tt
credit-young es q (Some c) m = (λ e. omega arith, tt)

sum-young : (q : Player) (o : Option TaskId) → sum_of (young q o) ≤ share started_steps (child q.term) o
sum-young q None = omega arith
sum-young q (Some c) = omega arith

sum-set : (ws : List ℕ) (k w v : ℕ) → slice_get ws k ≡ Some w → sum_of (slice_set ws k v) + w ≡ sum_of ws + v
sum-set [] k w v e = absurd (let f : ⊥ = cc in f)
sum-set (u ∷ ws) zero w v e = let s : u ≡ w = cc in omega (arith, s)
sum-set (u ∷ ws) (suc k) w v e = let h : sum_of (slice_set ws k v) + w ≡ sum_of ws + v = sum-set ws k w v e in omega (arith, h)

sum-more : (ws vs : List ℕ) → sum_of (ws ++ vs) ≡ sum_of ws + sum_of vs
sum-more [] vs = omega arith
sum-more (w ∷ ws) vs = let h : sum_of (ws ++ vs) ≡ sum_of ws + sum_of vs = sum-more ws vs in omega (arith, h)

sum-one : (ws : List ℕ) (k w : ℕ) → slice_get ws k ≡ Some w → w ≤ sum_of ws
sum-one [] k w e = absurd (let f : ⊥ = cc in f)
sum-one (u ∷ ws) zero w e = let s : u ≡ w = cc in omega (arith, s)
sum-one (u ∷ ws) (suc k) w e = let h : w ≤ sum_of ws = sum-one ws k w e in omega (arith, h)

-- Journals.

-- the journal of a place after one was put at a place
at-set : (P : List PlaceEvent → Type 0) (js : List (List PlaceEvent)) (d i : ℕ) (j : List PlaceEvent) → P j → P (journal_at js i) → P (journal_at (slice_set js d j) i)
at-set P [] d i j h k = k
at-set P (x ∷ js) zero zero j h k = h
at-set P (x ∷ js) zero (suc i) j h k = k
at-set P (x ∷ js) (suc d) zero j h k = k
at-set P (x ∷ js) (suc d) (suc i) j h k = at-set P js d i j h k

-- with the credits no journal is longer than so many steps and the entries
pub record Spent (n : ℕ) (G : Game) : Type 0 where
  pub credits : List ℕ
  pub each : Credits G.entries 0 credits G.players
  pub most : (i : ℕ) → length (journal_at G.journals i) + sum_of credits ≤ n + length G.entries

-- a planned entry makes no journal longer by more than one
closed : (G : Game) (e : Entry) (all most : ℕ) (i : ℕ) → ((i : ℕ) → length (journal_at G.journals i) + all ≤ most) → length (journal_at (closed_by G e) i) + all ≤ most + 1
closed G (Death d) all most i h =
    let long : length (journal_at G.journals d.0 ++ Close (length G.entries) ∷ []) ≡ length (journal_at G.journals d.0) + 1 = length-append (journal_at G.journals d.0) (Close (length G.entries) ∷ []) in
    at-set (λ j. length j + all ≤ most + 1) G.journals d.0 i (journal_at G.journals d.0 ++ Close (length G.entries) ∷ []) (omega (arith, h d.0, long)) (omega (arith, h i))
closed G (Join p) all most i h = omega (arith, h i)
closed G (Step t act batch) all most i h = omega (arith, h i)
closed G (Root lost masked thrown) all most i h = omega (arith, h i)

turn_spends : (code : Block) (n : ℕ) (U : Given) (k : ℕ) {used : Bool} {G G' : Game} → GameOk code U G → Turn U k G used G' → Spent n G → Spent n G'
turn_spends code n U k {G = G} ok (planned e now) h = record {
  credits = h.credits;
  each = grow G.entries (G.entries ++ e ∷ []) 0 h.credits G.players (still G.entries e) h.each;
  most = λ i.
      let more : length (G.entries ++ e ∷ []) ≡ suc (length G.entries) = longer G.entries e in
      let one : length (journal_at (closed_by G e) i) + sum_of h.credits ≤ n + length G.entries + 1 = closed G e (sum_of h.credits) (n + length G.entries) i h.most in
      omega (arith, more, one);
}
turn_spends code n U k {G = G} ok (arrives x p takes may) h = record {
  credits = h.credits;
  each = grow G.entries (G.entries ++ Step x.number (Arrive p) [] ∷ []) 0 h.credits G.players (still G.entries (Step x.number (Arrive p) [])) h.each;
  most = λ i.
      let more : length (G.entries ++ Step x.number (Arrive p) [] ∷ []) ≡ suc (length G.entries) = longer G.entries (Step x.number (Arrive p) []) in
      let was : length (journal_at G.journals i) + sum_of h.credits ≤ n + length G.entries = h.most i in omega (arith, more, was);
}
turn_spends code n U k {G = G} ok (root lost masked thrown due none may) h = record {
  credits = h.credits;
  each = grow G.entries (G.entries ++ Root lost masked thrown ∷ []) 0 h.credits G.players (still G.entries (Root lost masked thrown)) h.each;
  most = λ i.
      let more : length (G.entries ++ Root lost masked thrown ∷ []) ≡ suc (length G.entries) = longer G.entries (Root lost masked thrown) in
      let was : length (journal_at G.journals i) + sum_of h.credits ≤ n + length G.entries = h.most i in omega (arith, more, was);
}
turn_spends code n U k {G = G} ok (moves x here p q S Z j act takes where_is player store goes fits may) h =
    let e : Entry = Step x.number act q.batch in
    let last : Player = acted here q act in
    let found = picked_row (in_all U) (length ok.starts) G.entries (tree_in U G) _ x ok.ties takes.1 in
    let z : 0 + x.number.0 ≡ x.number.0 = omega arith in
    let free : has_end (moves_from 0 G.entries (0 + x.number.0)) ≡ false = subst (λ (v : ℕ). has_end (moves_from 0 G.entries v) ≡ false) (sym z) found.1.going in
    let w = credit-get G.entries 0 h.credits G.players x.number.0 p h.each player free in
    let least : steps p.term ≤ w.0 = w.2 in
    let rest : length j + steps q.term ≤ length (journal_at G.journals here.0) + steps p.term = tells goes in
    let less : steps q.term ≤ steps p.term = going goes in
    let step : steps (granted (brought act) q.term) + share started_steps (child q.term) (started_by act) + 1 ≤ steps q.term = entry_sinks q.vars here q.term act fits in
    let set : sum_of (slice_set h.credits x.number.0 (steps (granted (brought act) q.term))) + w.0 ≡ sum_of h.credits + steps (granted (brought act) q.term) = sum-set h.credits x.number.0 w.0 (steps (granted (brought act) q.term)) w.1 in
    let all : sum_of (slice_set h.credits x.number.0 (steps (granted (brought act) q.term)) ++ young q (started_by act)) ≡ sum_of (slice_set h.credits x.number.0 (steps (granted (brought act) q.term))) + sum_of (young q (started_by act)) = sum-more (slice_set h.credits x.number.0 (steps (granted (brought act) q.term))) (young q (started_by act)) in
    let small : sum_of (young q (started_by act)) ≤ share started_steps (child q.term) (started_by act) = sum-young q (started_by act) in
    let more : length (G.entries ++ e ∷ []) ≡ suc (length G.entries) = longer G.entries e in
    record {
      credits = slice_set h.credits x.number.0 (steps (granted (brought act) q.term)) ++ young q (started_by act);
      each = credit-more (G.entries ++ e ∷ []) 0 (slice_set h.credits x.number.0 (steps (granted (brought act) q.term))) (young q (started_by act)) (slice_set G.players x.number.0 last) (child_of q act)
          (credit-set (G.entries ++ e ∷ []) 0 h.credits G.players x.number.0 (steps (granted (brought act) q.term)) last (grow G.entries (G.entries ++ e ∷ []) 0 h.credits G.players (still G.entries e) h.each) (λ f. omega arith))
          (credit-young (G.entries ++ e ∷ []) q (started_by act));
      most = λ i.
          let mine : length (journal_at G.journals here.0) + sum_of h.credits ≤ n + length G.entries = h.most here.0 in
          let other : length (journal_at G.journals i) + sum_of h.credits ≤ n + length G.entries = h.most i in
          at-set (λ l. length l + sum_of (slice_set h.credits x.number.0 (steps (granted (brought act) q.term)) ++ young q (started_by act)) ≤ n + length (G.entries ++ e ∷ [])) G.journals here.0 i j
          (omega (arith, least, rest, step, set, all, small, more, mine)) (omega (arith, least, less, step, set, all, small, more, other));
    }
turn_spends code n U k {G = G} ok (ends x here p q S Z j faults takes where_is player store goes done may) h =
    let e : Entry = Step x.number (End faults) q.batch in
    let found = picked_row (in_all U) (length ok.starts) G.entries (tree_in U G) _ x ok.ties takes.1 in
    let z : 0 + x.number.0 ≡ x.number.0 = omega arith in
    let free : has_end (moves_from 0 G.entries (0 + x.number.0)) ≡ false = subst (λ (v : ℕ). has_end (moves_from 0 G.entries v) ≡ false) (sym z) found.1.going in
    let w = credit-get G.entries 0 h.credits G.players x.number.0 p h.each player free in
    let least : steps p.term ≤ w.0 = w.2 in
    let rest : length j + steps q.term ≤ length (journal_at G.journals here.0) + steps p.term = tells goes in
    let set : sum_of (slice_set h.credits x.number.0 0) + w.0 ≡ sum_of h.credits + 0 = sum-set h.credits x.number.0 w.0 0 w.1 in
    let more : length (G.entries ++ e ∷ []) ≡ suc (length G.entries) = longer G.entries e in
    let over : has_end (moves_from 0 (G.entries ++ e ∷ []) (0 + x.number.0)) ≡ true = subst (λ (v : ℕ). has_end (moves_from 0 (G.entries ++ e ∷ []) v) ≡ true) (sym z) (ended G.entries x.number faults q.batch) in
    record {
      credits = slice_set h.credits x.number.0 0;
      each = subst (λ (ps : List Player). Credits (G.entries ++ e ∷ []) 0 (slice_set h.credits x.number.0 0) ps) (set_same G.players x.number.0 p player)
          (credit-set (G.entries ++ e ∷ []) 0 h.credits G.players x.number.0 0 p (grow G.entries (G.entries ++ e ∷ []) 0 h.credits G.players (still G.entries e) h.each) (λ f. absurd (let g : ⊥ = cc in g)));
      most = λ i.
          let mine : length (journal_at G.journals here.0) + sum_of h.credits ≤ n + length G.entries = h.most here.0 in
          let other : length (journal_at G.journals i) + sum_of h.credits ≤ n + length G.entries = h.most i in
          at-set (λ l. length l + sum_of (slice_set h.credits x.number.0 0) ≤ n + length (G.entries ++ e ∷ [])) G.journals here.0 i j
          (omega (arith, least, rest, set, more, mine)) (omega (arith, least, set, more, other));
    }
  where
    ended : (es : List Entry) (t : TaskId) (faults : List Fault) (batch : List (List ℕ)) → has_end (moves_from 0 (es ++ Step t (End faults) batch ∷ []) t.0) ≡ true
    ended es t faults batch =
        let own : move_of (0 + length es) t.0 (Step t (End faults) batch) ≡ Some (0 + length es, End faults, batch) = rw (eq-eqb t.0 t.0 refl) refl in
        ap has_end (moves-push 0 es (Step t (End faults) batch) t.0) ∙ (list_any-append is_end (moves_from 0 es t.0) (cons_option (move_of (0 + length es) t.0 (Step t (End faults) batch)) []) ∙ rw own (or_right (has_end (moves_from 0 es t.0)) true refl))

come_spends : (code : Block) (U : Given) (G : Game) → Proper U → MadeByTurns code U G → Spent (3 * work code) G
come_spends code U G proper opens =
    let e : steps (items code [] Empty) ≡ 3 * work code + 0 = steps_items code [] 0 Empty in
    record { credits = 3 * work code ∷ []; each = (λ f. omega (arith, e), tt); most = λ i. (let none : length (journal_at (start_game code U).journals i) ≡ 0 = empty (in_all U) i in omega (arith, none)) }
  where
    empty : (q i : ℕ) → length (journal_at (replicate q []) i) ≡ 0
    empty zero i = refl
    empty (suc q) zero = refl
    empty (suc q) (suc i) = empty q i
come_spends code U G' proper (turns {G = G} {k = k} c free t) = turn_spends code (3 * work code) U k (games_come code U G proper c free).ok t (come_spends code U G proper c)

pub few_events : FewEvents
few_events code U G proper c i n p e free =
    let s = come_spends code U G proper c in
    let z : 0 + n ≡ n = omega arith in
    let w = credit-get G.entries 0 s.credits G.players n p s.each e (subst (λ (v : ℕ). has_end (moves_from 0 G.entries v) ≡ false) (sym z) free) in
    let least : steps p.term ≤ w.0 = w.2 in
    let one : w.0 ≤ sum_of s.credits = sum-one s.credits n w.0 w.1 in
    let most : length (journal_at G.journals i) + sum_of s.credits ≤ 3 * work code + length G.entries = s.most i in omega (arith, least, one, most)
