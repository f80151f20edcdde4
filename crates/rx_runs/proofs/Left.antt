-- How many steps the terms of a game that turns have made have still to make.
use Rattle.std.proofs.Common.{◌≡◌, ℕ, zero, suc, ◌+◌, ◌*◌, ◌≤◌, Bool, List, [], ◌∷◌, ◌++◌, Option, Some, None, slice_get, slice_set, subst, arith}
use Rattle.rx_rules.proofs.Common.{TaskId, Block, work, Empty, items, granted, child, brought, started_by, Given, Player, Game, Turn, planned, arrives, moves, root, MadeByTurns, turns, acted, child_of}
use Rattle.rx_rules.specs.Picked.{ends, opens}
use Rattle.rx_runs.specs.Steps.{steps, started_steps}
use Rattle.rx_runs.specs.Left.{FewLeft, GoingSinks}
use Rattle.rx_runs.proofs.Weighing.{share}
use Rattle.rx_runs.proofs.Sinking.{steps_items, entry_sinks, going}

pub going_sinks : GoingSinks
going_sinks heap n t here p q S Z j k g = going g

-- All players.

-- each term has at most so many steps left
abbrev Few : ℕ → List Player → Type 0
Few n [] = Unit {0}
Few n (p ∷ ps) = (steps p.term ≤ n) × Few n ps

few-get : (n : ℕ) (ps : List Player) (i : ℕ) (p : Player) → Few n ps → slice_get ps i ≡ Some p → steps p.term ≤ n
few-get n [] i p h e = cc
few-get n (q ∷ ps) zero p h e = let s : q ≡ p = cc in subst (λ (r : Player). steps r.term ≤ n) s h.0
few-get n (q ∷ ps) (suc i) p h e = few-get n ps i p h.1 e

few-set : (n : ℕ) (ps : List Player) (i : ℕ) (p : Player) → Few n ps → steps p.term ≤ n → Few n (slice_set ps i p)
few-set n [] i p h le = tt
few-set n (q ∷ ps) zero p h le = (le, h.1)
few-set n (q ∷ ps) (suc i) p h le = (h.0, few-set n ps i p h.1 le)

few-more : (n : ℕ) (ps qs : List Player) → Few n ps → Few n qs → Few n (ps ++ qs)
few-more n [] qs h k = k
few-more n (p ∷ ps) qs h k = (h.0, few-more n ps qs h.1 k)

few-child : (n : ℕ) (q : Player) (o : Option TaskId) → share started_steps (child q.term) o ≤ n → Few n (elim o as (λ _. List Player) [ Some c ↦ record { term = child q.term; vars = q.vars; batch = [] } ∷ [] | None ↦ [] ])
few-child n q None h = tt
few-child n q (Some c) h = (let le : steps (child q.term) + 1 ≤ n = h in omega (arith, le), tt)

turn_few : (n : ℕ) (U : Given) (k : ℕ) {used : Bool} {G G' : Game} → Turn U k G used G' → Few n G.players → Few n G'.players
turn_few n U k (planned e now) h = h
turn_few n U k (arrives x p takes may) h = h
turn_few n U k {G = G} (moves x here p q S Z j act takes where_is player store goes fits may) h =
    let first : steps p.term ≤ n = few-get n G.players x.number.0 p h player in
    let rest : steps q.term ≤ steps p.term = going goes in
    let step : steps (granted (brought act) q.term) + share started_steps (child q.term) (started_by act) + 1 ≤ steps q.term = entry_sinks q.vars here q.term act fits in
    few-more n (slice_set G.players x.number.0 (acted here q act)) (child_of q act)
    (few-set n G.players x.number.0 (acted here q act) h (omega (arith, first, rest, step)))
    (few-child n q (started_by act) (omega (arith, first, rest, step)))
turn_few n U k (ends x here p q S Z j faults takes where_is player store goes fits may) h = h
turn_few n U k (root lost masked thrown due none may) h = h

come_few : (code : Block) (U : Given) {G : Game} → MadeByTurns code U G → Few (3 * work code) G.players
come_few code U opens = let e : steps (items code [] Empty) ≡ 3 * work code + 0 = steps_items code [] 0 Empty in (omega (arith, e), tt)
come_few code U (turns {k = k} c free t) = turn_few (3 * work code) U k t (come_few code U c)

pub few_left : FewLeft
few_left code U G c n p e = few-get (3 * work code) G.players n p (come_few code U c) e
