-- No task knows of more places than there are.
use Rattle.std.proofs.Common.{◌≡◌, ℕ, zero, suc, ◌≤◌, Bool, List, [], ◌∷◌, ◌++◌, length, Option, Some, None, slice_get, slice_set, refl, ap, ◌∙◌, sym, subst, arith}
use Rattle.rx_rules.proofs.Common.{PlaceId, TaskId, Block, Vars, Term, Answer, Gives, Fine, Fails, vars_after, Does, Local, Counts, does, child, Tree, AllowedAct, made, made_act, tree_of, started_by, vars_told, journal_at, State, Given, Player, Game, RunsWithoutEntry, stays, local, stores, Turn, planned, arrives, moves, root, MadeByTurns, turns, tree_in, acted, child_of}
use Rattle.rx_rules.specs.declared.entries.Act.{Act}
use Rattle.rx_rules.specs.declared.entries.Act.TheVariants.{Arrive, End, Census as Told}
use Rattle.rx_rules.specs.declared.entries.Entry.{Entry}
use Rattle.rx_rules.specs.declared.entries.Entry.TheVariants.{Step, Root, Death, Join}
use Rattle.rx_rules.specs.declared.events.PlaceEvent.{PlaceEvent}
use Rattle.rx_rules.specs.Picked.{ends, opens}
use Rattle.rx_rules.proofs.Append.{act-places, tree-push}
use Rattle.rx_rules.proofs.StepRules.{StepRule, raises, sets, takes_first, takes_other, repeats, tries, turns_over, turns_on, try_over, caught, uncaught, in_try, asks_in_try, in_body, asks_in_body, rule_of}
use Rattle.rx_runs.specs.Knowing.{ComesKnowing, GoesKnowing, LocalKnowing, TurnKnowing}

-- Local steps.

-- a local step leaves what is known
abbrev Keeps : Vars → Does → Type 0
Keeps vars (Local left kept) = kept.places ≡ vars.places
Keeps vars _ = Unit {0}

keeps_by : {vars : Vars} {here : ℕ} {t : Term} {d : Does} → StepRule vars here t d → Keeps vars d
keeps_by (raises fault) = refl
keeps_by (sets z) = refl
keeps_by takes_first = refl
keeps_by takes_other = refl
keeps_by repeats = refl
keeps_by tries = refl
keeps_by turns_over = refl
keeps_by (turns_on left) = refl
keeps_by try_over = refl
keeps_by caught = refl
keeps_by uncaught = refl
keeps_by (in_try s) = keeps_by s
keeps_by (asks_in_try g a s) = keeps_by s
keeps_by (in_body s) = keeps_by s
keeps_by (asks_in_body g a s) = keeps_by s
keeps_by _ = tt

pub local_knows : LocalKnowing
local_knows vars left here t after e = subst (λ (d : Does). Keeps vars d) e (keeps_by (rule_of vars here t))

-- Answers, walks and acts.

pub answer_knows : (a : Answer) (vars : Vars) → (vars_after a vars).places ≡ vars.places
answer_knows (Gives name value) vars = refl
answer_knows Fine vars = refl
answer_knows (Fails fault) vars = refl

pub goes_know : {heap n : ℕ} {t : TaskId} {here : PlaceId} {p q : Player} {S Z : State} {j k : List PlaceEvent} → RunsWithoutEntry heap n t here p S j q Z k → q.vars.places ≡ p.vars.places
goes_know stays = refl
goes_know {here = here} {p = p} (local {after = after} {left = left} e g) = goes_know g ∙ local_knows p.vars left here.0 p.term after e
goes_know {p = p} (stores cell x a told b may g) = goes_know g ∙ answer_knows a p.vars

pub goes_knowing : GoesKnowing
goes_knowing heap n t here p q S Z j k g = goes_know g

-- what an act tells is no less than was known, and no more than there is
record Tells (T : Tree) (old new : Vars) : Type 0 where
  less : old.places ≤ new.places
  there : new.places ≤ T.places

same_told : (T : Tree) (vars : Vars) → vars.places ≤ T.places → Tells T vars vars
same_told T vars le = record { less = omega arith; there = le }

act_tells : (T : Tree) (t : TaskId) (vars : Vars) (d : Does) (act : Act) → vars.places ≤ T.places → AllowedAct T t act → Tells T vars (vars_told d act vars)
act_tells T t vars (Counts name) (Told places x) le may = let is : places ≡ T.places = may.asks.1 in record { less = omega arith; there = omega arith }
act_tells T t vars _ act le may = same_told T vars le

-- Players.

abbrev Each : ℕ → List Player → Type 0
Each m [] = Unit {0}
Each m (p ∷ ps) = (p.vars.places ≤ m) × Each m ps

each-get : (m : ℕ) (ps : List Player) (i : ℕ) (p : Player) → Each m ps → slice_get ps i ≡ Some p → p.vars.places ≤ m
each-get m [] i p h e = cc
each-get m (q ∷ ps) zero p h e = let s : q ≡ p = cc in subst (λ (r : Player). r.vars.places ≤ m) s h.0
each-get m (q ∷ ps) (suc i) p h e = each-get m ps i p h.1 e

each-from : (m : ℕ) (ps : List Player) → ((i : ℕ) (p : Player) → slice_get ps i ≡ Some p → p.vars.places ≤ m) → Each m ps
each-from m [] f = tt
each-from m (p ∷ ps) f = (f zero p refl, each-from m ps (λ i q e. f (suc i) q e))

each-up : (m n : ℕ) (ps : List Player) → m ≤ n → Each m ps → Each n ps
each-up m n [] le h = tt
each-up m n (p ∷ ps) le h = (let low : p.vars.places ≤ m = h.0 in omega arith, each-up m n ps le h.1)

each-set : (m : ℕ) (ps : List Player) (i : ℕ) (p : Player) → Each m ps → p.vars.places ≤ m → Each m (slice_set ps i p)
each-set m [] i p h s = tt
each-set m (q ∷ ps) zero p h s = (s, h.1)
each-set m (q ∷ ps) (suc i) p h s = (h.0, each-set m ps i p h.1 s)

each-more : (m : ℕ) (ps qs : List Player) → Each m ps → Each m qs → Each m (ps ++ qs)
each-more m [] qs h k = k
each-more m (p ∷ ps) qs h k = (h.0, each-more m ps qs h.1 k)

-- a task that is started knows what its starter knows
each-child : (m : ℕ) (q : Player) (o : Option TaskId) → q.vars.places ≤ m → Each m (elim o as (λ _. List Player) [ Some c ↦ record { term = child q.term; vars = q.vars; batch = [] } ∷ [] | None ↦ [] ])
each-child m q None h = tt
each-child m q (Some c) h = (h, tt)

-- each of the first players knows no more than the one at its number among the others
abbrev Grows : List Player → List Player → Type 0
Grows [] qs = Unit {0}
Grows (p ∷ ps) [] = ⊥
Grows (p ∷ ps) (q ∷ qs) = (p.vars.places ≤ q.vars.places) × Grows ps qs

grows-same : (ps : List Player) → Grows ps ps
grows-same [] = tt
grows-same (p ∷ ps) = (omega arith, grows-same ps)

grows-set : (ps : List Player) (i : ℕ) (p q : Player) → slice_get ps i ≡ Some p → p.vars.places ≤ q.vars.places → Grows ps (slice_set ps i q)
grows-set [] i p q e le = tt
grows-set (r ∷ ps) zero p q e le = (let s : r ≡ p = cc in subst (λ (v : Player). v.vars.places ≤ q.vars.places) (sym s) le, grows-same ps)
grows-set (r ∷ ps) (suc i) p q e le = (omega arith, grows-set ps i p q e le)

grows-more : (ps qs rs : List Player) → Grows ps qs → Grows ps (qs ++ rs)
grows-more [] qs rs h = tt
grows-more (p ∷ ps) [] rs h = absurd h
grows-more (p ∷ ps) (q ∷ qs) rs h = (h.0, grows-more ps qs rs h.1)

grows-get : (ps qs : List Player) (i : ℕ) (p q : Player) → Grows ps qs → slice_get ps i ≡ Some p → slice_get qs i ≡ Some q → p.vars.places ≤ q.vars.places
grows-get [] qs i p q h e f = cc
grows-get (a ∷ ps) [] i p q h e f = absurd h
grows-get (a ∷ ps) (b ∷ qs) zero p q h e f =
    let s : a ≡ p = cc in
    let t : b ≡ q = cc in
    subst (λ (v : Player). p.vars.places ≤ v.vars.places) t (subst (λ (v : Player). v.vars.places ≤ b.vars.places) s h.0)
grows-get (a ∷ ps) (b ∷ qs) (suc i) p q h e f = grows-get ps qs i p q h.1 e f

-- Turns.

-- no entry takes a place away
pub made_grows : (n : ℕ) (T : Tree) (e : Entry) → T.places ≤ (made n T e).places
made_grows n T (Step t act batch) = let same : (made_act T t act).places ≡ T.places = act-places T t act in omega arith
made_grows n T (Root lost masked thrown) = omega arith
made_grows n T (Death d) = omega arith
made_grows n T (Join p) = omega arith

entry_grows : (U : Given) (G G' : Game) (e : Entry) → G'.entries ≡ G.entries ++ e ∷ [] → (tree_in U G).places ≤ (tree_in U G').places
entry_grows U G G' e is =
    subst (λ (T : Tree). (tree_in U G).places ≤ T.places) (sym (ap (λ (es : List Entry). tree_of U.places es) is ∙ tree-push U.places G.entries e))
    (made_grows (length G.entries) (tree_in U G) e)

turn_grows : (U : Given) (k : ℕ) (used : Bool) (G G' : Game) → Turn U k G used G' → (tree_in U G).places ≤ (tree_in U G').places
turn_grows U k used G G' (planned e now) = entry_grows U G G' e refl
turn_grows U k used G G' (arrives x p takes may) = entry_grows U G G' (Step x.number (Arrive p) []) refl
turn_grows U k used G G' (moves x here p q S Z j act takes where_is player store go fits may) = entry_grows U G G' (Step x.number act q.batch) refl
turn_grows U k used G G' (ends x here p q S Z j faults takes where_is player store go done may) = entry_grows U G G' (Step x.number (End faults) q.batch) refl
turn_grows U k used G G' (root lost masked thrown free none may) = entry_grows U G G' (Root lost masked thrown) refl

-- the player that acts
record Acted (T : Tree) (p q last : Player) : Type 0 where
  first : q.vars.places ≤ T.places
  less : p.vars.places ≤ last.vars.places
  there : last.vars.places ≤ T.places

acts_so : (T : Tree) (heap n : ℕ) (t : TaskId) (here : PlaceId) (p q : Player) (S Z : State) (j k : List PlaceEvent) (act : Act) → p.vars.places ≤ T.places → RunsWithoutEntry heap n t here p S j q Z k → AllowedAct T t act → Acted T p q (acted here q act)
acts_so T heap n t here p q S Z j k act le go may =
    let same : q.vars.places ≡ p.vars.places = goes_know go in
    let tells : Tells T q.vars (vars_told (does q.vars here.0 q.term) act q.vars) = act_tells T t q.vars (does q.vars here.0 q.term) act (omega arith) may in
    let more : q.vars.places ≤ (acted here q act).vars.places = tells.less in
    record { first = omega arith; less = omega arith; there = tells.there }

up : (U : Given) (k : ℕ) {used : Bool} {G G' : Game} (ps : List Player) → Turn U k G used G' → Each (tree_in U G).places ps → Each (tree_in U G').places ps
up U k {used = used} {G = G} {G' = G'} ps turn h = each-up (tree_in U G).places (tree_in U G').places ps (turn_grows U k used G G' turn) h

turn_knows : (U : Given) (k : ℕ) {used : Bool} {G G' : Game} → Turn U k G used G' → Each (tree_in U G).places G.players → Each (tree_in U G').places G'.players × Grows G.players G'.players
turn_knows U k {G = G} (planned e now) h = (up U k G.players (planned {G = G} e now) h, grows-same G.players)
turn_knows U k {G = G} (arrives x p takes may) h = (up U k G.players (arrives {G = G} x p takes may) h, grows-same G.players)
turn_knows U k {G = G} (moves x here p q S Z j act takes where_is player store go fits may) h =
    let m : ℕ = (tree_in U G).places in
    let last : Player = acted here q act in
    let one : Acted (tree_in U G) p q last = acts_so (tree_in U G) U.heap (length G.entries) x.number here p q S Z (journal_at G.journals here.0) j act (each-get m G.players x.number.0 p h player) go may in
    let first : List Player = slice_set G.players x.number.0 last in (
      up U k (first ++ child_of q act) (moves {G = G} x here p q S Z j act takes where_is player store go fits may)
          (each-more m first (child_of q act) (each-set m G.players x.number.0 last h one.there) (each-child m q (started_by act) one.first)),
      grows-more G.players first (child_of q act) (grows-set G.players x.number.0 p last player one.less),
    )
turn_knows U k {G = G} (ends x here p q S Z j faults takes where_is player store go done may) h =
    (up U k G.players (ends {G = G} x here p q S Z j faults takes where_is player store go done may) h, grows-same G.players)
turn_knows U k {G = G} (root lost masked thrown free none may) h = (up U k G.players (root {G = G} lost masked thrown free none may) h, grows-same G.players)

come_know : (code : Block) (U : Given) {G : Game} → MadeByTurns code U G → Each (tree_in U G).places G.players
come_know code U opens = (omega arith, tt)
come_know code U (turns {k = k} c free t) = (turn_knows U k t (come_know code U c)).0

pub comes_knowing : ComesKnowing
comes_knowing code U G c n p e = each-get (tree_in U G).places G.players n p (come_know code U c) e

pub turn_knowing : TurnKnowing
turn_knowing U k used G G' h t =
    let two = turn_knows U k t (each-from (tree_in U G).places G.players h) in
    (turn_grows U k used G G' t, λ n p q e f. grows-get G.players G'.players n p q two.1 e f)
