-- Each `new` of the terms of a game that turns have made asks for at least one word, where the script's do.
use Rattle.std.proofs.Common.{◌≡◌, ℕ, zero, suc, ◌<◌, Bool, List, [], ◌∷◌, ◌++◌, Option, Some, None, slice_get, slice_set, subst}
use Rattle.rx_rules.proofs.Common.{PlaceId, TaskId, Fault, Block, Nothing, Then, Stmt, Async, AtAsync, At, Finish, Vars, Term, Empty, Run, Raise, Turns, Trying, Body, Held, items_from, at, Answer, Gives, Fine, Fails, answered, Does, Local, Makes, does, stmt_granted, or_raise, body_granted, granted, stmt_child, child, replaced, after_it, State, brought, started_by, Given, Player, Game, RunsWithoutEntry, stays, local, stores, Turn, planned, arrives, moves, root, MadeByTurns, turns, acted, child_of}
use Rattle.rx_rules.proofs.StepRules.{StepRule, sets, makes, takes_first, takes_other, repeats, tries, turns_over, turns_on, try_over, caught, in_try, asks_in_try, in_body, asks_in_body, rule_of}
use Rattle.rx_rules.specs.declared.events.PlaceEvent.{PlaceEvent}
use Rattle.rx_rules.specs.Picked.{ends, opens}
use Rattle.rx_runs.specs.SomeWords.{StmtMakesSome, MakesSome, TermMakesSome, AsksSome, ComesSome, GoesSome}

-- Terms.

pub some-items : (b : Block) (x : List ℕ) (i : ℕ) (rest : Term) → MakesSome b → TermMakesSome rest → TermMakesSome (items_from b x i rest)
some-items Nothing x i rest h r = r
some-items (Then first more) x i rest h r = (h.0, some-items more x (suc i) rest h.1 r)

-- a local step leaves such a term, and a block is made of at least one word
abbrev pub Keeps : Does → Type 0
Keeps (Local left vars) = TermMakesSome left
Keeps (Makes name words) = 0 < words
Keeps _ = Unit {0}

asks : (d : Does) → Keeps d → AsksSome d
asks (Makes name words) h = h
asks _ h = tt

keeps_by : {vars : Vars} {here : ℕ} {t : Term} {d : Does} → StepRule vars here t d → TermMakesSome t → Keeps d
keeps_by (sets z) h = h.1
keeps_by makes h = h.0
keeps_by (takes_first {first = first} {x = x} {rest = rest}) h = some-items first (at x 0) 0 rest h.0.0 h.1
keeps_by (takes_other {other = other} {x = x} {rest = rest}) h = some-items other (at x 1) 0 rest h.0.1 h.1
keeps_by repeats h = (h.0, h.1)
keeps_by (tries {body = body} {x = x}) h = (some-items body (at x 0) 0 Empty h.0.0 tt, h.0.1, h.1)
keeps_by turns_over h = h.1
keeps_by (turns_on {body = body} {x = x} {k = k} {times = times} {rest = rest} left) h = some-items body (at x k) 0 (Turns body x (suc k) times rest) h.0 h
keeps_by try_over h = h.2
keeps_by (caught {handler = handler} {x = x} {rest = rest}) h = some-items handler (at x 1) 0 rest h.1 h.2
keeps_by (in_try s) h = (keeps_by s h.0, h.1, h.2)
keeps_by (asks_in_try g a s) h = keeps_by s h.0
keeps_by (in_body s) h = (keeps_by s h.0, h.1)
keeps_by (asks_in_body g a s) h = keeps_by s h.0
keeps_by _ h = tt

pub keeps : (vars : Vars) (here : ℕ) (t : Term) → TermMakesSome t → Keeps (does vars here t)
keeps vars here t h = keeps_by (rule_of vars here t) h

-- Answers, grants and new tasks.

some-replaced : (t new : Term) → TermMakesSome t → TermMakesSome new → TermMakesSome (replaced t new)
some-replaced (Trying inside o b x rest) new h n = (some-replaced inside new h.0 n, h.1, h.2)
some-replaced (Body inside rest) new h n = (some-replaced inside new h.0 n, h.1)
some-replaced _ new h n = n

some-after : (t : Term) → TermMakesSome t → TermMakesSome (after_it t)
some-after (Run stmt x rest) h = h.1
some-after (Trying inside o b x rest) h = some-after inside h.0
some-after (Body inside rest) h = some-after inside h.0
some-after _ h = tt

pub some-answered : (a : Answer) (t : Term) → TermMakesSome t → TermMakesSome (answered a t)
some-answered (Gives name value) t h = some-replaced t (after_it t) h (some-after t h)
some-answered Fine t h = some-replaced t (after_it t) h (some-after t h)
some-answered (Fails fault) t h = some-replaced t (Raise (fault ∷ [])) h tt

grants : (stmt : Stmt) (x : List ℕ) (rest : Term) → StmtMakesSome stmt → TermMakesSome rest → TermMakesSome (stmt_granted stmt x rest)
grants (At place body) x rest s h = h
grants (Finish body) x rest s h = (some-items body x 0 Empty s tt, h)
grants _ x rest s h = h

body-grants : (inside after rest : Term) → TermMakesSome after → TermMakesSome rest → TermMakesSome (body_granted inside after rest)
body-grants Empty after rest h r = r
body-grants (Raise fs) after rest h r = r
body-grants _ after rest h r = (h, r)

or-raises : (faults : List Fault) (rest : Term) → TermMakesSome rest → TermMakesSome (or_raise faults rest)
or-raises [] rest h = h
or-raises (f ∷ fs) rest h = tt

pub some-granted : (faults : List Fault) (t : Term) → TermMakesSome t → TermMakesSome (granted faults t)
some-granted faults Empty h = tt
some-granted faults (Run stmt x rest) h = grants stmt x rest h.0 h.1
some-granted faults (Raise fs) h = tt
some-granted faults (Turns body x k times rest) h = h
some-granted faults (Trying inside o b x rest) h = (some-granted faults inside h.0, h.1, h.2)
some-granted faults (Body inside rest) h = body-grants inside (granted faults inside) rest (some-granted faults inside h.0) h.1
some-granted faults (Held rest) h = or-raises faults rest h

starts : (stmt : Stmt) (x : List ℕ) → StmtMakesSome stmt → TermMakesSome (stmt_child stmt x)
starts (Async body) x s = some-items body x 0 Empty s tt
starts (AtAsync place body) x s = some-items body x 0 Empty s tt
starts (At place body) x s = some-items body x 0 Empty s tt
starts _ x s = tt

pub some-child : (t : Term) → TermMakesSome t → TermMakesSome (child t)
some-child (Run stmt x rest) h = starts stmt x h.0
some-child (Trying inside o b x rest) h = some-child inside h.0
some-child (Body inside rest) h = some-child inside h.0
some-child _ h = tt

-- Games.

goes : {heap n : ℕ} {t : TaskId} {here : PlaceId} {p q : Player} {S Z : State} {j k : List PlaceEvent} → RunsWithoutEntry heap n t here p S j q Z k → TermMakesSome p.term → TermMakesSome q.term
goes stays h = h
goes {here = here} {p = p} (local e g) h = goes g (subst (λ (d : Does). Keeps d) e (keeps p.vars here.0 p.term h))
goes {p = p} (stores cell x a told b may g) h = goes g (some-answered a p.term h)

pub goes_some : GoesSome
goes_some heap n t here p q S Z j k g h = let s = goes g h in (s, λ vars. asks (does vars here.0 q.term) (keeps vars here.0 q.term s))

abbrev Each : List Player → Type 0
Each [] = Unit {0}
Each (p ∷ ps) = TermMakesSome p.term × Each ps

each-get : (ps : List Player) (i : ℕ) (p : Player) → Each ps → slice_get ps i ≡ Some p → TermMakesSome p.term
each-get [] i p h e = cc
each-get (q ∷ ps) zero p h e = let s : q ≡ p = cc in subst (λ (r : Player). TermMakesSome r.term) s h.0
each-get (q ∷ ps) (suc i) p h e = each-get ps i p h.1 e

each-set : (ps : List Player) (i : ℕ) (p : Player) → Each ps → TermMakesSome p.term → Each (slice_set ps i p)
each-set [] i p h s = tt
each-set (q ∷ ps) zero p h s = (s, h.1)
each-set (q ∷ ps) (suc i) p h s = (h.0, each-set ps i p h.1 s)

each-more : (ps qs : List Player) → Each ps → Each qs → Each (ps ++ qs)
each-more [] qs h k = k
each-more (p ∷ ps) qs h k = (h.0, each-more ps qs h.1 k)

each-child : (q : Player) (o : Option TaskId) → TermMakesSome q.term → Each (elim o as (λ _. List Player) [ Some c ↦ record { term = child q.term; vars = q.vars; batch = [] } ∷ [] | None ↦ [] ])
each-child q None h = tt
each-child q (Some c) h = (some-child q.term h, tt)

turn_some : (U : Given) (k : ℕ) {used : Bool} {G G' : Game} → Turn U k G used G' → Each G.players → Each G'.players
turn_some U k (planned e now) h = h
turn_some U k (arrives x p takes may) h = h
turn_some U k {G = G} (moves x here p q S Z j act takes where_is player store go fits may) h =
    let s : TermMakesSome q.term = goes go (each-get G.players x.number.0 p h player) in
    each-more (slice_set G.players x.number.0 (acted here q act)) (child_of q act)
    (each-set G.players x.number.0 (acted here q act) h (some-granted (brought act) q.term s)) (each-child q (started_by act) s)
turn_some U k (ends x here p q S Z j faults takes where_is player store go done may) h = h
turn_some U k (root lost masked thrown due none may) h = h

come_some : (code : Block) (U : Given) {G : Game} → MakesSome code → MadeByTurns code U G → Each G.players
come_some code U s opens = (some-items code [] 0 Empty s tt, tt)
come_some code U s (turns {k = k} c free t) = turn_some U k t (come_some code U s c)

pub comes_some : ComesSome
comes_some code U G s c n p e = each-get G.players n p (come_some code U s c) e
