-- A term that weighs what its parts weigh falls at each step, where no part weighs less than what its step leaves and takes.
use Rattle.std.proofs.Common.{◌≡◌, ℕ, suc, ◌+◌, ◌-◌, ◌≤◌, ◌<◌, Bool, List, [], ◌∷◌, Option, Some, None, refl, ap, ◌∙◌, sym, subst, arith}
use Rattle.rx_rules.proofs.Common.{Vars, Fault, PlaceId, TaskId, Expr, Block, Nothing, Then, Stmt, Term, Empty, Raise, Run, Turns, Trying, Body, Held, Does, Local, Makes, Gets, Puts, Forgets, Opens, Calls as Asks, Spawns, Waits, Releases, Prints, Counts, granted, child, does, items, items_from, at, or_raise, Answer, Gives, Fine, Fails, answered, Tells, brought, started_by, raised_by, State, Player, RunsWithoutEntry, stays, local, stores}
use Rattle.rx_rules.specs.declared.entries.Act.{Act}
use Rattle.rx_rules.specs.declared.entries.Act.TheVariants.{Open, At as Calls, Spawn, Wait, Release, Print, Census}
use Rattle.rx_rules.specs.declared.events.Cell.{Cell}
use Rattle.rx_rules.specs.declared.events.PlaceEvent.{PlaceEvent}
use Rattle.rx_rules.specs.Code as code
use Rattle.rx_rules.proofs.StepRules as rule
use Rattle.rx_rules.proofs.StepRules.{IsAsking, StepRule, rule_of, granted_inside}
use Rattle.rx_rules.specs.Plays.{Fits}
use Rattle.rx_runs.specs.AnyAnswers.{AsksStore}
use Rattle.rx_runs.specs.Steps.{Falls}

-- what each part of a term weighs, and what a local step, an answer of the store and an entry take
pub record Weights : Type 0 where
  pub statement : Stmt → ℕ
  pub block : Block → ℕ
  pub handler : Block → ℕ
  pub turns : ℕ → Block → ℕ
  pub body : ℕ
  pub held : ℕ
  pub step : ℕ
  pub call : ℕ
  pub entry : ℕ

-- a term weighs what its parts weigh
pub record Sums (m : Weights) (size : Term → ℕ) : Type 0 where
  pub empty : size Empty ≡ 0
  pub raised : (faults : List Fault) → size (Raise faults) ≡ 0
  pub run : (s : Stmt) (x : List ℕ) (rest : Term) → size (Run s x rest) ≡ m.statement s + size rest
  pub repeating : (b : Block) (x : List ℕ) (k times : ℕ) (rest : Term) → size (Turns b x k times rest) ≡ m.turns (times - k) b + size rest
  pub trying : (inside : Term) (dead_only : Bool) (b : Block) (x : List ℕ) (rest : Term) → size (Trying inside dead_only b x rest) ≡ size inside + m.handler b + size rest
  pub finishing : (inside rest : Term) → size (Body inside rest) ≡ size inside + m.body + size rest
  pub holding : (rest : Term) → size (Held rest) ≡ m.held + size rest
  pub nothing : m.block Nothing ≡ 0
  pub then : (s : Stmt) (b : Block) → m.block (Then s b) ≡ m.statement s + m.block b

-- each part pays for its step, and for the task that it starts
pub record Pays (m : Weights) (brings : Term → ℕ) : Type 0 where
  pub raises : (s : Stmt) → m.step ≤ m.statement s
  pub makes : (name words : ℕ) → m.call ≤ m.statement (code.New name words)
  pub gets : (name target : ℕ) (index : Expr) → m.call ≤ m.statement (code.Get name target index)
  pub puts : (target : ℕ) (index value : Expr) → m.call ≤ m.statement (code.Put target index value)
  pub forgets : (target : ℕ) → m.call ≤ m.statement (code.Forget target)
  pub counts : (name : ℕ) → m.entry ≤ m.statement (code.Census name)
  pub prints : (value : Expr) → m.entry ≤ m.statement (code.Print value)
  pub spawns : (b : Block) (x : List ℕ) → brings (items b x Empty) + m.entry ≤ m.statement (code.Async b)
  pub spawns_at : (place : Expr) (b : Block) (x : List ℕ) → brings (items b x Empty) + m.entry ≤ m.statement (code.AtAsync place b)
  pub calls : (place : Expr) (b : Block) (x : List ℕ) → m.held + (brings (items b x Empty) + m.entry) ≤ m.statement (code.At place b)
  pub opens : (b : Block) → m.block b + m.body + m.entry ≤ m.statement (code.Finish b)
  pub waits : m.held + m.entry ≤ m.body
  pub releases : m.entry ≤ m.held
  pub first : (test : Expr) (a b : Block) → m.block a + m.step ≤ m.statement (code.If test a b)
  pub other : (test : Expr) (a b : Block) → m.block b + m.step ≤ m.statement (code.If test a b)
  pub repeats : (times : ℕ) (b : Block) → m.turns times b + m.step ≤ m.statement (code.Repeat times b)
  pub turns : (times : ℕ) (b : Block) → m.block b + m.turns times b + m.step ≤ m.turns (suc times) b
  pub over : (times : ℕ) (b : Block) → m.step ≤ m.turns times b
  pub tries : (b : Block) (dead_only : Bool) (h : Block) → m.block b + m.handler h + m.step ≤ m.statement (code.Try b dead_only h)
  pub handles : (b : Block) → m.block b + m.step ≤ m.handler b

-- what an act brings that starts a task
abbrev pub share : (Term → ℕ) → Term → Option TaskId → ℕ
share brings t o = elim o as (λ _. ℕ) [ Some c ↦ brings t | None ↦ 0 ]

-- what is told is told of a call of the store
pub tells_store : (d : Does) (here : PlaceId) (c : Cell) (a : Answer) → Tells d here c a → AsksStore d
tells_store (Makes u v) here c a h = tt
tells_store (Gets u v w) here c a h = tt
tells_store (Puts u v w) here c a h = tt
tells_store (Forgets u) here c a h = tt
tells_store _ here c a h = absurd h

alone : (a e b : ℕ) → a + e ≤ b → a + 0 + e ≤ b
alone a e b le = omega arith

both : (a c e b : ℕ) → a + (c + e) ≤ b → a + c + e ≤ b
both a c e b le = omega arith

answered_trying : (a : Answer) (inside : Term) (dead_only : Bool) (b : Block) (x : List ℕ) (rest : Term) → answered a (Trying inside dead_only b x rest) ≡ Trying (answered a inside) dead_only b x rest
answered_trying (Gives name value) inside dead_only b x rest = refl
answered_trying Fine inside dead_only b x rest = refl
answered_trying (Fails fault) inside dead_only b x rest = refl

answered_body : (a : Answer) (inside rest : Term) → answered a (Body inside rest) ≡ Body (answered a inside) rest
answered_body (Gives name value) inside rest = refl
answered_body Fine inside rest = refl
answered_body (Fails fault) inside rest = refl

module _ (m : Weights) (size : Term → ℕ) (sums : Sums m size) where
  pub size_items : (b : Block) (x : List ℕ) (i : ℕ) (rest : Term) → size (items_from b x i rest) ≡ m.block b + size rest
  size_items Nothing x i rest = (let it : size rest ≡ m.block Nothing + size rest = omega (arith, sums.nothing) in it)
  size_items (Then s more) x i rest =
      let h : size (items_from more x (suc i) rest) ≡ m.block more + size rest = size_items more x (suc i) rest in
      let r = sums.run s (at x i) (items_from more x (suc i) rest) in
      let it : size (Run s (at x i) (items_from more x (suc i) rest)) ≡ m.block (Then s more) + size rest = omega (arith, h, r, sums.then s more) in it

module _ (m : Weights) (size brings : Term → ℕ) (sums : Sums m size) (pays : Pays m brings) where
  abbrev pub Less : Term → Does → Type 0
  Less t d = Falls size brings m.step m.call m.entry t d

  -- Statements.

  at_front : (s : Stmt) (x : List ℕ) (rest after : Term) (c n : ℕ) → size after ≤ c + size rest → c + n ≤ m.statement s → size after + n ≤ size (Run s x rest)
  at_front s x rest after c n few le = omega (arith, sums.run s x rest, few, le)

  past : (s : Stmt) (x : List ℕ) (rest : Term) (n : ℕ) → n ≤ m.statement s → size rest + n ≤ size (Run s x rest)
  past s x rest n le = omega (arith, sums.run s x rest, le)

  raises : (s : Stmt) (x : List ℕ) (rest : Term) (faults : List Fault) (n : ℕ) → n ≤ m.statement s → size (Raise faults) + n ≤ size (Run s x rest)
  raises s x rest faults n le = omega (arith, sums.run s x rest, sums.raised faults, le)

  few_items : (b : Block) (x : List ℕ) (i : ℕ) (rest : Term) → size (items_from b x i rest) ≤ m.block b + size rest
  few_items b x i rest = omega (arith, size_items m size sums b x i rest)

  store : (s : Stmt) (x : List ℕ) (rest : Term) → m.call ≤ m.statement s → (a : Answer) → size (answered a (Run s x rest)) + m.call ≤ size (Run s x rest)
  store s x rest le (Gives name value) = past s x rest m.call le
  store s x rest le Fine = past s x rest m.call le
  store s x rest le (Fails fault) = raises s x rest (fault ∷ []) m.call le

  choose : (s : Stmt) (x : List ℕ) (rest : Term) (b : Block) (y : List ℕ) → m.block b + m.step ≤ m.statement s → size (items b y rest) + m.step ≤ size (Run s x rest)
  choose s x rest b y le =
      let i : size (items b y rest) ≤ m.block b + size rest = few_items b y 0 rest in
      at_front s x rest (items b y rest) (m.block b) m.step i le

  begin_try : (body : Block) (dead_only : Bool) (handler : Block) (x : List ℕ) (rest : Term) → size (Trying (items body (at x 0) Empty) dead_only handler x rest) + m.step ≤ size (Run (code.Try body dead_only handler) x rest)
  begin_try body dead_only handler x rest =
      let i : size (items body (at x 0) Empty) ≤ m.block body + size Empty = few_items body (at x 0) 0 Empty in
      let few : size (Trying (items body (at x 0) Empty) dead_only handler x rest) ≤ (m.block body + m.handler handler) + size rest = omega (arith, i, sums.empty, sums.trying (items body (at x 0) Empty) dead_only handler x rest) in
      at_front (code.Try body dead_only handler) x rest (Trying (items body (at x 0) Empty) dead_only handler x rest) (m.block body + m.handler handler) m.step few (pays.tries body dead_only handler)

  begin_turns : (times : ℕ) (body : Block) (x : List ℕ) (rest : Term) → size (Turns body x 0 times rest) + m.step ≤ size (Run (code.Repeat times body) x rest)
  begin_turns times body x rest =
      let z : times - 0 ≡ times = omega arith in
      let e : m.turns (times - 0) body ≡ m.turns times body = ap (λ (n : ℕ). m.turns n body) z in
      let few : size (Turns body x 0 times rest) ≤ m.turns times body + size rest = omega (arith, e, sums.repeating body x 0 times rest) in
      at_front (code.Repeat times body) x rest (Turns body x 0 times rest) (m.turns times body) m.step few (pays.repeats times body)

  one_turn : (body : Block) (x : List ℕ) (k times : ℕ) (rest : Term) → k < times → size (items body (at x k) (Turns body x (suc k) times rest)) + m.step ≤ size (Turns body x k times rest)
  one_turn body x k times rest more =
      let i : size (items body (at x k) (Turns body x (suc k) times rest)) ≤ m.block body + size (Turns body x (suc k) times rest) = few_items body (at x k) 0 (Turns body x (suc k) times rest) in
      let less : times - k ≡ suc (times - suc k) = omega arith in
      let e : m.turns (times - k) body ≡ m.turns (suc (times - suc k)) body = ap (λ (n : ℕ). m.turns n body) less in
      omega (arith, i, e, sums.repeating body x k times rest, sums.repeating body x (suc k) times rest, pays.turns (times - suc k) body)

  open_finish : (body : Block) (x : List ℕ) (rest : Term) → size (Body (items body x Empty) rest) + m.entry ≤ size (Run (code.Finish body) x rest)
  open_finish body x rest =
      let i : size (items body x Empty) ≤ m.block body + size Empty = few_items body x 0 Empty in
      let few : size (Body (items body x Empty) rest) ≤ (m.block body + m.body) + size rest = omega (arith, i, sums.empty, sums.finishing (items body x Empty) rest) in
      at_front (code.Finish body) x rest (Body (items body x Empty) rest) (m.block body + m.body) m.entry few (pays.opens body)

  call_out : (place : Expr) (body : Block) (x : List ℕ) (rest : Term) → size (Held rest) + (brings (items body x Empty) + m.entry) ≤ size (Run (code.At place body) x rest)
  call_out place body x rest =
      let few : size (Held rest) ≤ m.held + size rest = omega (arith, sums.holding rest) in
      at_front (code.At place body) x rest (Held rest) m.held (brings (items body x Empty) + m.entry) few (pays.calls place body x)

  catch : (faults : List Fault) (dead_only : Bool) (handler : Block) (x : List ℕ) (rest : Term) → size (items handler (at x 1) rest) + m.step ≤ size (Trying (Raise faults) dead_only handler x rest)
  catch faults dead_only handler x rest =
      let i : size (items handler (at x 1) rest) ≤ m.block handler + size rest = few_items handler (at x 1) 0 rest in
      omega (arith, i, sums.trying (Raise faults) dead_only handler x rest, pays.handles handler)

  wait : (inside rest : Term) → size (Held rest) + m.entry ≤ size (Body inside rest)
  wait inside rest = omega (arith, sums.holding rest, sums.finishing inside rest, pays.waits)

  resume : (faults : List Fault) (rest : Term) → size (or_raise faults rest) + m.entry ≤ size (Held rest)
  resume [] rest = (let it : size rest + m.entry ≤ size (Held rest) = omega (arith, sums.holding rest, pays.releases) in it)
  resume (f ∷ fs) rest = (let it : size (Raise (f ∷ fs)) + m.entry ≤ size (Held rest) = omega (arith, sums.holding rest, sums.raised (f ∷ fs), pays.releases) in it)

  -- a term in a context that keeps what the term answers, is granted and starts
  module _ (c : Term → Term) (h r : ℕ) (grows : (u : Term) → size (c u) ≡ size u + h + r) (t : Term) (answers : (a : Answer) → answered a (c t) ≡ c (answered a t)) (grants : (faults : List Fault) → granted faults (c t) ≡ c (granted faults t)) (starts : child (c t) ≡ child t) where
    framed : (now after : Term) (n : ℕ) → now ≡ c after → size after + n ≤ size t → size now + n ≤ size (c t)
    framed now after n is le = let e : size now ≡ size after + h + r = ap size is ∙ grows after in omega (arith, e, grows t, le)

    started : size (granted [] t) + (brings (child t) + m.entry) ≤ size t → size (granted [] (c t)) + (brings (child (c t)) + m.entry) ≤ size (c t)
    started le = subst (λ (u : Term). size (granted [] (c t)) + (brings u + m.entry) ≤ size (c t)) (sym starts) (framed (granted [] (c t)) (granted [] t) (brings (child t) + m.entry) (grants []) le)

    asks_less : (d : Does) → IsAsking d → Less t d → Less (c t) d
    asks_less (Makes name words) o k = λ a. framed (answered a (c t)) (answered a t) m.call (answers a) (k a)
    asks_less (Gets name target index) o k = λ a. framed (answered a (c t)) (answered a t) m.call (answers a) (k a)
    asks_less (Puts target index value) o k = λ a. framed (answered a (c t)) (answered a t) m.call (answers a) (k a)
    asks_less (Forgets target) o k = λ a. framed (answered a (c t)) (answered a t) m.call (answers a) (k a)
    asks_less Opens o k = framed (granted [] (c t)) (granted [] t) m.entry (grants []) k
    asks_less (Asks p) o k = started k
    asks_less (Spawns p) o k = started k
    asks_less (Waits faults) o k = framed (granted [] (c t)) (granted [] t) m.entry (grants []) k
    asks_less Releases o k = λ faults. framed (granted faults (c t)) (granted faults t) m.entry (grants faults) (k faults)
    asks_less (Prints value) o k = framed (granted [] (c t)) (granted [] t) m.entry (grants []) k
    asks_less (Counts name) o k = framed (granted [] (c t)) (granted [] t) m.entry (grants []) k
    asks_less _ o k = absurd o

  -- each rule of a step
  by_rule : {vars : Vars} {here : ℕ} {t : Term} {d : Does} → StepRule vars here t d → Less t d
  by_rule rule.empty = tt
  by_rule rule.raised = tt
  by_rule (rule.raises {stmt = s} {x = x} {rest = rest} fault) = raises s x rest (fault ∷ []) m.step (pays.raises s)
  by_rule (rule.sets {name = name} {value = value} {x = x} {rest = rest} z) = past (code.SetTo name value) x rest m.step (pays.raises (code.SetTo name value))
  by_rule (rule.makes {name = name} {words = words} {x = x} {rest = rest}) = store (code.New name words) x rest (pays.makes name words)
  by_rule (rule.gets {name = name} {target = target} {index = index} {x = x} {rest = rest} r k e) = store (code.Get name target index) x rest (pays.gets name target index)
  by_rule (rule.puts {target = target} {index = index} {value = value} {x = x} {rest = rest} r k z e) = store (code.Put target index value) x rest (pays.puts target index value)
  by_rule (rule.forgets {target = target} {x = x} {rest = rest} r e) = store (code.Forget target) x rest (pays.forgets target)
  by_rule (rule.counts {name = name} {x = x} {rest = rest}) = past (code.Census name) x rest m.entry (pays.counts name)
  by_rule (rule.prints {value = value} {x = x} {rest = rest} z) = past (code.Print value) x rest m.entry (pays.prints value)
  by_rule (rule.spawns {body = body} {x = x} {rest = rest}) = past (code.Async body) x rest (brings (items body x Empty) + m.entry) (pays.spawns body x)
  by_rule (rule.spawns_at {place = place} {body = body} {x = x} {rest = rest} p low) = past (code.AtAsync place body) x rest (brings (items body x Empty) + m.entry) (pays.spawns_at place body x)
  by_rule (rule.calls {place = place} {body = body} {x = x} {rest = rest} p low) = call_out place body x rest
  by_rule (rule.opens {body = body} {x = x} {rest = rest}) = open_finish body x rest
  by_rule (rule.takes_first {test = test} {first = first} {other = other} {x = x} {rest = rest}) = choose (code.If test first other) x rest first (at x 0) (pays.first test first other)
  by_rule (rule.takes_other {test = test} {first = first} {other = other} {x = x} {rest = rest}) = choose (code.If test first other) x rest other (at x 1) (pays.other test first other)
  by_rule (rule.repeats {times = times} {body = body} {x = x} {rest = rest}) = begin_turns times body x rest
  by_rule (rule.tries {body = body} {dead_only = dead_only} {handler = handler} {x = x} {rest = rest}) = begin_try body dead_only handler x rest
  by_rule (rule.turns_over {body = body} {x = x} {k = k} {times = times} {rest = rest}) = omega (arith, sums.repeating body x k times rest, pays.over (times - k) body)
  by_rule (rule.turns_on {body = body} {x = x} {k = k} {times = times} {rest = rest} more) = one_turn body x k times rest more
  by_rule (rule.try_over {dead_only = dead_only} {handler = handler} {x = x} {rest = rest}) = omega (arith, sums.trying Empty dead_only handler x rest, pays.handles handler)
  by_rule (rule.caught {faults = faults} {dead_only = dead_only} {handler = handler} {x = x} {rest = rest}) = catch faults dead_only handler x rest
  by_rule (rule.uncaught {faults = faults} {dead_only = dead_only} {handler = handler} {x = x} {rest = rest}) = omega (arith, sums.trying (Raise faults) dead_only handler x rest, pays.handles handler)
  by_rule (rule.in_try {inside = inside} {left = left} {dead_only = dead_only} {handler = handler} {x = x} {rest = rest} s) =
      (let less : size left + m.step ≤ size inside = by_rule s in omega (arith, less, sums.trying inside dead_only handler x rest, sums.trying left dead_only handler x rest))
  by_rule (rule.asks_in_try {inside = inside} {d = d} {dead_only = dead_only} {handler = handler} {x = x} {rest = rest} g o s) =
      asks_less (λ u. Trying u dead_only handler x rest) (m.handler handler) (size rest) (λ u. sums.trying u dead_only handler x rest) inside (λ a. answered_trying a inside dead_only handler x rest) (λ faults. refl) refl d o (by_rule s)
  by_rule (rule.waits {rest = rest}) = wait Empty rest
  by_rule (rule.waits_raised {faults = faults} {rest = rest}) = wait (Raise faults) rest
  by_rule (rule.in_body {inside = inside} {left = left} {rest = rest} s) = (let less : size left + m.step ≤ size inside = by_rule s in omega (arith, less, sums.finishing inside rest, sums.finishing left rest))
  by_rule (rule.asks_in_body {inside = inside} {d = d} {rest = rest} g o s) =
      asks_less (λ u. Body u rest) m.body (size rest) (λ u. sums.finishing u rest) inside (λ a. answered_body a inside rest) (λ faults. sym (granted_inside faults inside rest g)) refl d o (by_rule s)
  by_rule (rule.releases {rest = rest}) = λ faults. resume faults rest

  -- each step of a term
  pub falls : (vars : Vars) (here : ℕ) (t : Term) → Less t (does vars here t)
  falls vars here t = by_rule (rule_of vars here t)

  -- a local step
  pub local_falls : (vars : Vars) (here : ℕ) (t after : Term) (left : Vars) → does vars here t ≡ Local after left → size after + m.step ≤ size t
  local_falls vars here t after left is = subst (λ (d : Does). Less t d) is (falls vars here t)

  store_less : (t : Term) (d : Does) (a : Answer) → Less t d → AsksStore d → size (answered a t) + m.call ≤ size t
  store_less t (Makes name words) a k h = k a
  store_less t (Gets name target index) a k h = k a
  store_less t (Puts target index value) a k h = k a
  store_less t (Forgets target) a k h = k a
  store_less t _ a k h = absurd h

  -- an answer of the store
  pub answer_falls : (vars : Vars) (here : ℕ) (t : Term) (a : Answer) → AsksStore (does vars here t) → size (answered a t) + m.call ≤ size t
  answer_falls vars here t a h = store_less t (does vars here t) a (falls vars here t) h

  fits_less : (here : PlaceId) (t : Term) (d : Does) (act : Act) → Less t d → Fits here t d act → size (granted (brought act) t) + share brings (child t) (started_by act) + m.entry ≤ size t
  fits_less here t Opens (Open u v x) k h = alone (size (granted [] t)) m.entry (size t) k
  fits_less here t (Asks p) (Calls u v x y z a) k h = both (size (granted [] t)) (brings (child t)) m.entry (size t) k
  fits_less here t (Spawns p) (Spawn u v x y z) k h = both (size (granted [] t)) (brings (child t)) m.entry (size t) k
  fits_less here t (Waits faults) (Wait u v) k h = alone (size (granted [] t)) m.entry (size t) k
  fits_less here t Releases (Release u v x y) k h = alone (size (granted (raised_by v y) t)) m.entry (size t) (k (raised_by v y))
  fits_less here t (Prints value) (Print u v) k h = alone (size (granted [] t)) m.entry (size t) k
  fits_less here t (Counts name) (Census u v) k h = alone (size (granted [] t)) m.entry (size t) k
  fits_less here t _ _ k h = absurd h

  -- an entry, and the task that it starts
  pub entry_falls : (vars : Vars) (here : PlaceId) (t : Term) (act : Act) → Fits here t (does vars here.0 t) act → size (granted (brought act) t) + share brings (child t) (started_by act) + m.entry ≤ size t
  entry_falls vars here t act h = fits_less here t (does vars here.0 t) act (falls vars here.0 t) h

  -- local steps and store calls
  pub going_falls : {heap n : ℕ} {t : TaskId} {here : PlaceId} {p q : Player} {S Z : State} {j k : List PlaceEvent} → RunsWithoutEntry heap n t here p S j q Z k → size q.term ≤ size p.term
  going_falls stays = omega arith
  going_falls {here = here} {p = p} {q = q} (local {after = after} {left = left} is goes) =
      let less : size after + m.step ≤ size p.term = local_falls p.vars here.0 p.term after left is in
      let more : size q.term ≤ size after = going_falls goes in
      omega (arith, less, more)
  going_falls {here = here} {p = p} {q = q} (stores cell x a tells begun may goes) =
      let less : size (answered a p.term) + m.call ≤ size p.term = answer_falls p.vars here.0 p.term a (tells_store (does p.vars here.0 p.term) here cell a tells) in
      let more : size q.term ≤ size (answered a p.term) = going_falls goes in
      omega (arith, less, more)
