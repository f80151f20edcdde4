-- The items of a term are statements of the script at their paths.
use Rattle.std.proofs.Common.{◌≡◌, ℕ, zero, suc, ◌+◌, Bool, false, List, [], ◌∷◌, ◌++◌, Some, None, refl, ap, subst, ◌∙◌, arith, append_assoc}
use Rattle.rx_rules.proofs.Common.{Fault, Expr, Block, Nothing, Then, Stmt, Async, AtAsync, At, Finish, If, Repeat, Try, Term, Empty, Run, Raise, Turns, Trying, Body, Held, Vars, Does, at, items_from, items, does, granted, stmt_granted, body_granted, or_raise, child, stmt_child, replaced, after_it}
use Rattle.rx_rules.proofs.StepRules.{StepRule, sets, takes_first, takes_other, repeats, tries, turns_over, turns_on, try_over, caught, in_try, asks_in_try, in_body, asks_in_body, rule_of}
use Rattle.rx_history_laws.proofs.Straight.{stmt_at, stmt_in, code_at, is_waiter}
use Rattle.rx_history_laws.proofs.TermOrder.{IfLocal}

-- from a statement that was found, the way goes on in it
mutual
  find-on : (s : Stmt) (x : List ℕ) (u : Stmt) → stmt_at s x ≡ Some u → (y : List ℕ) → stmt_at s (x ++ y) ≡ stmt_at u y
  find-on s [] u e y = let same : s ≡ u = cc in ap (λ v. stmt_at v y) same
  find-on (Async body) (i ∷ x) u e y = find-on_in body i x u e y
  find-on (AtAsync place body) (i ∷ x) u e y = find-on_in body i x u e y
  find-on (At place body) (i ∷ x) u e y = find-on_in body i x u e y
  find-on (Finish body) (i ∷ x) u e y = find-on_in body i x u e y
  find-on (If test first other) (zero ∷ i ∷ x) u e y = find-on_in first i x u e y
  find-on (If test first other) (suc zero ∷ i ∷ x) u e y = find-on_in other i x u e y
  find-on (Repeat times body) (k ∷ i ∷ x) u e y = find-on_in body i x u e y
  find-on (Try body dead_only handler) (zero ∷ i ∷ x) u e y = find-on_in body i x u e y
  find-on (Try body dead_only handler) (suc zero ∷ i ∷ x) u e y = find-on_in handler i x u e y
  find-on s x u e y = cc

  find-on_in : (b : Block) (i : ℕ) (x : List ℕ) (u : Stmt) → stmt_in b i x ≡ Some u → (y : List ℕ) → stmt_in b i (x ++ y) ≡ stmt_at u y
  find-on_in Nothing i x u e y = cc
  find-on_in (Then first rest) zero x u e y = find-on first x u e y
  find-on_in (Then first rest) (suc i) x u e y = find-on_in rest i x u e y

pub code-on : (code : Block) (x : List ℕ) (u : Stmt) → code_at code x ≡ Some u → (y : List ℕ) → code_at code (x ++ y) ≡ stmt_at u y
code-on code [] u e y = cc
code-on code (i ∷ x) u e y = find-on_in code i x u e y

-- the block stands at the path x
abbrev pub BlockAt : Block → List ℕ → Block → Type 0
BlockAt code x b = (i : ℕ) (y : List ℕ) → code_at code (x ++ i ∷ y) ≡ stmt_in b i y

-- a statement that waits for nothing, and holds blocks two numbers below
abbrev pub Idle : Block → List ℕ → Type 0
Idle code x = (u : Stmt) × (code_at code x ≡ Some u) × (is_waiter u ≡ false) × ((c : ℕ) → stmt_at u (c ∷ []) ≡ None)

abbrev pub Coded : Block → Term → Type 0
Coded code Empty = Unit {0}
Coded code (Raise faults) = Unit {0}
Coded code (Run stmt x rest) = (code_at code x ≡ Some stmt) × Coded code rest
Coded code (Turns body x k times rest) = ((m : ℕ) → BlockAt code (at x m) body) × Coded code rest × Idle code x
Coded code (Trying inside dead_only handler x rest) = Coded code inside × BlockAt code (at x 1) handler × Coded code rest × Idle code x
Coded code (Body inside rest) = Coded code inside × Coded code rest
Coded code (Held rest) = Coded code rest

items-coded : (code : Block) (b : Block) (x : List ℕ) (i : ℕ) (rest : Term) → ((j : ℕ) (y : List ℕ) → code_at code (x ++ (i + j) ∷ y) ≡ stmt_in b j y) → Coded code rest → Coded code (items_from b x i rest)
items-coded code Nothing x i rest h c = c
items-coded code (Then first more) x i rest h c = (
  let e : i + 0 ≡ i = omega arith in subst (λ k. code_at code (x ++ k ∷ []) ≡ Some first) e (h 0 []),
  items-coded code more x (suc i) rest (λ j y. let e : i + suc j ≡ suc i + j = omega arith in subst (λ k. code_at code (x ++ k ∷ y) ≡ stmt_in more j y) e (h (suc j) y)) c,
)

block-coded : (code : Block) (b : Block) (x : List ℕ) (rest : Term) → BlockAt code x b → Coded code rest → Coded code (items b x rest)
block-coded code b x rest h c =
    items-coded code b x 0 rest (λ j y. let e : j ≡ 0 + j = omega arith in subst (λ k. code_at code (x ++ k ∷ y) ≡ stmt_in b j y) e (h j y)) c

-- a block inside a statement, one number below it
inner-block : (code : Block) (x : List ℕ) (u : Stmt) (c : ℕ) (b : Block) → code_at code x ≡ Some u → ((i : ℕ) (y : List ℕ) → stmt_at u (c ∷ i ∷ y) ≡ stmt_in b i y) → BlockAt code (at x c) b
inner-block code x u c b e h i y = ap (code_at code) (append_assoc x (c ∷ []) (i ∷ y)) ∙ code-on code x u e (c ∷ i ∷ y) ∙ h i y

pub no_part_try : (body : Block) (dead_only : Bool) (handler : Block) (c : ℕ) → stmt_at (Try body dead_only handler) (c ∷ []) ≡ None
no_part_try body dead_only handler zero = refl
no_part_try body dead_only handler (suc zero) = refl
no_part_try body dead_only handler (suc (suc c)) = refl

pub no_part_if : (test : Expr) (first other : Block) (c : ℕ) → stmt_at (If test first other) (c ∷ []) ≡ None
no_part_if test first other zero = refl
no_part_if test first other (suc zero) = refl
no_part_if test first other (suc (suc c)) = refl

-- a local step
coded_by : (code : Block) {vars : Vars} {here : ℕ} {t : Term} {d : Does} → StepRule vars here t d → Coded code t → IfLocal (Coded code) d
coded_by code (sets z) c = c.1
coded_by code (takes_first {test = test} {first = first} {other = other} {x = x} {rest = rest}) c =
    block-coded code first (at x 0) rest (inner-block code x (If test first other) 0 first c.0 (λ i y. refl)) c.1
coded_by code (takes_other {test = test} {first = first} {other = other} {x = x} {rest = rest}) c =
    block-coded code other (at x 1) rest (inner-block code x (If test first other) 1 other c.0 (λ i y. refl)) c.1
coded_by code (repeats {times = times} {body = body} {x = x}) c =
    (λ m. inner-block code x (Repeat times body) m body c.0 (λ i y. refl), c.1, (Repeat times body, c.0, refl, λ k. refl))
coded_by code (tries {body = body} {dead_only = o} {handler = handler} {x = x}) c = (
  block-coded code body (at x 0) Empty (inner-block code x (Try body o handler) 0 body c.0 (λ i y. refl)) tt,
  inner-block code x (Try body o handler) 1 handler c.0 (λ i y. refl),
  c.1,
  (Try body o handler, c.0, refl, no_part_try body o handler),
)
coded_by code turns_over c = c.1
coded_by code (turns_on {body = body} {x = x} {k = k} {times = times} {rest = rest} left) c =
    block-coded code body (at x k) (Turns body x (suc k) times rest) (c.0 k) (c.0, c.1, c.2)
coded_by code try_over c = c.2
coded_by code (caught {handler = handler} {x = x} {rest = rest}) c = block-coded code handler (at x 1) rest c.1 c.2
coded_by code (in_try s) c = (coded_by code s c.0, c.1, c.2, c.3)
coded_by code (asks_in_try g a s) c = coded_by code s c.0
coded_by code (in_body s) c = (coded_by code s c.0, c.1)
coded_by code (asks_in_body g a s) c = coded_by code s c.0
coded_by code _ c = tt

pub local-coded : (code : Block) (vars : Vars) (here : ℕ) (t : Term) → Coded code t → IfLocal (Coded code) (does vars here t)
local-coded code vars here t c = coded_by code (rule_of vars here t) c

-- an answer
pub replaced-coded : (code : Block) (t new : Term) → Coded code t → Coded code new → Coded code (replaced t new)
replaced-coded code (Trying inside dead_only handler x rest) new c n = (replaced-coded code inside new c.0 n, c.1, c.2, c.3)
replaced-coded code (Body inside rest) new c n = (replaced-coded code inside new c.0 n, c.1)
replaced-coded code _ new c n = n

pub after-coded : (code : Block) (t : Term) → Coded code t → Coded code (after_it t)
after-coded code (Run stmt x rest) c = c.1
after-coded code (Trying inside dead_only handler x rest) c = after-coded code inside c.0
after-coded code (Body inside rest) c = after-coded code inside c.0
after-coded code _ c = tt

-- a granted request
granted-stmt : (code : Block) (stmt : Stmt) (x : List ℕ) (rest : Term) → code_at code x ≡ Some stmt → Coded code rest → Coded code (stmt_granted stmt x rest)
granted-stmt code (Finish body) x rest e c = (block-coded code body x Empty (λ i y. code-on code x (Finish body) e (i ∷ y)) tt, c)
granted-stmt code (At place body) x rest e c = c
granted-stmt code _ x rest e c = c

granted-body : (code : Block) (inside after rest : Term) → Coded code after → Coded code rest → Coded code (body_granted inside after rest)
granted-body code Empty after rest a c = c
granted-body code (Raise faults) after rest a c = c
granted-body code _ after rest a c = (a, c)

or_raise-coded : (code : Block) (faults : List Fault) (rest : Term) → Coded code rest → Coded code (or_raise faults rest)
or_raise-coded code [] rest c = c
or_raise-coded code (f ∷ fs) rest c = tt

pub granted-coded : (code : Block) (faults : List Fault) (t : Term) → Coded code t → Coded code (granted faults t)
granted-coded code faults Empty c = tt
granted-coded code faults (Raise f) c = tt
granted-coded code faults (Run stmt x rest) c = granted-stmt code stmt x rest c.0 c.1
granted-coded code faults (Turns b x k times rest) c = c
granted-coded code faults (Trying inside dead_only handler x rest) c = (granted-coded code faults inside c.0, c.1, c.2, c.3)
granted-coded code faults (Body inside rest) c = granted-body code inside (granted faults inside) rest (granted-coded code faults inside c.0) c.1
granted-coded code faults (Held rest) c = or_raise-coded code faults rest c

-- the term of a task that is started
child-stmt : (code : Block) (stmt : Stmt) (x : List ℕ) → code_at code x ≡ Some stmt → Coded code (stmt_child stmt x)
child-stmt code (Async body) x e = block-coded code body x Empty (λ i y. code-on code x (Async body) e (i ∷ y)) tt
child-stmt code (AtAsync place body) x e = block-coded code body x Empty (λ i y. code-on code x (AtAsync place body) e (i ∷ y)) tt
child-stmt code (At place body) x e = block-coded code body x Empty (λ i y. code-on code x (At place body) e (i ∷ y)) tt
child-stmt code _ x e = tt

pub child-coded : (code : Block) (t : Term) → Coded code t → Coded code (child t)
child-coded code (Run stmt x rest) c = child-stmt code stmt x c.0
child-coded code (Trying inside dead_only handler x rest) c = child-coded code inside c.0
child-coded code (Body inside rest) c = child-coded code inside c.0
child-coded code _ c = tt

-- the term of the main task
pub start-coded : (code : Block) → Coded code (items code [] Empty)
start-coded code = block-coded code code [] Empty (λ i y. refl) tt
