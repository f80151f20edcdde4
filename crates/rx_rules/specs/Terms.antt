-- What a task has still to run, and the steps of it.
use Rattle.std.specs.Prelude.{ℕ, suc, ℤ, pos, negsuc, ◌+ℤ◌, ◌-ℤ◌, ◌*ℤ◌, int_lt, int_le, Bool, true, false, cond, ◌&&◌, ◌==◌, nat_lt}
use Rattle.std.specs.Prelude.{nat_le, List, [], ◌∷◌, ◌++◌, Option, Some, None, Result, Ok, Err, slice_get, slice_set, replicate}
use Rattle.std.specs.Prelude.{option_map, option_and_then}
use Rattle.std.specs.List.{list_all}
use Rattle.rx_base.specs.declared.ids.GlobalRef.{GlobalRef}
use Rattle.rx_base.specs.declared.values.Value.{Value}
use Rattle.rx_base.specs.declared.values.Value.TheVariants.{Num as Number, Ref}
use Rattle.rx_base.specs.declared.values.Fault.{Fault}
use Rattle.rx_base.specs.declared.values.Fault.TheVariants.{Dead, Thrown, Overflow, NoPlace, WrongPlace}
use Rattle.rx_rules.specs.Code.{Op, Add, Sub, Mul, Less, Equal, Expr, Num, Name, Here, Bin, Block, Nothing, Then, Stmt, SetTo, New, Get}
use Rattle.rx_rules.specs.Code.{Put, Forget, Print, Throw, Census, Async, AtAsync, At, Finish, If, Repeat, Try}

-- what a task knows: the value of each name, by its number, and how many places there are
pub record Vars : Type 0 where
  pub values : List (Option Value)
  pub places : ℕ

-- no name has a value; there are at most 32 names
abbrev pub no_vars : ℕ → Vars
no_vars places = record { values = replicate 32 None; places = places }

-- the value of a name, where it has one
abbrev pub value_of : Vars → ℕ → Option Value
value_of vars x = option_and_then (λ v. v) (slice_get vars.values x)

-- the variables with a value for a name
abbrev pub bound : ℕ → Value → Vars → Vars
bound name v vars = record vars { values = slice_set vars.values name (Some v) }

-- Expressions, from left to right.

-- a number of 64 bits
abbrev pub in_range : ℤ → Bool
in_range z = int_le (negsuc 9223372036854775807) z && int_le z (pos 9223372036854775807)

-- none where it is out of range
abbrev pub checked : ℤ → Option ℤ
checked z = cond (in_range z) (Some z) None

-- a comparison gives 1 or 0
abbrev pub one_if : Bool → ℤ
one_if b = cond b (pos 1) (pos 0)

-- the result of an operation
abbrev pub applied : Op → ℤ → ℤ → Option ℤ
applied Add a b = checked (a +ℤ b)
applied Sub a b = checked (a -ℤ b)
applied Mul a b = checked (a *ℤ b)
applied Less a b = Some (one_if (int_lt a b))
applied Equal a b = Some (one_if (int_le a b && int_le b a))

-- the result where both operands have a value
abbrev pub both : Op → Option ℤ → Option ℤ → Option ℤ
both op (Some a) (Some b) = applied op a b
both op _ _ = None

-- the number that a variable holds
abbrev pub number_in : Option Value → Option ℤ
number_in (Some (Number z)) = Some z
number_in _ = None

-- the value of an expression at a place, or none where a result is out of range or a name holds no number
abbrev pub eval : Vars → ℕ → Expr → Option ℤ
eval vars here (Num z) = Some z
eval vars here (Name x) = number_in (value_of vars x)
eval vars here Here = Some (pos here)
eval vars here (Bin op left right) = both op (eval vars here left) (eval vars here right)

-- What a task has still to run. An item stands with the items after it, so one type holds items and lists of them.
pub data Term : Type 0 where
  Empty : Term
  -- a statement with its path
  Run : (stmt : Stmt) (path : List ℕ) (rest : Term) → Term
  -- what is raised forgets the items after it
  Raise : (faults : List Fault) → Term
  -- the turns of a repeat from this one on
  Turns : (body : Block) (path : List ℕ) (turn times : ℕ) (rest : Term) → Term
  -- what is inside, and the handler
  Trying : (inside : Term) (dead_only : Bool) (handler : Block) (path : List ℕ) (rest : Term) → Term
  -- the body of a finish
  Body : (inside : Term) (rest : Term) → Term
  -- the task waits at a scope
  Held : (rest : Term) → Term

-- the path x with one number more
abbrev pub at : List ℕ → ℕ → List ℕ
at x i = x ++ i ∷ []

-- the statements of a block with the path x, from position i on, and then what comes after them
abbrev pub items_from : Block → List ℕ → ℕ → Term → Term
items_from Nothing x i rest = rest
items_from (Then first more) x i rest = Run first (at x i) (items_from more x (suc i) rest)

-- the statements of a block with the path x, and then what comes after them
abbrev pub items : Block → List ℕ → Term → Term
items b x rest = items_from b x 0 rest

-- what a term does next
pub data Does : Type 0 where
  -- a local step, after which this is left
  Local : (left : Term) (vars : Vars) → Does
  -- a call of the store
  Makes : (name words : ℕ) → Does
  Gets : (name : ℕ) (target : GlobalRef) (index : ℤ) → Does
  Puts : (target : GlobalRef) (index value : ℤ) → Does
  Forgets : (target : GlobalRef) → Does
  -- a request to the ledger
  Opens : Does
  Calls : (place : ℕ) → Does
  Spawns : (place : ℕ) → Does
  Waits : (faults : List Fault) → Does
  Releases : Does
  Prints : (value : ℤ) → Does
  Counts : (name : ℕ) → Does
  -- the task ends
  Done : (faults : List Fault) → Does

-- the fault tells a death
abbrev pub is_dead : Fault → Bool
is_dead (Dead p) = true
is_dead _ = false

-- `catch` catches every list, `catch dead` those in which every fault tells a death
abbrev pub catches : Bool → List Fault → Bool
catches dead_only faults = cond dead_only (list_all is_dead faults) true

-- one fault is raised
abbrev pub raise : Fault → Term
raise f = Raise (f ∷ [])

-- the place that a value names, among so many
abbrev pub target_of : Option ℤ → ℕ → Result ℕ Fault
target_of None places = Err Overflow
target_of (Some (pos p)) places = cond (nat_lt p places) (Ok p) (Err NoPlace)
target_of _ places = Err NoPlace

-- the reference that a variable holds
abbrev pub ref_in : Option Value → GlobalRef
ref_in (Some (Ref r)) = r
ref_in _ = record { home = record { 0 = 0 }; start = 0; generation = 0 }

-- a store call on the reference in a variable; its home must be here
abbrev pub on_ref : Vars → ℕ → ℕ → (GlobalRef → Does) → Does
on_ref vars here target f =
    let r = ref_in (value_of vars target) in cond (r.home.0 == here) (f r) (Local (raise WrongPlace) vars)

-- goes on with a number, or raises
abbrev pub with_number : Vars → Option ℤ → (ℤ → Does) → Does
with_number vars (Some z) f = f z
with_number vars None f = Local (raise Overflow) vars

-- goes on with a place, or raises
abbrev pub with_place : Vars → Result ℕ Fault → (ℕ → Does) → Does
with_place vars (Ok p) f = f p
with_place vars (Err fault) f = Local (raise fault) vars

-- the value is 0
abbrev pub is_zero : ℤ → Bool
is_zero z = int_le z (pos 0) && int_le (pos 0) z

-- what the statement with the path x does
abbrev pub stmt_does : Vars → ℕ → Stmt → List ℕ → Term → Does
stmt_does vars here (SetTo name value) x rest =
    with_number vars (eval vars here value) (λ z. Local rest (bound name (Number z) vars))
stmt_does vars here (New name words) x rest = Makes name words
stmt_does vars here (Get name target index) x rest =
    with_number vars (eval vars here index) (λ k. on_ref vars here target (λ r. Gets name r k))
stmt_does vars here (Put target index value) x rest =
    with_number vars (eval vars here index)
    (λ k. with_number vars (eval vars here value) (λ z. on_ref vars here target (λ r. Puts r k z)))
stmt_does vars here (Forget target) x rest = on_ref vars here target Forgets
stmt_does vars here (Print value) x rest = with_number vars (eval vars here value) Prints
stmt_does vars here (Throw value) x rest =
    with_number vars (eval vars here value) (λ z. Local (raise (Thrown z)) vars)
stmt_does vars here (Census name) x rest = Counts name
stmt_does vars here (Async body) x rest = Spawns here
stmt_does vars here (AtAsync place body) x rest =
    with_place vars (target_of (eval vars here place) vars.places) Spawns
stmt_does vars here (At place body) x rest = with_place vars (target_of (eval vars here place) vars.places) Calls
stmt_does vars here (Finish body) x rest = Opens
stmt_does vars here (If test first other) x rest =
    with_number vars (eval vars here test)
    (λ z. Local (cond (is_zero z) (items other (at x 1) rest) (items first (at x 0) rest)) vars)
stmt_does vars here (Repeat times body) x rest = Local (Turns body x 0 times rest) vars
stmt_does vars here (Try body dead_only handler) x rest =
    Local (Trying (items body (at x 0) Empty) dead_only handler x rest) vars

-- the local step of a term in a context
abbrev pub within : (Term → Term) → Does → Does
within f (Local left vars) = Local (f left) vars
within f other = other

-- what a try does: its inside is over, or raised, or goes on
abbrev pub trying_does : Vars → Term → Does → Bool → Block → List ℕ → Term → Does
trying_does vars Empty inside dead_only handler x rest = Local rest vars
trying_does vars (Raise faults) inside dead_only handler x rest =
    Local (cond (catches dead_only faults) (items handler (at x 1) rest) (Raise faults)) vars
trying_does vars _ inside dead_only handler x rest = within (λ t. Trying t dead_only handler x rest) inside

-- what the body of a finish does: it is over or raised and so waits, or it goes on
abbrev pub body_does : Term → Does → Term → Does
body_does Empty inside rest = Waits []
body_does (Raise faults) inside rest = Waits faults
body_does _ inside rest = within (λ t. Body t rest) inside

-- what a term does next, at a place
abbrev pub does : Vars → ℕ → Term → Does
does vars here Empty = Done []
does vars here (Raise faults) = Done faults
does vars here (Run stmt x rest) = stmt_does vars here stmt x rest
does vars here (Turns body x k times rest) =
    Local (cond (nat_le times k) rest (items body (at x k) (Turns body x (suc k) times rest))) vars
does vars here (Trying inside dead_only handler x rest) =
    trying_does vars inside (does vars here inside) dead_only handler x rest
does vars here (Body inside rest) = body_does inside (does vars here inside) rest
does vars here (Held rest) = Releases

-- the innermost statement, with its path and the items after it, where one stands there
pub record Front : Type 0 where
  pub stmt : Stmt
  pub path : List ℕ
  pub rest : Term

abbrev pub front : Term → Option Front
front (Run stmt x rest) = Some (record { stmt = stmt; path = x; rest = rest })
front (Trying inside dead_only handler x rest) = front inside
front (Body inside rest) = front inside
front _ = None

-- the statement that the next step begins
abbrev pub begins : Term → Option (List ℕ)
begins t = option_map (λ f. f.path) (front t)

-- what a granted request leaves
abbrev pub stmt_granted : Stmt → List ℕ → Term → Term
stmt_granted (At place body) x rest = Held rest
stmt_granted (Finish body) x rest = Body (items body x Empty) rest
stmt_granted _ x rest = rest

-- an empty list raises nothing
abbrev pub or_raise : List Fault → Term → Term
or_raise [] rest = rest
or_raise (f ∷ fs) rest = Raise (f ∷ fs)

-- the body of a finish that was over or raised now waits
abbrev pub body_granted : Term → Term → Term → Term
body_granted Empty after rest = Held rest
body_granted (Raise faults) after rest = Held rest
body_granted _ after rest = Body after rest

-- the term after a granted request; `faults` is the list of a release, and empty for the others
abbrev pub granted : List Fault → Term → Term
granted faults (Run stmt x rest) = stmt_granted stmt x rest
granted faults (Trying inside dead_only handler x rest) = Trying (granted faults inside) dead_only handler x rest
granted faults (Body inside rest) = body_granted inside (granted faults inside) rest
granted faults (Held rest) = or_raise faults rest
granted faults t = t

-- the term that a spawn or a call gives the new task
abbrev pub stmt_child : Stmt → List ℕ → Term
stmt_child (Async body) x = items body x Empty
stmt_child (AtAsync place body) x = items body x Empty
stmt_child (At place body) x = items body x Empty
stmt_child _ x = Empty

-- the new task's term
abbrev pub child : Term → Term
child t = elim (front t) [ Some f ↦ stmt_child f.stmt f.path | None ↦ Empty ]

-- What the store answers: a value for a name, nothing, or a fault.
pub data Answer : Type 0 where
  Gives : (name : ℕ) (value : Value) → Answer
  Fine : Answer
  Fails : (fault : Fault) → Answer

-- the term with the innermost statement replaced
abbrev pub replaced : Term → Term → Term
replaced (Trying inside dead_only handler x rest) new = Trying (replaced inside new) dead_only handler x rest
replaced (Body inside rest) new = Body (replaced inside new) rest
replaced _ new = new

-- the items after the innermost statement
abbrev pub after_it : Term → Term
after_it t = elim (front t) [ Some f ↦ f.rest | None ↦ Empty ]

-- the term after the store's answer
abbrev pub answered : Answer → Term → Term
answered (Fails fault) t = replaced t (raise fault)
answered _ t = replaced t (after_it t)

-- the variables after the store's answer
abbrev pub vars_after : Answer → Vars → Vars
vars_after (Gives name value) vars = bound name value vars
vars_after _ vars = vars

-- the name that the store's answer gives a value
abbrev pub stmt_receives : Stmt → Option ℕ
stmt_receives (New name words) = Some name
stmt_receives (Get name target index) = Some name
stmt_receives _ = None

-- the name for which the innermost statement waits
abbrev pub receives : Term → Option ℕ
receives t = elim (front t) [ Some f ↦ stmt_receives f.stmt | None ↦ None ]

-- what the store answered, as the term takes it
abbrev pub answer_of : Option ℕ → Result (Option Value) Fault → Answer
answer_of (Some name) (Ok (Some v)) = Gives name v
answer_of name (Ok v) = Fine
answer_of name (Err fault) = Fails fault
