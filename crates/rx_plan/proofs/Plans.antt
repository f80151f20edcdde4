-- Plans of statements whose names are given by an equation.
use Rattle.std.proofs.Common.{◌≡◌, ◌≢◌, ℕ, ℤ, List, Option, Some, None, Bool, cond, ◌==◌, refl, ap, sym, ◌∙◌, subst}
use Rattle.rx_rules.proofs.Common.{Number, GlobalRef, PlaceId, WrongPlace, Thrown, Expr, Stmt, SetTo, Get, Put, Throw, If, Repeat, Try, Vars, Term, Does, Local, Gets, Puts, bound, raise, ref_in, value_of, eval, with_number, is_zero, items, at, stmt_does}
use Rattle.rx_syntax.specs.declared.nodes.ExprId.{ExprId}
use Rattle.rx_syntax.specs.declared.nodes.BlockId.{BlockId}
use Rattle.rx_syntax.specs.declared.nodes.NameId.{NameId}
use Rattle.rx_syntax.specs.declared.nodes.Stmt.TheVariants.{Set as SetNode, Get as GetNode, Put as PutNode, Throw as ThrowNode, If as IfNode, Repeat as RepeatNode, Try as TryNode}
use Rattle.rx_syntax.specs.Shape.{Shape, StmtIs, ExprStands}
use Rattle.rx_plan.specs.declared.plan.Plan.{Plan}
use Rattle.rx_plan.specs.declared.plan.Plan.TheVariants.{Assign, Raise, Choose, Loop, Attempt, Ask}
use Rattle.rx_history.specs.declared.step.Next.{Next}
use Rattle.rx_history.specs.declared.step.Next.TheVariants.{Local as LocalStep}
use Rattle.rx_history.specs.Next.{next_of}
use Rattle.rx_plan.specs.Plans.{Plans, IsPlan}

-- an expression has the value z
abbrev pub HasValue : Shape → Vars → ℕ → ExprId → Option ℤ → Type 0
HasValue s vars here i z = (e : Expr) → ExprStands s.exprs i e → z ≡ eval vars here e

pub set-plan : (s : Shape) (p : Plan) (vars : Vars) (here : ℕ) (name : NameId) (value : ExprId) (z : Option ℤ) (t : Stmt) → StmtIs s (SetNode name value) t → HasValue s vars here value z → ((x : List ℕ) (rest : Term) → IsPlan s p vars x rest (with_number vars z (λ z. Local rest (bound name.0 (Number z) vars)))) → Plans s p vars here t
set-plan s p vars here name value z (SetTo n e) h v f x rest =
    let P : ℕ → Type 0 = λ n. IsPlan s p vars x rest (with_number vars (eval vars here e) (λ z. Local rest (bound n (Number z) vars))) in
    let Q : Option ℤ → Type 0 = λ z. IsPlan s p vars x rest (with_number vars z (λ z. Local rest (bound name.0 (Number z) vars))) in
    subst P (sym h.0) (subst Q (v e h.1) (f x rest))
set-plan s p vars here name value z _ h v f x rest = absurd h

pub get-plan : (s : Shape) (p : Plan) (vars : Vars) (here : PlaceId) (name target : NameId) (index : ExprId) (k : Option ℤ) (r : GlobalRef) (t : Stmt) → StmtIs s (GetNode name target index) t → HasValue s vars here.0 index k → r ≡ ref_in (value_of vars target.0) → ((x : List ℕ) (rest : Term) (n : ℕ) → IsPlan s p vars x rest (with_number vars k (λ k. cond (r.home.0 == here.0) (Gets n r k) (Local (raise WrongPlace) vars)))) → Plans s p vars here.0 t
get-plan s p vars here name target index k r (Get n g e) h v w f x rest =
    let P : Option ℤ → GlobalRef → Type 0 = λ k r. IsPlan s p vars x rest (with_number vars k (λ k. cond (r.home.0 == here.0) (Gets n r k) (Local (raise WrongPlace) vars))) in
    subst (λ k. P k (ref_in (value_of vars g))) (v e h.2)
    (subst (P k) (w ∙ ap (λ g. ref_in (value_of vars g)) (sym h.1)) (f x rest n))
get-plan s p vars here name target index k r _ h v w f x rest = absurd h

pub put-plan : (s : Shape) (p : Plan) (vars : Vars) (here : PlaceId) (target : NameId) (index value : ExprId) (k z : Option ℤ) (r : GlobalRef) (t : Stmt) → StmtIs s (PutNode target index value) t → HasValue s vars here.0 index k → HasValue s vars here.0 value z → r ≡ ref_in (value_of vars target.0) → ((x : List ℕ) (rest : Term) → IsPlan s p vars x rest (with_number vars k (λ k. with_number vars z (λ z. cond (r.home.0 == here.0) (Puts r k z) (Local (raise WrongPlace) vars))))) → Plans s p vars here.0 t
put-plan s p vars here target index value k z r (Put g e d) h v u w f x rest =
    let P : Option ℤ → Option ℤ → GlobalRef → Type 0 = λ k z r. IsPlan s p vars x rest (with_number vars k (λ k. with_number vars z (λ z. cond (r.home.0 == here.0) (Puts r k z) (Local (raise WrongPlace) vars)))) in
    subst (λ k. P k (eval vars here.0 d) (ref_in (value_of vars g))) (v e h.1)
    (subst (λ z. P k z (ref_in (value_of vars g))) (u d h.2)
    (subst (P k z) (w ∙ ap (λ g. ref_in (value_of vars g)) (sym h.0)) (f x rest)))
put-plan s p vars here target index value k z r _ h v u w f x rest = absurd h

-- a plan of a step that is not local asks
pub asks : (s : Shape) (plan : Plan) (vars : Vars) (x : List ℕ) (rest : Term) (d : Does) → IsPlan s plan vars x rest d → next_of d ≢ LocalStep → (next : Next) × (plan ≡ Ask next)
asks s (Assign name value) vars x rest d h n = absurd (n (ap next_of h))
asks s (Raise fault) vars x rest d h n = absurd (n (ap next_of h))
asks s (Choose block part) vars x rest d h n = absurd (n (ap next_of h.2))
asks s (Loop body times) vars x rest d h n = absurd (n (ap next_of h.2))
asks s (Attempt body dead_only handler) vars x rest d h n = absurd (n (ap next_of h.2.2))
asks s (Ask next) vars x rest d h n = (next, refl)

-- a step that needs a number is local where it is local with each number, since it raises without one
pub number-local : (vars : Vars) (z : Option ℤ) (f : ℤ → Does) → ((k : ℤ) → next_of (f k) ≡ LocalStep) → next_of (with_number vars z f) ≡ LocalStep
number-local vars (Some k) f h = h k
number-local vars None f h = refl

-- these statements ask nobody
pub set-local : (s : Shape) (name : NameId) (value : ExprId) (t : Stmt) (vars : Vars) (here : ℕ) (x : List ℕ) (rest : Term) → StmtIs s (SetNode name value) t → next_of (stmt_does vars here t x rest) ≡ LocalStep
set-local s name value (SetTo n e) vars here x rest h = number-local vars (eval vars here e) (λ z. Local rest (bound n (Number z) vars)) (λ z. refl)
set-local s name value _ vars here x rest h = absurd h

pub throw-local : (s : Shape) (value : ExprId) (t : Stmt) (vars : Vars) (here : ℕ) (x : List ℕ) (rest : Term) → StmtIs s (ThrowNode value) t → next_of (stmt_does vars here t x rest) ≡ LocalStep
throw-local s value (Throw e) vars here x rest h = number-local vars (eval vars here e) (λ z. Local (raise (Thrown z)) vars) (λ z. refl)
throw-local s value _ vars here x rest h = absurd h

pub if-local : (s : Shape) (test : ExprId) (first other : BlockId) (t : Stmt) (vars : Vars) (here : ℕ) (x : List ℕ) (rest : Term) → StmtIs s (IfNode test first other) t → next_of (stmt_does vars here t x rest) ≡ LocalStep
if-local s test first other (If e a b) vars here x rest h = number-local vars (eval vars here e) (λ z. Local (cond (is_zero z) (items b (at x 1) rest) (items a (at x 0) rest)) vars) (λ z. refl)
if-local s test first other _ vars here x rest h = absurd h

pub repeat-local : (s : Shape) (times : ℕ) (body : BlockId) (t : Stmt) (vars : Vars) (here : ℕ) (x : List ℕ) (rest : Term) → StmtIs s (RepeatNode times body) t → next_of (stmt_does vars here t x rest) ≡ LocalStep
repeat-local s times body (Repeat n b) vars here x rest h = refl
repeat-local s times body _ vars here x rest h = absurd h

pub try-local : (s : Shape) (body : BlockId) (dead_only : Bool) (handler : BlockId) (t : Stmt) (vars : Vars) (here : ℕ) (x : List ℕ) (rest : Term) → StmtIs s (TryNode body dead_only handler) t → next_of (stmt_does vars here t x rest) ≡ LocalStep
try-local s body dead_only handler (Try a d b) vars here x rest h = refl
try-local s body dead_only handler _ vars here x rest h = absurd h
