-- What a plan says of a statement.
use Rattle.std.specs.Prelude.{◌≡◌, ◌≢◌, ℕ, List}
use Rattle.rx_base.specs.declared.values.Value.TheVariants.{Num as Number}
use Rattle.rx_rules.specs.Code.{Block, Stmt}
use Rattle.rx_rules.specs.Terms.{Vars, Term, Empty, Turns, Trying, Does, Local, raise, bound, items, at, stmt_does}
use Rattle.rx_syntax.specs.Shape.{Shape, BlockStands}
use Rattle.rx_history.specs.Next.{next_of}
use Rattle.rx_history.specs.declared.step.Next.TheVariants.{Local as LocalStep}
use Rattle.rx_plan.specs.declared.plan.Plan.{Plan}
use Rattle.rx_plan.specs.declared.plan.Plan.TheVariants.{Assign, Raise, Choose, Loop, Attempt, Ask}

-- a plan is what a statement does
abbrev pub IsPlan : Shape → Plan → Vars → List ℕ → Term → Does → Type 0
IsPlan s (Assign name value) vars x rest d = d ≡ Local rest (bound name.0 (Number value) vars)
IsPlan s (Raise fault) vars x rest d = d ≡ Local (raise fault) vars
IsPlan s (Choose block part) vars x rest d =
    (b : Block) × BlockStands s block b × (d ≡ Local (items b (at x part) rest) vars)
IsPlan s (Loop body times) vars x rest d = (b : Block) × BlockStands s body b × (d ≡ Local (Turns b x 0 times rest) vars)
IsPlan s (Attempt body dead_only handler) vars x rest d =
    (b : Block) × BlockStands s body b
    × ((h : Block) × BlockStands s handler h × (d ≡ Local (Trying (items b (at x 0) Empty) dead_only h x rest) vars))
IsPlan s (Ask next) vars x rest d = (next_of d ≡ next) × (next ≢ LocalStep)

-- a plan is what a statement does, whatever its path and what comes after it
abbrev pub Plans : Shape → Plan → Vars → ℕ → Stmt → Type 0
Plans s plan vars here t = (x : List ℕ) (rest : Term) → IsPlan s plan vars x rest (stmt_does vars here t x rest)
