-- Where paths go on inside a statement: cited by the inner functions of this crate alone.
use Rattle.std.specs.Prelude.{◌≡◌, ◌≤◌, ◌==◌, ℕ, zero, suc, Bool, true, false, cond, List, [], ◌∷◌, drop, Option, Some, None}
use Rattle.rx_rules.specs.Code.{Stmt, Async, AtAsync, At, Finish, If, Repeat, Try}
use Rattle.rx_rules.specs.Code.{Block, Nothing, Then}
use Rattle.rx_rules.specs.Order.{is_kept_in}
use Rattle.rx_syntax.specs.Shape.{Shape, BlockStands}
use Rattle.rx_order.specs.Marks.{marks_in}
use Rattle.rx_order.specs.declared.marks.Role.{Role}
use Rattle.rx_order.specs.declared.marks.Role.TheVariants.{Follows, Branches}
use Rattle.rx_order.specs.declared.parts.Part.{Part}
use Rattle.rx_order.specs.declared.parts.Walk.{Walk}
use Rattle.rx_order.specs.declared.parts.Walk.TheVariants.{Over, On}

-- the statement at a position
abbrev pub item_of : Block → ℕ → Option Stmt
item_of Nothing i = None
item_of (Then first rest) zero = Some first
item_of (Then first rest) (suc i) = item_of rest i

-- x is kept, read from its position in the block on
abbrev pub is_kept_along : Block → List ℕ → Bool
is_kept_along body [] = false
is_kept_along body (i ∷ x) = is_kept_in body i x

-- one of two blocks by its number
abbrev pub one_in : Block → Block → List ℕ → Option (ℕ × Block × List ℕ)
one_in first other (zero ∷ i ∷ x) = Some (0, first, i ∷ x)
one_in first other (suc zero ∷ i ∷ x) = Some (1, other, i ∷ x)
one_in first other x = None

-- a turn of a block
abbrev pub turn_in : Block → List ℕ → Option (ℕ × Block × List ℕ)
turn_in body (k ∷ i ∷ x) = Some (k, body, i ∷ x)
turn_in body x = None

-- the part of a statement into which a path goes: its number, 0 where there is one alone, its block, and the path from the
-- position in this block on
abbrev pub part_in : Stmt → List ℕ → Option (ℕ × Block × List ℕ)
part_in (Async body) x = Some (0, body, x)
part_in (AtAsync place body) x = Some (0, body, x)
part_in (At place body) x = Some (0, body, x)
part_in (Finish body) x = Some (0, body, x)
part_in (If test first other) x = one_in first other x
part_in (Repeat times body) x = turn_in body x
part_in (Try body dead_only handler) x = one_in body handler x
part_in _ x = None

-- how many numbers tell the part
abbrev pub numbers_of : Stmt → ℕ
numbers_of (If test first other) = 1
numbers_of (Repeat times body) = 1
numbers_of (Try body dead_only handler) = 1
numbers_of t = 0

-- whether the parts of a statement are in order
abbrev pub is_ordered : Stmt → Bool
is_ordered (If test first other) = false
is_ordered t = true

-- what the number of a part stands for, where one tells it
abbrev pub part_mark : Stmt → ℕ → Option Role
part_mark (If test first other) n = Some Branches
part_mark (Repeat times body) n = Some Follows
part_mark (Try body dead_only handler) n = cond (n == 0) (Some Follows) (Some Branches)
part_mark t n = None

-- the marks along x, read from its position in the block on
abbrev pub marks_along : Block → List ℕ → List Role
marks_along body [] = []
marks_along body (i ∷ x) = marks_in body i x

-- the answer stands for that part
abbrev pub IsPart : Shape → List ℕ → ℕ → Option Part → Option (ℕ × Block × List ℕ) → Type 0
IsPart s path at None None = Unit {0}
IsPart s path at None (Some p) = ⊥
IsPart s path at (Some r) None = ⊥
IsPart s path at (Some r) (Some p) = (r.number ≡ p.0) × BlockStands s r.block p.1 × (drop r.at path ≡ p.2) × (r.at ≡ at)

-- the walk is over with this answer, or this is the answer further inside
abbrev pub WalkGoes : Shape → ℕ → Walk → Bool → (Block → ℕ → Bool) → Type 0
WalkGoes s at (Over answer) value f = answer ≡ value
WalkGoes s at (On r) value f = (b : Block) × BlockStands s r.block b × (value ≡ f b r.at) × (at ≤ r.at)

-- the statement neither starts a task nor is a finish, and has blocks
abbrev pub IsOpen : Stmt → Type 0
IsOpen (At place body) = Unit {0}
IsOpen (If test first other) = Unit {0}
IsOpen (Repeat times body) = Unit {0}
IsOpen (Try body dead_only handler) = Unit {0}
IsOpen t = ⊥
