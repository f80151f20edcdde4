-- What stands at the front of a control: cited by its inner functions alone.
use Rattle.std.specs.Prelude.{◌≡◌, ℕ, suc, List, [], ◌∷◌, ◌++◌, drop, Option, Some, None, option_to_list, slice_get, Bool, true, false}
use Rattle.rx_base.specs.declared.values.Fault.{Fault}
use Rattle.rx_rules.specs.Code.{Block, Nothing, Then, Stmt, At}
use Rattle.rx_rules.specs.Code.{Finish}
use Rattle.rx_rules.specs.Terms.{Term, Does, at, within}
use Rattle.rx_syntax.specs.Shape.{Shape, ListStands}
use Rattle.rx_syntax.specs.declared.nodes.StmtId.{StmtId}
use Rattle.rx_syntax.specs.declared.nodes.BlockId.{BlockId}
use Rattle.rx_syntax.specs.declared.nodes.NameId.{NameId}
use Rattle.rx_plan.specs.declared.plan.Plan.{Plan}
use Rattle.rx_plan.specs.Plans.{IsPlan}
use Rattle.rx_control.specs.declared.frame.Frame.{Frame}
use Rattle.rx_control.specs.declared.frame.Frame.TheVariants.{Seq}
use Rattle.rx_control.specs.declared.control.Control.{Control}
use Rattle.rx_control.specs.Levels.{Level, More, Again, Tried, Inside, Waiting, Settled, seq, term_of, wrap}
use Rattle.rx_control.specs.Stands.{path_of, FramesStand}

-- a step of an inner term, seen from outside
abbrev pub lifted : List Level → Does → Does
lifted s d = within (λ t. wrap t s) d

-- the levels that a granted statement with the path x leaves, over those after it
abbrev pub levels_opened : Stmt → List ℕ → List Level → List Level
levels_opened (Finish body) x ls = More body x 0 ∷ Inside ∷ ls
levels_opened (At place body) x ls = Waiting ∷ ls
levels_opened _ x ls = ls

-- whether a level is a block without statements left
abbrev pub LevelIsOver : Bool → Level → Type 0
LevelIsOver over (More Nothing x i) = over ≡ true
LevelIsOver over (More (Then stmt more) x i) = over ≡ false
LevelIsOver over (Again body x k times) = over ≡ false
LevelIsOver over (Tried dead_only handler x) = over ≡ false
LevelIsOver over Inside = over ≡ false
LevelIsOver over Waiting = over ≡ false

-- whether a level is that of a try or a finish
abbrev pub IsCatch : Bool → Level → Type 0
IsCatch catch (Tried dead_only handler x) = catch ≡ true
IsCatch catch Inside = catch ≡ true
IsCatch catch _ = catch ≡ false

-- the frames are settled and stand for the term of these levels
pub record SettlesTo (s : Shape) (base : List ℕ) (frames : List Frame) (raised : Option (List Fault)) (levels : List Level) : Type 0 where
  pub levels_left : List Level
  pub stands : FramesStand s base frames levels_left
  pub settled : Settled raised levels_left
  pub is : term_of raised levels_left ≡ term_of raised levels

-- a position of a block stands for a statement and those after it
pub record PositionStands (s : Shape) (block : BlockId) (next : ℕ) (stmt : Stmt) (more : Block) : Type 0 where
  pub ids : List StmtId
  pub block_is : slice_get s.blocks block.0 ≡ Some ids
  pub left : ListStands s (drop next ids) (Then stmt more)

-- a control that stands for a statement and what comes after it
pub record AtStatement (s : Shape) (c : Control) (t : Term) (below : List Frame) (block : BlockId) (next : ℕ)
    (part : Option ℕ) : Type 0 where
  pub stmt : Stmt
  pub more : Block
  pub others : List Level
  pub awaits : PositionStands s block next stmt more
  pub frames : c.frames.items ≡ below ++ Seq block next part ∷ []
  pub rest : FramesStand s c.base below others
  pub calm : c.raised ≡ None
  pub is : t ≡ term_of None (More (Then stmt more) (path_of c.base below ++ option_to_list part) next ∷ others)

-- what the statement at the front of a control does, by a plan
pub record Due (s : Shape) (c : Control) (t : Term) (below : List Frame) (block : BlockId) (next : ℕ) (part : Option ℕ)
    (plan : Plan) : Type 0 where
  pub front : AtStatement s c t below block next part
  pub act : Does
  pub is : IsPlan s plan c.vars (at (path_of c.base below ++ option_to_list part) next)
      (seq (More front.more (path_of c.base below ++ option_to_list part) (suc next) ∷ front.others)) act

-- the number of a name
abbrev pub name_in : Option NameId → Option ℕ
name_in (Some name) = Some name.0
name_in None = None
