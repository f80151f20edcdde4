-- What a control stands for: a term of what is left to run.
use Rattle.std.specs.Prelude.{◌≡◌, ℕ, ◌-◌, List, [], ◌∷◌, ◌++◌, drop, flat_map, Some, option_to_list, slice_get}
use Rattle.rx_rules.specs.Code.{Block}
use Rattle.rx_rules.specs.Terms.{Term, Does, Local}
use Rattle.rx_control.specs.Levels.{Level, More, Again, Tried, Inside, Waiting, Settled, term_of}
use Rattle.rx_syntax.specs.Shape.{Shape, BlockStands, ListStands}
use Rattle.rx_syntax.specs.declared.nodes.StmtId.{StmtId}
use Rattle.rx_control.specs.declared.frame.Frame.{Frame}
use Rattle.rx_control.specs.declared.frame.Frame.TheVariants.{Seq, Turns, Try, Body, Held}
use Rattle.rx_control.specs.declared.control.Control.{Control}

-- what a frame adds to the paths of the frames above it: the statement before the next is the one that they stand in
abbrev pub numbers : Frame → List ℕ
numbers (Seq block next part) = option_to_list part ++ (next - 1) ∷ []
numbers _ = []

-- the path of the statement in which the frames above these stand
abbrev pub path_of : List ℕ → List Frame → List ℕ
path_of base frames = base ++ flat_map numbers frames

-- a frame stands for a level
abbrev pub FrameStands : Shape → List ℕ → Frame → Level → Type 0
FrameStands s x (Seq block next part) g =
    (left : Block) × (ids : List StmtId) × (g ≡ More left (x ++ option_to_list part) next)
    × (slice_get s.blocks block.0 ≡ Some ids) × ListStands s (drop next ids) left
FrameStands s x (Turns body turn times) g = (b : Block) × (g ≡ Again b x turn times) × BlockStands s body b
FrameStands s x (Try dead_only handler) g = (b : Block) × (g ≡ Tried dead_only b x) × BlockStands s handler b
FrameStands s x Body g = g ≡ Inside
FrameStands s x Held g = g ≡ Waiting

-- frames, of which the last is the innermost, stand for a stack of levels, above which the first path stands
abbrev pub FramesStand : Shape → List ℕ → List Frame → List Level → Type 0
FramesStand s base frames [] = frames ≡ []
FramesStand s base frames (g ∷ gs) =
    (f : Frame) × (below : List Frame) × (frames ≡ below ++ f ∷ []) × FrameStands s (path_of base below) f g
    × FramesStand s base below gs

-- a control stands for a term
pub record StandsFor (s : Shape) (c : Control) (t : Term) : Type 0 where
  pub levels : List Level
  pub stands : FramesStand s c.base c.frames.items levels
  pub settled : Settled c.raised levels
  pub is : t ≡ term_of c.raised levels

-- after a local step the control stands for the term that is left, with the variables that it leaves
abbrev pub AfterLocalStep : Shape → Control → Does → Type 0
AfterLocalStep s c (Local left vars) = StandsFor s c left × (c.vars ≡ vars)
AfterLocalStep s c _ = Unit {0}

-- two controls with the same parts
pub record IsSame (a b : Control) : Type 0 where
  pub base : a.base ≡ b.base
  pub frames : a.frames.items ≡ b.frames.items
  pub raised : a.raised ≡ b.raised
  pub vars : a.vars ≡ b.vars
