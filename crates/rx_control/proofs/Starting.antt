-- A control at the front of a block.
use Rattle.std.proofs.Common.{MatchOption, ◌≡◌, ℕ, List, [], ◌∷◌, ◌++◌, Option, Some, None, refl, ap, sym, ◌∙◌, subst, append-nil}
use Rattle.rx_rules.proofs.Common.{Stmt as Tree, Block, Term, Empty, items, stmt_child}
use Rattle.rx_syntax.specs.declared.nodes.BlockId.{BlockId}
use Rattle.rx_syntax.specs.declared.nodes.Stmt.{Stmt}
use Rattle.rx_syntax.specs.Shape.{Shape, StmtIs, BlockStands}
use Rattle.rx_control.specs.Seeds.{BodyIs}
use Rattle.rx_control.specs.Levels.{More}
use Rattle.rx_control.specs.declared.frame.Frame.{Frame}
use Rattle.rx_control.specs.declared.frame.Frame.TheVariants.{Seq}
use Rattle.rx_control.specs.declared.control.Control.{Control}
use Rattle.rx_control.specs.Stands.{path_of, FramesStand, StandsFor}
use Rattle.rx_control.specs.Inside.Front.{SettlesTo}
use Rattle.rx_control.proofs.Standing.{settled-stands}

pub front-path : (base : List ℕ) → path_of base [] ++ [] ≡ base
front-path base = append-nil (path_of base []) ∙ append-nil base

pub first-frame : (s : Shape) (base : List ℕ) (frames : List Frame) (block : BlockId) (b : Block) → frames ≡ Seq block 0 None ∷ [] → BlockStands s block b → FramesStand s base frames (More b (path_of base [] ++ []) 0 ∷ [])
first-frame s base frames block b e h = (Seq block 0 None, [], e, (b, h.0, refl, h.1, h.2), refl)

pub started : (s : Shape) (c : Control) (b : Block) → c.raised ≡ None → SettlesTo s c.base c.frames.items None (More b (path_of c.base [] ++ []) 0 ∷ []) → StandsFor s c (items b c.base Empty)
started s c b r h = settled-stands s c (More b (path_of c.base [] ++ []) 0 ∷ []) None (items b c.base Empty) r h (ap (λ x. items b x Empty) (sym (front-path c.base)))

pub empty-control : (s : Shape) (c : Control) → c.raised ≡ None → c.frames.items ≡ [] → StandsFor s c Empty
empty-control s c r e = settled-stands s c [] None Empty r (record { levels_left = []; stands = e; settled = tt; is = refl }) refl

-- a control whose frames were set for a block that begins at its path
pub begun-at : (s : Shape) (c : Control) (x : List ℕ) (frames : List Frame) (b : Block) (t : Term) → c.base ≡ x → c.frames.items ≡ frames → c.raised ≡ None → t ≡ items b x Empty → SettlesTo s x frames None (More b (path_of x [] ++ []) 0 ∷ []) → StandsFor s c t
begun-at s c x frames b t base is raised e h =
    let k : SettlesTo s c.base c.frames.items None (More b (path_of c.base [] ++ []) 0 ∷ []) =
    subst (λ (y : List ℕ). SettlesTo s y c.frames.items None (More b (path_of y [] ++ []) 0 ∷ [])) (sym base)
    (subst (λ (fs : List Frame). SettlesTo s x fs None (More b (path_of x [] ++ []) 0 ∷ [])) (sym is) h) in
    subst (λ (u : Term). StandsFor s c u) (ap (λ y. items b y Empty) base ∙ sym e) (started s c b raised k)

-- what a statement starts begins with its body
pub body-is : (stmt : Stmt) (body : Option BlockId) → MatchOption body ((s : Shape) (t : Tree) (x : List ℕ) → StmtIs s stmt t → stmt_child t x ≡ Empty) (λ k. (s : Shape) (t : Tree) (x : List ℕ) → StmtIs s stmt t → (b : Block) × BlockStands s k b × (stmt_child t x ≡ items b x Empty)) → (s : Shape) (t : Tree) (x : List ℕ) → StmtIs s stmt t → BodyIs s body x (stmt_child t x)
body-is stmt None h s t x k = h s t x k
body-is stmt (Some b) h s t x k = h s t x k
