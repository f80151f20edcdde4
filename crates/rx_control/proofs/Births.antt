-- The task that the statement at the front starts.
use Rattle.std.proofs.Common.{◌≡◌, ℕ, suc, List, ◌∷◌, ◌++◌, Option, ap, ◌∙◌, option_to_list}
use Rattle.rx_rules.proofs.Common.{Term, Run, stmt_child, child, at}
use Rattle.rx_syntax.specs.Shape.{Shape}
use Rattle.rx_syntax.specs.declared.nodes.BlockId.{BlockId}
use Rattle.rx_control.specs.Levels.{More, seq}
use Rattle.rx_control.specs.declared.frame.Frame.{Frame}
use Rattle.rx_control.specs.declared.control.Control.{Control}
use Rattle.rx_control.specs.Stands.{path_of}
use Rattle.rx_control.specs.Inside.Front.{AtStatement}
use Rattle.rx_control.proofs.Wrapping.{child-wrap}

-- the term that it starts is that of the statement, with its path
pub child-statement : (s : Shape) (c : Control) (t : Term) (below : List Frame) (block : BlockId) (next : ℕ) (part : Option ℕ) → (a : AtStatement s c t below block next part) → child t ≡ stmt_child a.stmt (at (path_of c.base below ++ option_to_list part) next)
child-statement s c t below block next part a =
    let y = path_of c.base below ++ option_to_list part in
    ap child a.is ∙ child-wrap (Run a.stmt (at y next) (seq (More a.more y (suc next) ∷ a.others))) a.others
