-- What stands for a tree is one of the script's lists.
use Rattle.std.proofs.Common.{ℕ, ◌<◌, List, length}
use Rattle.std.proofs.lemmas.Option.{slice_get_within}
use Rattle.rx_rules.proofs.Common.{Expr, Num, Name, Here, Bin}
use Rattle.rx_syntax.specs.Shape.{ExprStands}
use Rattle.rx_syntax.specs.declared.nodes.ExprId.{ExprId}
use Rattle.rx_syntax.specs.declared.nodes.Expr.{Expr as Part}

-- an expression's number is one of the list
pub stands-within : (es : List Part) (i : ExprId) (e : Expr) → ExprStands es i e → i.0 < length es
stands-within es i (Num n) h = slice_get_within es i.0 _ h
stands-within es i (Name n) h = slice_get_within es i.0 _ h.1
stands-within es i Here h = slice_get_within es i.0 _ h
stands-within es i (Bin o a b) h = slice_get_within es i.0 _ h.3
