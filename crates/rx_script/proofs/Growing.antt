-- What stands in a list of parts goes on standing as the list grows.
use Rattle.std.proofs.Common.{List, ◌++◌, ap, ◌∙◌, append_assoc}
use Rattle.rx_base.proofs.Elements.{more-at}
use Rattle.rx_rules.proofs.Common.{Expr, Num, Name, Here, Bin}
use Rattle.rx_syntax.specs.Shape.{ExprStands}
use Rattle.rx_script.specs.Inside.Pieces.{Grows}
use Rattle.rx_syntax.specs.declared.nodes.ExprId.{ExprId}
use Rattle.rx_syntax.specs.declared.nodes.Expr.{Expr as Part}

pub grows-on : (es fs gs : List Part) → Grows es fs → Grows fs gs → Grows es gs
grows-on es fs gs g h = (g.0 ++ h.0, h.1 ∙ ap (λ us. us ++ h.0) g.1 ∙ append_assoc es g.0 h.0)

pub expr-grows : (es fs : List Part) → Grows es fs → (i : ExprId) (e : Expr) → ExprStands es i e → ExprStands fs i e
expr-grows es fs g i (Num n) h = more-at es g.0 fs g.1 i.0 _ h
expr-grows es fs g i (Name n) h = (h.0, more-at es g.0 fs g.1 i.0 _ h.1, h.2)
expr-grows es fs g i Here h = more-at es g.0 fs g.1 i.0 _ h
expr-grows es fs g i (Bin o a b) h =
    (h.0, h.1, h.2, more-at es g.0 fs g.1 i.0 _ h.3, h.4, h.5, h.6, expr-grows es fs g h.1 a h.7, expr-grows es fs g h.2 b h.8)
