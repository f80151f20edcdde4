-- What contracts see of the lists that hold a script.
use Rattle.std.specs.Prelude.{ℕ, map, Vec}
use Rattle.std.specs.Global.{Global}
use Rattle.rx_syntax.specs.declared.nodes.StmtId.{StmtId}
use Rattle.rx_syntax.specs.declared.nodes.BlockId.{BlockId}
use Rattle.rx_syntax.specs.declared.nodes.Stmt.{Stmt}
use Rattle.rx_syntax.specs.declared.nodes.Expr.{Expr}
use Rattle.rx_syntax.specs.Tables.{names_of}
use Rattle.rx_syntax.specs.Shape.{Shape}

-- the statements, expressions, blocks and names of these lists, and the block of the whole
abbrev pub shape_from : Vec Stmt Global → Vec Expr Global → Vec (Vec StmtId Global) Global → Vec (Vec ℕ Global) Global → BlockId → Shape
shape_from stmts exprs blocks names top =
    record { stmts = stmts.items; exprs = exprs.items; blocks = map (λ b. b.items) blocks.items; names = names_of names; top = top }
