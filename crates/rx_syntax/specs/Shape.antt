-- What contracts see of a script, and the tree that it stands for.
use Rattle.std.specs.Prelude.{◌≡◌, ℕ, ◌<◌, ◌^◌, List, [], ◌∷◌, length, Some, slice_get}
use Rattle.rx_syntax.specs.declared.nodes.StmtId.{StmtId}
use Rattle.rx_syntax.specs.declared.nodes.ExprId.{ExprId}
use Rattle.rx_syntax.specs.declared.nodes.BlockId.{BlockId}
use Rattle.rx_syntax.specs.declared.nodes.NameId.{NameId}
use Rattle.rx_syntax.specs.declared.token.Op.{Op as Sign}
use Rattle.rx_syntax.specs.declared.token.Op.TheVariants.{Add as AddSign, Sub as SubSign, Mul as MulSign, Less as LessSign}
use Rattle.rx_syntax.specs.declared.token.Op.TheVariants.{Equal as EqualSign}
use Rattle.rx_syntax.specs.declared.nodes.Expr.{Expr as Part}
use Rattle.rx_syntax.specs.declared.nodes.Expr.TheVariants.{Num as NumPart, Name as NamePart, Here as HerePart, Bin as BinPart}
use Rattle.rx_syntax.specs.declared.nodes.Stmt.{Stmt as Node}
use Rattle.rx_syntax.specs.declared.nodes.Stmt.TheVariants.{Set as SetNode, New as NewNode, Get as GetNode, Put as PutNode}
use Rattle.rx_syntax.specs.declared.nodes.Stmt.TheVariants.{Forget as ForgetNode, Census as CensusNode, Print as PrintNode}
use Rattle.rx_syntax.specs.declared.nodes.Stmt.TheVariants.{Throw as ThrowNode, Async as AsyncNode, AtAsync as AtAsyncNode}
use Rattle.rx_syntax.specs.declared.nodes.Stmt.TheVariants.{At as AtNode, Finish as FinishNode, If as IfNode, Repeat as RepeatNode}
use Rattle.rx_syntax.specs.declared.nodes.Stmt.TheVariants.{Try as TryNode}
use Rattle.rx_rules.specs.Code.{Op, Add, Sub, Mul, Less, Equal, Expr, Num, Name, Here, Bin, Block, Nothing, Then, Stmt, SetTo, New}
use Rattle.rx_rules.specs.Code.{Get, Put, Forget, Census, Print, Throw, Async, AtAsync, At, Finish, If, Repeat, Try}

-- statements, expressions, blocks and names by number, and the block of the whole script
pub record Shape : Type 0 where
  pub stmts : List Node
  pub exprs : List Part
  pub blocks : List (List StmtId)
  pub names : List (List ℕ)
  pub top : BlockId

-- the lengths of blocks fit in 32 bits
abbrev pub IsSmall : List (List StmtId) → Type 0
IsSmall blocks = (k : ℕ) (ids : List StmtId) → slice_get blocks k ≡ Some ids → length ids < 2 ^ 32

-- the operation of a sign
abbrev pub op_of : Sign → Op
op_of AddSign = Add
op_of SubSign = Sub
op_of MulSign = Mul
op_of LessSign = Less
op_of EqualSign = Equal

-- a number stands for an expression, whose parts have lesser numbers
abbrev pub ExprStands : List Part → ExprId → Expr → Type 0
ExprStands es i (Num z) = slice_get es i.0 ≡ Some (NumPart z)
ExprStands es i (Name n) = (name : NameId) × (slice_get es i.0 ≡ Some (NamePart name)) × (n ≡ name.0)
ExprStands es i Here = slice_get es i.0 ≡ Some HerePart
ExprStands es i (Bin op l r) =
    (sign : Sign) × (left : ExprId) × (right : ExprId) × (slice_get es i.0 ≡ Some (BinPart sign left right))
    × (op ≡ op_of sign) × (left.0 < i.0) × (right.0 < i.0) × ExprStands es left l × ExprStands es right r

-- a node stands for a statement, and a list of numbers for a block
abbrev mutual
  pub StmtIs : Shape → Node → Stmt → Type 0
  StmtIs s (SetNode name value) (SetTo n e) = (n ≡ name.0) × ExprStands s.exprs value e
  StmtIs s (NewNode name words) (New n w) = (n ≡ name.0) × (w ≡ words)
  StmtIs s (GetNode name target index) (Get n t e) = (n ≡ name.0) × (t ≡ target.0) × ExprStands s.exprs index e
  StmtIs s (PutNode target index value) (Put t e f) = (t ≡ target.0) × ExprStands s.exprs index e × ExprStands s.exprs value f
  StmtIs s (ForgetNode target) (Forget t) = t ≡ target.0
  StmtIs s (CensusNode name) (Census n) = n ≡ name.0
  StmtIs s (PrintNode value) (Print e) = ExprStands s.exprs value e
  StmtIs s (ThrowNode value) (Throw e) = ExprStands s.exprs value e
  StmtIs s (AsyncNode body) (Async b) = (ids : List StmtId) × (slice_get s.blocks body.0 ≡ Some ids) × ListStands s ids b
  StmtIs s (AtAsyncNode place body) (AtAsync e b) =
      (ids : List StmtId) × (slice_get s.blocks body.0 ≡ Some ids) × ListStands s ids b × ExprStands s.exprs place e
  StmtIs s (AtNode place body) (At e b) =
      (ids : List StmtId) × (slice_get s.blocks body.0 ≡ Some ids) × ListStands s ids b × ExprStands s.exprs place e
  StmtIs s (FinishNode body) (Finish b) = (ids : List StmtId) × (slice_get s.blocks body.0 ≡ Some ids) × ListStands s ids b
  StmtIs s (IfNode test first other) (If e a b) =
      (ids : List StmtId) × (slice_get s.blocks first.0 ≡ Some ids) × ListStands s ids a
      × ((jds : List StmtId) × (slice_get s.blocks other.0 ≡ Some jds) × ListStands s jds b) × ExprStands s.exprs test e
  StmtIs s (RepeatNode times body) (Repeat n b) =
      (ids : List StmtId) × (slice_get s.blocks body.0 ≡ Some ids) × ListStands s ids b × (n ≡ times)
  StmtIs s (TryNode body dead_only handler) (Try a d b) =
      (ids : List StmtId) × (slice_get s.blocks body.0 ≡ Some ids) × ListStands s ids a
      × ((jds : List StmtId) × (slice_get s.blocks handler.0 ≡ Some jds) × ListStands s jds b) × (d ≡ dead_only)
  StmtIs s _ _ = ⊥

  pub ListStands : Shape → List StmtId → Block → Type 0
  ListStands s [] Nothing = Unit {0}
  ListStands s (i ∷ ids) Nothing = ⊥
  ListStands s [] (Then t ts) = ⊥
  ListStands s (i ∷ ids) (Then t ts) =
      ((node : Node) × (slice_get s.stmts i.0 ≡ Some node) × StmtIs s node t) × ListStands s ids ts

-- a number stands for a block
abbrev pub BlockStands : Shape → BlockId → Block → Type 0
BlockStands s k b = (ids : List StmtId) × (slice_get s.blocks k.0 ≡ Some ids) × ListStands s ids b

-- the script stands for these statements
abbrev pub Stands : Shape → Block → Type 0
Stands s t = BlockStands s s.top t
