-- How an expression is read with the pairs of parentheses that are open.
use Rattle.std.specs.Prelude.{List, [], ◌∷◌, Result, Ok, Err}
use Rattle.rx_rules.specs.Code.{Op, Expr, Num, Name, Here, Bin}
use Rattle.rx_syntax.specs.declared.token.Token.{Token}
use Rattle.rx_syntax.specs.declared.token.Token.TheVariants.{Key, Called, Number, Oper, Mark}
use Rattle.rx_syntax.specs.declared.token.Keyword.TheVariants.{Here as KHere}
use Rattle.rx_syntax.specs.declared.token.Sign.TheVariants.{OpenParen as LParen, CloseParen as RParen}
use Rattle.rx_syntax.specs.Shape.{op_of}
use Rattle.rx_script.specs.Inside.Readers.{Reader}

-- a pair that is open: before its first operand is whole, or after its operator
pub data Pair : Type 0 where
  First : Pair
  Second : Expr → Op → Pair

-- an operand is awaited, or one is whole
abbrev mutual
  pub operand : List Token → List Pair → Result (Expr × List Token) (List Token)
  operand [] pairs = Err []
  operand (Number n ∷ ts) pairs = whole ts pairs (Num n)
  operand (Called n ∷ ts) pairs = whole ts pairs (Name n)
  operand (Key KHere ∷ ts) pairs = whole ts pairs Here
  operand (Mark LParen ∷ ts) pairs = operand ts (First ∷ pairs)
  operand (t ∷ ts) pairs = Err (t ∷ ts)

  pub whole : List Token → List Pair → Expr → Result (Expr × List Token) (List Token)
  whole ts [] e = Ok (e, ts)
  whole [] (p ∷ pairs) e = Err []
  whole (Oper o ∷ ts) (First ∷ pairs) e = operand ts (Second e (op_of o) ∷ pairs)
  whole (Mark RParen ∷ ts) (Second a o ∷ pairs) e = whole ts pairs (Bin o a e)
  whole (t ∷ ts) (p ∷ pairs) e = Err (t ∷ ts)

abbrev pub expr : Reader Expr
expr ts = operand ts []
