-- How a list of parts and a list of open pairs stand for what has been read of an expression.
use Rattle.std.specs.Prelude.{◌≡◌, List, [], ◌∷◌, ◌++◌, Option, Some, None, Result, Err}
use Rattle.rx_rules.specs.Code.{Expr}
use Rattle.rx_syntax.specs.Shape.{ExprStands, op_of}
use Rattle.rx_script.specs.Inside.Exprs.{Pair, First, Second, operand, whole}
use Rattle.rx_syntax.specs.declared.nodes.ExprId.{ExprId}
use Rattle.rx_syntax.specs.declared.token.Op.{Op as Sign}
use Rattle.rx_syntax.specs.declared.nodes.Expr.{Expr as Part}
use Rattle.rx_syntax.specs.declared.token.Token.{Token}
use Rattle.rx_script.specs.declared.exprs.OpenPair.{OpenPair}
use Rattle.rx_script.specs.declared.exprs.OpenPair.TheVariants as pairs
use Rattle.rx_script.specs.declared.exprs.Turn.{Turn}
use Rattle.rx_script.specs.declared.exprs.Turn.TheVariants as turns

abbrev pub PairStands : List Part → OpenPair → Pair → Type 0
PairStands es p First = p ≡ pairs.First
PairStands es p (Second a o) = (left : ExprId) × (sign : Sign) × (p ≡ pairs.Second left sign) × (o ≡ op_of sign) × ExprStands es left a

-- the innermost pair is the last of the list
abbrev pub PairsStand : List Part → List OpenPair → List Pair → Type 0
PairsStand es ps [] = ps ≡ []
PairsStand es ps (q ∷ qs) =
    (front : List OpenPair) × (last : OpenPair) × (ps ≡ front ++ last ∷ []) × PairStands es last q × PairsStand es front qs

-- what is left is read to this answer
abbrev pub ExprReads : List Part → List OpenPair → Turn → List Token → Result (Expr × List Token) (List Token) → Type 0
ExprReads es ps turns.Operand ts o = (qs : List Pair) × PairsStand es ps qs × (operand ts qs ≡ o)
ExprReads es ps (turns.After i) ts o = (qs : List Pair) × (e : Expr) × PairsStand es ps qs × ExprStands es i e × (whole ts qs e ≡ o)

-- one token was taken, or can't go on
abbrev pub Steps : List Part → List OpenPair → Option Turn → Token → List Token → Result (Expr × List Token) (List Token) → Type 0
Steps es ps None t ts o = o ≡ Err (t ∷ ts)
Steps es ps (Some turn) t ts o = ExprReads es ps turn ts o
