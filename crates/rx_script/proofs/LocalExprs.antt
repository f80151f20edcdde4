-- The reader of expressions is local.
use Rattle.std.proofs.Common.{◌≡◌, List, [], ◌∷◌, ◌++◌, pos, refl, Ok}
use Rattle.rx_rules.proofs.Common.{Add, Expr, Num, Name, Here, Bin}
use Rattle.rx_syntax.specs.declared.token.Token.{Token}
use Rattle.rx_syntax.specs.declared.token.Token.TheVariants.{Key, Called, Number, Oper, Mark}
use Rattle.rx_syntax.specs.declared.token.Keyword.TheVariants.{Here as KHere}
use Rattle.rx_syntax.specs.declared.token.Sign.TheVariants.{OpenParen as LParen, CloseParen as RParen}
use Rattle.rx_syntax.specs.declared.token.Op.TheVariants.{Add as AddSign}
use Rattle.rx_syntax.specs.Shape.{op_of}
use Rattle.rx_script.specs.Inside.Exprs.{Pair, First, Second, operand, whole, expr}
use Rattle.rx_script.proofs.Local.{Completes, Judged, IsLocal, judged-more, refused-here, refused-end}

-- tokens that end the open pairs
abbrev shut : List Pair → List Token
shut [] = []
shut (First ∷ pairs) = Oper AddSign ∷ Number (pos 0) ∷ Mark RParen ∷ shut pairs
shut (Second a o ∷ pairs) = Mark RParen ∷ shut pairs

-- what is read then
abbrev shut_to : List Pair → Expr → Expr
shut_to [] e = e
shut_to (First ∷ pairs) e = shut_to pairs (Bin Add e (Num (pos 0)))
shut_to (Second a o ∷ pairs) e = shut_to pairs (Bin o a e)

shuts : (pairs : List Pair) (e : Expr) (more : List Token) → whole (shut pairs ++ more) pairs e ≡ Ok (shut_to pairs e, more)
shuts [] e more = refl
shuts (First ∷ pairs) e more = shuts pairs (Bin Add e (Num (pos 0))) more
shuts (Second a o ∷ pairs) e more = shuts pairs (Bin o a e) more

begins-whole : (pairs : List Pair) (e : Expr) → Completes (λ us. whole us pairs e) []
begins-whole pairs e = record { rest = shut pairs; value = shut_to pairs e; reads = shuts pairs e }

begins-operand : (pairs : List Pair) → Completes (λ us. operand us pairs) []
begins-operand pairs = record { rest = Number (pos 0) ∷ shut pairs; value = shut_to pairs (Num (pos 0)); reads = shuts pairs (Num (pos 0)) }

mutual
  judged-operand : (ts : List Token) (pairs : List Pair) → Judged (λ us. operand us pairs) ts (operand ts pairs)
  judged-operand [] pairs = refused-end (λ us. operand us pairs) (begins-operand pairs)
  judged-operand (Number n ∷ ts) pairs = judged-more (λ us. whole us pairs (Num n)) (λ us. operand us pairs) (Number n) (λ us. refl) ts (whole ts pairs (Num n)) (judged-whole ts pairs (Num n))
  judged-operand (Called n ∷ ts) pairs = judged-more (λ us. whole us pairs (Name n)) (λ us. operand us pairs) (Called n) (λ us. refl) ts (whole ts pairs (Name n)) (judged-whole ts pairs (Name n))
  judged-operand (Key KHere ∷ ts) pairs = judged-more (λ us. whole us pairs Here) (λ us. operand us pairs) (Key KHere) (λ us. refl) ts (whole ts pairs Here) (judged-whole ts pairs Here)
  judged-operand (Mark LParen ∷ ts) pairs = judged-more (λ us. operand us (First ∷ pairs)) (λ us. operand us pairs) (Mark LParen) (λ us. refl) ts (operand ts (First ∷ pairs)) (judged-operand ts (First ∷ pairs))
  judged-operand (t ∷ ts) pairs = refused-here (λ us. operand us pairs) t ts (λ more. refl) (begins-operand pairs)

  judged-whole : (ts : List Token) (pairs : List Pair) (e : Expr) → Judged (λ us. whole us pairs e) ts (whole ts pairs e)
  judged-whole ts [] e = record { front = []; whole = refl; again = λ more. refl }
  judged-whole [] (p ∷ pairs) e = refused-end (λ us. whole us (p ∷ pairs) e) (begins-whole (p ∷ pairs) e)
  judged-whole (Oper o ∷ ts) (First ∷ pairs) e = judged-more (λ us. operand us (Second e (op_of o) ∷ pairs)) (λ us. whole us (First ∷ pairs) e) (Oper o) (λ us. refl) ts (operand ts (Second e (op_of o) ∷ pairs)) (judged-operand ts (Second e (op_of o) ∷ pairs))
  judged-whole (Mark RParen ∷ ts) (Second a o ∷ pairs) e = judged-more (λ us. whole us pairs (Bin o a e)) (λ us. whole us (Second a o ∷ pairs) e) (Mark RParen) (λ us. refl) ts (whole ts pairs (Bin o a e)) (judged-whole ts pairs (Bin o a e))
  judged-whole (t ∷ ts) (p ∷ pairs) e = refused-here (λ us. whole us (p ∷ pairs) e) t ts (λ more. refl) (begins-whole (p ∷ pairs) e)

pub local-expr : IsLocal expr
local-expr = record { judged = λ ts. judged-operand ts []; begins = begins-operand [] }
