-- Answers about what is left, moved along equations.
use Rattle.std.proofs.Common.{◌≡◌, List, sym, ap, subst, Result, Ok, Err, IfOk}
use Rattle.rx_rules.proofs.Common.{Expr}
use Rattle.rx_syntax.specs.Shape.{ExprStands}
use Rattle.rx_script.specs.Inside.Readers.{Reader, after, then}
use Rattle.rx_script.specs.Inside.Exprs.{expr}
use Rattle.rx_script.specs.Inside.Items.{Item}
use Rattle.rx_script.specs.Inside.Pieces.{IsExprAnswer, IsItemAnswer}
use Rattle.rx_script.specs.Inside.Parts.{LeadsExpr}
use Rattle.rx_syntax.specs.declared.nodes.ExprId.{ExprId}
use Rattle.rx_syntax.specs.declared.nodes.Expr.{Expr as Part}
use Rattle.rx_script.specs.declared.items.Item.{Item as Piece}
use Rattle.rx_syntax.specs.declared.token.Token.{Token}

-- what is said of the one answer holds of the other
pub moved : {S : Type 0} (es : List Part) (r : Result (Piece × S) S) (left : S → List Token) (o p : Result (Item × List Token) (List Token)) → o ≡ p → IsItemAnswer es r left p → IsItemAnswer es r left o
moved es r left o p e h = subst (λ (q : Result (Item × List Token) (List Token)). IsItemAnswer es r left q) (sym e) h

pub moved-ok : {S E : Type 0} (es : List Part) (r : Result (Result (Piece × S) S) E) (left : S → List Token) (o p : Result (Item × List Token) (List Token)) → o ≡ p → IfOk r (λ x. IsItemAnswer es x left p) → IfOk r (λ x. IsItemAnswer es x left o)
moved-ok es r left o p e h = subst (λ (q : Result (Item × List Token) (List Token)). IfOk r (λ x. IsItemAnswer es x left q)) (sym e) h

-- an expression was read, or not
pub took-expr : {S : Type 0} (es : List Part) (r : Result (ExprId × S) S) (left : S → List Token) (o : Result (Expr × List Token) (List Token)) (i : ExprId) (s : S) → r ≡ Ok (i, s) → IsExprAnswer es r left o → (e : Expr) × ExprStands es i e × (o ≡ Ok (e, left s))
took-expr {S = S} es r left o i s e h = subst (λ (q : Result (ExprId × S) S). IsExprAnswer es q left o) e h

pub missed-expr : {S : Type 0} (es : List Part) (r : Result (ExprId × S) S) (left : S → List Token) (o : Result (Expr × List Token) (List Token)) (s : S) → r ≡ Err s → IsExprAnswer es r left o → o ≡ Err (left s)
missed-expr {S = S} es r left o s e h = subst (λ (q : Result (ExprId × S) S). IsExprAnswer es q left o) e h

pub took-part : {S : Type 0} (es : List Part) (r : Result (ExprId × S) S) (left : S → List Token) (o : (Expr → Reader Item) → Result (Item × List Token) (List Token)) (i : ExprId) (s : S) → r ≡ Ok (i, s) → LeadsExpr es r left o → (e : Expr) × ExprStands es i e × ((f : Expr → Reader Item) → o f ≡ f e (left s))
took-part {S = S} es r left o i s e h = subst (λ (q : Result (ExprId × S) S). LeadsExpr es q left o) e h

pub missed-part : {S : Type 0} (es : List Part) (r : Result (ExprId × S) S) (left : S → List Token) (o : (Expr → Reader Item) → Result (Item × List Token) (List Token)) (s : S) → r ≡ Err s → LeadsExpr es r left o → (f : Expr → Reader Item) → o f ≡ Err (left s)
missed-part {S = S} es r left o s e h = subst (λ (q : Result (ExprId × S) S). LeadsExpr es q left o) e h

-- what is read after an expression
pub expr-then : (ts us : List Token) (e : Expr) (f : Expr → Reader Item) → expr ts ≡ Ok (e, us) → then expr f ts ≡ f e us
expr-then ts us e f h = ap (λ (o : Result (Expr × List Token) (List Token)). after o f) h

pub expr-stops : (ts bad : List Token) (f : Expr → Reader Item) → expr ts ≡ Err bad → then expr f ts ≡ Err bad
expr-stops ts bad f h = ap (λ (o : Result (Expr × List Token) (List Token)). after o f) h
