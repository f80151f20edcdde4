-- What the code's answers say of the reader of one part, whatever is read after it.
use Rattle.std.specs.Prelude.{◌≡◌, List, Result, Ok, Err}
use Rattle.rx_rules.specs.Code.{Expr}
use Rattle.rx_syntax.specs.Shape.{ExprStands}
use Rattle.rx_script.specs.Inside.Items.{Item}
use Rattle.rx_script.specs.Inside.Readers.{Reader}
use Rattle.rx_syntax.specs.declared.nodes.ExprId.{ExprId}
use Rattle.rx_syntax.specs.declared.nodes.Expr.{Expr as Part}
use Rattle.rx_syntax.specs.declared.token.Token.{Token}

-- a sign was taken, or can't stand there
abbrev pub Passes : {S : Type 0} → Result S S → (S → List Token) → (Reader Item → Result (Item × List Token) (List Token)) → Type 0
Passes (Ok rest) left o = (r : Reader Item) → o r ≡ r (left rest)
Passes (Err bad) left o = (r : Reader Item) → o r ≡ Err (left bad)

-- a value was read, or what is left begins with the token that can't go on
abbrev pub Leads :
    {A B S : Type 0} → Result (A × S) S → (S → List Token) → (A → B)
    → ((B → Reader Item) → Result (Item × List Token) (List Token)) → Type 0
Leads {B = B} (Ok x) left value o = (f : B → Reader Item) → o f ≡ f (value x.0) (left x.1)
Leads {B = B} (Err bad) left value o = (f : B → Reader Item) → o f ≡ Err (left bad)

-- an expression was read
abbrev pub LeadsExpr :
    {S : Type 0} → List Part → Result (ExprId × S) S → (S → List Token)
    → ((Expr → Reader Item) → Result (Item × List Token) (List Token)) → Type 0
LeadsExpr es (Ok x) left o = (e : Expr) × ExprStands es x.0 e × ((f : Expr → Reader Item) → o f ≡ f e (left x.1))
LeadsExpr es (Err bad) left o = (f : Expr → Reader Item) → o f ≡ Err (left bad)
