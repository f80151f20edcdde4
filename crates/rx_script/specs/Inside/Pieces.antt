-- What the code's items stand for, whose expressions are told by number.
use Rattle.std.specs.Prelude.{◌≡◌, List, [], ◌++◌, Result, Ok, Err}
use Rattle.rx_rules.specs.Code.{Expr}
use Rattle.rx_syntax.specs.Shape.{Shape, ExprStands, StmtIs}
use Rattle.rx_script.specs.Inside.Items.{Opener, ByAsync, ByAtAsync, ByAt, ByFinish, ByIf, ByRepeat, ByTry, Item, Whole, Open, Close, Else}
use Rattle.rx_script.specs.Inside.Items.{Catch, Mode, Outermost, Inside, AfterFirst, AfterBody}
use Rattle.rx_syntax.specs.declared.nodes.ExprId.{ExprId}
use Rattle.rx_syntax.specs.declared.nodes.Expr.{Expr as Part}
use Rattle.rx_syntax.specs.declared.token.Token.{Token}
use Rattle.rx_script.specs.declared.items.Opener.{Opener as Front}
use Rattle.rx_script.specs.declared.items.Opener.TheVariants as fronts
use Rattle.rx_script.specs.declared.items.Item.{Item as Piece}
use Rattle.rx_script.specs.declared.items.Item.TheVariants as pieces
use Rattle.rx_script.specs.declared.items.Mode.{Mode as Stand}
use Rattle.rx_script.specs.declared.items.Mode.TheVariants as stands

abbrev pub mode_of : Stand → Mode
mode_of stands.Outermost = Outermost
mode_of stands.Inside = Inside
mode_of stands.AfterFirst = AfterFirst
mode_of stands.AfterBody = AfterBody

-- more stands after what stood there
abbrev pub Grows : List Part → List Part → Type 0
Grows es fs = (more : List Part) × (fs ≡ es ++ more)

-- these expressions, and no statements
abbrev pub only : List Part → Shape
only es = record { stmts = []; exprs = es; blocks = []; names = []; top = record { 0 = 0 } }

abbrev pub OpenerStands : List Part → Front → Opener → Type 0
OpenerStands es fronts.Async ByAsync = Unit {0}
OpenerStands es (fronts.AtAsync i) (ByAtAsync e) = ExprStands es i e
OpenerStands es (fronts.At i) (ByAt e) = ExprStands es i e
OpenerStands es fronts.Finish ByFinish = Unit {0}
OpenerStands es (fronts.If i) (ByIf e) = ExprStands es i e
OpenerStands es (fronts.Repeat times) (ByRepeat n) = n ≡ times
OpenerStands es fronts.Try ByTry = Unit {0}
OpenerStands es _ _ = ⊥

abbrev pub ItemStands : List Part → Piece → Item → Type 0
ItemStands es (pieces.Whole node) (Whole s) = StmtIs (only es) node s
ItemStands es (pieces.Open front) (Open o) = OpenerStands es front o
ItemStands es pieces.Close Close = Unit {0}
ItemStands es pieces.Else Else = Unit {0}
ItemStands es (pieces.Catch dead_only) (Catch d) = d ≡ dead_only
ItemStands es _ _ = ⊥

-- an expression was read, or what is left begins with the token that can't go on
abbrev pub IsExprAnswer :
    {S : Type 0} → List Part → Result (ExprId × S) S → (S → List Token) → Result (Expr × List Token) (List Token) → Type 0
IsExprAnswer es (Ok x) left o = (e : Expr) × ExprStands es x.0 e × (o ≡ Ok (e, left x.1))
IsExprAnswer es (Err bad) left o = o ≡ Err (left bad)

-- an item was read, or what is left begins with the token that can't go on
abbrev pub IsItemAnswer :
    {S : Type 0} → List Part → Result (Piece × S) S → (S → List Token) → Result (Item × List Token) (List Token) → Type 0
IsItemAnswer es (Ok x) left o = (item : Item) × ItemStands es x.0 item × (o ≡ Ok (item, left x.1))
IsItemAnswer es (Err bad) left o = o ≡ Err (left bad)
