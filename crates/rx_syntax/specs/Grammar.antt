-- The grammar of scripts: the tokens that spell a tree.
use Rattle.std.specs.Prelude.{◌≡◌, ℕ, List, [], ◌∷◌, ◌++◌, Bool, true, false, nat_lt, ◌&&◌, pos}
use Rattle.rx_rules.specs.Code.{Op, Add, Sub, Mul, Less, Equal, Expr, Num, Name, Here, Bin, Stmt, SetTo, New, Get, Put, Forget, Census}
use Rattle.rx_rules.specs.Code.{Print, Throw, Async, AtAsync, At, Finish, If, Repeat, Try, Block, Nothing, Then}
use Rattle.rx_syntax.specs.declared.token.Op.{Op as Operation}
use Rattle.rx_syntax.specs.declared.token.Op.TheVariants.{Add as AddSign, Sub as SubSign, Mul as MulSign, Less as LessSign}
use Rattle.rx_syntax.specs.declared.token.Op.TheVariants.{Equal as EqualSign}
use Rattle.rx_syntax.specs.declared.token.Keyword.TheVariants.{Set as KSet, New as KNew, Get as KGet, Put as KPut, Forget as KForget}
use Rattle.rx_syntax.specs.declared.token.Keyword.TheVariants.{Census as KCensus, Print as KPrint, Throw as KThrow, Async as KAsync}
use Rattle.rx_syntax.specs.declared.token.Keyword.TheVariants.{At as KAt, Finish as KFinish, If as KIf, Else as KElse, Repeat as KRepeat}
use Rattle.rx_syntax.specs.declared.token.Keyword.TheVariants.{Try as KTry, Catch as KCatch, Dead as KDead, Here as KHere}
use Rattle.rx_syntax.specs.declared.token.Sign.TheVariants.{OpenBrace as LBrace, CloseBrace as RBrace, OpenParen as LParen}
use Rattle.rx_syntax.specs.declared.token.Sign.TheVariants.{CloseParen as RParen, OpenSquare as LSquare, CloseSquare as RSquare}
use Rattle.rx_syntax.specs.declared.token.Sign.TheVariants.{Equals, Semicolon}
use Rattle.rx_syntax.specs.declared.token.Token.{Token}
use Rattle.rx_syntax.specs.declared.token.Token.TheVariants.{Key, Called, Number, Oper, Mark}
use Rattle.rx_syntax.specs.Tokens.{Lexes}

-- the sign of an operation
abbrev pub sign_of : Op → Operation
sign_of Add = AddSign
sign_of Sub = SubSign
sign_of Mul = MulSign
sign_of Less = LessSign
sign_of Equal = EqualSign

-- the tokens of an expression
abbrev pub spell : Expr → List Token
spell (Num n) = Number n ∷ []
spell (Name n) = Called n ∷ []
spell Here = Key KHere ∷ []
spell (Bin o a b) = Mark LParen ∷ (spell a ++ Oper (sign_of o) ∷ (spell b ++ Mark RParen ∷ []))

-- the tokens from a `catch` to its brace
abbrev pub catch_words : Bool → List Token
catch_words false = Key KCatch ∷ Mark LBrace ∷ []
catch_words true = Key KCatch ∷ Key KDead ∷ Mark LBrace ∷ []

-- the tokens of a statement, and of a block's statements
abbrev mutual
  pub spelling : Stmt → List Token
  spelling (SetTo n e) = Key KSet ∷ Called n ∷ Mark Equals ∷ (spell e ++ Mark Semicolon ∷ [])
  spelling (New n k) = Key KNew ∷ Called n ∷ Mark Equals ∷ Number (pos k) ∷ Mark Semicolon ∷ []
  spelling (Get n t e) = Key KGet ∷ Called n ∷ Mark Equals ∷ Called t ∷ Mark LSquare ∷ (spell e ++ Mark RSquare ∷ Mark Semicolon ∷ [])
  spelling (Put t i e) = Key KPut ∷ Called t ∷ Mark LSquare ∷ (spell i ++ Mark RSquare ∷ Mark Equals ∷ (spell e ++ Mark Semicolon ∷ []))
  spelling (Forget t) = Key KForget ∷ Called t ∷ Mark Semicolon ∷ []
  spelling (Census n) = Key KCensus ∷ Called n ∷ Mark Semicolon ∷ []
  spelling (Print e) = Key KPrint ∷ (spell e ++ Mark Semicolon ∷ [])
  spelling (Throw e) = Key KThrow ∷ (spell e ++ Mark Semicolon ∷ [])
  spelling (Async b) = (Key KAsync ∷ Mark LBrace ∷ []) ++ (spellings b ++ Mark RBrace ∷ [])
  spelling (AtAsync e b) = (Key KAt ∷ (spell e ++ Key KAsync ∷ Mark LBrace ∷ [])) ++ (spellings b ++ Mark RBrace ∷ [])
  spelling (At e b) = (Key KAt ∷ (spell e ++ Mark LBrace ∷ [])) ++ (spellings b ++ Mark RBrace ∷ [])
  spelling (Finish b) = (Key KFinish ∷ Mark LBrace ∷ []) ++ (spellings b ++ Mark RBrace ∷ [])
  spelling (If e a b) =
      (Key KIf ∷ (spell e ++ Mark LBrace ∷ []))
      ++ (spellings a ++ Mark RBrace ∷ Key KElse ∷ Mark LBrace ∷ (spellings b ++ Mark RBrace ∷ []))
  spelling (Repeat n b) = (Key KRepeat ∷ Number (pos n) ∷ Mark LBrace ∷ []) ++ (spellings b ++ Mark RBrace ∷ [])
  spelling (Try a d b) =
      (Key KTry ∷ Mark LBrace ∷ []) ++ (spellings a ++ Mark RBrace ∷ (catch_words d ++ (spellings b ++ Mark RBrace ∷ [])))

  pub spellings : Block → List Token
  spellings Nothing = []
  spellings (Then t ts) = spelling t ++ spellings ts

-- the numbers that may stand after `new` and after `repeat`
abbrev pub may_hold : ℕ → Bool
may_hold n = nat_lt 0 n && nat_lt n 65537

abbrev pub may_turn : ℕ → Bool
may_turn n = nat_lt n 1000001

-- the numbers after `new` and `repeat` are in their ranges
abbrev mutual
  pub InRange : Stmt → Type 0
  InRange (New n k) = may_hold k ≡ true
  InRange (Async b) = AllInRange b
  InRange (AtAsync e b) = AllInRange b
  InRange (At e b) = AllInRange b
  InRange (Finish b) = AllInRange b
  InRange (If e a b) = AllInRange a × AllInRange b
  InRange (Repeat n b) = (may_turn n ≡ true) × AllInRange b
  InRange (Try a d b) = AllInRange a × AllInRange b
  InRange _ = Unit {0}

  pub AllInRange : Block → Type 0
  AllInRange Nothing = Unit {0}
  AllInRange (Then t ts) = InRange t × AllInRange ts

-- the bytes are a script with these names
pub record IsScriptOf (names : List (List ℕ)) (bytes : List ℕ) (b : Block) : Type 0 where
  pub lexes : Lexes names bytes (spellings b)
  pub fits : AllInRange b

-- the bytes are a script
abbrev pub IsScript : List ℕ → Block → Type 0
IsScript bytes b = (names : List (List ℕ)) × IsScriptOf names bytes b
