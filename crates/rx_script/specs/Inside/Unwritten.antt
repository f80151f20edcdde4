-- What is still to be written of a script, and the tokens that it stands for.
use Rattle.std.specs.Prelude.{◌≡◌, ℕ, ◌+◌, ◌*◌, ◌-◌, ◌^◌, length, List, [], ◌∷◌, ◌++◌, Some, slice_get, drop, pos, Bool, true, false}
use Rattle.rx_rules.specs.Code.{Expr as Tree, Block}
use Rattle.rx_syntax.specs.declared.nodes.StmtId.{StmtId}
use Rattle.rx_syntax.specs.declared.nodes.BlockId.{BlockId}
use Rattle.rx_syntax.specs.declared.nodes.NameId.{NameId}
use Rattle.rx_syntax.specs.declared.nodes.Stmt.{Stmt}
use Rattle.rx_syntax.specs.declared.nodes.Stmt.TheVariants.{Set, New, Get, Put, Forget, Census, Print, Throw, Async, AtAsync, At, Finish, If}
use Rattle.rx_syntax.specs.declared.nodes.Stmt.TheVariants.{Repeat, Try}
use Rattle.rx_syntax.specs.declared.nodes.Expr.{Expr}
use Rattle.rx_syntax.specs.declared.nodes.Expr.TheVariants.{Num, Name, Here, Bin}
use Rattle.rx_syntax.specs.declared.token.Keyword.TheVariants.{Set as KSet, New as KNew, Get as KGet, Put as KPut, Forget as KForget}
use Rattle.rx_syntax.specs.declared.token.Keyword.TheVariants.{Census as KCensus, Print as KPrint, Throw as KThrow, Async as KAsync}
use Rattle.rx_syntax.specs.declared.token.Keyword.TheVariants.{At as KAt, Finish as KFinish, If as KIf, Else as KElse, Repeat as KRepeat}
use Rattle.rx_syntax.specs.declared.token.Keyword.TheVariants.{Try as KTry, Catch as KCatch, Dead as KDead, Here as KHere}
use Rattle.rx_syntax.specs.declared.token.Sign.TheVariants.{OpenBrace as LBrace, CloseBrace as RBrace, OpenParen as LParen}
use Rattle.rx_syntax.specs.declared.token.Sign.TheVariants.{CloseParen as RParen, OpenSquare as LSquare, CloseSquare as RSquare}
use Rattle.rx_syntax.specs.declared.token.Sign.TheVariants.{Equals, Semicolon}
use Rattle.rx_syntax.specs.declared.token.Token.{Token}
use Rattle.rx_syntax.specs.declared.token.Token.TheVariants.{Key, Called, Number, Oper, Mark}
use Rattle.rx_script.specs.declared.writer.Part.{Part}
use Rattle.rx_script.specs.declared.writer.Part.TheVariants.{One, Value, From}
use Rattle.rx_syntax.specs.Shape.{Shape, ExprStands, ListStands}
use Rattle.rx_syntax.specs.Grammar.{spell, spellings}
use Rattle.rx_syntax.specs.Texts.{spaced}
use Rattle.std.specs.List.{flat_map}

-- a part stands for tokens
abbrev pub PartStands : Shape → Part → List Token → Type 0
PartStands s (One t) ts = ts ≡ t ∷ []
PartStands s (Value id) ts = (e : Tree) × ExprStands s.exprs id e × (ts ≡ spell e)
PartStands s (From block i) ts =
    (ids : List StmtId) × (b : Block) × (slice_get s.blocks block.0 ≡ Some ids) × ListStands s (drop i ids) b × (ts ≡ spellings b)

-- parts, the first one first, stand for tokens
abbrev pub PartsStand : Shape → List Part → List Token → Type 0
PartsStand s [] ts = ts ≡ []
PartsStand s (p ∷ ps) ts = (us : List Token) × (vs : List Token) × (ts ≡ us ++ vs) × PartStands s p us × PartsStand s ps vs

-- the part of a name
abbrev pub named : NameId → Part
named n = One (Called n.0)

-- the first token of a statement
abbrev pub front_of : Stmt → Token
front_of (Set name value) = Key KSet
front_of (New name words) = Key KNew
front_of (Get name target index) = Key KGet
front_of (Put target index value) = Key KPut
front_of (Forget target) = Key KForget
front_of (Census name) = Key KCensus
front_of (Print value) = Key KPrint
front_of (Throw value) = Key KThrow
front_of (Async body) = Key KAsync
front_of (AtAsync place body) = Key KAt
front_of (At place body) = Key KAt
front_of (Finish body) = Key KFinish
front_of (If test first other) = Key KIf
front_of (Repeat times body) = Key KRepeat
front_of (Try body dead_only handler) = Key KTry

-- a block with its braces
abbrev pub block_parts : BlockId → List Part
block_parts body = One (Mark LBrace) ∷ From body 0 ∷ One (Mark RBrace) ∷ []

-- the words between a body and its handler
abbrev pub catch_parts : Bool → List Part
catch_parts false = One (Key KCatch) ∷ []
catch_parts true = One (Key KCatch) ∷ One (Key KDead) ∷ []

-- the parts of a statement after its first token
abbrev pub parts_after : Stmt → List Part
parts_after (Set name value) = named name ∷ One (Mark Equals) ∷ Value value ∷ One (Mark Semicolon) ∷ []
parts_after (New name words) = named name ∷ One (Mark Equals) ∷ One (Number (pos words)) ∷ One (Mark Semicolon) ∷ []
parts_after (Get name target index) =
    named name ∷ One (Mark Equals) ∷ named target ∷ One (Mark LSquare) ∷ Value index ∷ One (Mark RSquare) ∷ One (Mark Semicolon) ∷ []
parts_after (Put target index value) =
    named target ∷ One (Mark LSquare) ∷ Value index ∷ One (Mark RSquare) ∷ One (Mark Equals) ∷ Value value ∷ One (Mark Semicolon) ∷ []
parts_after (Forget target) = named target ∷ One (Mark Semicolon) ∷ []
parts_after (Census name) = named name ∷ One (Mark Semicolon) ∷ []
parts_after (Print value) = Value value ∷ One (Mark Semicolon) ∷ []
parts_after (Throw value) = Value value ∷ One (Mark Semicolon) ∷ []
parts_after (Async body) = block_parts body
parts_after (AtAsync place body) = Value place ∷ One (Key KAsync) ∷ block_parts body
parts_after (At place body) = Value place ∷ block_parts body
parts_after (Finish body) = block_parts body
parts_after (If test first other) = Value test ∷ (block_parts first ++ One (Key KElse) ∷ block_parts other)
parts_after (Repeat times body) = One (Number (pos times)) ∷ block_parts body
parts_after (Try body dead_only handler) = block_parts body ++ (catch_parts dead_only ++ block_parts handler)

-- the first token of an expression
abbrev pub expr_front : Expr → Token
expr_front (Num n) = Number n
expr_front (Name n) = Called n.0
expr_front Here = Key KHere
expr_front (Bin op left right) = Mark LParen

-- the parts of an expression after its first token
abbrev pub expr_rest : Expr → List Part
expr_rest (Bin op left right) = Value left ∷ One (Oper op) ∷ Value right ∷ One (Mark RParen) ∷ []
expr_rest _ = []

-- Some of the tokens were written, and these parts stand for the others.
pub record Wrote (s : Shape) (old new : List ℕ) (parts : List Part) (ts : List Token) : Type 0 where
  pub wrote : List Token
  pub left : List Token
  pub whole : ts ≡ wrote ++ left
  pub text : new ≡ old ++ flat_map (spaced s.names) wrote
  pub stands : PartsStand s parts left

-- A text is shorter than 2 ^ 64 bytes: a bound on how often more of it is written or a part is taken off.
abbrev pub turns_left : List ℕ → List Part → ℕ
turns_left text parts = 16 * (2 ^ 64 - length text) + length parts
