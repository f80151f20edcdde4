-- How tokens are written.
use Rattle.std.specs.Prelude.{ℕ, ◌≤◌, List, [], ◌∷◌, ◌++◌, Option, Some, None, slice_get, codes, pos}
use Rattle.std.specs.List.{flat_map}
use Rattle.rx_text.specs.Numbers.{number_text}
use Rattle.rx_syntax.specs.declared.token.Op.{Op}
use Rattle.rx_syntax.specs.declared.token.Op.TheVariants.{Add, Sub, Mul, Less, Equal}
use Rattle.rx_syntax.specs.declared.token.Keyword.{Keyword}
use Rattle.rx_syntax.specs.declared.token.Keyword.TheVariants as keywords
use Rattle.rx_syntax.specs.declared.token.Sign.{Sign}
use Rattle.rx_syntax.specs.declared.token.Sign.TheVariants.{OpenBrace, CloseBrace, OpenParen, CloseParen, OpenSquare, CloseSquare}
use Rattle.rx_syntax.specs.declared.token.Sign.TheVariants.{Equals, Semicolon, Comma}
use Rattle.rx_syntax.specs.declared.token.Token.{Token}
use Rattle.rx_syntax.specs.declared.token.Token.TheVariants.{Key, Called, Number, Oper, Mark, Bad}
use Rattle.rx_syntax.specs.Lexical.{most}

-- the letters of a keyword
abbrev pub keyword_text : Keyword → List ℕ
keyword_text keywords.Set = codes "set"
keyword_text keywords.New = codes "new"
keyword_text keywords.Get = codes "get"
keyword_text keywords.Put = codes "put"
keyword_text keywords.Forget = codes "forget"
keyword_text keywords.Print = codes "print"
keyword_text keywords.Throw = codes "throw"
keyword_text keywords.Async = codes "async"
keyword_text keywords.At = codes "at"
keyword_text keywords.Finish = codes "finish"
keyword_text keywords.If = codes "if"
keyword_text keywords.Else = codes "else"
keyword_text keywords.Repeat = codes "repeat"
keyword_text keywords.Try = codes "try"
keyword_text keywords.Catch = codes "catch"
keyword_text keywords.Dead = codes "dead"
keyword_text keywords.Here = codes "here"
keyword_text keywords.Census = codes "census"

-- the bytes of an operation's sign
abbrev pub op_text : Op → List ℕ
op_text Add = codes "+"
op_text Sub = codes "-"
op_text Mul = codes "*"
op_text Less = codes "<"
op_text Equal = codes "=="

-- the bytes of another sign
abbrev pub sign_text : Sign → List ℕ
sign_text OpenBrace = codes "{"
sign_text CloseBrace = codes "}"
sign_text OpenParen = codes "("
sign_text CloseParen = codes ")"
sign_text OpenSquare = codes "["
sign_text CloseSquare = codes "]"
sign_text Equals = codes "="
sign_text Semicolon = codes ";"
sign_text Comma = codes ","

-- the bytes of a name, and none where there is no such name
abbrev pub name_text : Option (List ℕ) → List ℕ
name_text None = []
name_text (Some name) = name

-- the bytes of a token; a bad one has none
abbrev pub token_text : List (List ℕ) → Token → List ℕ
token_text names (Key k) = keyword_text k
token_text names (Called n) = name_text (slice_get names n)
token_text names (Number n) = number_text n
token_text names (Oper o) = op_text o
token_text names (Mark s) = sign_text s
token_text names Bad = []

-- a token after the first, with its blank
abbrev pub spaced : List (List ℕ) → Token → List ℕ
spaced names t = 32 ∷ token_text names t

-- the tokens with one blank between two
abbrev pub with_blanks : List (List ℕ) → List Token → List ℕ
with_blanks names [] = []
with_blanks names (t ∷ ts) = token_text names t ++ flat_map (spaced names) ts

-- tokens that bytes can spell: no bad one, and numbers from 0 to the greatest
abbrev pub AreSpelled : List Token → Type 0
AreSpelled [] = Unit {0}
AreSpelled (Number (pos n) ∷ ts) = (n ≤ most) × AreSpelled ts
AreSpelled (Number _ ∷ ts) = ⊥
AreSpelled (Bad ∷ ts) = ⊥
AreSpelled (t ∷ ts) = AreSpelled ts
