-- The names that a script mentions, by number.
use Rattle.std.specs.Prelude.{◌≡◌, ℕ, ◌<◌, List, length, ◌⊎◌}
use Rattle.rx_rules.specs.Code.{Expr, Num, Name, Here, Bin, Stmt, SetTo, New, Get, Put, Forget, Census, Print, Throw, Async, AtAsync, At}
use Rattle.rx_rules.specs.Code.{Finish, If, Repeat, Try, Block, Nothing, Then}
use Rattle.rx_syntax.specs.Tokens.{AreNames}
use Rattle.rx_syntax.specs.Grammar.{spellings}

-- an expression uses a name
abbrev pub Uses : ℕ → Expr → Type 0
Uses n (Num z) = ⊥
Uses n (Name m) = n ≡ m
Uses n Here = ⊥
Uses n (Bin op left right) = Uses n left ⊎ Uses n right

-- a statement and a block mention a name
abbrev mutual
  pub StmtMentions : ℕ → Stmt → Type 0
  StmtMentions n (SetTo name value) = (n ≡ name) ⊎ Uses n value
  StmtMentions n (New name words) = n ≡ name
  StmtMentions n (Get name target index) = (n ≡ name) ⊎ ((n ≡ target) ⊎ Uses n index)
  StmtMentions n (Put target index value) = (n ≡ target) ⊎ (Uses n index ⊎ Uses n value)
  StmtMentions n (Forget target) = n ≡ target
  StmtMentions n (Census name) = n ≡ name
  StmtMentions n (Print value) = Uses n value
  StmtMentions n (Throw value) = Uses n value
  StmtMentions n (Async body) = Mentions n body
  StmtMentions n (AtAsync place body) = Uses n place ⊎ Mentions n body
  StmtMentions n (At place body) = Uses n place ⊎ Mentions n body
  StmtMentions n (Finish body) = Mentions n body
  StmtMentions n (If test first other) = Uses n test ⊎ (Mentions n first ⊎ Mentions n other)
  StmtMentions n (Repeat times body) = Mentions n body
  StmtMentions n (Try body dead_only handler) = Mentions n body ⊎ Mentions n handler

  pub Mentions : ℕ → Block → Type 0
  Mentions n Nothing = ⊥
  Mentions n (Then t ts) = StmtMentions n t ⊎ Mentions n ts

-- a script mentions exactly the numbers below the count of its names
abbrev pub NamesAreNumbered : Type 0
NamesAreNumbered =
    (names : List (List ℕ)) (code : Block) → AreNames names (spellings code)
    → (n : ℕ) → (Mentions n code → n < length names) × (n < length names → Mentions n code)
