-- The first token that can't go on.
use Rattle.std.specs.Prelude.{◌≡◌, List, [], ◌∷◌, ◌++◌}
use Rattle.rx_syntax.specs.declared.token.Token.{Token}
use Rattle.rx_rules.specs.Code.{Block}
use Rattle.rx_syntax.specs.Grammar.{spellings, AllInRange}

-- the tokens begin a script
pub record BeginsScript (front : List Token) : Type 0 where
  pub rest : List Token
  pub script : Block
  pub fits : AllInRange script
  pub whole : front ++ rest ≡ spellings script

-- What is left from the first token that can't go on: the tokens before it begin a script, and no script begins with them and it.
-- Where none is left, the tokens are no script.
pub record IsPlace (tokens bad : List Token) : Type 0 where
  pub front : List Token
  pub whole : tokens ≡ front ++ bad
  pub begins : BeginsScript front
  pub stops : (b : Token) (rest more : List Token) → bad ≡ b ∷ rest → (ts : Block) → AllInRange ts → front ++ b ∷ more ≡ spellings ts → ⊥
  pub at_end : bad ≡ [] → (ts : Block) → AllInRange ts → tokens ≡ spellings ts → ⊥
