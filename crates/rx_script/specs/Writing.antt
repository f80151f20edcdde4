-- How a script is written.
use Rattle.std.specs.Prelude.{ℕ, List, [], ◌∷◌, ◌++◌}
use Rattle.rx_rules.specs.Code.{Block}
use Rattle.rx_syntax.specs.Grammar.{spellings, AllInRange, IsScriptOf}
use Rattle.rx_syntax.specs.Tokens.{AreNames}
use Rattle.rx_syntax.specs.Texts.{with_blanks, AreSpelled}

-- the text of a script with these names: its tokens and a newline
abbrev pub script_text : List (List ℕ) → Block → List ℕ
script_text names b = with_blanks names (spellings b) ++ 10 ∷ []

-- what was written is a script with the same names and the same tree
abbrev pub WrittenReadsBack : Type 0
WrittenReadsBack =
    (names : List (List ℕ)) (b : Block) → AreNames names (spellings b) → AllInRange b → AreSpelled (spellings b)
    → IsScriptOf names (script_text names b) b

-- the tokens of a script's bytes are such tokens
abbrev pub ScriptsAreSpelled : Type 0
ScriptsAreSpelled = (names : List (List ℕ)) (bytes : List ℕ) (b : Block) → IsScriptOf names bytes b → AreSpelled (spellings b)
