-- The tokens of bytes with their starts.
use Rattle.std.specs.Prelude.{◌≡◌, ◌≢◌, ℕ, ◌+◌, List, [], ◌∷◌, length, false, Some, None}
use Rattle.rx_syntax.specs.declared.token.Token.{Token}
use Rattle.rx_syntax.specs.declared.token.Token.TheVariants.{Bad}
use Rattle.rx_syntax.specs.declared.token.Lexeme.{Lexeme}
use Rattle.rx_syntax.specs.Lexical.{skipped, token_at}
use Rattle.rx_syntax.specs.Tokens.{lexeme_of}

-- The tokens of the bytes that are left of n, up to the first bad one, which is among them, each with its start; the end of input
-- has a start too.
abbrev pub Scans : List (List ℕ) → ℕ → List ℕ → List Token → List ℕ → Type 0
Scans names n bytes [] starts = (skipped false bytes ≡ []) × (starts ≡ n ∷ [])
Scans names n bytes (t ∷ ts) [] = ⊥
Scans names n bytes (Bad ∷ ts) (at ∷ starts) =
    (ts ≡ []) × (starts ≡ n ∷ []) × (skipped false bytes ≢ []) × (token_at (skipped false bytes) ≡ None)
    × (at + length (skipped false bytes) ≡ n)
Scans names n bytes (t ∷ ts) (at ∷ starts) =
    (x : Lexeme) × (after : List ℕ) × (lexeme_of names t ≡ Some x) × (token_at (skipped false bytes) ≡ Some (x, after))
    × (at + length (skipped false bytes) ≡ n) × Scans names n after ts starts
