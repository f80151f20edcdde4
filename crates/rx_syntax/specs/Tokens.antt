-- How bytes spell tokens, with the names that stand among them.
use Rattle.std.specs.Prelude.{◌≡◌, ℕ, ◌+◌, ◌<◌, List, [], ◌∷◌, Option, Some, None, option_map, slice_get, length, true, false, ◌⊎◌}
use Rattle.std.specs.List.{list_all}
use Rattle.rx_syntax.specs.declared.token.Token.{Token}
use Rattle.rx_syntax.specs.declared.token.Token.TheVariants.{Key, Called, Number, Oper, Mark, Bad}
use Rattle.rx_syntax.specs.declared.token.Lexeme.{Lexeme}
use Rattle.rx_syntax.specs.declared.token.Lexeme.TheVariants as lexemes
use Rattle.rx_syntax.specs.Lexical.{skipped, token_at, padded, is_word_byte, run_token}

-- how the bytes spell a token, where names are those of the list
abbrev pub lexeme_of : List (List ℕ) → Token → Option Lexeme
lexeme_of names (Key k) = Some (lexemes.Word k)
lexeme_of names (Called n) = option_map (λ name. lexemes.Name (padded name)) (slice_get names n)
lexeme_of names (Number n) = Some (lexemes.Number n)
lexeme_of names (Oper o) = Some (lexemes.Oper o)
lexeme_of names (Mark s) = Some (lexemes.Mark s)
lexeme_of names Bad = None

-- The bytes begin with these tokens and with blanks and comments, and go on with the rest, in front of which none stand.
abbrev pub TextBegins : List (List ℕ) → List ℕ → List Token → List ℕ → Type 0
TextBegins names bytes [] rest = skipped false bytes ≡ rest
TextBegins names bytes (t ∷ ts) rest =
    (x : Lexeme) × (after : List ℕ) × (lexeme_of names t ≡ Some x) × (token_at (skipped false bytes) ≡ Some (x, after))
    × TextBegins names after ts rest

-- names are numbered from the first number in the order of first appearance, and the last number is the next one
abbrev pub NamesInOrder : ℕ → List Token → ℕ → Type 0
NamesInOrder next [] last = next ≡ last
NamesInOrder next (Called n ∷ ts) last = ((n < next) × NamesInOrder next ts last) ⊎ ((n ≡ next) × NamesInOrder (next + 1) ts last)
NamesInOrder next (Key k ∷ ts) last = NamesInOrder next ts last
NamesInOrder next (Number n ∷ ts) last = NamesInOrder next ts last
NamesInOrder next (Oper o ∷ ts) last = NamesInOrder next ts last
NamesInOrder next (Mark s ∷ ts) last = NamesInOrder next ts last
NamesInOrder next (Bad ∷ ts) last = NamesInOrder next ts last

-- no name stands twice
abbrev pub AreDistinct : List (List ℕ) → Type 0
AreDistinct names = (i j : ℕ) (name : List ℕ) → slice_get names i ≡ Some name → slice_get names j ≡ Some name → i ≡ j

-- a word that is no keyword
pub record IsName (name : List ℕ) : Type 0 where
  pub letters : list_all is_word_byte name ≡ true
  pub token : run_token name ≡ Some (lexemes.Name (padded name))

-- the names of these tokens, by number: none stands twice, and they are numbered in the order of first appearance
pub record AreNames (names : List (List ℕ)) (ts : List Token) : Type 0 where
  pub are_names : (i : ℕ) (name : List ℕ) → slice_get names i ≡ Some name → IsName name
  pub distinct : AreDistinct names
  pub in_order : NamesInOrder 0 ts (length names)

-- the bytes are these tokens, with blanks and comments, and with these names
pub record Lexes (names : List (List ℕ)) (bytes : List ℕ) (ts : List Token) : Type 0 where
  pub begins : TextBegins names bytes ts []
  pub are_names : AreNames names ts
