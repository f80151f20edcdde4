-- A table of names, which finds the number of each.
use Rattle.std.specs.Prelude.{◌≡◌, ℕ, ◌+◌, ◌<◌, List, [], ◌∷◌, ◌++◌, map, length, Some, slice_get, ◌⊎◌}
use Rattle.rx_syntax.specs.declared.names.NameTable.{NameTable}
use Rattle.rx_syntax.specs.declared.token.Token.{Token}
use Rattle.rx_syntax.specs.declared.token.Token.TheVariants.{Called}
use Rattle.rx_syntax.specs.declared.token.Lexeme.{Lexeme}
use Rattle.rx_syntax.specs.Lexical.{padded}
use Rattle.rx_syntax.specs.Tokens.{IsName, AreDistinct, lexeme_of}
use Rattle.rx_syntax.specs.Tables.{names_of}

-- each name is one, none stands twice, and the table has each filled up
pub record IsTable (t : NameTable) : Type 0 where
  pub filled : t.filled.keys ≡ map padded (names_of t.names)
  pub are_names : (i : ℕ) (name : List ℕ) → slice_get (names_of t.names) i ≡ Some name → IsName name
  pub distinct : AreDistinct (names_of t.names)

-- a name has a number of before, or goes last with the next one
abbrev pub Numbers : List (List ℕ) → ℕ → List (List ℕ) → Type 0
Numbers old n new = ((n < length old) × (new ≡ old)) ⊎ ((n ≡ length old) × ((name : List ℕ) × (new ≡ old ++ name ∷ [])))

-- how many names stand up to a token, where this many stand before it
abbrev pub NamesUpTo : ℕ → Token → ℕ → Type 0
NamesUpTo old (Called n) new = ((n < old) × (new ≡ old)) ⊎ ((n ≡ old) × (new ≡ old + 1))
NamesUpTo old _ new = new ≡ old

-- the token spells so with the new names, which begin with the old
pub record IsNumbered (old : List (List ℕ)) (lexeme : Lexeme) (t : Token) (new : List (List ℕ)) : Type 0 where
  pub spelled : lexeme_of new t ≡ Some lexeme
  pub counts : NamesUpTo (length old) t (length new)
  pub more : List (List ℕ)
  pub grows : new ≡ old ++ more
