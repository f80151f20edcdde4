-- Readers of tokens, and how they are put together.
use Rattle.std.specs.Prelude.{List, [], ◌∷◌, Result, Ok, Err, Option, Some, None}
use Rattle.rx_syntax.specs.declared.token.Token.{Token}

-- the value and what is left after it, or what is left from the token that can't go on
abbrev pub Reader : Type 0 → Type 0
Reader A = List Token → Result (A × List Token) (List Token)

abbrev pub after : {A B : Type 0} → Result (A × List Token) (List Token) → (A → Reader B) → Result (B × List Token) (List Token)
after (Ok x) f = f x.0 x.1
after (Err bad) f = Err bad

-- one reader after another
abbrev pub then : {A B : Type 0} → Reader A → (A → Reader B) → Reader B
then r f ts = after (r ts) f

-- nothing more is read
abbrev pub done : {A : Type 0} → A → Reader A
done a ts = Ok (a, ts)

abbrev pub picked : {A : Type 0} → Option (Reader A) → Token → Reader A
picked None t ts = Err (t ∷ ts)
picked (Some r) t ts = r ts

-- the first token says which reader reads what is left
abbrev pub choose : {A : Type 0} → (Token → Option (Reader A)) → Reader A
choose pick [] = Err []
choose pick (t ∷ ts) = picked (pick t) t ts
