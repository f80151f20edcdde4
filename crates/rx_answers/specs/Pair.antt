-- The text of a script and a trace.
use Rattle.std.specs.Prelude.{◌≡◌, ℕ, ◌≤◌, List, ◌++◌, length, codes}
use Rattle.rx_text.specs.Numbers.{natural_text}

-- the first line: how many bytes the script has
abbrev pub first_line : ℕ → List ℕ
first_line size = codes "rx10 pair " ++ natural_text size ++ codes "\n"

-- The bytes are a pair: a first line, a script of so many bytes, at most 65,536, and the text of a trace to the end. What the script
-- and the trace are is not asked here.
pub record IsPair (bytes script trace : List ℕ) : Type 0 where
  pub short : length script ≤ 65536
  pub whole : bytes ≡ first_line (length script) ++ (script ++ trace)

-- the bytes are a first line with this number, and this rest
pub record IsHead (bytes : List ℕ) (size : ℕ) (rest : List ℕ) : Type 0 where
  pub short : size ≤ 65536
  pub whole : bytes ≡ first_line size ++ rest

-- bytes are the pair of one script and one trace at most
abbrev pub PartsAreOne : Type 0
PartsAreOne =
    (bytes script trace other more : List ℕ) → IsPair bytes script trace → IsPair bytes other more
    → (script ≡ other) × (trace ≡ more)

-- a pair whose script is `print 7;`
abbrev pub WorkedPair : Type 0
WorkedPair = IsPair (codes "rx10 pair 8\nprint 7;rx10 trace 2\n") (codes "print 7;") (codes "rx10 trace 2\n")
