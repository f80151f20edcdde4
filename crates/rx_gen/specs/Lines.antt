-- The script that is generated.
use Rattle.std.specs.Prelude.{ℕ, ◌+◌, ◌%◌, zero, suc, pos, true}
use Rattle.rx_rules.specs.Code.{Num, Stmt, Print, AtAsync, Finish, Try, Block, Nothing, Then}

-- a block of one statement
abbrev pub one_statement : Stmt → Block
one_statement t = Then t Nothing

-- line i over q places: `try { finish { at A async { at B async { print I; } } } } catch dead { }`
abbrev pub line : ℕ → ℕ → Stmt
line q i = Try (one_statement (Finish (one_statement (AtAsync (Num (pos (i % q)))
    (one_statement (AtAsync (Num (pos ((i + 1) % q))) (one_statement (Print (Num (pos i)))))))))) true Nothing

-- the n lines from line i on
abbrev pub lines_from : ℕ → ℕ → ℕ → Block
lines_from q i zero = Nothing
lines_from q i (suc n) = Then (line q i) (lines_from q (i + 1) n)

-- the script of n lines over q places
abbrev pub lines : ℕ → ℕ → Block
lines q n = lines_from q 0 n
