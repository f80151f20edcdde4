-- In a script of the grammar each `new` asks for a word.
use Rattle.std.proofs.Common.{◌≡◌, ℕ, ◌<◌, true, false, Bool, refl, arith, nat_lt, ◌&&◌}
use Rattle.std.proofs.lemmas.Bool.Decides.{nat_tests}
use Rattle.rx_rules.proofs.Common.{Stmt, New, Async, AtAsync, At, Finish, If, Repeat, Try, Block, Nothing, Then}
use Rattle.rx_syntax.specs.Grammar.{InRange, AllInRange, may_hold}
use Rattle.rx_runs.specs.SomeWords.{MakesSome, StmtMakesSome}

some-words : (k : ℕ) → may_hold k ≡ true → 0 < k
some-words k e = by-test (nat_lt 0 k) refl e
  where
    by-test : (b : Bool) → nat_lt 0 k ≡ b → (b && nat_lt k 65537) ≡ true → 0 < k
    by-test true t f = grind (arith, nat_tests)
    by-test false t f = cc

mutual
  stmt-makes : (t : Stmt) → InRange t → StmtMakesSome t
  stmt-makes (New n k) f = some-words k f
  stmt-makes (Async b) f = makes-some b f
  stmt-makes (AtAsync e b) f = makes-some b f
  stmt-makes (At e b) f = makes-some b f
  stmt-makes (Finish b) f = makes-some b f
  stmt-makes (If e a b) f = (makes-some a f.0, makes-some b f.1)
  stmt-makes (Repeat n b) f = makes-some b f.1
  stmt-makes (Try a d b) f = (makes-some a f.0, makes-some b f.1)
  stmt-makes _ f = tt

  pub makes-some : (b : Block) → AllInRange b → MakesSome b
  makes-some Nothing f = tt
  makes-some (Then t ts) f = (stmt-makes t f.0, makes-some ts f.1)
