-- How deep a script starts tasks inside tasks.
use Rattle.std.specs.Prelude.{ℕ, ◌+◌, max}
use Rattle.rx_rules.specs.Code.{Stmt, Async, AtAsync, At, Finish, If, Repeat, Try, Block, Nothing, Then}

-- a statement that starts a task is one deeper than the task's body; others are as deep as what stands in them
abbrev mutual
  pub nest_of : Stmt → ℕ
  nest_of (Async body) = 1 + nest body
  nest_of (AtAsync place body) = 1 + nest body
  nest_of (At place body) = 1 + nest body
  nest_of (Finish body) = nest body
  nest_of (If test first other) = max (nest first) (nest other)
  nest_of (Repeat times body) = nest body
  nest_of (Try body dead_only handler) = max (nest body) (nest handler)
  nest_of _ = 0

  pub nest : Block → ℕ
  nest Nothing = 0
  nest (Then first rest) = max (nest_of first) (nest rest)
