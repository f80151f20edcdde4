-- The open blocks of a script that is being read, and how one item more changes them.
use Rattle.std.specs.Prelude.{List, [], ◌∷◌, Bool, Option, Some, None, option_and_then}
use Rattle.rx_rules.specs.Code.{Expr, Stmt, Block, Nothing, Then, Async, AtAsync, At, Finish, If, Repeat, Try}
use Rattle.rx_script.specs.Inside.Items.{Opener, ByAsync, ByAtAsync, ByAt, ByFinish, ByIf, ByRepeat, ByTry, Item, Whole, Open, Close, Else}
use Rattle.rx_script.specs.Inside.Items.{Catch, Mode, Outermost, Inside, AfterFirst, AfterBody}

-- one statement more at the end
abbrev pub added : Block → Stmt → Block
added Nothing t = Then t Nothing
added (Then u us) t = Then u (added us t)

-- what an open block belongs to: the front of a statement, or that and its first block
pub data Frame : Type 0 where
  Fore : Opener → Frame
  Other : Expr → Block → Frame
  Handler : Block → Bool → Frame

-- a first block that is whole and must be followed by a second
pub data Waits : Type 0 where
  Free : Waits
  ForElse : Expr → Block → Waits
  ForCatch : Block → Waits

-- the statements before an open block and what it belongs to, the innermost first, the innermost statements so far, and what waits there
pub record BlocksRead : Type 0 where
  pub outer : List (Block × Frame)
  pub so_far : Block
  pub waits : Waits

abbrev pub free : List (Block × Frame) → Block → BlocksRead
free outer ts = record { outer = outer; so_far = ts; waits = Free }

-- the innermost block with this front is whole
abbrev pub ended : List (Block × Frame) → Block → Frame → Block → BlocksRead
ended outer ts (Fore ByAsync) b = free outer (added ts (Async b))
ended outer ts (Fore (ByAtAsync e)) b = free outer (added ts (AtAsync e b))
ended outer ts (Fore (ByAt e)) b = free outer (added ts (At e b))
ended outer ts (Fore ByFinish) b = free outer (added ts (Finish b))
ended outer ts (Fore (ByIf e)) b = record { outer = outer; so_far = ts; waits = ForElse e b }
ended outer ts (Fore (ByRepeat n)) b = free outer (added ts (Repeat n b))
ended outer ts (Fore ByTry) b = record { outer = outer; so_far = ts; waits = ForCatch b }
ended outer ts (Other e a) b = free outer (added ts (If e a b))
ended outer ts (Handler a d) b = free outer (added ts (Try a d b))

abbrev pub closed : List (Block × Frame) → Block → Option BlocksRead
closed [] b = None
closed (f ∷ outer) b = Some (ended outer f.0 f.1 b)

abbrev pub item_stepped : List (Block × Frame) → Block → Waits → Item → Option BlocksRead
item_stepped outer ts Free (Whole s) = Some (free outer (added ts s))
item_stepped outer ts Free (Open o) = Some (free ((ts, Fore o) ∷ outer) Nothing)
item_stepped outer ts Free Close = closed outer ts
item_stepped outer ts (ForElse e a) Else = Some (free ((ts, Other e a) ∷ outer) Nothing)
item_stepped outer ts (ForCatch a) (Catch d) = Some (free ((ts, Handler a d) ∷ outer) Nothing)
item_stepped outer ts _ _ = None

-- one item more, where it may stand
abbrev pub step : BlocksRead → Item → Option BlocksRead
step s x = item_stepped s.outer s.so_far s.waits x

abbrev pub items_run : BlocksRead → List Item → Option BlocksRead
items_run s [] = Some s
items_run s (x ∷ xs) = option_and_then (λ t. items_run t xs) (step s x)

abbrev pub mode_in : Waits → List (Block × Frame) → Mode
mode_in Free [] = Outermost
mode_in Free (f ∷ outer) = Inside
mode_in (ForElse e a) outer = AfterFirst
mode_in (ForCatch a) outer = AfterBody

abbrev pub mode : BlocksRead → Mode
mode s = mode_in s.waits s.outer
