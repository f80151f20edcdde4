-- In a script that meets the rules each step of a task is defined.
use Rattle.std.specs.Prelude.{◌≡◌, ℕ, ℤ, ◌<◌, ◌≤◌, true, List, [], Option, Some, None, length}
use Rattle.rx_base.specs.declared.ids.PlaceId.{PlaceId}
use Rattle.rx_base.specs.declared.ids.GlobalRef.{GlobalRef}
use Rattle.rx_base.specs.declared.values.Value.TheVariants.{Num as Number, Ref}
use Rattle.rx_rules.specs.declared.entries.Act.{Act}
use Rattle.rx_rules.specs.declared.events.Cell.{Cell}
use Rattle.rx_rules.specs.Code.{Block, Stmt}
use Rattle.rx_rules.specs.Terms.{Term, Empty, Run, Trying, Body, Vars, no_vars, value_of, items, Local, does}
use Rattle.rx_rules.specs.Terms.{Answer, answered, vars_after, granted, child}
use Rattle.rx_rules.specs.Plays.{Tells, Fits, brought, vars_told}
use Rattle.rx_syntax.specs.Tokens.{AreNames}
use Rattle.rx_syntax.specs.Grammar.{spellings}
use Rattle.rx_base.specs.Lists.{has}
use Rattle.rx_check.specs.Rules.{Kind, names_of_all, exprs_of, targets_of, assigned}
use Rattle.rx_check.specs.Checked.{Meets}

-- each name that the statement's expressions use has a number, its target has a reference, and there is a variable for the name
-- that it assigns
pub record IsDefined (vars : Vars) (stmt : Stmt) : Type 0 where
  pub numbers : (n : ℕ) → has n (names_of_all (exprs_of stmt)) ≡ true → (z : ℤ) × (value_of vars n ≡ Some (Number z))
  pub targets : (n : ℕ) → has n (targets_of stmt) ≡ true → (r : GlobalRef) × (value_of vars n ≡ Some (Ref r))
  pub cell : (n : ℕ) (k : Kind) → assigned stmt ≡ Some (n, k) → n < length vars.values

-- the statement that the next step begins
abbrev pub beginning : Term → Option Stmt
beginning (Run stmt x rest) = Some stmt
beginning (Trying inside dead_only handler x rest) = beginning inside
beginning (Body inside rest) = beginning inside
beginning _ = None

-- the variables and the term to which a task of the script can come, wherever it is and whatever the store and the ledger answer
pub data TermComes (code : Block) : Vars → Term → Type 0 where
  main : (places : ℕ) → TermComes code (no_vars places) (items code [] Empty)
  local : {vars left : Vars} {t after : Term} (here : ℕ) → TermComes code vars t → does vars here t ≡ Local after left
      → TermComes code left after
  stores : {vars : Vars} {t : Term} (here : PlaceId) (cell : Cell) (a : Answer) → TermComes code vars t
      → Tells (does vars here.0 t) here cell a → TermComes code (vars_after a vars) (answered a t)
  asks : {vars : Vars} {t : Term} (here : PlaceId) (act : Act) → TermComes code vars t
      → Fits here t (does vars here.0 t) act → TermComes code (vars_told (does vars here.0 t) act vars) (granted (brought act) t)
  -- a task that it starts has a copy of its variables
  starts : {vars : Vars} {t : Term} → TermComes code vars t → TermComes code vars (child t)

-- whenever a task comes to a statement, all that the statement uses is defined
abbrev pub AlwaysDefined : Type 0
AlwaysDefined =
    (code : Block) (names : List (List ℕ)) → Meets code → AreNames names (spellings code)
    → (vars : Vars) (t : Term) (stmt : Stmt) → TermComes code vars t → beginning t ≡ Some stmt → IsDefined vars stmt

-- such a script has at most 32 names
abbrev pub FewNames : Type 0
FewNames = (code : Block) (names : List (List ℕ)) → Meets code → AreNames names (spellings code) → length names ≤ 32
