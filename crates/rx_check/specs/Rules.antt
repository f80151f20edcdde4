-- The rules of the checker, and the first that fails.
use Rattle.std.specs.Prelude.{ℕ, suc, nat_lt, ◌==◌, Bool, true, false, not, ◌||◌, List, [], ◌∷◌, ◌++◌, Option, Some, None, slice_get}
use Rattle.std.specs.Prelude.{if◌then◌else◌}
use Rattle.std.specs.List.{list_all}
use Rattle.std.proofs.Common.{max}
use Rattle.rx_base.specs.Lists.{has}
use Rattle.rx_rules.specs.Code.{Expr, Num, Name, Here, Bin, Stmt, SetTo, New, Get, Put, Forget, Census, Print, Throw, Async, AtAsync, At}
use Rattle.rx_rules.specs.Code.{Finish, If, Repeat, Try, Block, Nothing, Then, work}

-- what a name holds
pub data Kind : Type 0 where
  ANumber : Kind
  AReference : Kind

-- the names that an expression uses, from left to right
abbrev pub names_in : Expr → List ℕ
names_in (Num z) = []
names_in (Name n) = n ∷ []
names_in Here = []
names_in (Bin op left right) = names_in left ++ names_in right

-- how many pairs of parentheses stand round its innermost part
abbrev pub pairs_in : Expr → ℕ
pairs_in (Bin op left right) = suc (max (pairs_in left) (pairs_in right))
pairs_in _ = 0

-- a statement's own expressions
abbrev pub exprs_of : Stmt → List Expr
exprs_of (SetTo name value) = value ∷ []
exprs_of (Get name target index) = index ∷ []
exprs_of (Put target index value) = index ∷ value ∷ []
exprs_of (Print value) = value ∷ []
exprs_of (Throw value) = value ∷ []
exprs_of (AtAsync place body) = place ∷ []
exprs_of (At place body) = place ∷ []
exprs_of (If test first other) = test ∷ []
exprs_of _ = []

-- its own target
abbrev pub targets_of : Stmt → List ℕ
targets_of (Get name target index) = target ∷ []
targets_of (Put target index value) = target ∷ []
targets_of (Forget target) = target ∷ []
targets_of _ = []

-- the name that it assigns, and the kind that it makes it
abbrev pub assigned : Stmt → Option (ℕ × Kind)
assigned (SetTo name value) = Some (name, ANumber)
assigned (New name words) = Some (name, AReference)
assigned (Get name target index) = Some (name, ANumber)
assigned (Census name) = Some (name, ANumber)
assigned _ = None

-- a statement of a script: in how many blocks in braces it stands, and which names are known there
pub record Sight : Type 0 where
  pub stmt : Stmt
  pub depth : ℕ
  pub known : List ℕ

-- the names that are known after a statement
abbrev pub learned : Option (ℕ × Kind) → List ℕ → List ℕ
learned (Some x) known = x.0 ∷ known
learned None known = known

-- the statements inside a statement, and those of a block, in the order of their first tokens
abbrev mutual
  pub inside : List ℕ → ℕ → Stmt → List Sight
  inside known depth (Async body) = sights known (suc depth) body
  inside known depth (AtAsync place body) = sights known (suc depth) body
  inside known depth (At place body) = sights known (suc depth) body
  inside known depth (Finish body) = sights known (suc depth) body
  inside known depth (If test first other) = sights known (suc depth) first ++ sights known (suc depth) other
  inside known depth (Repeat times body) = sights known (suc depth) body
  inside known depth (Try body dead_only handler) = sights known (suc depth) body ++ sights known (suc depth) handler
  inside known depth _ = []

  pub sights : List ℕ → ℕ → Block → List Sight
  sights known depth Nothing = []
  sights known depth (Then t ts) =
      record { stmt = t; depth = depth; known = known } ∷ (inside known depth t ++ sights (learned (assigned t) known) depth ts)

-- the statements of a script; the number of a statement is its place in this list
abbrev pub nodes : Block → List Sight
nodes script = sights [] 0 script

abbrev pub same_kind : Kind → Kind → Bool
same_kind ANumber ANumber = true
same_kind AReference AReference = true
same_kind _ _ = false

-- the kind that the first assignment of a name gives it
abbrev pub kind_after : Option (ℕ × Kind) → ℕ → Option Kind → Option Kind
kind_after (Some x) n later = if x.0 == n then Some x.1 else later
kind_after None n later = later

abbrev pub kind_of : List Sight → ℕ → Option Kind
kind_of [] n = None
kind_of (s ∷ ss) n = kind_after (assigned s.stmt) n (kind_of ss n)

abbrev pub is_kind : Kind → Option Kind → Bool
is_kind k (Some l) = same_kind k l
is_kind k None = false

-- the distinct names that are assigned, in the order of their first assignments, after these
abbrev pub more_names : Option (ℕ × Kind) → List ℕ → List ℕ
more_names (Some x) seen = if has x.0 seen then seen else seen ++ x.0 ∷ []
more_names None seen = seen

abbrev pub names_after : List ℕ → List Sight → List ℕ
names_after seen [] = seen
names_after seen (s ∷ ss) = names_after (more_names (assigned s.stmt) seen) ss

-- the names that a statement's expressions use
abbrev pub names_of_all : List Expr → List ℕ
names_of_all [] = []
names_of_all (e ∷ es) = names_in e ++ names_of_all es

-- rule 1: a name that is not known there is used in an expression or is a target
abbrev pub fails_known : Sight → Bool
fails_known s = not (list_all (λ n. has n s.known) (names_of_all (exprs_of s.stmt) ++ targets_of s.stmt))

-- rule 2: a reference is used in an expression, a number is a target, or a name gets another kind than its first assignment gives it
abbrev pub gets_other : List Sight → Option (ℕ × Kind) → Bool
gets_other script None = false
gets_other script (Some x) = not (is_kind x.1 (kind_of script x.0))

abbrev pub fails_kind : List Sight → Sight → Bool
fails_kind script s =
    not (list_all (λ n. not (is_kind AReference (kind_of script n))) (names_of_all (exprs_of s.stmt)))
    || not (list_all (λ n. not (is_kind ANumber (kind_of script n))) (targets_of s.stmt))
    || gets_other script (assigned s.stmt)

-- rule 3: the statement or an expression in it lies deeper than 32
abbrev pub fails_depth : Sight → Bool
fails_depth s = nat_lt 32 s.depth || not (list_all (λ e. not (nat_lt 32 (pairs_in e))) (exprs_of s.stmt))

-- rule 4: the 33rd distinct name of the script is assigned
abbrev pub is_name : Option ℕ → ℕ → Bool
is_name (Some m) n = m == n
is_name None n = false

abbrev pub fails_count : List Sight → Option (ℕ × Kind) → Bool
fails_count script None = false
fails_count script (Some x) = is_name (slice_get (names_after [] script) 32) x.0

-- the least of these rules that a statement fails
abbrev pub rule_of : List Sight → Sight → Option ℕ
rule_of script s =
    if fails_known s then Some 1 else (
    if fails_kind script s then Some 2 else (
    if fails_depth s then Some 3 else (
    if fails_count script (assigned s.stmt) then Some 4 else None)))

-- the least of the statements from number n on that fails a rule, with the rule
abbrev pub found : ℕ → Option ℕ → Option (ℕ × ℕ) → Option (ℕ × ℕ)
found n (Some rule) later = Some (rule, n)
found n None later = later

abbrev pub first_fault : List Sight → ℕ → List Sight → Option (ℕ × ℕ)
first_fault script n [] = None
first_fault script n (s ∷ ss) = found n (rule_of script s) (first_fault script (suc n) ss)

-- rule 5, with node 0, where no statement fails a rule: the work is over 100,000
abbrev pub or_work : Option (ℕ × ℕ) → ℕ → Option (ℕ × ℕ)
or_work (Some x) n = Some x
or_work None n = if nat_lt 100000 n then Some (5, 0) else None

-- the rule that fails and its node, or none where the script meets the rules
abbrev pub verdict : Block → Option (ℕ × ℕ)
verdict script = or_work (first_fault (nodes script) 0 (nodes script)) (work script)
