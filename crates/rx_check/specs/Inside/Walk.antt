-- How a script is gone through: what a statement fails, by the statements before it.
use Rattle.std.specs.Prelude.{◌≡◌, ℕ, zero, suc, ◌+◌, ◌*◌, nat_lt, nat_le, ◌==◌, Bool, false, not, ◌&&◌, ◌||◌, List, [], ◌∷◌, ◌++◌}
use Rattle.std.specs.Prelude.{length, map, Option, Some, None, option_map, is_some, Result, Ok, Err, if◌then◌else◌}
use Rattle.std.specs.List.{list_all, list_any}
use Rattle.std.proofs.Common.{max}
use Rattle.rx_rules.specs.Code.{Expr, Num, Name, Here, Bin}
use Rattle.rx_syntax.specs.Shape.{ExprStands}
use Rattle.rx_syntax.specs.declared.nodes.NameId.{NameId}
use Rattle.rx_syntax.specs.declared.nodes.ExprId.{ExprId}
use Rattle.rx_syntax.specs.declared.nodes.Expr.{Expr as Part}
use Rattle.rx_syntax.specs.declared.nodes.Stmt.{Stmt as Node}
use Rattle.rx_syntax.specs.declared.nodes.Stmt.TheVariants.{Set as SetNode, New as NewNode, Get as GetNode, Put as PutNode}
use Rattle.rx_syntax.specs.declared.nodes.Stmt.TheVariants.{Forget as ForgetNode, Census as CensusNode, Print as PrintNode}
use Rattle.rx_syntax.specs.declared.nodes.Stmt.TheVariants.{Throw as ThrowNode, Async as AsyncNode, AtAsync as AtAsyncNode}
use Rattle.rx_syntax.specs.declared.nodes.Stmt.TheVariants.{At as AtNode, Finish as FinishNode, If as IfNode, Repeat as RepeatNode}
use Rattle.rx_syntax.specs.declared.nodes.Stmt.TheVariants.{Try as TryNode}
use Rattle.rx_base.specs.Lists.{has}
use Rattle.rx_check.specs.Rules.{Kind, ANumber, AReference, pairs_in, names_of_all, exprs_of, targets_of, assigned, Sight}
use Rattle.rx_check.specs.Rules.{same_kind, is_kind, fails_known, fails_depth}
use Rattle.rx_check.specs.declared.names.Kind.{Kind as Made}
use Rattle.rx_check.specs.declared.names.Kind.TheVariants.{Number as MadeNumber, Reference as MadeReference}
use Rattle.rx_check.specs.declared.names.Seen.{Seen}
use Rattle.rx_check.specs.declared.parts.Parts.{Parts}
use Rattle.rx_check.specs.declared.parts.Bodies.{Bodies}
use Rattle.rx_check.specs.declared.parts.Bodies.TheVariants.{No as NoBody, One as OneBody, Two as TwoBodies}
use Rattle.rx_check.specs.declared.uses.Uses.{Uses}
use Rattle.rx_check.specs.declared.uses.Part.{Part as Waiting}
use Rattle.rx_check.specs.declared.walk.Walk.{Walk}

-- the kind of a name among those that have been assigned
abbrev pub kind_in : List (ℕ × Kind) → ℕ → Option Kind
kind_in [] n = None
kind_in (x ∷ xs) n = if x.0 == n then Some x.1 else kind_in xs n

-- the names assigned so far with their kinds, in order, and how many statements were gone through
pub record Sofar : Type 0 where
  pub seen : List (ℕ × Kind)
  pub count : ℕ

-- the rules, by what was assigned before the statement
abbrev pub differs : Kind → Option Kind → Bool
differs k (Some l) = not (same_kind k l)
differs k None = false

abbrev pub gets_other_kind : List (ℕ × Kind) → Option (ℕ × Kind) → Bool
gets_other_kind seen None = false
gets_other_kind seen (Some x) = differs x.1 (kind_in seen x.0)

abbrev pub is_one_more : List (ℕ × Kind) → Option (ℕ × Kind) → Bool
is_one_more seen None = false
is_one_more seen (Some x) = nat_le 32 (length seen) && not (is_some (kind_in seen x.0))

abbrev pub mistakes_kind : List (ℕ × Kind) → Sight → Bool
mistakes_kind seen s =
    not (list_all (λ n. not (is_kind AReference (kind_in seen n))) (names_of_all (exprs_of s.stmt)))
    || not (list_all (λ n. not (is_kind ANumber (kind_in seen n))) (targets_of s.stmt))
    || gets_other_kind seen (assigned s.stmt)

abbrev pub rule_with : List (ℕ × Kind) → Sight → Option ℕ
rule_with seen s =
    if fails_known s then Some 1 else (
    if mistakes_kind seen s then Some 2 else (
    if fails_depth s then Some 3 else (
    if is_one_more seen (assigned s.stmt) then Some 4 else None)))

-- what has been assigned after a statement
abbrev pub seen_with : Option (ℕ × Kind) → List (ℕ × Kind) → List (ℕ × Kind)
seen_with (Some x) seen = if is_some (kind_in seen x.0) then seen else seen ++ x ∷ []
seen_with None seen = seen

abbrev pub noted : Option (ℕ × Kind) → Sofar → Sofar
noted a st = record { seen = seen_with a st.seen; count = suc st.count }

abbrev pub sight_stepped : Option ℕ → Option (ℕ × Kind) → Sofar → Result Sofar (ℕ × ℕ)
sight_stepped (Some rule) a st = Err (rule, st.count)
sight_stepped None a st = Ok (noted a st)

abbrev pub and_on : Result Sofar (ℕ × ℕ) → (Sofar → Result Sofar (ℕ × ℕ)) → Result Sofar (ℕ × ℕ)
and_on (Ok st) f = f st
and_on (Err e) f = Err e

-- the statements are gone through up to the first that fails a rule
abbrev pub sights_run : Sofar → List Sight → Result Sofar (ℕ × ℕ)
sights_run st [] = Ok st
sights_run st (s ∷ ss) = and_on (sight_stepped (rule_with st.seen s) (assigned s.stmt) st) (λ next. sights_run next ss)

-- what the code's values mean
abbrev pub kind_as : Made → Kind
kind_as MadeNumber = ANumber
kind_as MadeReference = AReference

abbrev pub seen_as : Seen → ℕ × Kind
seen_as s = (s.name.0, kind_as s.kind)

abbrev pub seen_all : List Seen → List (ℕ × Kind)
seen_all ss = map seen_as ss

-- a name is among these
abbrev pub is_in : ℕ → List NameId → Bool
is_in n ns = list_any (λ m. n == m.0) ns

abbrev pub sofar_of : Walk → Sofar
sofar_of w = record { seen = seen_all w.seen.items; count = w.count }

-- the code's names are those that are known
abbrev pub KnowsNames : List NameId → List ℕ → Type 0
KnowsNames ns known = (n : ℕ) → is_in n ns ≡ has n known

-- the parts of a statement
abbrev pub parts_of : Node → Parts
parts_of (SetNode name value) = record {
  first = Some value;
  second = None;
  target = None;
  assigned = Some (record { name = name; kind = MadeNumber });
}
parts_of (NewNode name words) = record {
  first = None;
  second = None;
  target = None;
  assigned = Some (record { name = name; kind = MadeReference });
}
parts_of (GetNode name target index) = record {
  first = Some index;
  second = None;
  target = Some target;
  assigned = Some (record { name = name; kind = MadeNumber });
}
parts_of (PutNode target index value) = record { first = Some index; second = Some value; target = Some target; assigned = None }
parts_of (ForgetNode target) = record { first = None; second = None; target = Some target; assigned = None }
parts_of (CensusNode name) = record {
  first = None;
  second = None;
  target = None;
  assigned = Some (record { name = name; kind = MadeNumber });
}
parts_of (PrintNode value) = record { first = Some value; second = None; target = None; assigned = None }
parts_of (ThrowNode value) = record { first = Some value; second = None; target = None; assigned = None }
parts_of (AtAsyncNode place body) = record { first = Some place; second = None; target = None; assigned = None }
parts_of (AtNode place body) = record { first = Some place; second = None; target = None; assigned = None }
parts_of (IfNode test first other) = record { first = Some test; second = None; target = None; assigned = None }
parts_of _ = record { first = None; second = None; target = None; assigned = None }

abbrev pub bodies_of : Node → Bodies
bodies_of (AsyncNode body) = OneBody body
bodies_of (AtAsyncNode place body) = OneBody body
bodies_of (AtNode place body) = OneBody body
bodies_of (FinishNode body) = OneBody body
bodies_of (IfNode test first other) = TwoBodies first other
bodies_of (RepeatNode times body) = OneBody body
bodies_of (TryNode body dead_only handler) = TwoBodies body handler
bodies_of _ = NoBody

-- the work of a statement, by the work of its blocks
abbrev pub work_with : Node → ℕ → ℕ → ℕ
work_with (AsyncNode body) m n = 1 + m
work_with (AtAsyncNode place body) m n = 1 + m
work_with (AtNode place body) m n = 1 + m
work_with (FinishNode body) m n = 1 + m
work_with (IfNode test first other) m n = 1 + max m n
work_with (RepeatNode times body) m n = 1 + times * (1 + m)
work_with (TryNode body dead_only handler) m n = 1 + m + n
work_with _ m n = 1

-- a number above 100,000 counts as 100,001
abbrev pub cap : ℕ → ℕ
cap n = if nat_lt 100000 n then 100001 else n

-- a name of an expression passes a test
abbrev pub any_name : (ℕ → Bool) → Expr → Bool
any_name test (Num z) = false
any_name test (Name n) = test n
any_name test Here = false
any_name test (Bin op l r) = any_name test l || any_name test r

abbrev pub join : Uses → Uses → Uses
join a b = record { unknown = a.unknown || b.unknown; reference = a.reference || b.reference; deep = a.deep || b.deep }

abbrev pub no_uses : Uses
no_uses = record { unknown = false; reference = false; deep = false }

abbrev pub is_unknown : Walk → ℕ → Bool
is_unknown w n = not (is_in n w.known.items)

abbrev pub is_of_kind : Kind → Walk → ℕ → Bool
is_of_kind k w n = is_kind k (kind_in (seen_all w.seen.items) n)

-- what a name in an expression uses
abbrev pub name_uses : Walk → ℕ → Uses
name_uses w n = record { unknown = is_unknown w n; reference = is_of_kind AReference w n; deep = false }

-- what a pair of parentheses uses, where so many may stand there
abbrev pub pair_uses : ℕ → Uses
pair_uses pairs = record { unknown = false; reference = false; deep = pairs == 0 }

-- what an expression uses, where it may have so many pairs in one another
abbrev pub uses_in : Walk → ℕ → Expr → Uses
uses_in w pairs e = record {
  unknown = any_name (is_unknown w) e;
  reference = any_name (is_of_kind AReference w) e;
  deep = nat_lt pairs (pairs_in e);
}

-- the parts of expressions that wait use this together
abbrev pub Yields : Walk → List Part → List Waiting → Uses → Type 0
Yields w es [] u = u ≡ no_uses
Yields w es (p ∷ ps) u = (e : Expr) × (v : Uses) × ExprStands es p.id e × (u ≡ join (uses_in w p.pairs e) v) × Yields w es ps v

-- what an expression that is there or not uses
abbrev pub OptionStands : List Part → Option ExprId → List Expr → Type 0
OptionStands es None [] = Unit {0}
OptionStands es (Some i) (e ∷ []) = ExprStands es i e
OptionStands es _ _ = ⊥

abbrev pub uses_all : Walk → List Expr → Uses
uses_all w [] = no_uses
uses_all w (e ∷ es) = join (uses_in w 32 e) (uses_all w es)

abbrev pub any_target : (ℕ → Bool) → Option NameId → Bool
any_target test None = false
any_target test (Some n) = test n.0

-- the least rule that a statement of these parts fails
abbrev pub rule_from : Walk → Uses → Option NameId → Option Seen → ℕ → Option ℕ
rule_from w u target a depth =
    if u.unknown || any_target (is_unknown w) target then Some 1 else (
    if u.reference || any_target (is_of_kind ANumber w) target
    || gets_other_kind (seen_all w.seen.items) (option_map seen_as a) then Some 2 else (
    if nat_lt 32 depth || u.deep then Some 3 else (
    if is_one_more (seen_all w.seen.items) (option_map seen_as a) then Some 4 else None)))

-- what a part that waits costs: more than its operands together
abbrev pub weight : ℕ → ℕ
weight zero = 1
weight (suc i) = 1 + (weight i + weight i)

abbrev pub weights : List Waiting → ℕ
weights [] = 0
weights (p ∷ ps) = weight p.id.0 + weights ps

-- the names that are known after a statement
abbrev pub known_with : Option Seen → List NameId → List NameId
known_with None ns = ns
known_with (Some s) ns = if is_in s.name.0 ns then ns else ns ++ s.name ∷ []

-- the names that were known are still the first ones
abbrev pub Extends : List NameId → List NameId → Type 0
Extends old new = (more : List NameId) × (new ≡ old ++ more)
