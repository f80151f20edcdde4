-- The census at the front, and the name that it gives the number of places.
use Rattle.std.proofs.Common.{◌≡◌, ℕ, suc, List, ◌∷◌, ◌++◌, Option, Some, None, refl, ap, sym, ◌∙◌, subst, option_to_list, option_map}
use Rattle.std.proofs.lemmas.Option.{none-some}
use Rattle.rx_rules.proofs.Common.{Stmt, Census, Vars, Term, Run, Does, Counts, does, stmt_does, begins, at}
use Rattle.rx_rules.proofs.StepRules.{StepRule, counts, asks_in_try, asks_in_body, rule_of}
use Rattle.rx_rules.specs.Terms.{Front, front}
use Rattle.rx_syntax.specs.declared.nodes.BlockId.{BlockId}
use Rattle.rx_syntax.specs.declared.nodes.NameId.{NameId}
use Rattle.rx_syntax.specs.declared.nodes.Stmt.{Stmt as Node}
use Rattle.rx_syntax.specs.declared.nodes.Stmt.TheVariants.{Census as CensusNode}
use Rattle.rx_syntax.specs.Shape.{Shape, StmtIs}
use Rattle.rx_history.specs.Next.{next_of}
use Rattle.rx_control.specs.Levels.{Level, More, seq}
use Rattle.rx_history.specs.declared.step.Next.TheVariants.{Book}
use Rattle.rx_history.specs.declared.step.Want.TheVariants.{Census as CensusWanted}
use Rattle.rx_control.specs.declared.frame.Frame.{Frame}
use Rattle.rx_control.specs.declared.control.Control.{Control}
use Rattle.rx_control.specs.Stands.{path_of}
use Rattle.rx_control.specs.Inside.Front.{lifted, levels_opened, AtStatement}
use Rattle.rx_control.proofs.Front.{next-lifted}
use Rattle.rx_control.proofs.NextIs.{stmt-does}
use Rattle.rx_plan.proofs.Requests.{asks_census}

-- where a census is asked for, it is the statement at the front
abbrev IsCounted : Does → Option Front → Type 0
IsCounted (Counts name) (Some f) = f.stmt ≡ Census name
IsCounted (Counts name) None = ⊥
IsCounted _ f = Unit {0}

counted_by : {vars : Vars} {here : ℕ} {t : Term} {d : Does} → StepRule vars here t d → IsCounted d (front t)
counted_by counts = refl
counted_by (asks_in_try g a s) = counted_by s
counted_by (asks_in_body g a s) = counted_by s
counted_by _ = tt

-- a census opens nothing
pub opens-nothing : (stmt : Stmt) (name : ℕ) (x : List ℕ) (gs : List Level) → stmt ≡ Census name → levels_opened stmt x gs ≡ gs
opens-nothing stmt name x gs e = ap (λ s. levels_opened s x gs) e

a-census : (s : Shape) (node : Node) (name : ℕ) → StmtIs s node (Census name) → (k : NameId) × (node ≡ CensusNode k)
a-census s (CensusNode k) name h = (k, refl)
a-census s _ name h = absurd h

-- a node that stands for a census is one, of the same name
pub census-node : (s : Shape) (node : Node) (stmt : Stmt) (name : ℕ) → stmt ≡ Census name → StmtIs s node stmt → (k : NameId) × (node ≡ CensusNode k)
census-node s node stmt name e h = let P : Stmt → Type 0 = λ t. StmtIs s node t in a-census s node name (subst P e h)

pub census-name : (s : Shape) (node : Node) (k : NameId) (stmt : Stmt) (name : ℕ) → node ≡ CensusNode k → stmt ≡ Census name → StmtIs s node stmt → name ≡ k.0
census-name s node k stmt name e f h =
    let P : Node → Type 0 = λ n. StmtIs s n stmt in
    let Q : Stmt → Type 0 = λ t. StmtIs s (CensusNode k) t in subst Q f (subst P e h)

-- the census at the front
pub record IsCensus (vars : Vars) (here : ℕ) (t : Term) (stmt : Stmt) : Type 0 where
  pub name : ℕ
  pub is : does vars here t ≡ Counts name
  pub stmt_is : stmt ≡ Census name

pub census-front : (s : Shape) (c : Control) (t : Term) (below : List Frame) (block : BlockId) (next : ℕ) (part : Option ℕ) (a : AtStatement s c t below block next part) (vars : Vars) (here : ℕ) → next_of (does vars here t) ≡ Book CensusWanted → IsCensus vars here t a.stmt
census-front s c t below block next part a vars here h =
    let x = at (path_of c.base below ++ option_to_list part) next in
    let rest = seq (More a.more (path_of c.base below ++ option_to_list part) (suc next) ∷ a.others) in
    let d = stmt_does vars here a.stmt x rest in
    let e : does vars here t ≡ lifted a.others d = stmt-does s c t below block next part a vars here in
    let k = asks_census d (sym (next-lifted a.others d) ∙ sym (ap next_of e) ∙ h) in
    record { name = k.0; is = e ∙ ap (lifted a.others) k.1; stmt_is = subst (λ (z : Does). IsCounted z (front (Run a.stmt x rest))) k.1 (counted_by (rule_of vars here (Run a.stmt x rest))) }

-- where no statement is begun there is none
none-counted : (o : Option Front) (name : ℕ) → option_map (λ (f : Front). f.path) o ≡ None → IsCounted (Counts name) o → ⊥
none-counted (Some f) name e c = none-some f.path (sym e)
none-counted None name e c = c

pub census-begins : (vars : Vars) (here : ℕ) (t : Term) → begins t ≡ None → next_of (does vars here t) ≡ Book CensusWanted → ⊥
census-begins vars here t e h =
    let k = asks_census (does vars here t) h in
    none-counted (front t) k.0 e (subst (λ (z : Does). IsCounted z (front t)) k.1 (counted_by (rule_of vars here t)))
