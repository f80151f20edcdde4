use Rattle.std.proofs.Common.{◌≡◌, None, refl, sym, subst}
use Rattle.rx_rules.proofs.Common.{Stmt, Term, stmt_child, items, Empty, Block}
use Rattle.rx_syntax.specs.Shape.{StmtIs, BlockStands}
use Rattle.rx_control.specs.declared.control.Control.{Control}
use Rattle.rx_control.specs.Stands.{StandsFor}
use Rattle.rx_control.proofs.Starting.{empty-control}
use Rattle.rx_control.proofs.Words.{ok-then}
use Rattle.rx_control.proofs.birth.born.Goals as goal

pub start-requires : goal.start-requires
start-requires c = let k = c.in-Some.ensures c.args.script.now c.requires.0 c.args.path c.requires.1 in (k.0, k.1)

pub returns-in-Some : goal.returns-in-Some
returns-in-Some c =
    let s = c.args.script.now in
    let P : Control → Type 0 = λ d. (b : Block) → BlockStands s c.in-Some.body b → StandsFor s d (items b c.args.path Empty) × (d.vars ≡ c.args.vars) in
    let Q : Control → Type 0 = λ d. (t : Stmt) → StmtIs s c.args.stmt t → StandsFor s d (stmt_child t c.args.path) × (d.vars ≡ c.args.vars) in
    ok-then c.start.result P Q c.start.ensures
    (λ d h t k.
    let r = c.in-Some.ensures s t c.args.path k in
    let q = h r.0 r.1 in
    let M : Term → Type 0 = λ u. StandsFor s d u in (subst M (sym r.2) q.0, q.1))

pub returns-in-None : goal.returns-in-None
returns-in-None c t k =
    let s = c.args.script.now in
    let d : Control = record { base = c.args.path; frames = c.new.result; raised = None; vars = c.args.vars } in
    let M : Term → Type 0 = λ u. StandsFor s d u in
    (subst M (sym (c.in-None.ensures s t c.args.path k)) (empty-control s d refl c.new.ensures.items), refl)
