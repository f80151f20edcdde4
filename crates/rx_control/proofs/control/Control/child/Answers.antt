use Rattle.std.proofs.Common.{◌≡◌, ℕ, List, ◌++◌, Some, ap, sym, ◌∙◌, subst, option_to_list}
use Rattle.std.proofs.lemmas.Option.{none-some}
use Rattle.rx_rules.proofs.Common.{Stmt, Block, Term, stmt_child, child, begins, at}
use Rattle.rx_syntax.specs.Shape.{Shape}
use Rattle.rx_control.specs.declared.frame.Frame.TheVariants.{Seq}
use Rattle.rx_control.specs.declared.control.Control.{Control}
use Rattle.rx_control.specs.Stands.{StandsFor, path_of}
use Rattle.rx_control.specs.Inside.Front.{PositionStands}
use Rattle.rx_control.proofs.Births.{child-statement}
use Rattle.rx_control.proofs.Standing.{at-statement}
use Rattle.rx_control.proofs.Words.{ok-then}
use Rattle.rx_control.proofs.Bound.{child-falls}
use Rattle.rx_control.proofs.control.Control.child.Goals as goal

pub child_of-requires : goal.child_of-requires
child_of-requires c =
    let r = c.requires in
    let e = c.in-Some.ensures in
    let P : Shape → Type 0 = λ s. StandsFor s c.args.self.now r.0 in
    let a = at-statement c.script-script.result.now c.args.self.now r.0 e.1.0 c.in-Some.block c.in-Some.next c.in-Some.part e.0 e.1.1 (subst P (sym c.script-script.ensures) r.2) in
    (a.stmt, a.more, a.awaits)

pub returns-clause-stands : goal.returns-clause-stands
returns-clause-stands c =
    let s = c.script-script.result.now in
    let e = c.in-Some.ensures in
    let path = c.in_ok-path-in-Some.path in
    let P : Control → Type 0 = λ d. (stmt : Stmt) (more : Block) → PositionStands s c.in-Some.block c.in-Some.next stmt more → StandsFor s d (stmt_child stmt path) × (d.vars ≡ c.args.self.now.vars) in
    let Q : Control → Type 0 = λ d. (t : Term) → StandsFor c.args.p.now.script c.args.self.now t → (x : List ℕ) → begins t ≡ Some x → StandsFor c.args.p.now.script d (child t) × (d.vars ≡ c.args.self.now.vars) in
    ok-then c.child_of.result P Q c.child_of.ensures
    (λ d h t k x b.
    let K : Shape → Type 0 = λ s. StandsFor s c.args.self.now t in
    let a = at-statement s c.args.self.now t e.1.0 c.in-Some.block c.in-Some.next c.in-Some.part e.0 e.1.1 (subst K (sym c.script-script.ensures) k) in
    let y = path_of c.args.self.now.base e.1.0 ++ option_to_list c.in-Some.part in
    let is : path ≡ at y c.in-Some.next = c.in_ok-path-in-Some.ensures e.1.0 (Seq c.in-Some.block c.in-Some.next c.in-Some.part) e.1.1 in
    let q = h a.stmt a.more a.awaits in
    let f : child t ≡ stmt_child a.stmt path = child-statement s c.args.self.now t e.1.0 c.in-Some.block c.in-Some.next c.in-Some.part a ∙ ap (stmt_child a.stmt) (sym is) in
    let M : Term → Type 0 = λ u. StandsFor s d u in
    let N : Shape → Type 0 = λ s. StandsFor s d (child t) in
    (subst N c.script-script.ensures (subst M (sym f) q.0), q.1))

pub unreachable-requires : goal.unreachable-requires
unreachable-requires c = let r = c.requires in none-some r.1 (sym (c.in-None.ensures c.args.p.now.script r.0 r.2) ∙ r.3)

pub returns-clause-steps : goal.returns-clause-steps
returns-clause-steps c t x h = child-falls t x h

pub returns-in_err-path-in-Some-clause-steps : goal.returns-in_err-path-in-Some-clause-steps
returns-in_err-path-in-Some-clause-steps c t x h = child-falls t x h
