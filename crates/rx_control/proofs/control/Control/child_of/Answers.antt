use Rattle.std.proofs.Common.{◌≡◌, ◌∙◌}
use Rattle.rx_rules.proofs.Common.{Stmt, Block, stmt_child}
use Rattle.rx_syntax.specs.Shape.{StmtIs}
use Rattle.rx_control.specs.declared.control.Control.{Control}
use Rattle.rx_control.specs.Stands.{StandsFor}
use Rattle.rx_control.specs.Inside.Front.{PositionStands}
use Rattle.rx_control.proofs.Words.{ok-then}
use Rattle.rx_control.proofs.control.Control.child_of.Goals as goal

pub born-requires : goal.born-requires
born-requires c = let r = c.requires in (r.0, c.at_hand.ensures r.0 r.1 r.2)

pub returns : goal.returns
returns c =
    let s = c.args.script.now in
    let P : Control → Type 0 = λ d. (t : Stmt) → StmtIs s c.at_hand.result t → StandsFor s d (stmt_child t c.args.path) × (d.vars ≡ c.in_ok-vars.vars) in
    let Q : Control → Type 0 = λ d. (t : Stmt) (more : Block) → PositionStands s c.args.block c.args.next t more → StandsFor s d (stmt_child t c.args.path) × (d.vars ≡ c.args.self.now.vars) in
    ok-then c.born.result P Q c.born.ensures
    (λ d h t more a. let q = h t (c.at_hand.ensures t more a) in (q.0, q.1 ∙ c.in_ok-vars.ensures))
