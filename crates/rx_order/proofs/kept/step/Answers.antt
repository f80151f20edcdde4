use Rattle.std.proofs.Common.{◌≡◌, Bool, Some, sym, subst, drop}
use Rattle.rx_rules.proofs.Common.{Stmt as Tree}
use Rattle.rx_syntax.specs.Shape.{StmtIs}
use Rattle.rx_order.specs.Inside.Parts.{item_of, is_kept_along, WalkGoes}
use Rattle.rx_order.proofs.Positions.{kept-none, kept-some}
use Rattle.rx_order.proofs.kept.step.Goals as goal

pub returns-in-None : goal.returns-in-None
returns-in-None c b h = sym (kept-none b c.args.i (drop c.args.at c.args.x.now) (rw c.in-None.is at c.stmt_at.ensures b h))

pub returns-in-Some : goal.returns-in-Some
returns-in-Some c b h =
    let k : (t : Tree) × StmtIs c.args.script.now c.in-Some.stmt t × (item_of b c.args.i ≡ Some t) = rw c.in-Some.is at c.stmt_at.ensures b h in
    let P : Bool → Type 0 = λ v. WalkGoes c.args.script.now c.args.at c.from.result v (λ d k. is_kept_along d (drop k c.args.x.now)) in
    subst P (sym (kept-some b c.args.i (drop c.args.at c.args.x.now) k.0 k.2)) (c.from.ensures c.args.script.now k.0 k.1)
