use Rattle.std.proofs.Common.{◌≡◌, ◌+◌, ◌∙◌, Bool, Some, sym, subst, drop}
use Rattle.rx_rules.proofs.Common.{Stmt as Tree, comes_before}
use Rattle.rx_syntax.specs.Shape.{StmtIs}
use Rattle.rx_order.specs.Inside.Parts.{item_of, WalkGoes}
use Rattle.rx_order.proofs.Positions.{before-none, before-some, before-less, before-more}
use Rattle.rx_order.proofs.Keeping.{kept-at}
use Rattle.rx_order.proofs.Ordering.{before-at, before-same, is-more}
use Rattle.rx_order.proofs.order.step.Goals as goal

pub inside-requires : goal.inside-requires
inside-requires c =
    let b = c.requires.block.0 in
    let k : (t : Tree) × StmtIs c.args.script.now c.in-Some.stmt t × (item_of b c.number_at-i.result ≡ Some t) = rw c.in-Some.is at c.stmt_at.ensures b c.requires.block.1 in
    (k.0, k.1)

pub returns-in-None : goal.returns-in-None
returns-in-None c b h =
    let x = c.args.x.now in
    let y = c.args.y.now in
    sym (before-same b x y c.args.at c.number_at-i.result c.number_at-j.result c.number_at-i.ensures c.number_at-j.ensures c.if-i-j.true ∙ before-none b c.number_at-i.result (drop (c.args.at + 1) x) (drop (c.args.at + 1) y) (rw c.in-None.is at c.stmt_at.ensures b h))

pub returns-in-Some : goal.returns-in-Some
returns-in-Some c b h =
    let x = c.args.x.now in
    let y = c.args.y.now in
    let k : (t : Tree) × StmtIs c.args.script.now c.in-Some.stmt t × (item_of b c.number_at-i.result ≡ Some t) = rw c.in-Some.is at c.stmt_at.ensures b h in
    let P : Bool → Type 0 = λ v. WalkGoes c.args.script.now (c.args.at + 1) c.inside.result v (λ d m. comes_before d (drop m x) (drop m y)) in
    let e = before-same b x y c.args.at c.number_at-i.result c.number_at-j.result c.number_at-i.ensures c.number_at-j.ensures c.if-i-j.true ∙ before-some b c.number_at-i.result (drop (c.args.at + 1) x) (drop (c.args.at + 1) y) k.0 k.2 in
    subst P (sym e) (c.inside.ensures k.0 k.1)

pub returns-then-i-j-2 : goal.returns-then-i-j-2
returns-then-i-j-2 c b h =
    let x = c.args.x.now in
    let y = c.args.y.now in
    c.is_kept.ensures b h ∙ kept-at b x c.args.at c.number_at-i.result c.number_at-i.ensures ∙ sym (before-at b x y c.args.at c.number_at-i.result c.number_at-j.result c.number_at-i.ensures c.number_at-j.ensures ∙ before-less b c.number_at-i.result (drop (c.args.at + 1) x) c.number_at-j.result (drop (c.args.at + 1) y) c.if-i-j-2.true)

pub returns-else-i-j-2 : goal.returns-else-i-j-2
returns-else-i-j-2 c b h =
    let x = c.args.x.now in
    let y = c.args.y.now in
    sym (before-at b x y c.args.at c.number_at-i.result c.number_at-j.result c.number_at-i.ensures c.number_at-j.ensures ∙ before-more b c.number_at-i.result (drop (c.args.at + 1) x) c.number_at-j.result (drop (c.args.at + 1) y) (is-more c.number_at-i.result c.number_at-j.result c.if-i-j.false c.if-i-j-2.false))
