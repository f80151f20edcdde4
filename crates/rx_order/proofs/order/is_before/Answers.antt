use Rattle.std.proofs.Common.{◌≡◌, ◌+◌, ◌≤◌, ◌∙◌, sym, ap, subst, drop, arith}
use Rattle.std.proofs.lemmas.List.{drop_all}
use Rattle.rx_rules.proofs.Common.{Block, comes_before}
use Rattle.rx_syntax.specs.Shape.{Shape, Stands, BlockStands}
use Rattle.rx_order.proofs.order.is_before.Goals as goal

pub step-requires-clause-block : goal.step-requires-clause-block
step-requires-clause-block c = let v = c.loop-at.invariant c.whole.ensures.0 c.whole.ensures.1 in (v.0, v.1)

pub returns-in-Over : goal.returns-in-Over
returns-in-Over c t h =
    let x = c.args.x.now in
    let y = c.args.y.now in
    let P : Shape → Type 0 = λ s. Stands s t in
    let v = c.loop-at.invariant t (subst P (sym c.script-script.ensures) h) in
    let k : c.in-Over.answer ≡ comes_before v.0 (drop c.loop-at.at x) (drop c.loop-at.at y) = rw c.in-Over.is at c.step.ensures v.0 v.1 in
    k ∙ sym v.2

pub loop-at-smaller : goal.loop-at-smaller
loop-at-smaller c =
    let x = c.args.x.now in
    let y = c.args.y.now in
    let v = c.loop-at.invariant c.whole.ensures.0 c.whole.ensures.1 in
    let k : (d : Block) × BlockStands c.script-script.result.now c.in-On.part.block d × (comes_before v.0 (drop c.loop-at.at x) (drop c.loop-at.at y) ≡ comes_before d (drop c.in-On.part.at x) (drop c.in-On.part.at y)) × (c.loop-at.at + 1 ≤ c.in-On.part.at) = rw c.in-On.is at c.step.ensures v.0 v.1 in
    omega (arith, k.3, c.loop-at-test.true)

pub loop-at-preserved : goal.loop-at-preserved
loop-at-preserved c t h =
    let x = c.args.x.now in
    let y = c.args.y.now in
    let v = c.loop-at.invariant t h in
    let k : (d : Block) × BlockStands c.script-script.result.now c.in-On.part.block d × (comes_before v.0 (drop c.loop-at.at x) (drop c.loop-at.at y) ≡ comes_before d (drop c.in-On.part.at x) (drop c.in-On.part.at y)) × (c.loop-at.at + 1 ≤ c.in-On.part.at) = rw c.in-On.is at c.step.ensures v.0 v.1 in
    (k.0, k.1, v.2 ∙ k.2)

pub returns : goal.returns
returns c t h =
    let x = c.args.x.now in
    let y = c.args.y.now in
    let P : Shape → Type 0 = λ s. Stands s t in
    let v = c.loop-at.invariant t (subst P (sym c.script-script.ensures) h) in
    sym (v.2 ∙ ap (λ z. comes_before v.0 z (drop c.loop-at.at y)) (drop_all c.loop-at.at x (omega (arith, c.loop-at-test.false))))
