use Rattle.std.proofs.Common.{◌≡◌, ◌+◌, ◌≤◌, sym, ◌∙◌, ap, drop, arith}
use Rattle.std.proofs.lemmas.List.{drop_all}
use Rattle.rx_rules.proofs.Common.{Block, is_kept_in}
use Rattle.rx_syntax.specs.Shape.{BlockStands}
use Rattle.rx_order.specs.Inside.Parts.{is_kept_along}
use Rattle.rx_order.proofs.Keeping.{kept-at}
use Rattle.rx_order.proofs.kept.is_kept.Goals as goal

pub step-requires : goal.step-requires
step-requires c = let v = c.loop-at.invariant c.requires.0 c.requires.1 in (v.0, v.1)

pub returns-in-Over : goal.returns-in-Over
returns-in-Over c b h =
    let x = c.args.x.now in
    let v = c.loop-at.invariant b h in
    let k : c.in-Over.kept ≡ is_kept_in v.0 c.number_at.result (drop (c.loop-at.at + 1) x) = rw c.in-Over.is at c.step.ensures v.0 v.1 in
    k ∙ sym (kept-at v.0 x c.loop-at.at c.number_at.result c.number_at.ensures) ∙ sym v.2

pub loop-at-smaller : goal.loop-at-smaller
loop-at-smaller c =
    let x = c.args.x.now in
    let v = c.loop-at.invariant c.requires.0 c.requires.1 in
    let k : (d : Block) × BlockStands c.args.script.now c.in-On.part.block d × (is_kept_in v.0 c.number_at.result (drop (c.loop-at.at + 1) x) ≡ is_kept_along d (drop c.in-On.part.at x)) × (c.loop-at.at + 1 ≤ c.in-On.part.at) = rw c.in-On.is at c.step.ensures v.0 v.1 in
    omega (arith, k.3, c.loop-at-test.true)

pub loop-at-preserved : goal.loop-at-preserved
loop-at-preserved c b h =
    let x = c.args.x.now in
    let v = c.loop-at.invariant b h in
    let k : (d : Block) × BlockStands c.args.script.now c.in-On.part.block d × (is_kept_in v.0 c.number_at.result (drop (c.loop-at.at + 1) x) ≡ is_kept_along d (drop c.in-On.part.at x)) × (c.loop-at.at + 1 ≤ c.in-On.part.at) = rw c.in-On.is at c.step.ensures v.0 v.1 in
    (k.0, k.1, v.2 ∙ kept-at v.0 x c.loop-at.at c.number_at.result c.number_at.ensures ∙ k.2)

pub returns : goal.returns
returns c b h =
    let v = c.loop-at.invariant b h in
    sym (v.2 ∙ ap (is_kept_along v.0) (drop_all c.loop-at.at c.args.x.now (omega (arith, c.loop-at-test.false))))
