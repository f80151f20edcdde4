use Rattle.std.proofs.Common.{◌≡◌, ◌∙◌, sym, arith, length, refl}
use Rattle.rx_base.proofs.Elements.{same-items}
use Rattle.rx_base.proofs.compare.same_faults.Goals as goal

pub returns : goal.returns
returns c =
    let size : length c.args.a.now ≡ length c.args.b.now = sym c.len.ensures ∙ (c.if-len.false ∙ c.len-2.ensures) in
    let done = c.loop-i-test.false in
    let end = c.len-i-end.ensures in
    let at = c.loop-i.invariant in
    let all = same-items c.args.a.now c.args.b.now size (λ k h. at k (omega (arith, h, done, end))) in
    (λ t. all, λ e. refl)
