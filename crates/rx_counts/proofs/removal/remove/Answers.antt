use Rattle.std.proofs.Common.{◌∙◌, sym, ap, refl, cond, None}
use Rattle.rx_counts.specs.Stands.{record_at}
use Rattle.rx_counts.proofs.Sweeping.{none_before, swept_below, swept_above}
use Rattle.rx_counts.proofs.Stopping.{left_first, left_on, none_left}
use Rattle.rx_counts.proofs.removal.remove.Goals as goal

pub loop-i-init : goal.loop-i-init
loop-i-init c =
    record {
      len = refl;
      below = λ T h u low. sym (ap (λ b. cond b None (record_at c.args.scopes.now u.0))
          (none_before T c.args.scopes.now c.args.s u h low));
      above = λ n le. refl;
      left = λ T h. left_first T c.args.scopes.now c.args.s c.args.orphans h;
    }

pub loop-i-preserved : goal.loop-i-preserved
loop-i-preserved c =
    let rs = c.args.scopes.now in
    let ps = c.loop-i.scopes in
    let qs = c.drop_if-left.new.scopes in
    let goes = c.is_below-goes.ensures in
    record {
      len = c.drop_if-left.ensures.len ∙ c.loop-i.invariant.len;
      below = λ T h. swept_below T rs ps qs c.args.s c.loop-i.i c.is_below-goes.result h goes
          (c.loop-i.invariant.below T h) c.loop-i.invariant.above c.drop_if-left.ensures.goes;
      above = swept_above rs ps qs c.loop-i.i c.is_below-goes.result c.loop-i.invariant.above c.drop_if-left.ensures.goes;
      left = λ T h. left_on T rs ps c.args.s c.loop-i.i c.args.orphans c.loop-i.left c.drop_if-left.result
          c.is_below-goes.result h goes (c.loop-i.invariant.below T h.shaped) c.loop-i.invariant.above
          c.drop_if-left.ensures.many c.if-left-eq0.false (c.loop-i.invariant.left T h);
    }

pub returns-then-left-eq0-clause-taken : goal.returns-then-left-eq0-clause-taken
returns-then-left-eq0-clause-taken c = λ T h.
    none_left T c.args.scopes.now c.loop-i.scopes c.args.s c.loop-i.i c.args.orphans c.loop-i.left h
    (c.loop-i.invariant.below T h.shaped) c.loop-i.invariant.above c.if-left-eq0.true (c.loop-i.invariant.left T h)
