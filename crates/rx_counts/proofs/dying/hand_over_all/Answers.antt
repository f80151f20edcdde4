use Rattle.std.proofs.Common.{◌≡◌, ◌<◌, ◌∙◌, sym, subst, length, rules, ℕ}
use Rattle.rx_counts.specs.Inside.Dying.{Passing}
use Rattle.rx_counts.proofs.dying.hand_over_all.Goals as goal

pub hand_over-requires : goal.hand_over-requires
hand_over-requires c =
    let low : c.loop-i.i < length c.loop-i.scopes = subst (λ (n : ℕ). c.loop-i.i < n) (sym c.loop-i.invariant.len) (search rules) in
    (low, c.requires.0, c.requires.1, c.requires.2, c.loop-i.invariant.passes c.requires.0 c.requires.1 c.requires.2 c.requires.3)

pub loop-i-preserved : goal.loop-i-preserved
loop-i-preserved c =
    record {
      len = c.hand_over.ensures.len ∙ c.loop-i.invariant.len;
      passes = λ size T keeps p. c.hand_over.ensures.passes size T keeps (c.loop-i.invariant.passes size T keeps p);
    }

pub returns-clause-passes : goal.returns-clause-passes
returns-clause-passes c = λ size T keeps p.
    let end : c.loop-i.i ≡ length c.args.scopes.now = search rules in
    subst (λ (n : ℕ). Passing size T keeps c.args.dead.now c.args.d n c.loop-i.scopes) end (c.loop-i.invariant.passes size T keeps p)
