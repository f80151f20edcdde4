use Rattle.std.proofs.Common.{sym, ◌∙◌, arith, rules}
use Rattle.rx_tree.proofs.Falling.{alone, stays_below}
use Rattle.rx_tree.proofs.lookups.reaches.Goals as goal

pub returns-in-None : goal.returns-in-None
returns-in-None c =
    sym (c.up.invariant.1 ∙ alone c.args.s c.up.want c.args.scopes.now c.up.start c.in-Some.i c.index-scopes-i.result c.in-Some.ensures.found (search rules) (search rules))

pub returns : goal.returns
returns c = sym (c.up.invariant.1 ∙ stays_below c.args.s c.up.want c.args.scopes.now c.up.start c.requires (omega (arith, c.up-test.false)))
