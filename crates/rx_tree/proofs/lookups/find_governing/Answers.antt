use Rattle.std.proofs.Common.{sym, ◌∙◌, rules}
use Rattle.rx_tree.proofs.Falling.{alone_call}
use Rattle.rx_tree.proofs.lookups.find_governing.Goals as goal

pub returns-in-None : goal.returns-in-None
returns-in-None c =
    sym (c.up.invariant.1 ∙ alone_call c.up.want c.args.scopes.now c.up.start c.in-Some.i c.index-scopes-i.result c.in-Some.ensures.found (search rules) (search rules))
