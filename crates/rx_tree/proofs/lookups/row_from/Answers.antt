use Rattle.std.proofs.Common.{arith}
use Rattle.rx_tree.proofs.Falling.{begins_at, no_chain, none_behind}
use Rattle.rx_tree.proofs.lookups.row_from.Goals as goal

pub returns-then-start-i-clause-found : goal.returns-then-start-i-clause-found
returns-then-start-i-clause-found c = begins_at c.args.s c.args.scopes.now c.args.start c.in-Some.i c.if-start-i.true c.in-Some.ensures.found

pub returns-else-start-i-clause-none : goal.returns-else-start-i-clause-none
returns-else-start-i-clause-none c =
    none_behind c.args.s c.args.scopes.now c.args.start c.in-Some.i c.requires (omega (arith, c.if-start-i.false)) c.in-Some.ensures.found

pub returns-in_default-clause-none : goal.returns-in_default-clause-none
returns-in_default-clause-none c = no_chain c.args.s c.args.scopes.now c.args.start (λ k d le within. c.in_default.ensures.none k d within)
