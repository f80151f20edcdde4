use Rattle.std.proofs.Common.{◌∙◌, ap, ◌≡◌, take, arith}
use Rattle.std.proofs.lemmas.Grind.{common_steps}
use Rattle.rx_tree.specs.Inside.Removal.{holds_scope}
use Rattle.rx_tree.proofs.Inside.{holds_under}
use Rattle.rx_tree.proofs.removal.scopes_under.Goals as goal

pub returns : goal.returns
returns c = λ r.
    let all : take c.loop-g.g-index c.args.scopes.now ≡ c.args.scopes.now = grind (arith, common_steps) in
    ap (λ xs. holds_scope xs r) (rw all at c.loop-g.invariant) ∙ holds_under c.args.scopes.now c.args.s r
