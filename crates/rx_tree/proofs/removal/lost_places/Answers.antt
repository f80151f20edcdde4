use Rattle.std.proofs.Common.{◌&&◌, ◌∙◌, ap, ◌≡◌, take, arith}
use Rattle.std.specs.List.{list_any}
use Rattle.std.proofs.lemmas.Grind.{common_steps}
use Rattle.rx_rules.proofs.Common.{was_lost_at}
use Rattle.rx_tree.specs.Inside.Removal.{holds_scope}
use Rattle.rx_tree.proofs.Leaves.{members_are}
use Rattle.rx_tree.proofs.removal.lost_places.Goals as goal

pub returns : goal.returns
returns c =
    let all : take c.loop-x.x-index c.args.tasks.now ≡ c.args.tasks.now = grind (arith, common_steps) in
    members_are c.loop-x.lost (λ p. list_any (λ x. holds_scope c.args.inside.now x.under && was_lost_at p x) c.args.tasks.now)
    (λ q h. c.loop-x.invariant q h ∙ ap (λ xs. list_any (λ x. holds_scope c.args.inside.now x.under && was_lost_at q x) xs) all)
