use Rattle.std.proofs.Common.{◌≡◌, refl, rules}
use Rattle.rx_rules.proofs.Common.{Tree, opening, opens}
use Rattle.rx_tree.proofs.Leaves.{three}
use Rattle.rx_tree.proofs.plain.TreeLedger.open.Goals as goal

pub returns : goal.returns
returns c = λ room.
    let T : Tree = opening c.args.places in
    let tasks : c.push.new.self.items ≡ T.tasks = search rules in
    let scopes : c.push-2.new.self.items ≡ T.scopes = search rules in
    let gone : c.new.result.items ≡ T.gone = search rules in
    (three T _ _ _ _ _ _ tasks gone scopes, (opens c.args.places c.requires.0 c.requires.1, refl))
