use Rattle.std.proofs.Common.{◌≡◌, pos, List, [], ◌∷◌, subst, rules}
use Rattle.rx_rules.proofs.Common.{Thrown, Fault, made_act}
use Rattle.rx_rules.specs.declared.entries.Act.TheVariants.{End}
use Rattle.tests_of_ledgers.proofs.tree.throws.Goals as goal

pub end-requires : goal.end-requires
end-requires g c =
    c.requires

pub returns : goal.returns
returns g c =
    let one : c.push.new.self ≡ Thrown (pos 5) ∷ [] = search rules in
    λ room T s may.
    subst (λ (faults : List Fault). g.L.FinishLedger.stands c.end.new.self room (made_act T c.args.who.task (End faults))) one (c.in_default.ensures room T s may).made
