use Rattle.std.proofs.Common.{List, subst}
use Rattle.rx_rules.proofs.Common.{Fault, made_act}
use Rattle.rx_rules.specs.declared.entries.Act.TheVariants.{End}
use Rattle.tests_of_ledgers.proofs.tree.ends.Goals as goal

pub end-requires : goal.end-requires
end-requires g c =
    c.requires

pub returns : goal.returns
returns g c = λ room T s may.
    subst (λ (faults : List Fault). g.L.FinishLedger.stands c.end.new.self room (made_act T c.args.who.task (End faults))) c.open.ensures (c.in_default.ensures room T s may).made
