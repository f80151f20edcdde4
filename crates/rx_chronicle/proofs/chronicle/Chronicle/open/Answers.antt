use Rattle.std.proofs.Common.{ap, ◌∙◌, ◌++◌, [], ◌∷◌, List}
use Rattle.rx_chronicle.specs.declared.notes.Note.{Note}
use Rattle.rx_chronicle.proofs.Opened.{opened}
use Rattle.rx_chronicle.proofs.chronicle.Chronicle.open.Goals as goal

pub invariant_of-result : goal.invariant_of-result
invariant_of-result g c =
    opened g.L.FinishLedger.stands c.args.setup c.args.ledger c.requires.proper c.requires.opened c.open-2.result c.open-2.ensures c.in-Ok.plan c.in-Ok.ensures _
    (c.push_reserved.ensures.items ∙ ap (λ (ns : List Note). ns ++ record { opener = record { 0 = 0 }; parent = record { 0 = 0 }; faults = 0 } ∷ []) (c.reserve.ensures.items ∙ c.new-notes.ensures.items))
