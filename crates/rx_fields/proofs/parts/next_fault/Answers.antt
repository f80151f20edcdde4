use Rattle.std.proofs.Common.{sym, ◌∙◌}
use Rattle.rx_fields.specs.Inside.FieldWords.{fault_of}
use Rattle.rx_fields.proofs.Taking.{item-first, no-item-first}
use Rattle.rx_fields.proofs.parts.next_fault.Goals as goal

pub returns-in_err-fault : goal.returns-in_err-fault
returns-in_err-fault c =
    no-item-first (fault_of c.args.places) c.args.words.now c.in_ok-word.after c.in_ok-word.word.now c.from_residual-in_err-fault.result c.in_ok-word.ensures
    (sym c.fault.ensures ∙ c.in_err-fault.was) c.from_residual-in_err-fault.ensures

pub returns : goal.returns
returns c =
    item-first (fault_of c.args.places) c.args.words.now c.in_ok-word.after c.in_ok-word.word.now c.in_ok-fault.fault c.in_ok-word.ensures
    (sym c.fault.ensures ∙ c.in_ok-fault.was)
