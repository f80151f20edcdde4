use Rattle.std.proofs.Common.{sym, ◌∙◌}
use Rattle.rx_lines.specs.Lines.{fault_word}
use Rattle.rx_fields.proofs.Taking.{item-first, no-item-first}
use Rattle.rx_lines.proofs.lines.next_fault.Goals as goal

pub returns-in_err-fault : goal.returns-in_err-fault
returns-in_err-fault c =
    no-item-first fault_word c.args.words.now c.in_ok-word.after c.in_ok-word.word.now c.from_residual-in_err-fault.result c.in_ok-word.ensures
    (sym c.fault.ensures ∙ c.in_err-fault.was) c.from_residual-in_err-fault.ensures

pub returns : goal.returns
returns c =
    item-first fault_word c.args.words.now c.in_ok-word.after c.in_ok-word.word.now c.in_ok-fault.fault c.in_ok-word.ensures
    (sym c.fault.ensures ∙ c.in_ok-fault.was)
