use Rattle.rx_fields.proofs.Taking.{took-shorter, took-more, took-as}
use Rattle.rx_lines.specs.Lines.{fault_word}
use Rattle.rx_lines.proofs.lines.read_faults.Goals as goal

pub faults-smaller : goal.faults-smaller
faults-smaller c = took-shorter fault_word c.faults.words c.next_fault.new.words c.in-Some.fault (took-as fault_word c.faults.words c.next_fault.new.words c.next_fault.result c.in-Some.fault c.next_fault.ensures c.in-Some.is)

pub faults-preserved : goal.faults-preserved
faults-preserved c =
    took-more fault_word c.faults.thrown c.push.new.self c.faults.words c.next_fault.new.words c.args.words.now c.in-Some.fault c.faults.invariant
    (took-as fault_word c.faults.words c.next_fault.new.words c.next_fault.result c.in-Some.fault c.next_fault.ensures c.in-Some.is) c.in_ok-push.ensures.ok
