use Rattle.rx_history.specs.Events.{events_of}
use Rattle.rx_history.specs.Setups.{given}
use Rattle.rx_trace.specs.Inside.Stages.{state_of}
use Rattle.rx_trace.proofs.Ends.{at-more, at-bad, at-end, at-all}
use Rattle.rx_trace.proofs.reader.read_trace.Goals as goal

pub returns-in-Ok-false-clause-bad : goal.returns-in-Ok-false-clause-bad
returns-in-Ok-false-clause-bad c =
    at-bad c.args.bytes.now c.lines.number (state_of c.lines.stage) c.lines.rest.now c.in-Some.line.now c.in-Some.tail.now c.lines.invariant c.in-Some.ensures.some.0 c.in-Some.ensures.some.1
    (c.in-Ok-false.ensures.bad c.in-Ok-false.field-0-test)

pub lines-preserved : goal.lines-preserved
lines-preserved c =
    at-more c.args.bytes.now c.lines.number (state_of c.lines.stage) (state_of c.read_next.new.stage) c.lines.rest.now c.in-Some.line.now c.in-Some.tail.now c.lines.invariant c.in-Some.ensures.some.0 c.in-Some.ensures.some.1
    (c.in-Ok-true.ensures.good c.in-Ok-true.field-0-test)

pub returns-in-Some-whole-clause-ok : goal.returns-in-Some-whole-clause-ok
returns-in-Some-whole-clause-ok c =
    (at-all c.args.bytes.now c.lines.number (state_of c.lines.stage) c.lines.rest.now (given c.in-Some-whole.history.setup) c.in-Some-whole.history.entries (events_of c.in-Some-whole.journals)
    c.lines.invariant c.in-Some-whole.ensures.some.0 c.in-Some-whole.ensures.some.1).0

pub returns-in-None-clause-bad : goal.returns-in-None-clause-bad
returns-in-None-clause-bad c = at-end c.args.bytes.now c.lines.number (state_of c.lines.stage) c.lines.rest.now c.lines.invariant c.in_default.ensures.none c.in-None.ensures.none
