use Rattle.std.proofs.Common.{sym, ◌∙◌, codes}
use Rattle.rx_fields.specs.Inside.FieldWords.{fault_of}
use Rattle.rx_fields.proofs.Taking.{took-shorter, took-more, part-none, part-some, took-as, none-as, key-as}
use Rattle.rx_fields.proofs.parts.thrown_part.Goals as goal

pub faults-smaller : goal.faults-smaller
faults-smaller c = took-shorter (fault_of c.args.places) c.faults.words c.next_fault.new.words c.in-Some.fault (took-as (fault_of c.args.places) c.faults.words c.next_fault.new.words c.next_fault.result c.in-Some.fault c.next_fault.ensures c.in-Some.is)

pub faults-preserved : goal.faults-preserved
faults-preserved c =
    took-more (fault_of c.args.places) c.faults.thrown c.push.new.self c.faults.words c.next_fault.new.words c.keyword.new.words c.in-Some.fault c.faults.invariant
    (took-as (fault_of c.args.places) c.faults.words c.next_fault.new.words c.next_fault.result c.in-Some.fault c.next_fault.ensures c.in-Some.is) c.in_ok-push.ensures.ok

pub returns-then-len-eq0 : goal.returns-then-len-eq0
returns-then-len-eq0 c =
    part-none (codes "thrown") (fault_of c.args.places) c.faults.thrown c.args.words.now c.keyword.new.words c.faults.words c.next_fault.new.words
    (key-as (codes "thrown") c.args.words.now c.keyword.new.words c.keyword.result c.keyword.ensures c.if-not-keyword.false) c.faults.invariant
    (none-as (fault_of c.args.places) c.faults.words c.next_fault.new.words c.next_fault.result c.next_fault.ensures c.in_default.is)
    (sym c.len.ensures ∙ c.if-len-eq0.true)

pub returns : goal.returns
returns c =
    part-some (codes "thrown") (fault_of c.args.places) c.faults.thrown c.args.words.now c.keyword.new.words c.faults.words c.next_fault.new.words
    (key-as (codes "thrown") c.args.words.now c.keyword.new.words c.keyword.result c.keyword.ensures c.if-not-keyword.false) c.faults.invariant
    (none-as (fault_of c.args.places) c.faults.words c.next_fault.new.words c.next_fault.result c.next_fault.ensures c.in_default.is)
    (λ z. c.if-len-eq0.false (c.len.ensures ∙ z))
