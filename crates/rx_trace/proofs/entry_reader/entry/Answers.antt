use Rattle.std.proofs.Common.{◌≡◌, subst, IfOk}
use Rattle.rx_trace.specs.Inside.EntryWords.{entered, if_good}
use Rattle.rx_trace.proofs.Naming.{named_entry, unnamed_entry}
use Rattle.rx_trace.proofs.entry_reader.entry.Goals as goal

pub returns-in-Some-kind_of-clause-read : goal.returns-in-Some-kind_of-clause-read
returns-in-Some-kind_of-clause-read c =
    subst (λ o. IfOk c.acted.result (λ good. if_good good c.acted.new.history.entries ≡ entered c.args.history.now.entries o))
    (named_entry c.args.places c.args.words.now c.next.new.self c.in-Some.word.now c.in-Some-kind_of.kind c.in-Some.ensures c.in-Some-kind_of.ensures)
    c.acted.ensures.read

pub returns-in-None-clause-read : goal.returns-in-None-clause-read
returns-in-None-clause-read c =
    subst (λ o. IfOk c.changed.result (λ good. if_good good c.changed.new.history.entries ≡ entered c.args.history.now.entries o))
    (unnamed_entry c.args.places c.args.words.now c.next.new.self c.in-Some.word.now c.in-Some.ensures c.in-None.ensures)
    c.changed.ensures.read
