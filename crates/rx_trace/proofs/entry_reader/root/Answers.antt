use Rattle.std.proofs.Common.{ap, sym, ◌∙◌}
use Rattle.rx_rules.proofs.Common.{Fault}
use Rattle.rx_rules.specs.declared.entries.Entry.TheVariants.{Root}
use Rattle.rx_history.specs.Logs.{Log}
use Rattle.rx_fields.specs.Words.{answer_left}
use Rattle.rx_trace.specs.Inside.EntryWords.{root_at}
use Rattle.rx_trace.proofs.Adding.{root_read, not_entered, one_entered}
use Rattle.rx_trace.proofs.entry_reader.root.Goals as goal

pub returns-then-not-branch-clause-read : goal.returns-then-not-branch-clause-read
returns-then-not-branch-clause-read c =
    not_entered c.args.history.now.entries (root_at c.args.places c.args.words.now) (Root c.in-Some.lost c.in-Some.masked c.in-Some.thrown) c.outcome_part.new.words c.in_ok-is_end.field-0
    (root_read c.args.places c.args.words.now c.keyword.new.words c.outcome_part.new.words c.keyword.result c.in-Some.lost c.in-Some.masked c.in-Some.thrown c.keyword.ensures c.if-not-keyword.false
    (ap (λ o. answer_left o c.outcome_part.new.words) (sym c.in-Some.is) ∙ c.in_ok-lost.ensures))
    c.in_ok-is_end.ensures.end c.if-not-branch.true

pub returns-clause-read : goal.returns-clause-read
returns-clause-read c =
    one_entered c.args.history.now.entries c.is_end.new.history.entries c.add.new.self.entries (root_at c.args.places c.args.words.now) (Root c.in-Some.lost c.in-Some.masked c.in-Some.thrown) c.outcome_part.new.words c.in_ok-is_end.field-0
    (root_read c.args.places c.args.words.now c.keyword.new.words c.outcome_part.new.words c.keyword.result c.in-Some.lost c.in-Some.masked c.in-Some.thrown c.keyword.ensures c.if-not-keyword.false
    (ap (λ o. answer_left o c.outcome_part.new.words) (sym c.in-Some.is) ∙ c.in_ok-lost.ensures))
    c.in_ok-is_end.ensures.end c.if-not-branch.false c.is_end.ensures.entries (ap (λ (h : Log). h.entries) c.add.ensures)
