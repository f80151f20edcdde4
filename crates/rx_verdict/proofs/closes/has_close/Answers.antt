use Rattle.std.proofs.Common.{ap, ◌∙◌, Some}
use Rattle.rx_rules.proofs.Common.{close_in}
use Rattle.rx_verdict.proofs.EventsOfJournals.{closes-some, closes-none}
use Rattle.rx_verdict.proofs.closes.has_close.Goals as goal

pub returns-in-Close-clause-some : goal.returns-in-Close-clause-some
returns-in-Close-clause-some c = λ t. closes-some c.args.journal.now.events c.loop-i.i c.in-Close.stamp (c.item.ensures ∙ ap Some c.in-Close.is)

pub loop-i-preserved : goal.loop-i-preserved
loop-i-preserved c = closes-none c.args.journal.now.events c.loop-i.i c.item.result.now c.item.ensures (ap close_in c.in-Done.is) c.loop-i.invariant
