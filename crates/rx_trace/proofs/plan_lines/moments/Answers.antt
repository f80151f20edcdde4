use Rattle.std.proofs.Common.{sym, ◌∙◌}
use Rattle.rx_trace.proofs.Ends.{joins-more}
use Rattle.rx_trace.proofs.plan_lines.moments.Goals as goal

pub joins-preserved : goal.joins-preserved
joins-preserved c =
    joins-more c.joins.low c.joins.joins c.push.new.self c.joins.words c.next.new.self c.args.words.now c.in-Some.word.now c.in-Some-below.moment c.joins.invariant c.in-Some.ensures
    (sym c.below.ensures ∙ c.in-Some-below.is) c.if-moment-low.false c.in_ok-push.ensures.ok
