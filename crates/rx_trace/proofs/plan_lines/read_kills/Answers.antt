use Rattle.std.proofs.Common.{sym, ◌∙◌}
use Rattle.rx_trace.proofs.Ends.{comes-last}
use Rattle.rx_trace.proofs.plan_lines.read_kills.Goals as goal

pub push-requires : goal.push-requires
push-requires c = comes-last c.kills.kills c.in-Some-kill.kill (sym c.follows.ensures.follows ∙ c.if-not-follows.false)
