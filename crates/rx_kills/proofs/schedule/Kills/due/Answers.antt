use Rattle.std.proofs.Common.{sym, subst}
use Rattle.rx_rules.proofs.Common.{NoneDue}
use Rattle.rx_kills.proofs.schedule.Kills.due.Goals as goal

pub returns-else-planned-len-clause-unreached : goal.returns-else-planned-len-clause-unreached
returns-else-planned-len-clause-unreached c =
    c.none_is_reached.ensures c.args.len c.args.self.now c.left_ascend.ensures (subst (NoneDue c.args.len) (sym c.in_ok-planned.ensures.some) c.if-planned-len.false)
