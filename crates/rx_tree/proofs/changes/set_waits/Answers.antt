use Rattle.rx_rules.proofs.Common.{is_task}
use Rattle.rx_tree.proofs.Firsts.{at_first, none_changes}
use Rattle.rx_tree.proofs.changes.set_waits.Goals as goal

pub returns-in-Some : goal.returns-in-Some
returns-in-Some c = at_first (is_task c.args.t) (λ x. record x { waits = c.args.waits }) c.args.tasks.now c.in-Some.i _ c.in-Some.ensures.found

pub returns-in_default : goal.returns-in_default
returns-in_default c = none_changes (is_task c.args.t) (λ x. record x { waits = c.args.waits }) c.args.tasks.now c.in_default.ensures.none
