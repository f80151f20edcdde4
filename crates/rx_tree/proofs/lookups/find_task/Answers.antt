use Rattle.rx_rules.proofs.Common.{is_task}
use Rattle.rx_tree.proofs.Falling.{find_first, find_nothing}
use Rattle.rx_tree.proofs.lookups.find_task.Goals as goal

pub returns-in-Some : goal.returns-in-Some
returns-in-Some c = find_first (is_task c.args.t) c.args.tasks.now c.in-Some.i _ c.in-Some.ensures.found

pub returns-in-None : goal.returns-in-None
returns-in-None c = find_nothing (is_task c.args.t) c.args.tasks.now c.in-None.ensures.none
