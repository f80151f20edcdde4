use Rattle.rx_tree.proofs.Strikes.{one_more}
use Rattle.rx_tree.proofs.changes.strike_all.Goals as goal

pub loop-x-preserved : goal.loop-x-preserved
loop-x-preserved c =
    one_more c.args.blow c.args.tasks.now c.loop-x.tasks c.loop-x.x-index _ c.struck_by.result c.loop-x-test.true c.loop-x.auto.tasks c.loop-x.invariant c.struck_by.ensures
