use Rattle.std.proofs.Common.{subst, drop}
use Rattle.rx_kills.specs.Least.{EventsAscend}
use Rattle.rx_kills.proofs.Order.{ascending-left, events-ascend}
use Rattle.rx_kills.proofs.schedule.left_ascend.Goals as goal

pub returns : goal.returns
returns c =
    subst EventsAscend c.kills.view_is
    (events-ascend c.kills.inside.place (drop c.kills.inside.joined c.kills.inside.joins) (drop c.kills.inside.died c.kills.inside.kills)
    (ascending-left c.kills.inside.died c.kills.inside.kills c.kills_ascend.ensures))
