use Rattle.std.proofs.Common.{rules, ◌<◌}
use Rattle.rx_objects.proofs.Shows.{summary_is}
use Rattle.rx_objects.proofs.showing.summary.Goals as goal

pub returns : goal.returns
returns c =
    let few : c.deaths.result.0 < 65536 = search rules in
    summary_is c.members_make_the_set.ensures c.args.keeper.now c.len.result c.totals-scopes.result c.deaths.result c.len.ensures c.totals-scopes.ensures c.requires c.deaths.ensures few
