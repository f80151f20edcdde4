use Rattle.std.proofs.Common.{rules, ◌<◌, ◌^◌, false}
use Rattle.rx_program.proofs.Ends.{not-clean}
use Rattle.rx_program.proofs.run.is_clean.Goals as goal

pub returns-else-lost-eq0 : goal.returns-else-lost-eq0
returns-else-lost-eq0 c =
    let small : c.args.lost.0 < 2 ^ 16 = search rules in
    not-clean c.members_make_the_set.ensures c.args.lost c.args.thrown.now small c.if-lost-eq0.false
