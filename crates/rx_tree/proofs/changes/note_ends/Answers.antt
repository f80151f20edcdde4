use Rattle.std.proofs.Common.{◌++◌}
use Rattle.rx_rules.proofs.Common.{is_scope}
use Rattle.rx_tree.proofs.Firsts.{none_changes}
use Rattle.rx_tree.proofs.Leaves.{noted}
use Rattle.rx_tree.proofs.changes.note_ends.Goals as goal

pub returns-in-Some-clause-noted : goal.returns-in-Some-clause-noted
returns-in-Some-clause-noted c = noted c.append.result c.args.scopes.now c.in-Some.i c.index-scopes-i.result c.args.s c.args.thrown c.append.new.self c.in-Some.ensures.found c.append.ensures.ok

pub returns-clause-noted : goal.returns-clause-noted
returns-clause-noted c = none_changes (is_scope c.args.s) (λ g. record g { ends = g.ends ++ c.args.thrown }) c.args.scopes.now c.in_default.ensures.none
