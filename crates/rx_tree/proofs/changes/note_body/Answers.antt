use Rattle.rx_rules.proofs.Common.{is_scope}
use Rattle.rx_tree.proofs.Firsts.{at_first, none_changes}
use Rattle.rx_tree.proofs.changes.note_body.Goals as goal

pub returns-in-Some : goal.returns-in-Some
returns-in-Some c = at_first (is_scope c.args.s) (λ g. record g { body = c.args.thrown }) c.args.scopes.now c.in-Some.i _ c.in-Some.ensures.found

pub returns-in_default : goal.returns-in_default
returns-in_default c = none_changes (is_scope c.args.s) (λ g. record g { body = c.args.thrown }) c.args.scopes.now c.in_default.ensures.none
