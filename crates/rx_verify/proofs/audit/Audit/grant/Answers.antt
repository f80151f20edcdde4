use Rattle.std.proofs.Common.{false, true}
use Rattle.rx_rules.proofs.Common.{AllowedAct, tree_of}
use Rattle.rx_chronicle.specs.Told.{left_to_join}
use Rattle.rx_verify.proofs.Audited.{grant_on, decided}
use Rattle.rx_verify.proofs.audit.Audit.grant.Goals as goal

pub grants-requires : goal.grants-requires
grants-requires g c =
    let r = c.requires.goes in
    (left_to_join r.setup r.entries, tree_of r.setup.places r.entries, r.is.ledger.tree, c.requires.may)

pub returns-then-not-branch : goal.returns-then-not-branch
returns-then-not-branch g c = λ U es batch h may m.
    let told = c.in_ok-grants.ensures (left_to_join U es) (tree_of U.places es) h.ledger.tree may in
    decided c.in_ok-grants.field-0 false (AllowedAct (tree_of U.places es) c.args.who.task c.args.act.now) _ c.if-not-branch.true told m.allowed

pub returns : goal.returns
returns g c = λ U es batch h may.
    let r = c.requires.goes in
    let S = g.L.FinishLedger.stands in
    let told = c.in_ok-grants.ensures (left_to_join U es) (tree_of U.places es) h.ledger.tree may in
    let said = decided c.in_ok-grants.field-0 true (AllowedAct (tree_of U.places es) c.args.who.task c.args.act.now) _ c.if-not-branch.false told in
    grant_on S U es c.args.self.now h r.unended r.few c.args.who c.args.act.now batch c.grants.new.ledger (c.none_due.ensures.0 c.if-not-none_due.false) said.0 said.1
