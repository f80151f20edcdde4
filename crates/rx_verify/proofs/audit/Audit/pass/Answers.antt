use Rattle.std.proofs.Common.{ap, subst}
use Rattle.rx_rules.specs.declared.entries.Entry.TheVariants.{Death, Join}
use Rattle.rx_rules.proofs.Common.{tree_of, IsDue}
use Rattle.rx_kills.specs.Least.{entry_of}
use Rattle.rx_kills.specs.declared.schedule.Due.{Due}
use Rattle.rx_chronicle.specs.Told.{left_to_join}
use Rattle.rx_verify.proofs.Audited.{strikes, death_on, joins, room_after, joins_with_room, join_on, made_so, rest_so}
use Rattle.rx_verify.proofs.audit.Audit.pass.Goals as goal
use Rattle.rx_verify.proofs.audit.Audit.pass.Goals.{in-Death, in-Join}

pub death-requires : goal.death-requires
death-requires g c =
    let a = c.args.self.now in
    let r = c.requires in
    let S = g.L.FinishLedger.stands in
    let due = subst (λ (d : Due). IsDue a.count (entry_of d) a.plan) c.in-Death.is (c.is_due.ensures.0 c.if-not-is_due.false) in
    (left_to_join r.setup r.entries, tree_of r.setup.places r.entries, r.is.ledger.tree, strikes S r.setup r.entries a r.is r.unended r.few c.in-Death.place c.dead_are_as_told.ensures due)

pub join-requires : goal.join-requires
join-requires g c =
    let a = c.args.self.now in
    let r = c.requires in
    let S = g.L.FinishLedger.stands in
    let p = c.in-Join.place in
    let due = subst (λ (d : Due). IsDue a.count (entry_of d) a.plan) c.in-Join.is (c.is_due.ensures.0 c.if-not-is_due.false) in
    (room_after S r.setup r.entries a r.is r.unended r.few p due, tree_of r.setup.places r.entries, joins_with_room S r.setup r.entries a r.is r.unended r.few p due, joins S r.setup r.entries a r.is r.unended r.few p due)

pub returns : goal.returns
returns g c = λ U es h.
    let a = c.args.self.now in
    let r = c.requires in
    let S = g.L.FinishLedger.stands in
    let told = c.dead_are_as_told.ensures in
    let xs = c.done.new.self in
    elim c.match-due.branch [
      | in-Death w ↦
          let d = w.in-Death.place in
          let due = subst (λ (v : Due). IsDue a.count (entry_of v) a.plan) w.in-Death.is (c.is_due.ensures.0 c.if-not-is_due.false) in
          let stood = w.death.ensures (left_to_join U es) (tree_of U.places es) h.ledger.tree (strikes S U es a h r.unended r.few d told due) in
          made_so S U es c.match-due.self (record a { ledger = w.death.new.self }) xs w.self-is (Death d) (entry_of c.args.due) (ap entry_of w.in-Death.is)
          (death_on S U es a h r.unended r.few d told due w.death.new.self xs (rest_so S U es c.match-due.self (record a { ledger = w.death.new.self }) xs w.self-is c.done.ensures) stood)
      | in-Join w ↦
          let p = w.in-Join.place in
          let due = subst (λ (v : Due). IsDue a.count (entry_of v) a.plan) w.in-Join.is (c.is_due.ensures.0 c.if-not-is_due.false) in
          let stood = w.join.ensures (room_after S U es a h r.unended r.few p due) (tree_of U.places es) (joins_with_room S U es a h r.unended r.few p due) (joins S U es a h r.unended r.few p due) in
          made_so S U es c.match-due.self (record a { ledger = w.join.new.self }) xs w.self-is (Join p) (entry_of c.args.due) (ap entry_of w.in-Join.is)
          (join_on S U es a h r.unended r.few p due w.join.new.self xs (rest_so S U es c.match-due.self (record a { ledger = w.join.new.self }) xs w.self-is c.done.ensures) stood)
    ]
