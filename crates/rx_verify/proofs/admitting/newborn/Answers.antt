use Rattle.std.proofs.Common.{Some, refl, ap, sym, subst}
use Rattle.rx_rules.specs.declared.entries.Act.{Act}
use Rattle.rx_rules.specs.declared.entries.Act.TheVariants.{At, Spawn}
use Rattle.rx_rules.proofs.Common.{begins}
use Rattle.rx_verdict.specs.Walks.{next_does}
use Rattle.rx_verify.specs.declared.players.Slot.{Slot}
use Rattle.rx_verify.specs.Inside.Requests.{ActIsAsked, IsNewborn}
use Rattle.rx_tree_laws.proofs.Beginning.{begins-so}
use Rattle.rx_verify.proofs.AdmitRequests.{begins_it}
use Rattle.rx_verify.proofs.admitting.newborn.Goals as goal

pub child_of-requires-clause-begins : goal.child_of-requires-clause-begins
child_of-requires-clause-begins c =
    let r = c.requires.asks in
    let home = c.args.seat.now.home in
    let act = At c.in-At.from c.in-At.to c.in-At.scope c.in-At.parent c.in-At.callee c.in-At.path in
    let b = begins_it home (next_does home r.1) act (begins r.1.term) refl refl (subst (λ (v : Act). ActIsAsked home (next_does home r.1) v) c.in-At.is r.4) (begins-so r.1.vars home.0 r.1.term) in
    (r.0, r.1, r.2, b.0, r.3, b.1)

pub child_of-requires-in-Spawn-clause-begins : goal.child_of-requires-in-Spawn-clause-begins
child_of-requires-in-Spawn-clause-begins c =
    let r = c.requires.asks in
    let home = c.args.seat.now.home in
    let act = Spawn c.in-Spawn.child c.in-Spawn.scope c.in-Spawn.from c.in-Spawn.to c.in-Spawn.path in
    let b = begins_it home (next_does home r.1) act (begins r.1.term) refl refl (subst (λ (v : Act). ActIsAsked home (next_does home r.1) v) c.in-Spawn.is r.4) (begins-so r.1.vars home.0 r.1.term) in
    (r.0, r.1, r.2, b.0, r.3, b.1)

pub returns-in_ok-child-in-At : goal.returns-in_ok-child-in-At
returns-in_ok-child-in-At c = λ js z left s a.
    let home = c.args.seat.now.home in
    let act = At c.in-At.from c.in-At.to c.in-At.scope c.in-At.parent c.in-At.callee c.in-At.path in
    let b = begins_it home (next_does home z) act (begins z.term) refl refl (subst (λ (v : Act). ActIsAsked home (next_does home z) v) c.in-At.is a) (begins-so z.vars home.0 z.term) in
    let child = c.in_ok-child-in-At.child in
    subst (λ (v : Act). IsNewborn c.args.p.now.script c.args.table.now c.args.number z v (Some c.born_slot.result)) (sym c.in-At.is)
    (child, ap (λ (v : Slot). Some v) c.born_slot.ensures, c.in_ok-child-in-At.ensures js z left b.0 s b.1)

pub returns-in_ok-child-in-Spawn : goal.returns-in_ok-child-in-Spawn
returns-in_ok-child-in-Spawn c = λ js z left s a.
    let home = c.args.seat.now.home in
    let act = Spawn c.in-Spawn.child c.in-Spawn.scope c.in-Spawn.from c.in-Spawn.to c.in-Spawn.path in
    let b = begins_it home (next_does home z) act (begins z.term) refl refl (subst (λ (v : Act). ActIsAsked home (next_does home z) v) c.in-Spawn.is a) (begins-so z.vars home.0 z.term) in
    let child = c.in_ok-child-in-Spawn.child in
    subst (λ (v : Act). IsNewborn c.args.p.now.script c.args.table.now c.args.number z v (Some c.born_slot-in-Spawn.result)) (sym c.in-Spawn.is)
    (child, ap (λ (v : Slot). Some v) c.born_slot-in-Spawn.ensures, c.in_ok-child-in-Spawn.ensures js z left b.0 s b.1)
