use Rattle.rx_rules.specs.declared.entries.Entry.TheVariants.{Join}
use Rattle.rx_chronicle.specs.Requests.{tree_told}
use Rattle.rx_chronicle.proofs.Deaths.{may_join, after_join, has_room, joined}
use Rattle.rx_chronicle.proofs.Granting.{seen, kept}
use Rattle.rx_chronicle.proofs.chronicle.Chronicle.join.Goals as goal

pub join-requires : goal.join-requires
join-requires g c =
    let p = c.args.place in
    let due = c.requires.due in
    let k = seen c.self.view_is c.self.invariant in
    (after_join p k due.unreleased due.due, tree_told c.args.self.now, has_room p k due.unreleased due.due, may_join p k due.unreleased due.due)

pub invariant_of-self : goal.invariant_of-self
invariant_of-self g c =
    let p = c.args.place in
    let due = c.requires.due in
    let k = seen c.self.view_is c.self.invariant in
    let stood = c.join.ensures (after_join p k due.unreleased due.due) (tree_told c.args.self.now) (has_room p k due.unreleased due.due) (may_join p k due.unreleased due.due) in
    rw c.done.ensures (kept (Join p) c.self.view_is c.add.ensures (joined p k due.unreleased due.due c.join.new.self stood))
