use Rattle.std.proofs.Common.{sym, subst, ℕ}
use Rattle.rx_rules.specs.declared.entries.Entry.TheVariants.{Death}
use Rattle.rx_rules.proofs.Common.{strike}
use Rattle.rx_finish.specs.Callers.{MayStrike}
use Rattle.rx_chronicle.specs.Requests.{tree_told}
use Rattle.rx_chronicle.proofs.Deaths.{inside, may_strike, died}
use Rattle.rx_chronicle.proofs.Granting.{room, seen, kept}
use Rattle.rx_chronicle.proofs.chronicle.Chronicle.die.Goals as goal

pub death-requires : goal.death-requires
death-requires g c =
    let now = c.args.self.now in
    let p = c.args.place in
    let due = c.requires.due in
    let k = seen c.self.view_is c.self.invariant in
    let may = may_strike p c.dead_are_as_told.ensures k due.unreleased due.due in
    (room now, tree_told now, k.tree, subst (λ (n : ℕ). MayStrike (tree_told now) p n) (sym c.requires.number) may)

pub with-self-inside-requires : goal.with-self-inside-requires
with-self-inside-requires g c =
    let due = c.requires.due in
    inside c.args.place c.dead_are_as_told.ensures (seen c.self.view_is c.self.invariant) due.unreleased due.due

pub invariant_of-self : goal.invariant_of-self
invariant_of-self g c =
    let now = c.args.self.now in
    let p = c.args.place in
    let told = c.dead_are_as_told.ensures in
    let due = c.requires.due in
    let k = seen c.self.view_is c.self.invariant in
    let may = may_strike p told k due.unreleased due.due in
    let stood = c.death.ensures (room now) (tree_told now) k.tree (subst (λ (n : ℕ). MayStrike (tree_told now) p n) (sym c.requires.number) may) in
    let stood_at = subst (λ (n : ℕ). g.L.FinishLedger.stands c.death.new.self (room now) (strike (record { place = p; entry = n }) (tree_told now))) c.requires.number stood in
    rw c.done.ensures (kept (Death p) c.self.view_is c.add.ensures (died p told k due.unreleased due.due c.death.new.self c.with-self-inside.result stood_at c.with-self-inside.ensures))
