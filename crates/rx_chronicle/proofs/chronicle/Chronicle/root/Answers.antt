use Rattle.std.proofs.Common.{ap, ◌∙◌, refl, inr}
use Rattle.std.proofs.lemmas.Result.{err_from_is_err_and}
use Rattle.rx_rules.specs.declared.entries.Entry.TheVariants.{Root}
use Rattle.rx_history.specs.Logs.{Log}
use Rattle.rx_chronicle.specs.Requests.{tree_told, with_entry}
use Rattle.rx_chronicle.proofs.Granting.{room, seen, has_root, freed, still, root_refused}
use Rattle.rx_chronicle.proofs.chronicle.Chronicle.root.Goals as goal

pub release_root-requires : goal.release_root-requires
release_root-requires g c =
    let now = c.args.self.now in
    let k = seen c.self.view_is c.self.invariant in
    (room now, tree_told now, k.tree, has_root now k c.root_stands_until_released.ensures c.if-self.false)

pub invariant_of-self : goal.invariant_of-self
invariant_of-self g c =
    let now = c.args.self.now in
    let b = c.self.inside in
    let k = seen c.self.view_is c.self.invariant in
    let has = has_root now k c.root_stands_until_released.ensures c.if-self.false in
    let no = root_refused (tree_told now) (g.L.FinishLedger.stands c.release_root.new.self (room now)) c.in_err-outcome.field-0.0 (c.in_err-outcome.ensures (room now) (tree_told now) k.tree has) in
    still now k c.release_root.new.self b.notes.items c.self.view_is no.1 refl

pub returns-in_err-outcome-clause-refused : goal.returns-in_err-outcome-clause-refused
returns-in_err-outcome-clause-refused g c =
    let now = c.args.self.now in
    let k = seen c.self.view_is c.self.invariant in
    let has = has_root now k c.root_stands_until_released.ensures c.if-self.false in
    let no = root_refused (tree_told now) (g.L.FinishLedger.stands c.release_root.new.self (room now)) c.in_err-outcome.field-0.0 (c.in_err-outcome.ensures (room now) (tree_told now) k.tree has) in
    let p = err_from_is_err_and c.from_residual.result c.from_residual.ensures.1 in
    rw (p.1, p.2) no.0

pub invariant_of-self-2 : goal.invariant_of-self-2
invariant_of-self-2 g c =
    let now = c.args.self.now in
    let o = c.in_ok-outcome.outcome in
    let k = seen c.self.view_is c.self.invariant in
    let has = has_root now k c.root_stands_until_released.ensures c.if-self.false in
    let did = c.in_ok-outcome.ensures (room now) (tree_told now) k.tree has in
    freed now k c.release_root.new.self o.lost o.masked o.thrown c.self.view_is c.add.ensures c.requires.ready.calm c.if-self.false did.0 did.1

pub returns-clause-done : goal.returns-clause-done
returns-clause-done g c =
    let now = c.args.self.now in
    let o = c.in_ok-outcome.outcome in
    let k = seen c.self.view_is c.self.invariant in
    let has = has_root now k c.root_stands_until_released.ensures c.if-self.false in
    let did = c.in_ok-outcome.ensures (room now) (tree_told now) k.tree has in
    inr (record {
      lost = o.lost;
      masked = o.masked;
      thrown = o.thrown;
      allowed = did.0;
      told = c.add.ensures ∙ ap (λ (h : Log). with_entry h (Root o.lost o.masked o.thrown)) c.self.view_is;
    })
