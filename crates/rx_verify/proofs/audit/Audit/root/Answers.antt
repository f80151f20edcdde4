use Rattle.std.proofs.Common.{◌∙◌, sym, subst}
use Rattle.std.proofs.lemmas.Bool.{true≢false}
use Rattle.rx_rules.specs.declared.entries.Entry.TheVariants.{Root}
use Rattle.rx_rules.proofs.Common.{Allowed, tree_of}
use Rattle.rx_finish.specs.declared.ledger.Outcome.{Outcome}
use Rattle.rx_chronicle.specs.Told.{left_to_join}
use Rattle.rx_verify.proofs.Agreeing.{refusing}
use Rattle.rx_verify.proofs.Audited.{kept, root_on, root_decides, root_refused}
use Rattle.rx_verify.proofs.audit.Audit.root.Goals as goal

pub release_root-requires : goal.release_root-requires
release_root-requires g c =
    let r = c.requires in
    let k = kept g.L.FinishLedger.stands r.setup r.entries c.args.self.now r.is r.unended r.few in
    let root = c.root_stands_until_released.ensures r.setup.places r.entries k.folds.some k.folds.few k.folds.allowed k.ending in
    (left_to_join r.setup r.entries, tree_of r.setup.places r.entries, k.tree, record { root = root.0; stands = root.1 })

pub returns-then-not-same_outcome : goal.returns-then-not-same_outcome
returns-then-not-same_outcome g c = λ U es h m.
    let r = c.requires in
    let T = tree_of U.places es in
    let k = kept g.L.FinishLedger.stands U es c.args.self.now h r.unended r.few in
    let root = c.root_stands_until_released.ensures U.places es k.folds.some k.folds.few k.folds.allowed k.ending in
    let did = c.in-Ok.ensures (left_to_join U es) T k.tree (record { root = root.0; stands = root.1 }) in
    let same = root_decides c.members_make_the_set.ensures T c.in-Ok.outcome c.args.lost c.args.masked c.args.thrown.now c.set_fits-in-Ok.ensures c.set_fits.ensures did.0 m.allowed in
    true≢false (sym (c.same_outcome.ensures.1 same) ∙ c.if-not-same_outcome.true)

pub returns-else-not-same_outcome : goal.returns-else-not-same_outcome
returns-else-not-same_outcome g c = λ U es h.
    let r = c.requires in
    let T = tree_of U.places es in
    let S = g.L.FinishLedger.stands in
    let k = kept S U es c.args.self.now h r.unended r.few in
    let root = c.root_stands_until_released.ensures U.places es k.folds.some k.folds.few k.folds.allowed k.ending in
    let did = c.in-Ok.ensures (left_to_join U es) T k.tree (record { root = root.0; stands = root.1 }) in
    let same = c.same_outcome.ensures.0 c.if-not-same_outcome.false in
    root_on S U es c.args.self.now h r.unended r.few c.args.lost c.args.masked c.args.thrown.now c.release_root.new.self (c.none_due.ensures.0 c.if-not-none_due.false)
    (subst (λ (o : Outcome). Allowed T (Root o.lost o.masked o.thrown)) same did.0) did.1

pub returns-in-Err : goal.returns-in-Err
returns-in-Err g c =
    let r = c.requires in
    let S = g.L.FinishLedger.stands in
    refusing c.refused.result _ c.in-Err.fault c.refused.ensures (λ no U es h m.
    let T = tree_of U.places es in
    let k = kept S U es c.args.self.now h r.unended r.few in
    let root = c.root_stands_until_released.ensures U.places es k.folds.some k.folds.few k.folds.allowed k.ending in
    root_refused T c.args.lost c.args.masked c.args.thrown.now (S c.release_root.new.self (left_to_join U es)) c.in-Err.fault no (c.in-Err.ensures (left_to_join U es) T k.tree (record { root = root.0; stands = root.1 })) m.allowed)
