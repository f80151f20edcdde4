use Rattle.std.proofs.Common.{ap, ◌∙◌, refl, ℕ, List, Err}
use Rattle.std.proofs.lemmas.Result.{err_from_is_err_and}
use Rattle.rx_rules.specs.declared.entries.Act.TheVariants.{Census}
use Rattle.rx_rules.specs.declared.entries.Entry.TheVariants.{Step}
use Rattle.rx_finish.specs.declared.ledger.LedgerFault.{LedgerFault}
use Rattle.rx_finish.specs.Calls.{CensusReply}
use Rattle.rx_chronicle.specs.Requests.{tree_told, with_entry, NoWait}
use Rattle.rx_chronicle.proofs.Granting.{room, seen, granted, grown_none, refused}
use Rattle.rx_chronicle.proofs.chronicle.Chronicle.census.Goals as goal

pub returns-in_err-places-clause-answer : goal.returns-in_err-places-clause-answer
returns-in_err-places-clause-answer g c =
    let now = c.args.self.now in
    let T = tree_told now in
    let who = c.args.who in
    let k = seen c.self.view_is c.self.invariant in
    let no = refused T who NoWait (Unit {0}) (λ (f : LedgerFault). CensusReply T who (Err f)) (λ h. absurd h) (λ p a h. (h, tt)) (λ p h. absurd h) c.in_err-places.field-0.0 (c.in_err-places.ensures (room now) T k.tree c.requires.asks) in
    let p = err_from_is_err_and c.from_residual.result c.from_residual.ensures.1 in
    rw (p.1, p.2) (no.0, refl)

pub invariant_of-self : goal.invariant_of-self
invariant_of-self g c =
    let now = c.args.self.now in
    let b = c.self.inside in
    let who = c.args.who in
    let batch = c.args.batch.now in
    let n = c.in_ok-places.places in
    let k = seen c.self.view_is c.self.invariant in
    let may = c.in_ok-places.ensures (room now) (tree_told now) k.tree c.requires.asks in
    granted now k b.ledger b.notes.items who.task (Census n c.args.path.now) batch c.self.view_is
    (c.add.ensures ∙ ap (λ (p : List ℕ). with_entry b.history (Step who.task (Census n p) batch)) c.taken-path.ensures)
    c.requires.ready.calm may k.tree (grown_none who.task (Census n c.args.path.now) _ _ refl refl k.noted.bounds)
