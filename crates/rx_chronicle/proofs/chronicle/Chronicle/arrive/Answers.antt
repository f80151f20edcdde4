use Rattle.std.proofs.Common.{ap, ◌∙◌, refl, Err}
use Rattle.std.proofs.lemmas.Result.{err_from_is_err_and}
use Rattle.rx_rules.proofs.Common.{PlaceId}
use Rattle.rx_rules.specs.declared.entries.Act.TheVariants.{Arrive}
use Rattle.rx_rules.specs.declared.entries.Entry.TheVariants.{Step}
use Rattle.rx_finish.specs.declared.ledger.LedgerFault.{LedgerFault}
use Rattle.rx_finish.specs.Calls.{landing, ArriveReply}
use Rattle.rx_chronicle.specs.Requests.{tree_told, with_entry, NoWait}
use Rattle.rx_chronicle.proofs.Granting.{room, seen, granted, grown_none, refused}
use Rattle.rx_chronicle.proofs.chronicle.Chronicle.arrive.Goals as goal

pub returns-in_err-arrive-clause-answer : goal.returns-in_err-arrive-clause-answer
returns-in_err-arrive-clause-answer g c =
    let now = c.args.self.now in
    let T = tree_told now in
    let who = c.args.who in
    let k = seen c.self.view_is c.self.invariant in
    let S = g.L.FinishLedger.stands c.arrive.new.self (room now) in
    let no = refused T who NoWait (S T) (λ (f : LedgerFault). ArriveReply T who (Err f) S) (λ h. absurd h) (λ p a h. h) (λ p h. absurd h) c.in_err-arrive.field-0.0 (c.in_err-arrive.ensures (room now) T k.tree c.requires.asks) in
    let p = err_from_is_err_and c.from_residual.result c.from_residual.ensures.1 in
    rw (p.1, p.2) (no.0, c.self.view_is)

pub invariant_of-self-2 : goal.invariant_of-self-2
invariant_of-self-2 g c =
    let now = c.args.self.now in
    let b = c.self.inside in
    let who = c.args.who in
    let batch = c.args.batch.now in
    let k = seen c.self.view_is c.self.invariant in
    let did = c.in_ok-arrive.ensures (room now) (tree_told now) k.tree c.requires.asks in
    granted now k c.arrive.new.self b.notes.items who.task (Arrive (landing who.place)) batch c.self.view_is
    (c.add.ensures ∙ ap (λ (p : PlaceId). with_entry b.history (Step who.task (Arrive p) batch)) c.landing_of-place.ensures)
    c.requires.ready.calm did.allowed did.made (grown_none who.task (Arrive (landing who.place)) _ _ refl refl k.noted.bounds)
