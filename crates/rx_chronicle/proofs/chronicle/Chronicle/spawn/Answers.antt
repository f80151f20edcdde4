use Rattle.std.proofs.Common.{ap, ◌∙◌, refl, ℕ, List, Err}
use Rattle.std.proofs.lemmas.Result.{err_from_is_err_and}
use Rattle.rx_rules.proofs.Common.{PlaceId, place_number}
use Rattle.rx_rules.specs.declared.entries.Act.TheVariants.{Spawn}
use Rattle.rx_rules.specs.declared.entries.Entry.TheVariants.{Step}
use Rattle.rx_finish.specs.declared.ledger.LedgerFault.{LedgerFault}
use Rattle.rx_finish.specs.Calls.{SpawnReply}
use Rattle.rx_chronicle.specs.Requests.{tree_told, with_entry, NoWait}
use Rattle.rx_chronicle.proofs.Granting.{room, seen, granted, grown_none, refused}
use Rattle.rx_chronicle.proofs.chronicle.Chronicle.spawn.Goals as goal

pub returns-in_err-born-clause-answer : goal.returns-in_err-born-clause-answer
returns-in_err-born-clause-answer g c =
    let now = c.args.self.now in
    let T = tree_told now in
    let who = c.args.who in
    let k = seen c.self.view_is c.self.invariant in
    let S = g.L.FinishLedger.stands c.spawn.new.self (room now) in
    let no = refused T who NoWait (S T) (λ (f : LedgerFault). SpawnReply T who c.args.to (Err f) S) (λ h. h.1) (λ p a h. h) (λ p h. absurd h) c.in_err-born.field-0.0 (c.in_err-born.ensures (room now) T k.tree c.requires.asks) in
    let p = err_from_is_err_and c.from_residual.result c.from_residual.ensures.1 in
    rw (p.1, p.2) (no.0, c.self.view_is)

pub invariant_of-self-2 : goal.invariant_of-self-2
invariant_of-self-2 g c =
    let now = c.args.self.now in
    let b = c.self.inside in
    let who = c.args.who in
    let from = place_number who.place in
    let to = c.args.to in
    let path = c.args.path.now in
    let batch = c.args.batch.now in
    let born = c.in_ok-born.born in
    let k = seen c.self.view_is c.self.invariant in
    let did = (c.in_ok-born.ensures (room now) (tree_told now) k.tree c.requires.asks).0 in
    granted now k c.spawn.new.self b.notes.items who.task (Spawn born.child born.scope from to path) batch c.self.view_is
    (c.add.ensures
    ∙ (ap (λ (p : PlaceId). with_entry b.history (Step who.task (Spawn born.child born.scope p to c.taken-path.result) batch)) c.place_of.ensures
    ∙ ap (λ (p : List ℕ). with_entry b.history (Step who.task (Spawn born.child born.scope from to p) batch)) c.taken-path.ensures))
    c.requires.ready.calm did.allowed did.made (grown_none who.task (Spawn born.child born.scope from to path) _ _ refl refl k.noted.bounds)
