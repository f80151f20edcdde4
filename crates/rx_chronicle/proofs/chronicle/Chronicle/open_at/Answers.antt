use Rattle.std.proofs.Common.{ap, ◌∙◌, ◌++◌, [], ◌∷◌, refl, ℕ, List, map, Err}
use Rattle.std.proofs.lemmas.Result.{err_from_is_err_and}
use Rattle.rx_rules.proofs.Common.{PlaceId, place_number}
use Rattle.rx_rules.specs.declared.entries.Act.TheVariants.{At as Calls}
use Rattle.rx_rules.specs.declared.entries.Entry.TheVariants.{Step}
use Rattle.rx_history.specs.Logs.{Log}
use Rattle.rx_finish.specs.declared.ledger.LedgerFault.{LedgerFault}
use Rattle.rx_finish.specs.Calls.{CallReply}
use Rattle.rx_chronicle.specs.declared.notes.Note.{Note}
use Rattle.rx_chronicle.specs.Requests.{tree_told, with_entry, NoWait}
use Rattle.rx_chronicle.proofs.Counting.{bounds-call, next-size}
use Rattle.rx_chronicle.proofs.Granting.{room, seen, granted, still, grown_one, refused}
use Rattle.rx_chronicle.proofs.chronicle.Chronicle.open_at.Goals as goal

pub returns-in_err-make_room-clause-answer : goal.returns-in_err-make_room-clause-answer
returns-in_err-make_room-clause-answer g c =
    let p = err_from_is_err_and c.from_residual.result c.from_residual.ensures.1 in
    rw (p.1, p.2, c.in_err-make_room.ensures.refused) (tt, c.self.view_is)

pub invariant_of-self : goal.invariant_of-self
invariant_of-self g c =
    let k = seen c.self.view_is c.self.invariant in
    still c.args.self.now k c.self.inside.ledger c.make_room.new.notes.items c.self.view_is k.tree c.make_room.ensures.items

pub returns-in_err-born-clause-answer : goal.returns-in_err-born-clause-answer
returns-in_err-born-clause-answer g c =
    let now = c.args.self.now in
    let T = tree_told now in
    let who = c.args.who in
    let k = seen c.self.view_is c.self.invariant in
    let S = g.L.FinishLedger.stands c.open_at.new.self (room now) in
    let no = refused T who NoWait (S T) (λ (f : LedgerFault). CallReply T who c.args.to (Err f) S) (λ h. h.1) (λ p a h. h) (λ p h. absurd h) c.in_err-born.field-0.0 (c.in_err-born.ensures (room now) T k.tree c.requires.asks) in
    let p = err_from_is_err_and c.from_residual-in_err-born.result c.from_residual-in_err-born.ensures.1 in
    rw (p.1, p.2) (no.0, c.self.view_is)

pub invariant_of-self-in_err-born : goal.invariant_of-self-in_err-born
invariant_of-self-in_err-born g c =
    let now = c.args.self.now in
    let T = tree_told now in
    let who = c.args.who in
    let k = seen c.self.view_is c.self.invariant in
    let S = g.L.FinishLedger.stands c.open_at.new.self (room now) in
    let no = refused T who NoWait (S T) (λ (f : LedgerFault). CallReply T who c.args.to (Err f) S) (λ h. h.1) (λ p a h. h) (λ p h. absurd h) c.in_err-born.field-0.0 (c.in_err-born.ensures (room now) T k.tree c.requires.asks) in
    still now k c.open_at.new.self c.make_room.new.notes.items c.self.view_is no.1 c.make_room.ensures.items

pub invariant_of-self-2 : goal.invariant_of-self-2
invariant_of-self-2 g c =
    let now = c.args.self.now in
    let b = c.self.inside in
    let T = tree_told now in
    let who = c.args.who in
    let from = place_number who.place in
    let to = c.args.to in
    let path = c.args.path.now in
    let batch = c.args.batch.now in
    let born = c.in_ok-born.born in
    let note : Note = record { opener = who.task; parent = who.inner; faults = 0 } in
    let k = seen c.self.view_is c.self.invariant in
    let did = (c.in_ok-born.ensures (room now) T k.tree c.requires.asks).0 in
    let next = did.allowed.asks.1 ∙ next-size now.setup.places now.entries b.notes.items k.noted.parents in
    granted now k c.open_at.new.self c.add_note.new.notes.items who.task (Calls from to born.scope who.inner born.child path) batch c.self.view_is
    (c.add.ensures
    ∙ (ap (λ (p : PlaceId). with_entry b.history (Step who.task (Calls p to born.scope who.inner born.child c.taken-path.result) batch)) c.place_of.ensures
    ∙ ap (λ (p : List ℕ). with_entry b.history (Step who.task (Calls from to born.scope who.inner born.child p) batch)) c.taken-path.ensures))
    c.requires.ready.calm did.allowed did.made
    (grown_one who.task (Calls from to born.scope who.inner born.child path) _ b.notes.items c.add_note.new.notes.items note (c.add_note.ensures ∙ ap (λ (ns : List Note). ns ++ note ∷ []) c.make_room.ensures.items) refl refl
    (bounds-call (map (λ (n : Note). n.faults) b.notes.items) T who.task born.scope who.inner born.child from to path next k.noted.bounds))

pub returns-clause-answer : goal.returns-clause-answer
returns-clause-answer g c =
    let now = c.args.self.now in
    let b = c.self.inside in
    let T = tree_told now in
    let who = c.args.who in
    let from = place_number who.place in
    let to = c.args.to in
    let path = c.args.path.now in
    let batch = c.args.batch.now in
    let born = c.in_ok-born.born in
    let k = seen c.self.view_is c.self.invariant in
    let did = (c.in_ok-born.ensures (room now) T k.tree c.requires.asks).0 in
    record {
      allowed = did.allowed;
      told =
          c.add.ensures
          ∙ (ap (λ (p : PlaceId). with_entry b.history (Step who.task (Calls p to born.scope who.inner born.child c.taken-path.result) batch)) c.place_of.ensures
          ∙ (ap (λ (p : List ℕ). with_entry b.history (Step who.task (Calls from to born.scope who.inner born.child p) batch)) c.taken-path.ensures
          ∙ ap (λ (h : Log). with_entry h (Step who.task (Calls from to born.scope who.inner born.child path) batch)) c.self.view_is));
    }
