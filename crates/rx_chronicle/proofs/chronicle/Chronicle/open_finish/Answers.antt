use Rattle.std.proofs.Common.{ap, ◌∙◌, ◌++◌, [], ◌∷◌, refl, ℕ, List, map, Err}
use Rattle.std.proofs.lemmas.Result.{err_from_is_err_and}
use Rattle.rx_rules.specs.declared.entries.Act.TheVariants.{Open}
use Rattle.rx_rules.specs.declared.entries.Entry.TheVariants.{Step}
use Rattle.rx_finish.specs.declared.ledger.LedgerFault.{LedgerFault}
use Rattle.rx_finish.specs.Calls.{OpenReply}
use Rattle.rx_chronicle.specs.declared.notes.Note.{Note}
use Rattle.rx_chronicle.specs.Requests.{tree_told, with_entry, NoWait}
use Rattle.rx_chronicle.proofs.Counting.{bounds-open, next-size}
use Rattle.rx_chronicle.proofs.Granting.{room, seen, granted, still, grown_one, refused}
use Rattle.rx_chronicle.proofs.chronicle.Chronicle.open_finish.Goals as goal

pub returns-in_err-make_room-clause-answer : goal.returns-in_err-make_room-clause-answer
returns-in_err-make_room-clause-answer g c =
    let p = err_from_is_err_and c.from_residual.result c.from_residual.ensures.1 in
    rw (p.1, p.2, c.in_err-make_room.ensures.refused) (tt, c.self.view_is)

pub invariant_of-self : goal.invariant_of-self
invariant_of-self g c =
    let k = seen c.self.view_is c.self.invariant in
    still c.args.self.now k c.self.inside.ledger c.make_room.new.notes.items c.self.view_is k.tree c.make_room.ensures.items

pub returns-in_err-scope-clause-answer : goal.returns-in_err-scope-clause-answer
returns-in_err-scope-clause-answer g c =
    let now = c.args.self.now in
    let T = tree_told now in
    let who = c.args.who in
    let k = seen c.self.view_is c.self.invariant in
    let S = g.L.FinishLedger.stands c.open_finish.new.self (room now) in
    let no = refused T who NoWait (S T) (λ (f : LedgerFault). OpenReply T who (Err f) S) (λ h. h.1) (λ p a h. h) (λ p h. absurd h) c.in_err-scope.field-0.0 (c.in_err-scope.ensures (room now) T k.tree c.requires.asks) in
    let p = err_from_is_err_and c.from_residual-in_err-scope.result c.from_residual-in_err-scope.ensures.1 in
    rw (p.1, p.2) (no.0, c.self.view_is)

pub invariant_of-self-in_err-scope : goal.invariant_of-self-in_err-scope
invariant_of-self-in_err-scope g c =
    let now = c.args.self.now in
    let T = tree_told now in
    let who = c.args.who in
    let k = seen c.self.view_is c.self.invariant in
    let S = g.L.FinishLedger.stands c.open_finish.new.self (room now) in
    let no = refused T who NoWait (S T) (λ (f : LedgerFault). OpenReply T who (Err f) S) (λ h. h.1) (λ p a h. h) (λ p h. absurd h) c.in_err-scope.field-0.0 (c.in_err-scope.ensures (room now) T k.tree c.requires.asks) in
    still now k c.open_finish.new.self c.make_room.new.notes.items c.self.view_is no.1 c.make_room.ensures.items

pub invariant_of-self-2 : goal.invariant_of-self-2
invariant_of-self-2 g c =
    let now = c.args.self.now in
    let b = c.self.inside in
    let T = tree_told now in
    let who = c.args.who in
    let path = c.args.path.now in
    let batch = c.args.batch.now in
    let s = c.in_ok-scope.scope in
    let note : Note = record { opener = who.task; parent = who.inner; faults = 0 } in
    let k = seen c.self.view_is c.self.invariant in
    let did = c.in_ok-scope.ensures (room now) T k.tree c.requires.asks in
    let next = did.allowed.asks.1 ∙ next-size now.setup.places now.entries b.notes.items k.noted.parents in
    granted now k c.open_finish.new.self c.add_note.new.notes.items who.task (Open s who.inner path) batch c.self.view_is
    (c.add.ensures ∙ ap (λ (p : List ℕ). with_entry b.history (Step who.task (Open s who.inner p) batch)) c.taken-path.ensures)
    c.requires.ready.calm did.allowed did.made
    (grown_one who.task (Open s who.inner path) _ b.notes.items c.add_note.new.notes.items note (c.add_note.ensures ∙ ap (λ (ns : List Note). ns ++ note ∷ []) c.make_room.ensures.items) refl refl
    (bounds-open (map (λ (n : Note). n.faults) b.notes.items) T who.task s who.inner path next k.noted.bounds))
