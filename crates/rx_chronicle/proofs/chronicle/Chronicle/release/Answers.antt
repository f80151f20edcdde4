use Rattle.std.proofs.Common.{◌≡◌, ap, ◌∙◌, refl, arith, List, map, length, slice_index_or, Err}
use Rattle.std.proofs.lemmas.Result.{err_from_is_err_and}
use Rattle.rx_rules.proofs.Common.{Fault, thrown_of}
use Rattle.rx_rules.specs.declared.entries.Act.TheVariants.{Release}
use Rattle.rx_rules.specs.declared.entries.Entry.TheVariants.{Step}
use Rattle.rx_history.specs.Logs.{Log}
use Rattle.rx_finish.specs.declared.ledger.LedgerFault.{LedgerFault}
use Rattle.rx_finish.specs.Calls.{ReleaseReply, IsHindered}
use Rattle.rx_chronicle.specs.declared.notes.Note.{Note}
use Rattle.rx_chronicle.specs.Requests.{tree_told, with_entry}
use Rattle.rx_chronicle.proofs.Counting.{bounds-release, thrown_bound}
use Rattle.rx_chronicle.proofs.Granting.{room, seen, granted, still, grown_none, refused}
use Rattle.rx_chronicle.proofs.chronicle.Chronicle.release.Goals as goal

pub returns-in_err-outcome-clause-answer : goal.returns-in_err-outcome-clause-answer
returns-in_err-outcome-clause-answer g c =
    let now = c.args.self.now in
    let T = tree_told now in
    let who = c.args.who in
    let k = seen c.self.view_is c.self.invariant in
    let S = g.L.FinishLedger.stands c.release.new.self (room now) in
    let no = refused T who (IsHindered T who.inner) (S T) (λ (f : LedgerFault). ReleaseReply T who (Err f) S) (λ h. h.2) (λ p a h. h) (λ p h. ((h.0, h.1), h.2)) c.in_err-outcome.field-0.0 (c.in_err-outcome.ensures (room now) T k.tree c.requires.asks) in
    let p = err_from_is_err_and c.from_residual.result c.from_residual.ensures.1 in
    rw (p.1, p.2) (no.0, c.self.view_is)

pub fill-thrown-requires : goal.fill-thrown-requires
fill-thrown-requires g c =
    let now = c.args.self.now in
    let b = c.self.inside in
    let T = tree_told now in
    let s = c.args.who.inner in
    let k = seen c.self.view_is c.self.invariant in
    let did = c.in_ok-outcome.ensures (room now) T k.tree c.requires.asks in
    let ns = map (λ (n : Note). n.faults) b.notes.items in
    let bound = thrown_bound ns T s k.noted.bounds in
    let at : c.faults_of.result ≡ slice_index_or ns s.0 0 = c.faults_of.ensures ∙ ap (λ (xs : List Note). slice_index_or (map (λ n. n.faults) xs) s.0 0) c.deref.ensures.value in
    let capacity = c.in-Ok.ensures in
    let is : length c.in_ok-outcome.outcome.thrown ≡ length (thrown_of T s) = ap (λ (f : List Fault). length f) did.allowed.asks.3.faults in
    omega (arith, bound, at, capacity, is)

pub invariant_of-self-2 : goal.invariant_of-self-2
invariant_of-self-2 g c =
    let now = c.args.self.now in
    let b = c.self.inside in
    let T = tree_told now in
    let who = c.args.who in
    let batch = c.args.batch.now in
    let o = c.in_ok-outcome.outcome in
    let k = seen c.self.view_is c.self.invariant in
    let did = c.in_ok-outcome.ensures (room now) T k.tree c.requires.asks in
    granted now k c.release.new.self b.notes.items who.task (Release who.inner o.lost o.masked o.thrown) batch c.self.view_is
    (c.add.ensures ∙ ap (λ (fs : List Fault). with_entry b.history (Step who.task (Release who.inner o.lost o.masked fs) batch)) c.fill-thrown.ensures)
    c.requires.ready.calm did.allowed did.made
    (grown_none who.task (Release who.inner o.lost o.masked o.thrown) _ _ refl refl (bounds-release (map (λ (n : Note). n.faults) b.notes.items) T who.inner k.noted.bounds))

pub invariant_of-self : goal.invariant_of-self
invariant_of-self g c =
    let now = c.args.self.now in
    let T = tree_told now in
    let who = c.args.who in
    let k = seen c.self.view_is c.self.invariant in
    let S = g.L.FinishLedger.stands c.release.new.self (room now) in
    let no = refused T who (IsHindered T who.inner) (S T) (λ (f : LedgerFault). ReleaseReply T who (Err f) S) (λ h. h.2) (λ p a h. h) (λ p h. ((h.0, h.1), h.2)) c.in_err-outcome.field-0.0 (c.in_err-outcome.ensures (room now) T k.tree c.requires.asks) in
    still now k c.release.new.self c.self.inside.notes.items c.self.view_is no.1 refl

pub returns-clause-answer : goal.returns-clause-answer
returns-clause-answer g c =
    let now = c.args.self.now in
    let b = c.self.inside in
    let who = c.args.who in
    let batch = c.args.batch.now in
    let o = c.in_ok-outcome.outcome in
    let k = seen c.self.view_is c.self.invariant in
    let did = c.in_ok-outcome.ensures (room now) (tree_told now) k.tree c.requires.asks in
    record {
      allowed = did.allowed;
      told =
          c.add.ensures
          ∙ (ap (λ (fs : List Fault). with_entry b.history (Step who.task (Release who.inner o.lost o.masked fs) batch)) c.fill-thrown.ensures
          ∙ ap (λ (h : Log). with_entry h (Step who.task (Release who.inner o.lost o.masked o.thrown) batch)) c.self.view_is);
    }
