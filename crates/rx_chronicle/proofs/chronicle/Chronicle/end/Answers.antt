use Rattle.std.proofs.Common.{◌≡◌, ap, ◌∙◌, ◌<◌, ◌+◌, sym, subst, refl, append-nil, ℕ, List, map, length, slice_index_or, Err}
use Rattle.std.proofs.lemmas.Result.{err_from_is_err_and}
use Rattle.rx_rules.proofs.Common.{ScopeId, Fault, made_act}
use Rattle.rx_rules.specs.declared.entries.Act.TheVariants.{End}
use Rattle.rx_rules.specs.declared.entries.Entry.TheVariants.{Step}
use Rattle.rx_tree_laws.specs.Sound.{Each}
use Rattle.rx_history.specs.Setups.{given}
use Rattle.rx_finish.specs.declared.ledger.LedgerFault.{LedgerFault}
use Rattle.rx_finish.specs.Callers.{IsBare}
use Rattle.rx_finish.specs.Calls.{EndReply}
use Rattle.rx_chronicle.specs.declared.notes.Note.{Note}
use Rattle.rx_chronicle.specs.Keeping.{Bounds}
use Rattle.rx_chronicle.specs.Requests.{tree_told, with_entry, NoWait}
use Rattle.rx_chronicle.proofs.Counting.{bounds-end, next-size, notes_length}
use Rattle.rx_chronicle.proofs.Hanging.{says_under, under_opened}
use Rattle.rx_chronicle.proofs.Granting.{room, seen, granted, refused}
use Rattle.rx_chronicle.proofs.chronicle.Chronicle.end.Goals as goal

pub returns-in_err-end-clause-answer : goal.returns-in_err-end-clause-answer
returns-in_err-end-clause-answer g c =
    let now = c.args.self.now in
    let T = tree_told now in
    let who = c.args.who in
    let thrown = c.args.thrown in
    let f = c.in_err-end.field-0.0 in
    let k = seen c.self.view_is c.self.invariant in
    let S = g.L.FinishLedger.stands c.end.new.self (room now) in
    let no = refused T who NoWait ((f.1 ≡ thrown) × S T) (λ (e : LedgerFault). EndReply T who thrown (Err (e, f.1)) S) (λ h. (h.1, h.2)) (λ p a h. (h.0, (h.1, h.2))) (λ p h. absurd h) f.0 (c.in_err-end.ensures (room now) T k.tree c.requires.asks) in
    let p = err_from_is_err_and c.from_residual.result c.from_residual.ensures.1 in
    rw (p.1, p.2) (no.0, c.self.view_is)

pub returns-in_err-end-clause-back : goal.returns-in_err-end-clause-back
returns-in_err-end-clause-back g c =
    let now = c.args.self.now in
    let T = tree_told now in
    let who = c.args.who in
    let thrown = c.args.thrown in
    let f = c.in_err-end.field-0.0 in
    let k = seen c.self.view_is c.self.invariant in
    let S = g.L.FinishLedger.stands c.end.new.self (room now) in
    let no = refused T who NoWait ((f.1 ≡ thrown) × S T) (λ (e : LedgerFault). EndReply T who thrown (Err (e, f.1)) S) (λ h. (h.1, h.2)) (λ p a h. (h.0, (h.1, h.2))) (λ p h. absurd h) f.0 (c.in_err-end.ensures (room now) T k.tree c.requires.asks) in
    let p = err_from_is_err_and c.from_residual.result c.from_residual.ensures.1 in
    rw (p.1, p.2) (no.1.0, refl)

pub set_faults-requires : goal.set_faults-requires
set_faults-requires g c =
    let now = c.args.self.now in
    let b = c.self.inside in
    let T = tree_told now in
    let who = c.args.who in
    let k = seen c.self.view_is c.self.invariant in
    let may = (c.in_ok-end.ensures (room now) T k.tree c.requires.asks).allowed in
    let under = says_under T who (IsBare T who) may.task c.requires.asks may.stands in
    let low = under_opened (given now.setup) now.entries who.task may.task k.folds may.stands in
    let size = next-size now.setup.places now.entries b.notes.items k.noted.parents ∙ notes_length b.notes.items in
    subst (λ (s : ScopeId). s.0 < length b.notes.items) under (subst (λ (n : ℕ). may.task.under.0 < n) size low)

pub invariant_of-self-2 : goal.invariant_of-self-2
invariant_of-self-2 g c =
    let now = c.args.self.now in
    let b = c.self.inside in
    let T = tree_told now in
    let who = c.args.who in
    let s = who.scope in
    let thrown = c.args.thrown in
    let batch = c.args.batch.now in
    let ns = map (λ (n : Note). n.faults) b.notes.items in
    let k = seen c.self.view_is c.self.invariant in
    let did = c.in_ok-end.ensures (room now) T k.tree c.requires.asks in
    let is = c.in-Ok-Ok.ensures' ∙ (ap (λ (xs : List Note). slice_index_or (map (λ n. n.faults) xs) s.0 0 + c.len.result) c.deref.ensures.value ∙ ap (λ (n : ℕ). slice_index_or ns s.0 0 + n) c.len.ensures) in
    let bounds = bounds-end ns s c.in-Ok-Ok.faults (length thrown) is T who.task thrown did.allowed.task refl did.allowed.stands (says_under T who (IsBare T who) did.allowed.task c.requires.asks did.allowed.stands) k.noted.bounds in
    granted now k c.end.new.self c.set_faults.new.notes.items who.task (End thrown) batch c.self.view_is
    (c.add.ensures ∙ ap (λ (fs : List Fault). with_entry b.history (Step who.task (End fs) batch)) c.in-Ok-Ok.ensures)
    c.requires.ready.calm did.allowed did.made
    (record {
      parents = c.set_faults.ensures.parents ∙ sym (append-nil _);
      openers = c.set_faults.ensures.openers ∙ sym (append-nil _);
      bounds = subst (λ (ms : List ℕ). Each (Bounds ms) (made_act T who.task (End thrown)).scopes) (sym c.set_faults.ensures.faults) bounds;
    })
