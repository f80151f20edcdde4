use Rattle.std.proofs.Common.{◌≡◌, ap, ◌∙◌, ◌<◌, ◌+◌, sym, subst, refl, append-nil, ℕ, List, map, length, slice_index_or, Err}
use Rattle.std.proofs.lemmas.Result.{err_from_is_err_and}
use Rattle.rx_rules.proofs.Common.{ScopeId, Fault, made_act}
use Rattle.rx_rules.specs.declared.entries.Act.TheVariants.{Wait}
use Rattle.rx_rules.specs.declared.entries.Entry.TheVariants.{Step}
use Rattle.rx_tree_laws.specs.Sound.{Each}
use Rattle.rx_history.specs.Logs.{Log}
use Rattle.rx_finish.specs.declared.ledger.LedgerFault.{LedgerFault}
use Rattle.rx_finish.specs.Calls.{WaitReply}
use Rattle.rx_chronicle.specs.declared.notes.Note.{Note}
use Rattle.rx_chronicle.specs.Keeping.{Bounds}
use Rattle.rx_chronicle.specs.Requests.{tree_told, with_entry, NoWait}
use Rattle.rx_chronicle.proofs.Counting.{bounds-wait, own_noted, notes_length}
use Rattle.rx_chronicle.proofs.Granting.{room, seen, granted, still, refused}
use Rattle.rx_chronicle.proofs.chronicle.Chronicle.wait.Goals as goal

pub returns-in_err-wait-clause-answer : goal.returns-in_err-wait-clause-answer
returns-in_err-wait-clause-answer g c =
    let now = c.args.self.now in
    let T = tree_told now in
    let who = c.args.who in
    let thrown = c.args.thrown in
    let f = c.in_err-wait.field-0.0 in
    let k = seen c.self.view_is c.self.invariant in
    let S = g.L.FinishLedger.stands c.wait.new.self (room now) in
    let no = refused T who NoWait ((f.1 ≡ thrown) × S T) (λ (e : LedgerFault). WaitReply T who thrown (Err (e, f.1)) S) (λ h. (h.1, h.2)) (λ p a h. (h.0, (h.1, h.2))) (λ p h. absurd h) f.0 (c.in_err-wait.ensures (room now) T k.tree c.requires.asks) in
    let p = err_from_is_err_and c.from_residual.result c.from_residual.ensures.1 in
    rw (p.1, p.2) (no.0, c.self.view_is)

pub returns-in_err-wait-clause-back : goal.returns-in_err-wait-clause-back
returns-in_err-wait-clause-back g c =
    let now = c.args.self.now in
    let T = tree_told now in
    let who = c.args.who in
    let thrown = c.args.thrown in
    let f = c.in_err-wait.field-0.0 in
    let k = seen c.self.view_is c.self.invariant in
    let S = g.L.FinishLedger.stands c.wait.new.self (room now) in
    let no = refused T who NoWait ((f.1 ≡ thrown) × S T) (λ (e : LedgerFault). WaitReply T who thrown (Err (e, f.1)) S) (λ h. (h.1, h.2)) (λ p a h. (h.0, (h.1, h.2))) (λ p h. absurd h) f.0 (c.in_err-wait.ensures (room now) T k.tree c.requires.asks) in
    let p = err_from_is_err_and c.from_residual.result c.from_residual.ensures.1 in
    rw (p.1, p.2) (no.1.0, refl)

pub set_faults-requires : goal.set_faults-requires
set_faults-requires g c =
    let now = c.args.self.now in
    let b = c.self.inside in
    let T = tree_told now in
    let who = c.args.who in
    let k = seen c.self.view_is c.self.invariant in
    let may = (c.in_ok-wait.ensures (room now) T k.tree c.requires.asks).allowed in
    let low = own_noted (map (λ (n : Note). n.faults) b.notes.items) T who.task may.asks.1 may.asks.2.0 k.noted.bounds in
    subst (λ (n : ℕ). who.inner.0 < n) (notes_length b.notes.items) (subst (λ (s : ScopeId). s.0 < length (map (λ (n : Note). n.faults) b.notes.items)) may.asks.2.1 low)

pub invariant_of-self-2 : goal.invariant_of-self-2
invariant_of-self-2 g c =
    let now = c.args.self.now in
    let b = c.self.inside in
    let T = tree_told now in
    let who = c.args.who in
    let s = who.inner in
    let thrown = c.args.thrown in
    let batch = c.args.batch.now in
    let ns = map (λ (n : Note). n.faults) b.notes.items in
    let k = seen c.self.view_is c.self.invariant in
    let did = c.in_ok-wait.ensures (room now) T k.tree c.requires.asks in
    let is = c.in-Ok-Ok.ensures' ∙ (ap (λ (xs : List Note). slice_index_or (map (λ n. n.faults) xs) s.0 0 + c.len.result) c.deref.ensures.value ∙ ap (λ (n : ℕ). slice_index_or ns s.0 0 + n) c.len.ensures) in
    let bounds = bounds-wait ns s c.in-Ok-Ok.faults (length thrown) is T who.task thrown refl k.noted.bounds in
    granted now k c.wait.new.self c.set_faults.new.notes.items who.task (Wait who.inner thrown) batch c.self.view_is
    (c.add.ensures ∙ ap (λ (fs : List Fault). with_entry b.history (Step who.task (Wait who.inner fs) batch)) c.in-Ok-Ok.ensures)
    c.requires.ready.calm did.allowed did.made
    (record {
      parents = c.set_faults.ensures.parents ∙ sym (append-nil _);
      openers = c.set_faults.ensures.openers ∙ sym (append-nil _);
      bounds = subst (λ (ms : List ℕ). Each (Bounds ms) (made_act T who.task (Wait who.inner thrown)).scopes) (sym c.set_faults.ensures.faults) bounds;
    })

pub invariant_of-self : goal.invariant_of-self
invariant_of-self g c =
    let now = c.args.self.now in
    let T = tree_told now in
    let who = c.args.who in
    let thrown = c.args.thrown in
    let f = c.in_err-wait.field-0.0 in
    let k = seen c.self.view_is c.self.invariant in
    let S = g.L.FinishLedger.stands c.wait.new.self (room now) in
    let no = refused T who NoWait ((f.1 ≡ thrown) × S T) (λ (e : LedgerFault). WaitReply T who thrown (Err (e, f.1)) S) (λ h. (h.1, h.2)) (λ p a h. (h.0, (h.1, h.2))) (λ p h. absurd h) f.0 (c.in_err-wait.ensures (room now) T k.tree c.requires.asks) in
    still now k c.wait.new.self c.self.inside.notes.items c.self.view_is no.1.1 refl

pub returns-clause-answer : goal.returns-clause-answer
returns-clause-answer g c =
    let now = c.args.self.now in
    let b = c.self.inside in
    let who = c.args.who in
    let thrown = c.args.thrown in
    let batch = c.args.batch.now in
    let k = seen c.self.view_is c.self.invariant in
    let did = c.in_ok-wait.ensures (room now) (tree_told now) k.tree c.requires.asks in
    record {
      allowed = did.allowed;
      told =
          c.add.ensures
          ∙ (ap (λ (fs : List Fault). with_entry b.history (Step who.task (Wait who.inner fs) batch)) c.in-Ok-Ok.ensures
          ∙ ap (λ (h : Log). with_entry h (Step who.task (Wait who.inner thrown) batch)) c.self.view_is);
    }
