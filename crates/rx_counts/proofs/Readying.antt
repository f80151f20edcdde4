-- What the record of the inner scope tells of a caller that waits there.
use Rattle.std.proofs.Common.{◌≡◌, ℕ, true, false, ◌&&◌, ◌==◌, Option, Some, None, is_none, is_some, refl, sym, ap, ◌∙◌, subst}
use Rattle.std.proofs.lemmas.Bool.{true≢false}
use Rattle.rx_rules.proofs.Common.{ScopeId, Tree, quiet}
use Rattle.rx_base.proofs.Options.{none-of}
use Rattle.rx_rules.specs.declared.tasks.Blow.{Blow}
use Rattle.rx_tree_laws.specs.Blows.{blow_at}
use Rattle.rx_tree_laws.proofs.Reached.{sound}
use Rattle.rx_finish.specs.declared.ledger.Caller.{Caller}
use Rattle.rx_finish.specs.Callers.{MayAskRelease, WaitsInside}
use Rattle.rx_finish.specs.Calls.{is_ready, blow_of}
use Rattle.rx_finish.proofs.Allowed.{Free, own_is}
use Rattle.rx_counts.specs.declared.record.Record.{Record}
use Rattle.rx_counts.specs.declared.ledger.CountLedger.{CountLedger}
use Rattle.rx_counts.specs.Keeping.{stands_home, total_of}
use Rattle.rx_counts.specs.Stands.{StandsFor, record_at}
use Rattle.rx_counts.specs.Inside.Freeing.{IsLast}
use Rattle.rx_counts.proofs.Lasting.{own_last, zero_is_quiet}
use Rattle.rx_counts.proofs.Asking.{blow_is, unstruck, caller, Kept, kept_found}

pub last_of : {room : ℕ} (l : CountLedger) (T : Tree) (who : Caller) → StandsFor l room T → (f : Free T who (WaitsInside T who)) → IsLast T who.inner
last_of l T who s f = subst (IsLast T) (own_is T who (WaitsInside T who) f f.at.allowed.scope f.at.allowed.own) (own_last T who.task f.at.task f.at.allowed.scope (sound s.reached) f.at.stands f.at.allowed.own f.unstruck)

-- its record
pub last_kept : {room : ℕ} (l : CountLedger) (T : Tree) (s : ScopeId) → StandsFor l room T → IsLast T s → Kept l.width T l.scopes s.0
last_kept l T s h i = kept_found T l.scopes s.0 i.scope h.fit.scopes i.stands

pub total_quiet : {room : ℕ} (l : CountLedger) (T : Tree) (s : ScopeId) (r : Record) → StandsFor l room T → IsLast T s → record_at l.scopes s.0 ≡ Some r → r.sums.total == 0 ≡ quiet T s
total_quiet l T s r h i e =
    let k : Kept l.width T l.scopes s.0 = last_kept l T s h i in
    let same : k.kept ≡ r = (let f = k.found in cc) in
    ap (λ (v : Record). v.sums.total == 0) (sym same) ∙ ap (λ n. n == 0) (k.fits.sums.total ∙ ap (total_of (stands_home T.dead) T.scopes T.tasks) k.number) ∙ zero_is_quiet T s (sound h.reached) i

pub ready_struck : {room : ℕ} (l : CountLedger) (T : Tree) (who : Caller) (o : Option Blow) → StandsFor l room T → MayAskRelease T who → o ≡ blow_at l.dead who.place → is_some o ≡ true → false ≡ is_ready T who
ready_struck l T who o s may e k =
    let b : blow_of T who.task ≡ o = blow_is l T who (WaitsInside T who) s may ∙ sym e in
    rw (is_ready, b) ((elim o as (λ v. is_some v ≡ true → false ≡ (is_none v && quiet T who.inner)) [ Some x ↦ λ q. refl | None ↦ λ q. absurd (true≢false (sym q)) ]) k)

ready_caller : {room : ℕ} (l : CountLedger) (T : Tree) (who : Caller) (o : Option Blow) → StandsFor l room T → MayAskRelease T who → o ≡ blow_at l.dead who.place → is_some o ≡ false → Free T who (WaitsInside T who)
ready_caller l T who o s may e k = caller l T who (WaitsInside T who) s may (sym e ∙ none-of o k)

pub ready_some : {room : ℕ} (l : CountLedger) (T : Tree) (who : Caller) (o : Option Blow) (r : Record) → StandsFor l room T → MayAskRelease T who → o ≡ blow_at l.dead who.place → is_some o ≡ false → record_at l.scopes who.inner.0 ≡ Some r → r.sums.total == 0 ≡ is_ready T who
ready_some l T who o r s may e k f =
    let free : blow_of T who.task ≡ None = unstruck l T who (WaitsInside T who) s may (sym e ∙ none-of o k) in
    rw (is_ready, free) (total_quiet l T who.inner r s (last_of l T who s (ready_caller l T who o s may e k)) f)

pub ready_none : {room : ℕ} (l : CountLedger) (T : Tree) (who : Caller) (o : Option Blow) → StandsFor l room T → MayAskRelease T who → o ≡ blow_at l.dead who.place → is_some o ≡ false → record_at l.scopes who.inner.0 ≡ None → ⊥
ready_none l T who o s may e k f = let i = (last_kept l T who.inner s (last_of l T who s (ready_caller l T who o s may e k))).found in cc
