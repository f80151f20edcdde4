-- A release that the ledger makes is the one that an entry tells.
use Rattle.std.proofs.Common.{◌≡◌, ℕ, ◌<◌, ◌^◌, Bool, true, false, not, ◌==◌, List, Some, None, refl, ap, ◌∙◌, sym, subst, Result, Ok, Err, IfOk}
use Rattle.std.proofs.lemmas.Bool.{true≢false, eq-eqb, eqb-true}
use Rattle.rx_base.proofs.SameIds.{scope-is}
use Rattle.rx_rules.proofs.Common.{MembersMakeTheSet, ScopeId, TaskId, PlaceSet, Fault, Tree, quiet, AllowedAct, Unstruck, MayFree, NoMemory as NoRoom, made_act}
use Rattle.rx_rules.specs.declared.entries.Act.TheVariants.{Wait, Release}
use Rattle.rx_rules.specs.declared.tasks.Task.{Task}
use Rattle.rx_rules.specs.declared.tasks.Scope.{Scope}
use Rattle.rx_finish.specs.declared.ledger.Caller.{Caller}
use Rattle.rx_finish.specs.declared.ledger.Outcome.{Outcome}
use Rattle.rx_rules.specs.declared.tasks.Blow.{Blow}
use Rattle.rx_finish.specs.declared.ledger.LedgerFault.{LedgerFault}
use Rattle.rx_finish.specs.declared.ledger.LedgerFault.TheVariants.{NotYet, Lost, NoMemory}
use Rattle.rx_finish.specs.Calls.{blow_of, Did, ReleaseReply}
use Rattle.rx_verify.specs.Inside.Deciding.{Decides}
use Rattle.rx_verify.specs.Inside.Grants.{IsRefusal}

pub outcome_same : (o : Outcome) (lost : PlaceSet) (masked : ℕ) (thrown : List Fault) → o.lost ≡ lost → o.masked ≡ masked → o.thrown ≡ thrown → o ≡ record { lost = lost; masked = masked; thrown = thrown }
outcome_same o lost masked thrown p c f =
    ap (λ (x : PlaceSet). (let w : Outcome = record { lost = x; masked = o.masked; thrown = o.thrown } in w)) p
    ∙ (ap (λ (x : ℕ). (let w : Outcome = record { lost = lost; masked = x; thrown = o.thrown } in w)) c
    ∙ ap (λ (x : List Fault). (let w : Outcome = record { lost = lost; masked = masked; thrown = x } in w)) f)

-- two scopes that a test tells apart, or not
pub scopes_differ : (a b : ScopeId) → true ≡ not (a.0 == b.0) → a ≡ b → ⊥
scopes_differ a b e same = true≢false (e ∙ ap not (eq-eqb a.0 b.0 (ap (λ (s : ScopeId). s.0) same)))

pub scopes_same : (a b : ScopeId) → false ≡ not (a.0 == b.0) → a ≡ b
scopes_same a b e =
    (elim (a.0 == b.0) as (λ c. (a.0 == b.0) ≡ c → false ≡ not c → a ≡ b) [
      | true ↦ λ w f. scope-is a b (eqb-true a.0 b.0 w)
      | false ↦ λ w f. absurd (true≢false (sym f))
    ]) refl e

-- what it names, counts and carries
pub released_so : MembersMakeTheSet → (T : Tree) (who : Caller) (s : ScopeId) (o : Outcome) (lost : PlaceSet) (masked : ℕ) (thrown : List Fault) → o.lost.0 < 2 ^ 16 → lost.0 < 2 ^ 16 → who.inner ≡ s → AllowedAct T who.task (Release who.inner o.lost o.masked o.thrown) → AllowedAct T who.task (Release s lost masked thrown) → o ≡ record { lost = lost; masked = masked; thrown = thrown }
released_so law T who s o lost masked thrown low high is mine act =
    let m = mine.asks.3 in
    let a : MayFree T who.inner lost masked thrown = subst (λ (r : ScopeId). MayFree T r lost masked thrown) (sym is) act.asks.3 in
    let places : o.lost ≡ lost = law o.lost lost low high (m.places ∙ sym a.places) in
    let count : o.masked ≡ masked = m.count ∙ sym a.count in
    let faults : o.thrown ≡ thrown = m.faults ∙ sym a.faults in
    outcome_same o lost masked thrown places count faults

pub quiet_or_not : (T : Tree) (who : Caller) (s : ScopeId) (lost : PlaceSet) (masked : ℕ) (thrown : List Fault) → who.inner ≡ s → quiet T who.inner ≡ false → AllowedAct T who.task (Release s lost masked thrown) → ⊥
quiet_or_not T who s lost masked thrown is busy act = true≢false (sym act.asks.3.is_quiet ∙ (ap (quiet T) (sym is) ∙ busy))

-- who is lost does not act
pub lost_never : (T : Tree) (t : TaskId) (b : Blow) (Q : Task → Type 0) → blow_of T t ≡ Some b → Unstruck T t Q → ⊥
lost_never T t b Q was act =
    let struck : act.task.struck ≡ Some b = rw (act.stands, blow_of) at was in
    let both : None ≡ Some b = sym act.unstruck ∙ struck in
    cc

-- a task waits in one scope
waited_same : (T : Tree) (t : TaskId) (r s : ScopeId) (f h : List Fault) → AllowedAct T t (Wait r f) → AllowedAct T t (Wait s h) → r ≡ s
waited_same T t r s f h a b =
    let both : Some a.asks.1 ≡ Some b.asks.1 = sym a.asks.2.0 ∙ b.asks.2.0 in
    let one : a.asks.1 ≡ b.asks.1 = cc in
    sym a.asks.2.1 ∙ (ap (λ (g : Scope). g.number) one ∙ b.asks.2.1)

-- where it makes one the comparison of the scopes decides
pub wait_decides : (T : Tree) (who : Caller) (s : ScopeId) (faults thrown : List Fault) (S : Tree → Type 0) (b : Bool) → b ≡ (who.inner.0 == s.0) → faults ≡ thrown → Did T who (Wait who.inner faults) S → Decides b (AllowedAct T who.task (Wait s thrown)) (S (made_act T who.task (Wait s thrown)))
wait_decides T who s faults thrown S true e same did =
    let is : who.inner ≡ s = scope-is who.inner s (eqb-true who.inner.0 s.0 (sym e)) in (
      subst (λ (r : ScopeId). AllowedAct T who.task (Wait r thrown)) is (subst (λ (f : List Fault). AllowedAct T who.task (Wait who.inner f)) same did.allowed),
      subst (λ (r : ScopeId). S (made_act T who.task (Wait r thrown))) is (subst (λ (f : List Fault). S (made_act T who.task (Wait who.inner f))) same did.made),
    )
wait_decides T who s faults thrown S false e same did = λ act.
    true≢false (sym (eq-eqb who.inner.0 s.0 (ap (λ (x : ScopeId). x.0) (waited_same T who.task who.inner s faults thrown did.allowed act))) ∙ sym e)

-- where the ledger refuses a release the entry is not allowed
pub release_refused : (T : Tree) (who : Caller) (s : ScopeId) (lost : PlaceSet) (masked : ℕ) (thrown : List Fault) (S : Tree → Type 0) (fault : LedgerFault) → IsRefusal fault → ReleaseReply T who (Err fault) S → who.inner ≡ s → AllowedAct T who.task (Release s lost masked thrown) → ⊥
release_refused T who s lost masked thrown S (NotYet place) r reply is act = quiet_or_not T who s lost masked thrown is reply.1.busy act
release_refused T who s lost masked thrown S (Lost place at) r reply is act = lost_never T who.task _ _ reply.0 act
release_refused T who s lost masked thrown S NoMemory r reply is act = absurd r

-- what a refusal says of an answer
pub refusing : (r : Result Bool NoRoom) (P : Bool → Type 0) (fault : LedgerFault) → IfOk r (λ b. (b ≡ false) × IsRefusal fault) → (IsRefusal fault → P false) → IfOk r P
refusing (Ok b) P fault h f = subst P (sym h.0) (f h.1)
refusing (Err e) P fault h f = tt

-- where it makes one the comparison decides
pub released_decides : MembersMakeTheSet → (T : Tree) (who : Caller) (s : ScopeId) (o : Outcome) (lost : PlaceSet) (masked : ℕ) (thrown : List Fault) (S : Tree → Type 0) (b : Bool) → o.lost.0 < 2 ^ 16 → lost.0 < 2 ^ 16 → who.inner ≡ s → Did T who (Release who.inner o.lost o.masked o.thrown) S → (b ≡ true → o ≡ record { lost = lost; masked = masked; thrown = thrown }) → (o ≡ record { lost = lost; masked = masked; thrown = thrown } → b ≡ true) → Decides b (AllowedAct T who.task (Release s lost masked thrown)) (S (made_act T who.task (Release s lost masked thrown)))
released_decides law T who s o lost masked thrown S true low high is did yes_so so_yes =
    let same = yes_so refl in (
      subst (λ (r : ScopeId). AllowedAct T who.task (Release r lost masked thrown)) is (subst (λ (p : Outcome). AllowedAct T who.task (Release who.inner p.lost p.masked p.thrown)) same did.allowed),
      subst (λ (r : ScopeId). S (made_act T who.task (Release r lost masked thrown))) is did.made,
    )
released_decides law T who s o lost masked thrown S false low high is did yes_so so_yes = λ act.
    true≢false (sym (so_yes (released_so law T who s o lost masked thrown low high is did.allowed act)))
