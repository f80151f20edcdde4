-- What one entry does to an audit.
use Rattle.std.specs.Prelude.{◌≡◌, ℕ, ◌+◌, ◌<◌, ◌^◌, Bool, false, List, [], ◌∷◌, ◌++◌}
use Rattle.rx_rules.specs.declared.entries.Act.{Act}
use Rattle.rx_rules.specs.declared.entries.Entry.{Entry}
use Rattle.rx_rules.specs.declared.entries.Entry.TheVariants.{Step}
use Rattle.rx_rules.specs.Tree.{Tree}
use Rattle.rx_rules.specs.Fold.{tree_of}
use Rattle.rx_rules.specs.Run.{Given}
use Rattle.rx_finish.specs.declared.ledger.Caller.{Caller}
use Rattle.rx_ledger.specs.TermAsks.{MayAskAct}
use Rattle.rx_verify.specs.declared.audit.Audit.{Audit}
use Rattle.rx_verify.specs.Inside.Deciding.{Decides}
use Rattle.rx_verify.specs.Inside.Admits.{Admits, AuditIs}

-- an audit in which the root stands, and numbers suffice
pub record CanContinue {L : Type 0} (stands : L → ℕ → Tree → Type 0) (a : Audit L) : Type 0 where
  pub setup : Given
  pub entries : List Entry
  pub is : AuditIs stands setup entries a
  pub few : a.count + 2 < 2 ^ 31
  pub unended : a.ended ≡ false

-- in whose ledger the caller may ask for the act
pub record CallerMayAsk {L : Type 0} (stands : L → ℕ → Tree → Type 0) (a : Audit L) (who : Caller) (act : Act) : Type 0 where
  pub goes : CanContinue stands a
  pub may : MayAskAct (tree_of goes.setup.places goes.entries) who act

-- the answer is whether the entry may follow; where it may, the audit stands after it
abbrev pub Admitting : {L : Type 0} → (L → ℕ → Tree → Type 0) → Audit L → Audit L → Entry → Bool → Type 0
Admitting stands a a' e answer =
    (U : Given) (es : List Entry) → AuditIs stands U es a → Decides answer (Admits U es e) (AuditIs stands U (es ++ e ∷ []) a')

-- the same of an entry with the caller's act, for which the caller may ask
abbrev pub AdmittingOf : {L : Type 0} → (L → ℕ → Tree → Type 0) → Audit L → Audit L → Caller → Act → Bool → Type 0
AdmittingOf stands a a' who act answer =
    (U : Given) (es : List Entry) (batch : List (List ℕ)) → AuditIs stands U es a → MayAskAct (tree_of U.places es) who act
    → Decides answer (Admits U es (Step who.task act batch)) (AuditIs stands U (es ++ Step who.task act batch ∷ []) a')
