-- What the pass over the entries keeps.
use Rattle.std.specs.Prelude.{ℕ, suc, ◌<◌, Bool, true, false, List, length, take, Option, Some, None}
use Rattle.rx_rules.specs.declared.entries.Entry.{Entry}
use Rattle.rx_rules.specs.declared.events.PlaceEvent.{PlaceEvent}
use Rattle.rx_rules.specs.Code.{Block}
use Rattle.rx_rules.specs.Tree.{Tree}
use Rattle.rx_rules.specs.Run.{Given}
use Rattle.rx_syntax.specs.Shape.{Shape, Stands}
use Rattle.rx_verify.specs.declared.audit.Audit.{Audit}
use Rattle.rx_verify.specs.Inside.Admits.{AuditIs}
use Rattle.rx_verify.specs.declared.players.Players.{Players}
use Rattle.rx_verify.specs.Players.{PlayersAre}
use Rattle.rx_verdict.specs.Verdicts.{Part}

-- the audit and the players stand after so many of the entries
pub record PassIs {L : Type 0} (stands : L → ℕ → Tree → Type 0) (shape : Shape) (U : Given) (es : List Entry)
    (js : List (List PlaceEvent)) (i : ℕ) (a : Audit L) (ps : Players) : Type 0 where
  pub audit : AuditIs stands U (take i es) a
  pub players : (code : Block) → Stands shape code → PlayersAre shape code U es js i ps

-- so many of the entries are a part of a run, and one more are none
abbrev pub IsFlaw : Shape → Given → List Entry → List (List PlaceEvent) → ℕ → Type 0
IsFlaw shape U es js n = (code : Block) → Stands shape code → Part code U es js n × (Part code U es js (suc n) → ⊥)

-- none where all entries are a part of a run, after which audit and players stand; or else the number of the first entry with which
-- they are none
abbrev pub FirstFlaw : {L : Type 0} → (L → ℕ → Tree → Type 0) → Shape → Given → List Entry → List (List PlaceEvent) → Audit L → Players
    → Option ℕ → Type 0
FirstFlaw stands shape U es js a ps None = PassIs stands shape U es js (length es) a ps
FirstFlaw stands shape U es js a ps (Some n) = (n < length es) × IsFlaw shape U es js n

-- after entry i: the audit and the players stand after it, or it is the flaw
abbrev pub AfterEntry : {L : Type 0} → (L → ℕ → Tree → Type 0) → Shape → Given → List Entry → List (List PlaceEvent) → ℕ → Audit L
    → Players → Bool → Type 0
AfterEntry stands shape U es js i a ps true = PassIs stands shape U es js (suc i) a ps
AfterEntry stands shape U es js i a ps false = IsFlaw shape U es js i
