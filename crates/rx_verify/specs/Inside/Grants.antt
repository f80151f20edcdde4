-- What is said of one call of a ledger.
use Rattle.std.specs.Prelude.{ℕ, Bool}
use Rattle.rx_rules.specs.declared.entries.Act.{Act}
use Rattle.rx_rules.specs.Tree.{Tree}
use Rattle.rx_rules.specs.Entries.{AllowedAct, made_act}
use Rattle.rx_finish.specs.declared.ledger.Caller.{Caller}
use Rattle.rx_finish.specs.declared.ledger.LedgerFault.{LedgerFault}
use Rattle.rx_finish.specs.declared.ledger.LedgerFault.TheVariants.{NotYet, Lost, NoMemory}
use Rattle.rx_ledger.specs.TermAsks.{MayAskAct}
use Rattle.rx_verify.specs.Inside.Deciding.{Decides}

-- the ledger may be asked for the act
abbrev pub SomeAsks : {L : Type 0} → (L → ℕ → Tree → Type 0) → L → Caller → Act → Type 0
SomeAsks stands l who act = (room : ℕ) × (T : Tree) × stands l room T × MayAskAct T who act

-- the answer is whether the act is allowed; where it is, the ledger stands afterwards for what the act makes
abbrev pub Grants : {L : Type 0} → (L → ℕ → Tree → Type 0) → L → L → Caller → Act → Bool → Type 0
Grants stands l l' who act answer =
    (room : ℕ) (T : Tree) → stands l room T → MayAskAct T who act
    → Decides answer (AllowedAct T who.task act) (stands l' room (made_act T who.task act))

-- the fault is not that memory ran out
abbrev pub IsRefusal : LedgerFault → Type 0
IsRefusal (NotYet place) = Unit {0}
IsRefusal (Lost place at) = Unit {0}
IsRefusal NoMemory = ⊥
