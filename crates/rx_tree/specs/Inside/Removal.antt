-- A release as the plain ledger does it, by a caller or by the host.
use Rattle.std.specs.Prelude.{◌≡◌, Bool, true, List, ◌==◌, Result, Ok, Err}
use Rattle.std.specs.List.{list_any}
use Rattle.rx_base.specs.declared.ids.ScopeId.{ScopeId}
use Rattle.rx_rules.specs.Tree.{Tree, quiet}
use Rattle.rx_rules.specs.Entries.{MayFree, without}
use Rattle.rx_finish.specs.declared.ledger.LedgerFault.{LedgerFault}
use Rattle.rx_finish.specs.declared.ledger.LedgerFault.TheVariants.{NotYet, Lost, NoMemory}
use Rattle.rx_finish.specs.declared.ledger.Outcome.{Outcome}
use Rattle.rx_finish.specs.Calls.{IsHindered}

-- what it answers of the scope s in the tree T, and the tree afterwards
abbrev pub LeaveReply : Tree → ScopeId → Result Outcome LedgerFault → Tree → Type 0
LeaveReply T s (Ok o) T' = MayFree T s o.lost o.masked o.thrown × (T' ≡ without T s)
LeaveReply T s (Err NoMemory) T' = (quiet T s ≡ true) × (T' ≡ T)
LeaveReply T s (Err (Lost place at)) T' = ⊥
LeaveReply T s (Err (NotYet place)) T' = IsHindered T s place × (T' ≡ T)

-- the scope is among these
abbrev pub holds_scope : List ScopeId → ScopeId → Bool
holds_scope inside r = list_any (λ g. g.0 == r.0) inside
