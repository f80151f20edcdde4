-- A release, by a caller or by the host.
use Rattle.std.specs.Prelude.{◌≡◌, ℕ, ◌<◌, ◌≤◌, ◌%◌, Bool, true, false, ◌&&◌, not, List, Option, Some, None, is_none, slice_index_or}
use Rattle.std.specs.Prelude.{length, count_by, ◌+◌, Result, Ok, Err}
use Rattle.std.specs.Global.{Box}
use Rattle.std.specs.List.{find, list_any}
use Rattle.rx_base.specs.declared.ids.TaskId.{TaskId}
use Rattle.rx_base.specs.declared.ids.ScopeId.{ScopeId}
use Rattle.rx_rules.specs.declared.tasks.Scope.{Scope}
use Rattle.rx_rules.specs.Tree.{Tree, is_scope, scope_of, opened_by, quiet}
use Rattle.rx_rules.specs.Entries.{MayFree, without}
use Rattle.rx_tree_laws.specs.Chains.{meets}
use Rattle.rx_finish.specs.declared.ledger.LedgerFault.{LedgerFault}
use Rattle.rx_finish.specs.declared.ledger.LedgerFault.TheVariants.{NotYet, Lost, NoMemory}
use Rattle.rx_finish.specs.declared.ledger.Outcome.{Outcome}
use Rattle.rx_finish.specs.Calls.{IsHindered}
use Rattle.rx_base.specs.declared.ids.PlaceId.{PlaceId}
use Rattle.rx_counts.specs.declared.record.Record.{Record}
use Rattle.rx_counts.specs.declared.ledger.CountLedger.{CountLedger}
use Rattle.rx_counts.specs.Keeping.{stands_home, orphans_of}
use Rattle.rx_counts.specs.Stands.{Fit, HasRoom, StandsFor, IsShaped, record_at}

-- the scope stands, its home lives, and its opener, if it has one, has no later scope
pub record IsLast (T : Tree) (s : ScopeId) : Type 0 where
  pub scope : Scope
  pub stands : scope_of T s ≡ Some scope
  pub keeps_it : list_any (λ h. is_scope s h && not (stands_home T.dead h)) T.scopes ≡ false
  pub last : (o : TaskId) (h : Scope) → list_any (λ x. is_scope s x && opened_by o x) T.scopes ≡ true
      → find (opened_by o) T.scopes ≡ Some h → h.number.0 ≤ s.0

-- what a release names, and how many scopes with a dead home go with it
abbrev pub OutcomeReply : Tree → ScopeId → Result (Outcome × ℕ) LedgerFault → Type 0
OutcomeReply T s (Ok (o, n)) = MayFree T s o.lost o.masked o.thrown × (n ≡ orphans_of (stands_home T.dead) T.scopes s.0)
OutcomeReply T s (Err NoMemory) = quiet T s ≡ true
OutcomeReply T s (Err (Lost place at)) = ⊥
OutcomeReply T s (Err (NotYet place)) = IsHindered T s place

-- the answer, and the ledger afterwards
abbrev pub FreeReply : ℕ → Tree → ScopeId → Result Outcome LedgerFault → CountLedger → Type 0
FreeReply room T s (Ok o) l = MayFree T s o.lost o.masked o.thrown × Fit l (without T s) × HasRoom l room T
FreeReply room T s (Err NoMemory) l = (quiet T s ≡ true) × StandsFor l room T
FreeReply room T s (Err (Lost place at)) l = ⊥
FreeReply room T s (Err (NotYet place)) l = IsHindered T s place × StandsFor l room T

-- the record stands and that of its parent does not
abbrev pub parent_gone : List (Option (Box Record)) → Option Record → Bool
parent_gone rs None = false
parent_gone rs (Some r) = elim r.parent [ Some p ↦ is_none (record_at rs p.0) | None ↦ false ]

-- The records are those of a tree in which the scope stands, and n scopes are below it.
pub record ScopesBelow (T : Tree) (s : ScopeId) (n : ℕ) (rs : List (Option (Box Record))) : Type 0 where
  pub shaped : IsShaped T rs
  pub stands : meets s T.scopes (Some s) ≡ true
  pub many : count_by (λ g. meets s T.scopes (Some g.number)) T.scopes ≡ n + 1

-- where a cell of the table of n places is above 0, the place is that of the column of such a cell: its tasks are there or go there
abbrev pub Hides : ℕ → List ℕ → PlaceId → Type 0
Hides n counts p = (k : ℕ) → k < length counts → 0 < slice_index_or counts k 0
    → (i : ℕ) × (i < length counts) × (0 < slice_index_or counts i 0) × (p.0 ≡ i % n)
