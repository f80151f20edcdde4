-- What a ledger's calls answer. Each reply is by cases on the whole result; S says for which trees the ledger stands afterwards.
use Rattle.std.specs.Prelude.{◌≡◌, ℕ, pos, Bool, true, false, List, [], Option, Some, None, Result, Ok, Err, is_some, is_none, ◌&&◌, ◌==◌}
use Rattle.std.specs.List.{list_any}
use Rattle.rx_base.specs.declared.ids.PlaceId.{PlaceId}
use Rattle.rx_base.specs.declared.ids.TaskId.{TaskId}
use Rattle.rx_base.specs.declared.ids.ScopeId.{ScopeId}
use Rattle.rx_base.specs.declared.values.Fault.{Fault}
use Rattle.rx_rules.specs.declared.tasks.Where.{Where}
use Rattle.rx_rules.specs.declared.tasks.Where.TheVariants.{At, Travel}
use Rattle.rx_rules.specs.declared.tasks.Blow.{Blow}
use Rattle.rx_rules.specs.declared.entries.Act.{Act}
use Rattle.rx_rules.specs.declared.entries.Act.TheVariants.{Open, At as Calls, Spawn, Arrive, Wait, Release, End, Print, Census}
use Rattle.rx_rules.specs.declared.entries.Entry.TheVariants.{Root}
use Rattle.rx_rules.specs.Tree.{Tree, task_of, death_of, quiet, is_under, the_root}
use Rattle.rx_rules.specs.Entries.{place_number, Allowed, AllowedAct, made_act, without}
use Rattle.rx_finish.specs.declared.ledger.Caller.{Caller}
use Rattle.rx_finish.specs.declared.ledger.LedgerFault.{LedgerFault}
use Rattle.rx_finish.specs.declared.ledger.LedgerFault.TheVariants.{NotYet, Lost, NoMemory}
use Rattle.rx_finish.specs.declared.ledger.Born.{Born}
use Rattle.rx_finish.specs.declared.ledger.Outcome.{Outcome}
use Rattle.rx_finish.specs.Callers.{gone_of}

-- the caller did the act: its entry is allowed, and the ledger stands for what it makes
pub record Did (T : Tree) (who : Caller) (act : Act) (S : Tree → Type 0) : Type 0 where
  pub allowed : AllowedAct T who.task act
  pub made : S (made_act T who.task act)

-- the death that struck a task, also one that has left with a release
abbrev pub blow_of : Tree → TaskId → Option Blow
blow_of T t =
    elim (task_of T t) [
      | Some x ↦ x.struck
      | None ↦ elim (gone_of T t) [ Some x ↦ x.struck | None ↦ None ]
    ]

-- no death has struck the caller
abbrev pub IsUnstruck : Tree → Caller → Type 0
IsUnstruck T who = blow_of T who.task ≡ None

-- the death of the place, which is entry `at`, struck the caller
abbrev pub WasLost : Tree → Caller → PlaceId → ℕ → Type 0
WasLost T who place at = blow_of T who.task ≡ Some (record { place = place; entry = at })

-- where a task is, or goes
abbrev pub landing : Where → PlaceId
landing (At p) = p
landing (Travel from to) = to

-- an unstruck task under the scope is at the place or goes there
abbrev pub hinders : Tree → ScopeId → PlaceId → Bool
hinders T s p = list_any (λ x. (is_under T s x && is_none x.struck) && ((landing x.place).0 == p.0)) T.tasks

-- the scope is not quiet, for a task at (or on its way to) the place
pub record IsHindered (T : Tree) (s : ScopeId) (place : PlaceId) : Type 0 where
  pub busy : quiet T s ≡ false
  pub by : hinders T s place ≡ true

-- open_finish: the new scope
abbrev pub OpenReply : Tree → Caller → Result ScopeId LedgerFault → (Tree → Type 0) → Type 0
OpenReply T who (Ok s) S = Did T who (Open s who.inner []) S
OpenReply T who (Err NoMemory) S = IsUnstruck T who × S T
OpenReply T who (Err (Lost place at)) S = WasLost T who place at × S T
OpenReply T who (Err (NotYet place)) S = ⊥

-- open_at: the callee, the new scope, and whether the callee is born struck
abbrev pub CallReply : Tree → Caller → PlaceId → Result Born LedgerFault → (Tree → Type 0) → Type 0
CallReply T who to (Ok b) S =
    Did T who (Calls (place_number who.place) to b.scope who.inner b.child []) S × (b.lost ≡ is_some (death_of T to))
CallReply T who to (Err NoMemory) S = IsUnstruck T who × S T
CallReply T who to (Err (Lost place at)) S = WasLost T who place at × S T
CallReply T who to (Err (NotYet place)) S = ⊥

-- spawn: the child, the scope that it hangs under, and whether it is born struck
abbrev pub SpawnReply : Tree → Caller → PlaceId → Result Born LedgerFault → (Tree → Type 0) → Type 0
SpawnReply T who to (Ok b) S =
    Did T who (Spawn b.child b.scope (place_number who.place) to []) S × (b.lost ≡ is_some (death_of T to))
SpawnReply T who to (Err NoMemory) S = IsUnstruck T who × S T
SpawnReply T who to (Err (Lost place at)) S = WasLost T who place at × S T
SpawnReply T who to (Err (NotYet place)) S = ⊥

-- arrive: never out of memory
abbrev pub ArriveReply : Tree → Caller → Result Unit LedgerFault → (Tree → Type 0) → Type 0
ArriveReply T who (Ok u) S = Did T who (Arrive (landing who.place)) S
ArriveReply T who (Err NoMemory) S = ⊥
ArriveReply T who (Err (Lost place at)) S = WasLost T who place at × S T
ArriveReply T who (Err (NotYet place)) S = ⊥

-- wait: a refusal hands the faults back
abbrev pub WaitReply : Tree → Caller → List Fault → Result Unit (LedgerFault × List Fault) → (Tree → Type 0) → Type 0
WaitReply T who thrown (Ok u) S = Did T who (Wait who.inner thrown) S
WaitReply T who thrown (Err (NoMemory, back)) S = IsUnstruck T who × (back ≡ thrown) × S T
WaitReply T who thrown (Err (Lost place at, back)) S = WasLost T who place at × (back ≡ thrown) × S T
WaitReply T who thrown (Err (NotYet place, back)) S = ⊥

-- ready: the caller is unstruck, and so is no task under its inner scope
abbrev pub is_ready : Tree → Caller → Bool
is_ready T who = is_none (blow_of T who.task) && quiet T who.inner

-- release of the caller's inner scope
abbrev pub ReleaseReply : Tree → Caller → Result Outcome LedgerFault → (Tree → Type 0) → Type 0
ReleaseReply T who (Ok o) S = Did T who (Release who.inner o.lost o.masked o.thrown) S
ReleaseReply T who (Err NoMemory) S = IsUnstruck T who × (quiet T who.inner ≡ true) × S T
ReleaseReply T who (Err (Lost place at)) S = WasLost T who place at × S T
ReleaseReply T who (Err (NotYet place)) S = IsUnstruck T who × IsHindered T who.inner place × S T

-- end: a refusal hands the faults back
abbrev pub EndReply : Tree → Caller → List Fault → Result Unit (LedgerFault × List Fault) → (Tree → Type 0) → Type 0
EndReply T who thrown (Ok u) S = Did T who (End thrown) S
EndReply T who thrown (Err (NoMemory, back)) S = IsUnstruck T who × (back ≡ thrown) × S T
EndReply T who thrown (Err (Lost place at, back)) S = WasLost T who place at × (back ≡ thrown) × S T
EndReply T who thrown (Err (NotYet place, back)) S = ⊥

-- print, whatever the value: never out of memory, and the ledger stays
abbrev pub PrintReply : Tree → Caller → Result Unit LedgerFault → Type 0
PrintReply T who (Ok u) = AllowedAct T who.task (Print (pos 0) [])
PrintReply T who (Err NoMemory) = ⊥
PrintReply T who (Err (Lost place at)) = WasLost T who place at
PrintReply T who (Err (NotYet place)) = ⊥

-- census: the number of places; never out of memory, and the ledger stays
abbrev pub CensusReply : Tree → Caller → Result ℕ LedgerFault → Type 0
CensusReply T who (Ok n) = AllowedAct T who.task (Census n [])
CensusReply T who (Err NoMemory) = ⊥
CensusReply T who (Err (Lost place at)) = WasLost T who place at
CensusReply T who (Err (NotYet place)) = ⊥

-- release_root, by the host, who is never lost
abbrev pub RootReply : Tree → Result Outcome LedgerFault → (Tree → Type 0) → Type 0
RootReply T (Ok o) S = Allowed T (Root o.lost o.masked o.thrown) × S (without T the_root)
RootReply T (Err NoMemory) S = (quiet T the_root ≡ true) × S T
RootReply T (Err (Lost place at)) S = ⊥
RootReply T (Err (NotYet place)) S = IsHindered T the_root place × S T
