-- What a request to a chronicle leaves. Contracts see a chronicle as its history.
use Rattle.std.specs.Prelude.{◌≡◌, ◌⊎◌, ℕ, ◌-◌, ◌<◌, List, [], ◌∷◌, ◌++◌, length, Result, Ok, Err}
use Rattle.rx_base.specs.declared.ids.PlaceId.{PlaceId}
use Rattle.rx_base.specs.declared.place_set.PlaceSet.{PlaceSet}
use Rattle.rx_base.specs.declared.values.Fault.{Fault}
use Rattle.rx_rules.specs.declared.entries.Act.{Act}
use Rattle.rx_rules.specs.declared.entries.Entry.{Entry}
use Rattle.rx_rules.specs.declared.entries.Entry.TheVariants.{Step, Root}
use Rattle.rx_rules.specs.Tree.{Tree, the_root}
use Rattle.rx_rules.specs.Entries.{Allowed, AllowedAct}
use Rattle.rx_rules.specs.Fold.{tree_of}
use Rattle.rx_rules.specs.Run.{Event, plan_of, Proper, Folds, NoRoot, NoneDue, IsDue, EndsWithRoot}
use Rattle.rx_runs.specs.Segments.{plan_left}
use Rattle.rx_finish.specs.declared.ledger.Caller.{Caller}
use Rattle.rx_finish.specs.declared.ledger.LedgerFault.{LedgerFault}
use Rattle.rx_finish.specs.declared.ledger.LedgerFault.TheVariants.{NotYet, Lost, NoMemory}
use Rattle.rx_finish.specs.Calls.{IsUnstruck, WasLost, IsHindered}
use Rattle.rx_history.specs.Logs.{Log}
use Rattle.rx_history.specs.Setups.{given}
use Rattle.rx_chronicle.specs.Told.{RootLast}

-- the tree to which the history folds
abbrev pub tree_told : Log → Tree
tree_told c = tree_of c.setup.places c.entries

-- the deaths and joins that are not done
abbrev pub plan_told : Log → List Event
plan_told c = plan_left (plan_of (given c.setup)) c.entries

-- it is the entry of the death or join that is due, and the root is not released
pub record HasDue (c : Log) (e : Entry) : Type 0 where
  pub unreleased : NoRoot c.entries
  pub due : IsDue (length c.entries) e (plan_told c)

-- none is due, unless the root is released
abbrev pub Calm : Log → Type 0
Calm c = NoRoot c.entries → NoneDue (length c.entries) (plan_told c)

-- an entry may be asked for: there is room, and nothing is due
pub record MayAskEntry (c : Log) : Type 0 where
  pub room : 0 < c.spare
  pub calm : Calm c

-- one entry more, for which there was room
abbrev pub with_entry : Log → Entry → Log
with_entry c e = record { setup = c.setup; entries = c.entries ++ e ∷ []; spare = c.spare - 1 }

-- a task's request was granted: its act is allowed, and was appended with the statements that it had begun
pub record Granted (c : Log) (who : Caller) (act : Act) (batch : List (List ℕ)) (c' : Log) : Type 0 where
  pub allowed : AllowedAct (tree_told c) who.task act
  pub told : c' ≡ with_entry c (Step who.task act batch)

-- why it was refused: memory ran out, the caller was struck, or it has to wait for a task at the place
abbrev pub IsRefused : Tree → Caller → (PlaceId → Type 0) → LedgerFault → Type 0
IsRefused T who Waits NoMemory = Unit {0}
IsRefused T who Waits (Lost place at) = WasLost T who place at
IsRefused T who Waits (NotYet place) = IsUnstruck T who × Waits place

-- a request that waits for no task
abbrev pub NoWait : PlaceId → Type 0
NoWait place = ⊥

-- what a request leaves: it is granted with the act of its answer, or refused, which changes nothing
abbrev pub Replied : {A : Type 0} → Log → Caller → (PlaceId → Type 0) → List (List ℕ) → (A → Act) → Result A LedgerFault → Log → Type 0
Replied c who Waits batch act (Ok a) c' = Granted c who (act a) batch c'
Replied c who Waits batch act (Err f) c' = IsRefused (tree_told c) who Waits f × (c' ≡ c)

-- the answer without the faults that come back
abbrev pub fault_of : {A : Type 0} → Result A (LedgerFault × List Fault) → Result A LedgerFault
fault_of (Ok a) = Ok a
fault_of (Err e) = Err e.0

-- the root's release was appended, which is allowed
pub record Freed (c c' : Log) : Type 0 where
  pub lost : PlaceSet
  pub masked : ℕ
  pub thrown : List Fault
  pub allowed : Allowed (tree_told c) (Root lost masked thrown)
  pub told : c' ≡ with_entry c (Root lost masked thrown)

-- or it stood there before
abbrev pub RootDone : Log → Log → Type 0
RootDone c c' = (EndsWithRoot c.entries × (c' ≡ c)) ⊎ Freed c c'

-- why the host was refused
abbrev pub IsRootRefused : Tree → LedgerFault → Type 0
IsRootRefused T NoMemory = Unit {0}
IsRootRefused T (Lost place at) = ⊥
IsRootRefused T (NotYet place) = IsHindered T the_root place

-- what every chronicle's history is: what a ledger can know, and nothing follows the root's release
pub record ChronicleInvariant (c : Log) : Type 0 where
  pub proper : Proper (given c.setup)
  pub folds : Folds (given c.setup) c.entries
  pub root_last : RootLast c.entries
