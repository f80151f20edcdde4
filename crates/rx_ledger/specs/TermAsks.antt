-- What the term of a task asks for, the ledger may be asked.
use Rattle.std.specs.Prelude.{ℕ, ◌<◌, ◌≤◌, Bool, true, false, List, map, reverse, slice_index_or}
use Rattle.rx_base.specs.declared.ids.ScopeId.{ScopeId}
use Rattle.rx_base.specs.declared.ids.TaskId.{TaskId}
use Rattle.rx_rules.specs.declared.tasks.Kind.{Kind}
use Rattle.rx_rules.specs.declared.tasks.Where.TheVariants.{At}
use Rattle.rx_rules.specs.declared.entries.Act.{Act}
use Rattle.rx_rules.specs.declared.entries.Act.TheVariants.{Open, At as Called, Spawn, Arrive, Wait, Release, End, Print, Census}
use Rattle.rx_rules.specs.declared.entries.Entry.{Entry}
use Rattle.rx_rules.specs.Terms.{Vars, Term, Does, Opens, Calls, Spawns, Waits, Releases, Prints, Counts, Done, does}
use Rattle.rx_rules.specs.Tree.{Tree, the_root}
use Rattle.rx_rules.specs.Fold.{tree_of}
use Rattle.rx_rules.specs.Run.{Given, Folds}
use Rattle.rx_finish.specs.declared.ledger.Caller.{Caller}
use Rattle.rx_finish.specs.Callers.{MayAskMoving, MayAskTo, MayAskArrive, MayAskWait, MayAskRelease, MayAskEnd}
use Rattle.rx_tree_laws.specs.Held.{is_held}
use Rattle.rx_tree_laws.specs.Spine.{Spine}
use Rattle.rx_ledger.specs.Owned.{own_told}

-- the kinds of the scopes that a task has opened and not released, as its entries tell them, the outermost first
abbrev pub kinds_told : List Entry → TaskId → List Kind
kinds_told es t = reverse (map (λ s. s.1) (own_told es t))

-- a task that is at its place may go on; where it waits, it may ask for the release
abbrev pub Serves : Tree → Caller → Bool → Type 0
Serves T who false = MayAskMoving T who
Serves T who true = MayAskRelease T who

-- what the ledger's call for an act asks
abbrev pub MayAskAct : Tree → Caller → Act → Type 0
MayAskAct T who (Open s r path) = MayAskMoving T who
MayAskAct T who (Called from to s r callee path) = MayAskTo T who to
MayAskAct T who (Spawn child s from to path) = MayAskTo T who to
MayAskAct T who (Arrive p) = MayAskArrive T who
MayAskAct T who (Wait s thrown) = MayAskWait T who
MayAskAct T who (Release s lost masked thrown) = MayAskRelease T who
MayAskAct T who (End thrown) = MayAskEnd T who
MayAskAct T who (Print value path) = MayAskMoving T who
MayAskAct T who (Census places path) = MayAskMoving T who

-- what the ledger's call for the next step of a term asks; a local step and a store call are none of its calls
abbrev pub MayAskNext : Tree → Caller → Does → Type 0
MayAskNext T who Opens = MayAskMoving T who
MayAskNext T who (Calls place) = MayAskTo T who (record { 0 = place })
MayAskNext T who (Spawns place) = MayAskTo T who (record { 0 = place })
MayAskNext T who (Waits faults) = MayAskWait T who
MayAskNext T who Releases = MayAskRelease T who
MayAskNext T who (Prints value) = MayAskMoving T who
MayAskNext T who (Counts name) = MayAskMoving T who
MayAskNext T who (Done faults) = MayAskEnd T who
MayAskNext T who d = Unit {0}

-- Of a task at a place that is there, which knows of no more places than there are, whose term has open the scopes that the task's
-- entries tell, and which waits exactly where the term does: what the term does next, the ledger may be asked.
abbrev pub LawOfAsking : Type 0
LawOfAsking =
    (U : Given) (es : List Entry) (who : Caller) (here : ℕ) (vars : Vars) (t : Term) → Folds U es → here < (tree_of U.places es).places
    → vars.places ≤ (tree_of U.places es).places → Spine t (kinds_told es who.task) → Serves (tree_of U.places es) who (is_held t)
    → MayAskNext (tree_of U.places es) who (does vars here t)

-- who a task is to the ledger after its act; these are the parents of the scopes by their numbers
abbrev pub who_after : List ScopeId → Act → Caller → Caller
who_after parents (Open s r path) who = record who { inner = s }
who_after parents (Called from to s r callee path) who = record who { inner = s }
who_after parents (Arrive p) who = record who { place = At p }
who_after parents (Release s lost masked thrown) who = record who { inner = slice_index_or parents s.0 the_root }
who_after parents act who = who
