-- What a term asks of the ledger is one act.
use Rattle.std.proofs.Common.{◌≡◌, ℕ, ℤ, ◌<◌, ◌^◌, List, Some, ap, ◌∙◌, sym, subst}
use Rattle.rx_rules.proofs.Common.{PlaceId, TaskId, ScopeId, PlaceSet, Fault, Term, Does, Local, Makes, Gets, Puts, Forgets, Opens, Calls as Asks, Spawns, Waits, Releases, Prints, Counts, Done, Tree, task_of, inner, governs, MayFree, AllowedAct}
use Rattle.rx_base.proofs.SameIds.{scope-is, task-is, place-is}
use Rattle.rx_rules.specs.declared.tasks.Task.{Task}
use Rattle.rx_rules.specs.declared.tasks.Scope.{Scope}
use Rattle.rx_rules.specs.declared.entries.Act.{Act}
use Rattle.rx_rules.specs.declared.entries.Act.TheVariants.{Open, At as Calls, Spawn, Arrive, Wait, Release, End, Print, Census}
use Rattle.rx_rules.specs.Plays.{Fits}
use Rattle.rx_runs.specs.PickedRuns.{ActFits}
use Rattle.rx_runs.proofs.Sets.{members_once}

pub one_task : (T : Tree) (t : TaskId) (x y : Task) → task_of T t ≡ Some x → task_of T t ≡ Some y → x ≡ y
one_task T t x y e f = let k : Some x ≡ Some y = sym e ∙ f in cc

-- what a release names
pub names_once : (T : Tree) (s : ScopeId) (a b : PlaceSet) (m n : ℕ) (f g : List Fault) → MayFree T s a m f → MayFree T s b n g → a.0 < 2 ^ 16 → b.0 < 2 ^ 16 → (a ≡ b) × (m ≡ n) × (f ≡ g)
names_once T s a b m n f g h k low high = (members_once a b (h.places ∙ sym k.places) low high, h.count ∙ sym k.count, h.faults ∙ sym k.faults)

open_once : (T : Tree) (u : TaskId) (here : PlaceId) (t : Term) (c d : Act) → Fits here t Opens c → Fits here t Opens d → AllowedAct T u c → AllowedAct T u d → ActFits c → ActFits d → c ≡ d
open_once T u here t (Open a0 a1 a2) (Open b0 b1 b2) h k m o p q =
    let s : a0 ≡ b0 = scope-is a0 b0 (m.asks.1 ∙ sym o.asks.1) in
    let task : m.task ≡ o.task = one_task T u m.task o.task m.stands o.stands in
    let r : a1 ≡ b1 = m.asks.2 ∙ ap (inner T) task ∙ sym o.asks.2 in
    let x : a2 ≡ b2 = (let e : Some a2 ≡ Some b2 = sym h ∙ k in cc) in
    ap (λ (v : ScopeId). Open v a1 a2) s ∙ ap (λ (v : ScopeId). Open b0 v a2) r ∙ ap (λ (v : List ℕ). Open b0 b1 v) x
open_once T u here t (Open a0 a1 a2) (Calls b3 b4 b0 b1 b2 b5) h k m o p q = absurd k
open_once T u here t (Open a0 a1 a2) (Spawn b0 b1 b2 b3 b4) h k m o p q = absurd k
open_once T u here t (Open a0 a1 a2) (Arrive b0) h k m o p q = absurd k
open_once T u here t (Open a0 a1 a2) (Wait b0 b1) h k m o p q = absurd k
open_once T u here t (Open a0 a1 a2) (Release b0 b1 b2 b3) h k m o p q = absurd k
open_once T u here t (Open a0 a1 a2) (End b0) h k m o p q = absurd k
open_once T u here t (Open a0 a1 a2) (Print b0 b1) h k m o p q = absurd k
open_once T u here t (Open a0 a1 a2) (Census b0 b1) h k m o p q = absurd k
open_once T u here t (Calls a3 a4 a0 a1 a2 a5) d h k m o p q = absurd h
open_once T u here t (Spawn a0 a1 a2 a3 a4) d h k m o p q = absurd h
open_once T u here t (Arrive a0) d h k m o p q = absurd h
open_once T u here t (Wait a0 a1) d h k m o p q = absurd h
open_once T u here t (Release a0 a1 a2 a3) d h k m o p q = absurd h
open_once T u here t (End a0) d h k m o p q = absurd h
open_once T u here t (Print a0 a1) d h k m o p q = absurd h
open_once T u here t (Census a0 a1) d h k m o p q = absurd h

call_once : (T : Tree) (u : TaskId) (here : PlaceId) (t : Term) (place : ℕ) (c d : Act) → Fits here t (Asks place) c → Fits here t (Asks place) d → AllowedAct T u c → AllowedAct T u d → ActFits c → ActFits d → c ≡ d
call_once T u here t place (Open a0 a1 a2) d h k m o p q = absurd h
call_once T u here t place (Calls a3 a4 a0 a1 a2 a5) (Open b0 b1 b2) h k m o p q = absurd k
call_once T u here t place (Calls a3 a4 a0 a1 a2 a5) (Calls b3 b4 b0 b1 b2 b5) h k m o p q =
    let s : a0 ≡ b0 = scope-is a0 b0 (m.asks.1 ∙ sym o.asks.1) in
    let task : m.task ≡ o.task = one_task T u m.task o.task m.stands o.stands in
    let r : a1 ≡ b1 = m.asks.2 ∙ ap (inner T) task ∙ sym o.asks.2 in
    let c : a2 ≡ b2 = task-is a2 b2 (m.asks.3 ∙ sym o.asks.3) in
    let from : a3 ≡ b3 = h.1 ∙ sym k.1 in
    let to : a4 ≡ b4 = place-is a4 b4 (h.0 ∙ sym k.0) in
    let x : a5 ≡ b5 = (let e : Some a5 ≡ Some b5 = sym h.2 ∙ k.2 in cc) in
    ap (λ (v : ScopeId). Calls a3 a4 v a1 a2 a5) s ∙ ap (λ (v : ScopeId). Calls a3 a4 b0 v a2 a5) r ∙ ap (λ (v : TaskId). Calls a3 a4 b0 b1 v a5) c ∙ ap (λ (v : PlaceId). Calls v a4 b0 b1 b2 a5) from ∙ ap (λ (v : PlaceId). Calls b3 v b0 b1 b2 a5) to ∙ ap (λ (v : List ℕ). Calls b3 b4 b0 b1 b2 v) x
call_once T u here t place (Calls a3 a4 a0 a1 a2 a5) (Spawn b0 b1 b2 b3 b4) h k m o p q = absurd k
call_once T u here t place (Calls a3 a4 a0 a1 a2 a5) (Arrive b0) h k m o p q = absurd k
call_once T u here t place (Calls a3 a4 a0 a1 a2 a5) (Wait b0 b1) h k m o p q = absurd k
call_once T u here t place (Calls a3 a4 a0 a1 a2 a5) (Release b0 b1 b2 b3) h k m o p q = absurd k
call_once T u here t place (Calls a3 a4 a0 a1 a2 a5) (End b0) h k m o p q = absurd k
call_once T u here t place (Calls a3 a4 a0 a1 a2 a5) (Print b0 b1) h k m o p q = absurd k
call_once T u here t place (Calls a3 a4 a0 a1 a2 a5) (Census b0 b1) h k m o p q = absurd k
call_once T u here t place (Spawn a0 a1 a2 a3 a4) d h k m o p q = absurd h
call_once T u here t place (Arrive a0) d h k m o p q = absurd h
call_once T u here t place (Wait a0 a1) d h k m o p q = absurd h
call_once T u here t place (Release a0 a1 a2 a3) d h k m o p q = absurd h
call_once T u here t place (End a0) d h k m o p q = absurd h
call_once T u here t place (Print a0 a1) d h k m o p q = absurd h
call_once T u here t place (Census a0 a1) d h k m o p q = absurd h

spawn_once : (T : Tree) (u : TaskId) (here : PlaceId) (t : Term) (place : ℕ) (c d : Act) → Fits here t (Spawns place) c → Fits here t (Spawns place) d → AllowedAct T u c → AllowedAct T u d → ActFits c → ActFits d → c ≡ d
spawn_once T u here t place (Open a0 a1 a2) d h k m o p q = absurd h
spawn_once T u here t place (Calls a3 a4 a0 a1 a2 a5) d h k m o p q = absurd h
spawn_once T u here t place (Spawn a0 a1 a2 a3 a4) (Open b0 b1 b2) h k m o p q = absurd k
spawn_once T u here t place (Spawn a0 a1 a2 a3 a4) (Calls b3 b4 b0 b1 b2 b5) h k m o p q = absurd k
spawn_once T u here t place (Spawn a0 a1 a2 a3 a4) (Spawn b0 b1 b2 b3 b4) h k m o p q =
    let task : m.task ≡ o.task = one_task T u m.task o.task m.stands o.stands in
    let c : a0 ≡ b0 = task-is a0 b0 (m.asks.1 ∙ sym o.asks.1) in
    let s : a1 ≡ b1 = m.asks.2 ∙ ap (governs T) task ∙ sym o.asks.2 in
    let from : a2 ≡ b2 = h.1 ∙ sym k.1 in
    let to : a3 ≡ b3 = place-is a3 b3 (h.0 ∙ sym k.0) in
    let x : a4 ≡ b4 = (let e : Some a4 ≡ Some b4 = sym h.2 ∙ k.2 in cc) in
    ap (λ (v : TaskId). Spawn v a1 a2 a3 a4) c ∙ ap (λ (v : ScopeId). Spawn b0 v a2 a3 a4) s ∙ ap (λ (v : PlaceId). Spawn b0 b1 v a3 a4) from ∙ ap (λ (v : PlaceId). Spawn b0 b1 b2 v a4) to ∙ ap (λ (v : List ℕ). Spawn b0 b1 b2 b3 v) x
spawn_once T u here t place (Spawn a0 a1 a2 a3 a4) (Arrive b0) h k m o p q = absurd k
spawn_once T u here t place (Spawn a0 a1 a2 a3 a4) (Wait b0 b1) h k m o p q = absurd k
spawn_once T u here t place (Spawn a0 a1 a2 a3 a4) (Release b0 b1 b2 b3) h k m o p q = absurd k
spawn_once T u here t place (Spawn a0 a1 a2 a3 a4) (End b0) h k m o p q = absurd k
spawn_once T u here t place (Spawn a0 a1 a2 a3 a4) (Print b0 b1) h k m o p q = absurd k
spawn_once T u here t place (Spawn a0 a1 a2 a3 a4) (Census b0 b1) h k m o p q = absurd k
spawn_once T u here t place (Arrive a0) d h k m o p q = absurd h
spawn_once T u here t place (Wait a0 a1) d h k m o p q = absurd h
spawn_once T u here t place (Release a0 a1 a2 a3) d h k m o p q = absurd h
spawn_once T u here t place (End a0) d h k m o p q = absurd h
spawn_once T u here t place (Print a0 a1) d h k m o p q = absurd h
spawn_once T u here t place (Census a0 a1) d h k m o p q = absurd h

wait_once : (T : Tree) (u : TaskId) (here : PlaceId) (t : Term) (faults : List Fault) (c d : Act) → Fits here t (Waits faults) c → Fits here t (Waits faults) d → AllowedAct T u c → AllowedAct T u d → ActFits c → ActFits d → c ≡ d
wait_once T u here t faults (Open a0 a1 a2) d h k m o p q = absurd h
wait_once T u here t faults (Calls a3 a4 a0 a1 a2 a5) d h k m o p q = absurd h
wait_once T u here t faults (Spawn a0 a1 a2 a3 a4) d h k m o p q = absurd h
wait_once T u here t faults (Arrive a0) d h k m o p q = absurd h
wait_once T u here t faults (Wait a0 a1) (Open b0 b1 b2) h k m o p q = absurd k
wait_once T u here t faults (Wait a0 a1) (Calls b3 b4 b0 b1 b2 b5) h k m o p q = absurd k
wait_once T u here t faults (Wait a0 a1) (Spawn b0 b1 b2 b3 b4) h k m o p q = absurd k
wait_once T u here t faults (Wait a0 a1) (Arrive b0) h k m o p q = absurd k
wait_once T u here t faults (Wait a0 a1) (Wait b0 b1) h k m o p q =
    let g : m.asks.1 ≡ o.asks.1 = (let e : Some m.asks.1 ≡ Some o.asks.1 = sym m.asks.2.0 ∙ o.asks.2.0 in cc) in
    let s : a0 ≡ b0 = sym m.asks.2.1 ∙ ap (λ (v : Scope). v.number) g ∙ o.asks.2.1 in
    ap (λ (v : ScopeId). Wait v a1) s ∙ ap (λ (v : List Fault). Wait b0 v) (h ∙ sym k)
wait_once T u here t faults (Wait a0 a1) (Release b0 b1 b2 b3) h k m o p q = absurd k
wait_once T u here t faults (Wait a0 a1) (End b0) h k m o p q = absurd k
wait_once T u here t faults (Wait a0 a1) (Print b0 b1) h k m o p q = absurd k
wait_once T u here t faults (Wait a0 a1) (Census b0 b1) h k m o p q = absurd k
wait_once T u here t faults (Release a0 a1 a2 a3) d h k m o p q = absurd h
wait_once T u here t faults (End a0) d h k m o p q = absurd h
wait_once T u here t faults (Print a0 a1) d h k m o p q = absurd h
wait_once T u here t faults (Census a0 a1) d h k m o p q = absurd h

release_once : (T : Tree) (u : TaskId) (here : PlaceId) (t : Term) (c d : Act) → Fits here t Releases c → Fits here t Releases d → AllowedAct T u c → AllowedAct T u d → ActFits c → ActFits d → c ≡ d
release_once T u here t (Open a0 a1 a2) d h k m o p q = absurd h
release_once T u here t (Calls a3 a4 a0 a1 a2 a5) d h k m o p q = absurd h
release_once T u here t (Spawn a0 a1 a2 a3 a4) d h k m o p q = absurd h
release_once T u here t (Arrive a0) d h k m o p q = absurd h
release_once T u here t (Wait a0 a1) d h k m o p q = absurd h
release_once T u here t (Release a0 a1 a2 a3) (Open b0 b1 b2) h k m o p q = absurd k
release_once T u here t (Release a0 a1 a2 a3) (Calls b3 b4 b0 b1 b2 b5) h k m o p q = absurd k
release_once T u here t (Release a0 a1 a2 a3) (Spawn b0 b1 b2 b3 b4) h k m o p q = absurd k
release_once T u here t (Release a0 a1 a2 a3) (Arrive b0) h k m o p q = absurd k
release_once T u here t (Release a0 a1 a2 a3) (Wait b0 b1) h k m o p q = absurd k
release_once T u here t (Release a0 a1 a2 a3) (Release b0 b1 b2 b3) h k m o p q =
    let g : m.asks.1 ≡ o.asks.1 = (let e : Some m.asks.1 ≡ Some o.asks.1 = sym m.asks.2.0 ∙ o.asks.2.0 in cc) in
    let s : a0 ≡ b0 = sym m.asks.2.1 ∙ ap (λ (v : Scope). v.number) g ∙ o.asks.2.1 in
    let n = names_once T b0 a1 b1 a2 b2 a3 b3 (subst (λ (v : ScopeId). MayFree T v a1 a2 a3) s m.asks.3) o.asks.3 p q in
    ap (λ (v : ScopeId). Release v a1 a2 a3) s ∙ ap (λ (v : PlaceSet). Release b0 v a2 a3) n.0 ∙ ap (λ (v : ℕ). Release b0 b1 v a3) n.1 ∙ ap (λ (v : List Fault). Release b0 b1 b2 v) n.2
release_once T u here t (Release a0 a1 a2 a3) (End b0) h k m o p q = absurd k
release_once T u here t (Release a0 a1 a2 a3) (Print b0 b1) h k m o p q = absurd k
release_once T u here t (Release a0 a1 a2 a3) (Census b0 b1) h k m o p q = absurd k
release_once T u here t (End a0) d h k m o p q = absurd h
release_once T u here t (Print a0 a1) d h k m o p q = absurd h
release_once T u here t (Census a0 a1) d h k m o p q = absurd h

print_once : (T : Tree) (u : TaskId) (here : PlaceId) (t : Term) (z : ℤ) (c d : Act) → Fits here t (Prints z) c → Fits here t (Prints z) d → AllowedAct T u c → AllowedAct T u d → ActFits c → ActFits d → c ≡ d
print_once T u here t z (Open a0 a1 a2) d h k m o p q = absurd h
print_once T u here t z (Calls a3 a4 a0 a1 a2 a5) d h k m o p q = absurd h
print_once T u here t z (Spawn a0 a1 a2 a3 a4) d h k m o p q = absurd h
print_once T u here t z (Arrive a0) d h k m o p q = absurd h
print_once T u here t z (Wait a0 a1) d h k m o p q = absurd h
print_once T u here t z (Release a0 a1 a2 a3) d h k m o p q = absurd h
print_once T u here t z (End a0) d h k m o p q = absurd h
print_once T u here t z (Print a0 a1) (Open b0 b1 b2) h k m o p q = absurd k
print_once T u here t z (Print a0 a1) (Calls b3 b4 b0 b1 b2 b5) h k m o p q = absurd k
print_once T u here t z (Print a0 a1) (Spawn b0 b1 b2 b3 b4) h k m o p q = absurd k
print_once T u here t z (Print a0 a1) (Arrive b0) h k m o p q = absurd k
print_once T u here t z (Print a0 a1) (Wait b0 b1) h k m o p q = absurd k
print_once T u here t z (Print a0 a1) (Release b0 b1 b2 b3) h k m o p q = absurd k
print_once T u here t z (Print a0 a1) (End b0) h k m o p q = absurd k
print_once T u here t z (Print a0 a1) (Print b0 b1) h k m o p q =
    let x : a1 ≡ b1 = (let e : Some a1 ≡ Some b1 = sym h.1 ∙ k.1 in cc) in
    ap (λ (v : ℤ). Print v a1) (h.0 ∙ sym k.0) ∙ ap (λ (v : List ℕ). Print b0 v) x
print_once T u here t z (Print a0 a1) (Census b0 b1) h k m o p q = absurd k
print_once T u here t z (Census a0 a1) d h k m o p q = absurd h

census_once : (T : Tree) (u : TaskId) (here : PlaceId) (t : Term) (name : ℕ) (c d : Act) → Fits here t (Counts name) c → Fits here t (Counts name) d → AllowedAct T u c → AllowedAct T u d → ActFits c → ActFits d → c ≡ d
census_once T u here t name (Open a0 a1 a2) d h k m o p q = absurd h
census_once T u here t name (Calls a3 a4 a0 a1 a2 a5) d h k m o p q = absurd h
census_once T u here t name (Spawn a0 a1 a2 a3 a4) d h k m o p q = absurd h
census_once T u here t name (Arrive a0) d h k m o p q = absurd h
census_once T u here t name (Wait a0 a1) d h k m o p q = absurd h
census_once T u here t name (Release a0 a1 a2 a3) d h k m o p q = absurd h
census_once T u here t name (End a0) d h k m o p q = absurd h
census_once T u here t name (Print a0 a1) d h k m o p q = absurd h
census_once T u here t name (Census a0 a1) (Open b0 b1 b2) h k m o p q = absurd k
census_once T u here t name (Census a0 a1) (Calls b3 b4 b0 b1 b2 b5) h k m o p q = absurd k
census_once T u here t name (Census a0 a1) (Spawn b0 b1 b2 b3 b4) h k m o p q = absurd k
census_once T u here t name (Census a0 a1) (Arrive b0) h k m o p q = absurd k
census_once T u here t name (Census a0 a1) (Wait b0 b1) h k m o p q = absurd k
census_once T u here t name (Census a0 a1) (Release b0 b1 b2 b3) h k m o p q = absurd k
census_once T u here t name (Census a0 a1) (End b0) h k m o p q = absurd k
census_once T u here t name (Census a0 a1) (Print b0 b1) h k m o p q = absurd k
census_once T u here t name (Census a0 a1) (Census b0 b1) h k m o p q =
    let x : a1 ≡ b1 = (let e : Some a1 ≡ Some b1 = sym h ∙ k in cc) in
    ap (λ (v : ℕ). Census v a1) (m.asks.1 ∙ sym o.asks.1) ∙ ap (λ (v : List ℕ). Census b0 v) x

-- the act of a turn
pub fit_once : (T : Tree) (u : TaskId) (here : PlaceId) (t : Term) (d : Does) (a b : Act) → Fits here t d a → Fits here t d b → AllowedAct T u a → AllowedAct T u b → ActFits a → ActFits b → a ≡ b
fit_once T u here t Opens a b h k m o p q = open_once T u here t a b h k m o p q
fit_once T u here t (Asks place) a b h k m o p q = call_once T u here t place a b h k m o p q
fit_once T u here t (Spawns place) a b h k m o p q = spawn_once T u here t place a b h k m o p q
fit_once T u here t (Waits faults) a b h k m o p q = wait_once T u here t faults a b h k m o p q
fit_once T u here t Releases a b h k m o p q = release_once T u here t a b h k m o p q
fit_once T u here t (Prints value) a b h k m o p q = print_once T u here t value a b h k m o p q
fit_once T u here t (Counts name) a b h k m o p q = census_once T u here t name a b h k m o p q
fit_once T u here t (Local left vars) a b h k m o p q = absurd h
fit_once T u here t (Makes name words) a b h k m o p q = absurd h
fit_once T u here t (Gets name target index) a b h k m o p q = absurd h
fit_once T u here t (Puts target index value) a b h k m o p q = absurd h
fit_once T u here t (Forgets target) a b h k m o p q = absurd h
fit_once T u here t (Done faults) a b h k m o p q = absurd h
