-- Where the condition of a call holds of a reached tree and no death has struck the caller, the call's entry is allowed.
use Rattle.std.proofs.Common.{◌≡◌, ℕ, pos, true, false, List, [], Some, None, is_some, refl, ◌⊎◌, sym, ap, ◌∙◌, subst, inl, inr}
use Rattle.std.proofs.lemmas.Bool.{eqb-true}
use Rattle.rx_rules.proofs.Common.{PlaceId, TaskId, ScopeId, Fault, PlaceSet, Tree, is_task, task_of, own_scope, inner, place_number, IsLive, ActAsks, AllowedAct, MayFree, Reached}
use Rattle.rx_base.proofs.Elements.{find-passes}
use Rattle.rx_rules.specs.declared.tasks.Where.{Where}
use Rattle.rx_rules.specs.declared.tasks.Where.TheVariants.{At, Travel}
use Rattle.rx_rules.specs.declared.tasks.Task.{Task}
use Rattle.rx_rules.specs.declared.tasks.Scope.{Scope}
use Rattle.rx_rules.specs.declared.entries.Act.{Act}
use Rattle.rx_rules.specs.declared.entries.Act.TheVariants.{Open, At as Calls, Spawn, Arrive, Wait, Release, End, Print, Census}
use Rattle.rx_rules.specs.Tree.{governing}
use Rattle.rx_rules.specs.Entries.{IsLiveHere}
use Rattle.rx_finish.specs.declared.ledger.Caller.{Caller}
use Rattle.rx_finish.specs.Callers.{MayAsk, CallerStands, HasLeft, IsMoving, Travels, does_travel, HasFinish, WaitsInside, IsBare, MayAskMoving, MayAskTo, MayAskArrive, MayAskWait, MayAskRelease, MayAskEnd}
use Rattle.rx_finish.specs.Calls.{IsUnstruck, blow_of, landing}
use Rattle.rx_finish.proofs.Gone.{left_struck}

-- an unstruck caller stands in the tree
pub record Free (T : Tree) (who : Caller) (P : Task → Type 0) : Type 0 where
  pub at : CallerStands T who P
  pub unstruck : at.task.struck ≡ None

free_at : (T : Tree) (who : Caller) (P : Task → Type 0) → Reached T → IsUnstruck T who → CallerStands T who P ⊎ HasLeft T who → Free T who P
free_at T who P r u (inl h) = record { at = h; unstruck = rw (h.stands, blow_of) at u }
free_at T who P r u (inr h) =
    let free : h.task.struck ≡ None = rw (h.none, h.gone, blow_of) at u in
    let struck : is_some h.task.struck ≡ true = left_struck T who.task h.task r h.gone in
    let bad : false ≡ true = rw free at struck in
    absurd cc

pub free : (T : Tree) (who : Caller) (P : Task → Type 0) → Reached T → MayAsk T who P → IsUnstruck T who → Free T who P
free T who P r may u = free_at T who P r u may.caller

-- the act of an unstruck caller is allowed where the caller is as the act asks
does_it : (T : Tree) (who : Caller) (P : Task → Type 0) (act : Act) (f : Free T who P) → ActAsks T who.task f.at.task act → AllowedAct T who.task act
does_it T who P act f h = record { task = f.at.task; stands = f.at.stands; unstruck = f.unstruck; asks = h }

-- it lives at the place of which it speaks
lives : (T : Tree) (who : Caller) (P : Task → Type 0) (f : Free T who P) → IsMoving f.at.task → IsLive (place_number who.place) f.at.task
lives T who P f m = subst (λ (p : PlaceId). IsLive p f.at.task) (ap place_number (sym m.is_at ∙ f.at.says.place)) (m.is_at, m.moves)

lives_here : (T : Tree) (who : Caller) (P : Task → Type 0) (f : Free T who P) → IsMoving f.at.task → IsLiveHere f.at.task
lives_here T who P f m = (m.place, (m.is_at, m.moves))

pub print_allowed : (T : Tree) (who : Caller) → Reached T → MayAskMoving T who → IsUnstruck T who → AllowedAct T who.task (Print (pos 0) [])
print_allowed T who r may u =
    let f : Free T who IsMoving = free T who IsMoving r may u in
    does_it T who IsMoving (Print (pos 0) []) f (lives_here T who IsMoving f f.at.allowed)

pub census_allowed : (T : Tree) (who : Caller) (n : ℕ) → Reached T → MayAskMoving T who → IsUnstruck T who → n ≡ T.places → AllowedAct T who.task (Census n [])
census_allowed T who n r may u e =
    let f : Free T who IsMoving = free T who IsMoving r may u in
    does_it T who IsMoving (Census n []) f (lives_here T who IsMoving f f.at.allowed, e)

pub open_allowed : (T : Tree) (who : Caller) (s : ScopeId) → Reached T → MayAskMoving T who → IsUnstruck T who → s.0 ≡ T.next_scope → AllowedAct T who.task (Open s who.inner [])
open_allowed T who s r may u n =
    let f : Free T who IsMoving = free T who IsMoving r may u in
    does_it T who IsMoving (Open s who.inner []) f (lives_here T who IsMoving f f.at.allowed, n, sym f.at.inner_is)

pub call_allowed : (T : Tree) (who : Caller) (to : PlaceId) (s : ScopeId) (callee : TaskId) → Reached T → MayAskTo T who to → IsUnstruck T who → s.0 ≡ T.next_scope → callee.0 ≡ T.next_task → AllowedAct T who.task (Calls (place_number who.place) to s who.inner callee [])
call_allowed T who to s callee r may u n m =
    let f : Free T who IsMoving = free T who IsMoving r may.asks u in
    does_it T who IsMoving (Calls (place_number who.place) to s who.inner callee []) f (lives T who IsMoving f f.at.allowed, n, sym f.at.inner_is, m, may.target)

pub spawn_allowed : (T : Tree) (who : Caller) (to : PlaceId) (s : ScopeId) (child : TaskId) → Reached T → MayAskTo T who to → IsUnstruck T who → s ≡ governing T who.inner → child.0 ≡ T.next_task → AllowedAct T who.task (Spawn child s (place_number who.place) to [])
spawn_allowed T who to s child r may u n m =
    let f : Free T who IsMoving = free T who IsMoving r may.asks u in
    does_it T who IsMoving (Spawn child s (place_number who.place) to []) f (lives T who IsMoving f f.at.allowed, m, n ∙ ap (governing T) (sym f.at.inner_is), may.target)

travelling : (w : Where) → does_travel w ≡ true → (from : PlaceId) × (w ≡ Travel from (landing w))
travelling (At p) h = cc
travelling (Travel from to) h = (from, refl)

pub arrive_allowed : (T : Tree) (who : Caller) → Reached T → MayAskArrive T who → IsUnstruck T who → AllowedAct T who.task (Arrive (landing who.place))
arrive_allowed T who r may u =
    let f : Free T who Travels = free T who Travels r may u in
    let way : (from : PlaceId) × (f.at.task.place ≡ Travel from (landing f.at.task.place)) = travelling f.at.task.place f.at.allowed.travels in
    does_it T who Travels (Arrive (landing who.place)) f (way.0, way.1 ∙ ap (λ w. Travel way.0 (landing w)) f.at.says.place)

-- a task that is found has the number
number_of : (T : Tree) (t : TaskId) (x : Task) → task_of T t ≡ Some x → x.number ≡ t
number_of T t x h = ap (λ (n : ℕ). record { 0 = n }) (eqb-true x.number.0 t.0 (find-passes (is_task t) T.tasks x h))

-- the scope that a caller opened last is the inner one
pub own_is : (T : Tree) (who : Caller) (P : Task → Type 0) (f : Free T who P) (g : Scope) → own_scope T who.task ≡ Some g → g.number ≡ who.inner
own_is T who P f g h =
    let same : own_scope T f.at.task.number ≡ Some g = ap (own_scope T) (number_of T who.task f.at.task f.at.stands) ∙ h in
    let there : inner T f.at.task ≡ g.number = rw (same, inner) in
    sym there ∙ f.at.inner_is

pub wait_allowed : (T : Tree) (who : Caller) (thrown : List Fault) → Reached T → MayAskWait T who → IsUnstruck T who → AllowedAct T who.task (Wait who.inner thrown)
wait_allowed T who thrown r may u =
    let f : Free T who (HasFinish T who) = free T who (HasFinish T who) r may u in
    let h = f.at.allowed in
    let own = own_is T who (HasFinish T who) f h.scope h.own in
    does_it T who (HasFinish T who) (Wait who.inner thrown) f (lives_here T who (HasFinish T who) f h.moving, h.scope, (h.own, own), h.finish)

pub release_allowed : (T : Tree) (who : Caller) (lost : PlaceSet) (masked : ℕ) (thrown : List Fault) → Reached T → MayAskRelease T who → IsUnstruck T who → MayFree T who.inner lost masked thrown → AllowedAct T who.task (Release who.inner lost masked thrown)
release_allowed T who lost masked thrown r may u n =
    let f : Free T who (WaitsInside T who) = free T who (WaitsInside T who) r may u in
    let h = f.at.allowed in
    let own = own_is T who (WaitsInside T who) f h.scope h.own in
    does_it T who (WaitsInside T who) (Release who.inner lost masked thrown) f (h.waits, h.scope, (h.own, own), n)

pub end_allowed : (T : Tree) (who : Caller) (thrown : List Fault) → Reached T → MayAskEnd T who → IsUnstruck T who → AllowedAct T who.task (End thrown)
end_allowed T who thrown r may u =
    let f : Free T who (IsBare T who) = free T who (IsBare T who) r may u in
    does_it T who (IsBare T who) (End thrown) f (lives_here T who (IsBare T who) f f.at.allowed.moving, f.at.allowed.none_open)
