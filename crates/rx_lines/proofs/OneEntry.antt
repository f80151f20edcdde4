-- What an answer tells of an entry, and what the entry makes, the tree determines.
use Rattle.std.proofs.Common.{codes, ◌≡◌, ℕ, Bool, List, [], ◌++◌, Option, Some, refl, ap, sym, ◌∙◌, subst}
use Rattle.rx_rules.proofs.Common.{TaskId, ScopeId, PlaceId, PlaceSet, Fault, members, Tree, inner, governs, the_root, Allowed, AllowedAct, MayFree, made, change_task, resumed, without}
use Rattle.rx_base.proofs.SameIds.{task-is, scope-is, place-is}
use Rattle.rx_rules.specs.declared.tasks.Where.TheVariants.{At as Stays, Travel}
use Rattle.rx_rules.specs.declared.tasks.Task.{Task}
use Rattle.rx_rules.specs.declared.tasks.Scope.{Scope}
use Rattle.rx_rules.specs.declared.entries.Act.TheVariants.{Open as OpenAct, At as CallAct, Spawn as SpawnAct, Arrive as ArriveAct, Wait as WaitAct, Release as ReleaseAct}
use Rattle.rx_rules.specs.declared.entries.Entry.{Entry}
use Rattle.rx_rules.specs.declared.entries.Entry.TheVariants.{Step, Root as RootEntry, Join as JoinEntry}
use Rattle.rx_trace.specs.Fields.{natural_field}
use Rattle.rx_trace.specs.Parts.{part_text, lost_part, masked_part}
use Rattle.rx_runs.proofs.Asking.{one_task}
use Rattle.rx_finish.specs.declared.ledger.Born.{Born}
use Rattle.rx_finish.specs.declared.ledger.Outcome.{Outcome}
use Rattle.rx_coordinator.specs.declared.requests.Request.{Request}
use Rattle.rx_coordinator.specs.declared.requests.Request.TheVariants.{Open, At, Spawn, Send, Arrive, Wait, Release, End, Death, Join, Root}
use Rattle.rx_coordinator.specs.declared.requests.Answer.{Answer}
use Rattle.rx_coordinator.specs.declared.requests.Answer.TheVariants.{Bad, Opened, Called, Spawned, Landed, Waits, Released, Ended, Died, Joined, RootDone}
use Rattle.rx_coordinator.specs.Stands.{Told}
use Rattle.rx_lines.specs.Replies.{fault_text, outcome_text, answer_text}

-- the same text, and the same tree after it
abbrev pub One : Tree → ℕ → Answer → Entry → Answer → Entry → Type 0
One T n a e b f = (answer_text a ≡ answer_text b) × (made n T e ≡ made n T f)

-- one look-up finds one thing
pub item_one : {X : Type 0} (o : Option X) (x y : X) → o ≡ Some x → o ≡ Some y → x ≡ y
item_one o x y e f = let k : Some x ≡ Some y = sym e ∙ f in cc

stays-one : (x y : Task) (a b : PlaceId) → x ≡ y → x.place ≡ Stays a → y.place ≡ Stays b → a ≡ b
stays-one x y a b e i j = let k : Stays a ≡ Stays b = sym i ∙ (ap (λ (z : Task). z.place) e ∙ j) in cc

goes-one : (x y : Task) (a b c d : PlaceId) → x ≡ y → x.place ≡ Travel a c → y.place ≡ Travel b d → c ≡ d
goes-one x y a b c d e i j = let k : Travel a c ≡ Travel b d = sym i ∙ (ap (λ (z : Task). z.place) e ∙ j) in cc

open-one : (t : TaskId) (s u r v : ScopeId) → s ≡ u → r ≡ v → Step t (OpenAct s r []) [] ≡ Step t (OpenAct u v []) []
open-one t s u r v e f = cc

call-one : (t : TaskId) (to a b : PlaceId) (s u r v : ScopeId) (c d : TaskId) → a ≡ b → s ≡ u → r ≡ v → c ≡ d
    → Step t (CallAct a to s r c []) [] ≡ Step t (CallAct b to u v d []) []
call-one t to a b s u r v c d e f g h = cc

spawn-one : (t : TaskId) (to a b : PlaceId) (s u : ScopeId) (c d : TaskId) → a ≡ b → s ≡ u → c ≡ d
    → Step t (SpawnAct c s a to []) [] ≡ Step t (SpawnAct d u b to []) []
spawn-one t to a b s u c d e f g = cc

born-one : (b d : Born) → b.child ≡ d.child → b.scope ≡ d.scope → b.lost ≡ d.lost → b ≡ d
born-one b d e f g =
    ap (λ (c : TaskId). let x : Born = record { child = c; scope = b.scope; lost = b.lost } in x) e
    ∙ (ap (λ (s : ScopeId). let x : Born = record { child = d.child; scope = s; lost = b.lost } in x) f
    ∙ ap (λ (l : Bool). let x : Born = record { child = d.child; scope = d.scope; lost = l } in x) g)

lost-one : (a b : PlaceSet) → members a ≡ members b → lost_part a ≡ lost_part b
unfolding lost_part
lost-one a b e = ap (part_text (codes " lost") natural_field) e

-- what a release names
names-one : (T : Tree) (s : ScopeId) (o w : Outcome) → MayFree T s o.lost o.masked o.thrown → MayFree T s w.lost w.masked w.thrown
    → outcome_text o ≡ outcome_text w
names-one T s o w h k =
    ap (λ (z : List ℕ). z ++ masked_part o.masked ++ part_text (codes " thrown") fault_text o.thrown) (lost-one o.lost w.lost (h.places ∙ sym k.places))
    ∙ (ap (λ (m : ℕ). lost_part w.lost ++ masked_part m ++ part_text (codes " thrown") fault_text o.thrown) (h.count ∙ sym k.count)
    ∙ ap (λ (xs : List Fault). lost_part w.lost ++ masked_part w.masked ++ part_text (codes " thrown") fault_text xs) (h.faults ∙ sym k.faults))

module _ (T : Tree) (n : ℕ) (t : TaskId) where
  opens : (a b : Answer) (e f : Entry) → Told T (Open t) a e → Told T (Open t) b f → Allowed T e → Allowed T f → One T n a e b f
  opens (Opened s) (Opened u) e f h k x y =
      let m : AllowedAct T t (OpenAct s h.0 []) = subst (Allowed T) h.1 x in
      let o : AllowedAct T t (OpenAct u k.0 []) = subst (Allowed T) k.1 y in
      let task = one_task T t m.task o.task m.stands o.stands in
      let scope : s ≡ u = scope-is s u (m.asks.1 ∙ sym o.asks.1) in
      let under : h.0 ≡ k.0 = m.asks.2 ∙ (ap (inner T) task ∙ sym o.asks.2) in
      (ap (λ (v : ScopeId). answer_text (Opened v)) scope, ap (made n T) (h.1 ∙ (open-one t s u h.0 k.0 scope under ∙ sym k.1)))
  opens (Opened s) _ e f h k x y = absurd k
  opens _ b e f h k x y = absurd h

  calls : (to : PlaceId) (a b : Answer) (e f : Entry) → Told T (At t to) a e → Told T (At t to) b f → Allowed T e → Allowed T f
      → One T n a e b f
  calls to (Called c) (Called d) e f h k x y =
      let m : AllowedAct T t (CallAct h.0 to c.scope h.1 c.child []) = subst (Allowed T) h.2 x in
      let o : AllowedAct T t (CallAct k.0 to d.scope k.1 d.child []) = subst (Allowed T) k.2 y in
      let task = one_task T t m.task o.task m.stands o.stands in
      let from = stays-one m.task o.task h.0 k.0 task m.asks.0.0 o.asks.0.0 in
      let scope : c.scope ≡ d.scope = scope-is c.scope d.scope (m.asks.1 ∙ sym o.asks.1) in
      let under : h.1 ≡ k.1 = m.asks.2 ∙ (ap (inner T) task ∙ sym o.asks.2) in
      let child : c.child ≡ d.child = task-is c.child d.child (m.asks.3 ∙ sym o.asks.3) in
      (ap (λ (v : Born). answer_text (Called v)) (born-one c d child scope (h.3 ∙ sym k.3)), ap (made n T) (h.2 ∙ (call-one t to h.0 k.0 c.scope d.scope h.1 k.1 c.child d.child from scope under child ∙ sym k.2)))
  calls to (Called c) _ e f h k x y = absurd k
  calls to _ b e f h k x y = absurd h

  -- who is started, too
  pub spawned_one : (to : PlaceId) (c d : Born) (e f : Entry) → Told T (Spawn t to) (Spawned c) e
      → Told T (Spawn t to) (Spawned d) f → Allowed T e → Allowed T f → (c ≡ d) × (e ≡ f)
  spawned_one to c d e f h k x y =
      let m : AllowedAct T t (SpawnAct c.child c.scope h.0 to []) = subst (Allowed T) h.1 x in
      let o : AllowedAct T t (SpawnAct d.child d.scope k.0 to []) = subst (Allowed T) k.1 y in
      let task = one_task T t m.task o.task m.stands o.stands in
      let from = stays-one m.task o.task h.0 k.0 task m.asks.0.0 o.asks.0.0 in
      let child : c.child ≡ d.child = task-is c.child d.child (m.asks.1 ∙ sym o.asks.1) in
      let scope : c.scope ≡ d.scope = m.asks.2 ∙ (ap (governs T) task ∙ sym o.asks.2) in
      (born-one c d child scope (h.2 ∙ sym k.2), h.1 ∙ (spawn-one t to h.0 k.0 c.scope d.scope c.child d.child from scope child ∙ sym k.1))

  spawns : (to : PlaceId) (a b : Answer) (e f : Entry) → Told T (Spawn t to) a e → Told T (Spawn t to) b f → Allowed T e
      → Allowed T f → One T n a e b f
  spawns to (Spawned c) (Spawned d) e f h k x y =
      let same = spawned_one to c d e f h k x y in
      (ap (λ (v : Born). answer_text (Spawned v)) same.0, ap (made n T) same.1)
  spawns to (Spawned c) _ e f h k x y = absurd k
  spawns to _ b e f h k x y = absurd h

  arrives : (a b : Answer) (e f : Entry) → Told T (Arrive t) a e → Told T (Arrive t) b f → Allowed T e → Allowed T f
      → One T n a e b f
  arrives Landed Landed e f h k x y =
      let m : AllowedAct T t (ArriveAct h.0) = subst (Allowed T) h.1 x in
      let o : AllowedAct T t (ArriveAct k.0) = subst (Allowed T) k.1 y in
      let task = one_task T t m.task o.task m.stands o.stands in
      let to = goes-one m.task o.task m.asks.0 o.asks.0 h.0 k.0 task m.asks.1 o.asks.1 in
      (refl, ap (made n T) (h.1 ∙ (ap (λ (v : PlaceId). Step t (ArriveAct v) []) to ∙ sym k.1)))
  arrives Landed _ e f h k x y = absurd k
  arrives _ b e f h k x y = absurd h

  waits : (thrown : List Fault) (a b : Answer) (e f : Entry) → Told T (Wait t thrown) a e → Told T (Wait t thrown) b f → Allowed T e
      → Allowed T f → One T n a e b f
  waits thrown Waits Waits e f h k x y =
      let m : AllowedAct T t (WaitAct h.0 thrown) = subst (Allowed T) h.1 x in
      let o : AllowedAct T t (WaitAct k.0 thrown) = subst (Allowed T) k.1 y in
      let own = item_one _ m.asks.1 o.asks.1 m.asks.2.0 o.asks.2.0 in
      let scope : h.0 ≡ k.0 = sym m.asks.2.1 ∙ (ap (λ (g : Scope). g.number) own ∙ o.asks.2.1) in
      (refl, ap (made n T) (h.1 ∙ (ap (λ (v : ScopeId). Step t (WaitAct v thrown) []) scope ∙ sym k.1)))
  waits thrown Waits _ e f h k x y = absurd k
  waits thrown _ b e f h k x y = absurd h

  released-scope : (o w : Outcome) (e f : Entry) → (h : Told T (Release t) (Released o) e) → (k : Told T (Release t) (Released w) f)
      → Allowed T e → Allowed T f → h.0 ≡ k.0
  released-scope o w e f h k x y =
      let m : AllowedAct T t (ReleaseAct h.0 o.lost o.masked o.thrown) = subst (Allowed T) h.1 x in
      let u : AllowedAct T t (ReleaseAct k.0 w.lost w.masked w.thrown) = subst (Allowed T) k.1 y in
      let own = item_one _ m.asks.1 u.asks.1 m.asks.2.0 u.asks.2.0 in
      sym m.asks.2.1 ∙ (ap (λ (g : Scope). g.number) own ∙ u.asks.2.1)

  pub released_names : (o w : Outcome) (e f : Entry) → Told T (Release t) (Released o) e → Told T (Release t) (Released w) f
      → Allowed T e → Allowed T f → outcome_text o ≡ outcome_text w
  released_names o w e f h k x y =
      let m : AllowedAct T t (ReleaseAct h.0 o.lost o.masked o.thrown) = subst (Allowed T) h.1 x in
      let u : AllowedAct T t (ReleaseAct k.0 w.lost w.masked w.thrown) = subst (Allowed T) k.1 y in
      names-one T k.0 o w (subst (λ (r : ScopeId). MayFree T r o.lost o.masked o.thrown) (released-scope o w e f h k x y) m.asks.3) u.asks.3

  releases : (a b : Answer) (e f : Entry) → Told T (Release t) a e → Told T (Release t) b f → Allowed T e → Allowed T f
      → One T n a e b f
  releases (Released o) (Released w) e f h k x y = (
    ap (λ (z : List ℕ). codes "released" ++ z) (released_names o w e f h k x y),
    ap (made n T) h.1 ∙ (ap (λ (r : ScopeId). change_task resumed t (without T r)) (released-scope o w e f h k x y) ∙ sym (ap (made n T) k.1)),
  )
  releases (Released o) _ e f h k x y = absurd k
  releases _ b e f h k x y = absurd h

  ends : (thrown : List Fault) (a b : Answer) (e f : Entry) → Told T (End t thrown) a e → Told T (End t thrown) b f → Allowed T e
      → Allowed T f → One T n a e b f
  ends thrown Ended Ended e f h k x y = (refl, ap (made n T) (h ∙ sym k))
  ends thrown Ended _ e f h k x y = absurd k
  ends thrown _ b e f h k x y = absurd h

-- one that is sent tells no one entry
pub none_sent : (T : Tree) (t : TaskId) (to : PlaceId) (a : Answer) (e : Entry) → Told T (Send t to) a e → ⊥
none_sent T t to Bad e h = h
none_sent T t to _ e h = h

module _ (T : Tree) (n : ℕ) where
  dies : (d : PlaceId) (a b : Answer) (e f : Entry) → Told T (Death d) a e → Told T (Death d) b f → Allowed T e → Allowed T f
      → One T n a e b f
  dies d Died Died e f h k x y = (refl, ap (made n T) (h ∙ sym k))
  dies d Died _ e f h k x y = absurd k
  dies d _ b e f h k x y = absurd h

  joins : (a b : Answer) (e f : Entry) → Told T Join a e → Told T Join b f → Allowed T e → Allowed T f → One T n a e b f
  joins (Joined p) (Joined q) e f h k x y =
      let m : Allowed T (JoinEntry p) = subst (Allowed T) h x in
      let o : Allowed T (JoinEntry q) = subst (Allowed T) k y in
      let place : p ≡ q = place-is p q (m.0 ∙ sym o.0) in
      (ap (λ (v : PlaceId). answer_text (Joined v)) place, ap (made n T) (h ∙ (ap (λ (v : PlaceId). JoinEntry v) place ∙ sym k)))
  joins (Joined p) _ e f h k x y = absurd k
  joins _ b e f h k x y = absurd h

  pub root_names : (o w : Outcome) (e f : Entry) → Told T Root (RootDone o) e → Told T Root (RootDone w) f → Allowed T e
      → Allowed T f → outcome_text o ≡ outcome_text w
  root_names o w e f h k x y =
      let m : Allowed T (RootEntry o.lost o.masked o.thrown) = subst (Allowed T) h x in
      let u : Allowed T (RootEntry w.lost w.masked w.thrown) = subst (Allowed T) k y in
      names-one T the_root o w m.2 u.2

  roots : (a b : Answer) (e f : Entry) → Told T Root a e → Told T Root b f → Allowed T e → Allowed T f → One T n a e b f
  roots (RootDone o) (RootDone w) e f h k x y =
      (ap (λ (z : List ℕ). codes "released" ++ z) (root_names o w e f h k x y), ap (made n T) h ∙ sym (ap (made n T) k))
  roots (RootDone o) _ e f h k x y = absurd k
  roots _ b e f h k x y = absurd h

  -- two answers that tell of entries tell the same
  pub one : (q : Request) (a b : Answer) (e f : Entry) → Told T q a e → Told T q b f → Allowed T e → Allowed T f → One T n a e b f
  one (Open t) a b e f h k x y = opens T n t a b e f h k x y
  one (At t to) a b e f h k x y = calls T n t to a b e f h k x y
  one (Spawn t to) a b e f h k x y = spawns T n t to a b e f h k x y
  one (Send t to) a b e f h k x y = absurd (none_sent T t to a e h)
  one (Arrive t) a b e f h k x y = arrives T n t a b e f h k x y
  one (Wait t thrown) a b e f h k x y = waits T n t thrown a b e f h k x y
  one (Release t) a b e f h k x y = releases T n t a b e f h k x y
  one (End t thrown) a b e f h k x y = ends T n t thrown a b e f h k x y
  one (Death d) a b e f h k x y = dies d a b e f h k x y
  one Join a b e f h k x y = joins a b e f h k x y
  one Root a b e f h k x y = roots a b e f h k x y
