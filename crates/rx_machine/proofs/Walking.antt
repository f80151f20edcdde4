-- The walk by the notes of scopes to the nearest opener, and the task that moves.
use Rattle.std.proofs.Common.{◌≡◌, ◌≢◌, ◌⊎◌, ℕ, ◌<◌, true, false, cond, List, length, Option, Some, None, is_none, is_some, get_or, refl, ap, ◌∙◌, sym, subst, arith, inr, inl}
use Rattle.std.proofs.lemmas.Bool.{eqb-true}
use Rattle.std.proofs.lemmas.Option.{slice_get-get_or}
use Rattle.rx_rules.proofs.Common.{TaskId, ScopeId, Fault, Block, Tree, task_of, is_scope, on_chain, the_root, AllowedAct, made_act, change_first, waiting, resumed, add_task, opened, born, without, Reached, Given, Game, Player, tree_in}
use Rattle.rx_base.proofs.Elements.{find-passes}
use Rattle.rx_base.proofs.SameIds.{scope-is}
use Rattle.rx_rules.specs.declared.tasks.Where.TheVariants.{At}
use Rattle.rx_rules.specs.declared.tasks.Task.{Task}
use Rattle.rx_rules.specs.declared.tasks.Kind.TheVariants.{Call}
use Rattle.rx_rules.specs.declared.entries.Act.{Act}
use Rattle.rx_rules.specs.declared.entries.Act.TheVariants.{Open, At as Calls, Spawn, Arrive, Wait, Release, End, Print, Census}
use Rattle.rx_rules.specs.declared.entries.Entry.{Entry}
use Rattle.rx_tree_laws.specs.Sound.{Sound}
use Rattle.rx_tree_laws.specs.Enabling.{unstruck_in, is_left, nearest_opener, GoesUp, WalkGoesUp, WalkEnds}
use Rattle.rx_tree_laws.proofs.Changes.{each_found}
use Rattle.rx_tree_laws.proofs.Reach.{task_below}
use Rattle.rx_runs.specs.Coming.{CameTo, GamesCome}
use Rattle.rx_chronicle.specs.Told.{opener_told, parent_told}
use Rattle.rx_chronicle.specs.Noting.{IsNoted, NotesTell}
use Rattle.rx_syntax.specs.Shape.{Shape}
use Rattle.rx_machine.specs.declared.machine.Machine.{Machine}
use Rattle.rx_machine.specs.declared.seat.Seat.{Seat}
use Rattle.rx_machine.specs.Slots.{row_of, seat_at, seat_in, live_task, live_in, SlotIs}
use Rattle.rx_machine.specs.Holds.{CanTurn}
use Rattle.rx_machine.proofs.Live.{live_stands, stands_live, change-same, add-other, release-live}

-- The walk.

-- the opener of a slot is left where its seat is there
pub left_slot : (shape : Shape) (es : List Entry) (T : Tree) (ps : List Player) (n : ℕ) (o : Option Seat) → SlotIs shape es T ps n o → is_left T (Some (record { 0 = n })) ≡ is_some o
left_slot shape es T ps n (Some seat) is = let both = live_stands T n (row_of seat) is.3.row in ap unstruck_in both.0 ∙ ap is_none both.1
left_slot shape es T ps n None none = off (task_of T (record { 0 = n })) none where
  off : (o : Option Task) → live_in o ≡ None → unstruck_in o ≡ false
  off None h = refl
  off (Some x) h =
      (elim x.struck as (λ s. cond (is_none s) (Some x) None ≡ None → is_none s ≡ false) [
        | Some b ↦ λ e. refl
        | None ↦ λ e. absurd (let f : ⊥ = cc in f)
      ]) h

-- the scope leads to the root, and its nearest opener is that of the scope at which the walk began
abbrev pub IsOnWay : Tree → ScopeId → ScopeId → Type 0
IsOnWay T under s = (on_chain T the_root s ≡ true) × (nearest_opener T (Some s) ≡ nearest_opener T (Some under))

-- the walk ends at an opener that is left
pub found_left : (T : Tree) (under s : ScopeId) (o : TaskId) → IsOnWay T under s → (u : GoesUp T s) → u.opener ≡ o → is_left T (Some o) ≡ true → Some o ≡ nearest_opener T (Some under)
found_left T under s o way u e left =
    sym (ap (λ b. cond b (Some o) (nearest_opener T (Some u.parent))) left)
    ∙ (sym (ap (λ (v : TaskId). cond (is_left T (Some v)) (Some v) (nearest_opener T (Some u.parent))) e)
    ∙ (sym u.nearest ∙ way.1))

-- and goes on from one that is not
pub goes_on : (T : Tree) (under s p : ScopeId) (o : TaskId) → IsOnWay T under s → (u : GoesUp T s) → u.opener ≡ o → u.parent ≡ p → is_left T (Some o) ≡ false → IsOnWay T under p
goes_on T under s p o way u e k left =
    subst (λ (v : ScopeId). IsOnWay T under v) k (
      u.leads,
      sym (ap (λ b. cond b (Some o) (nearest_opener T (Some u.parent))) left)
          ∙ (sym (ap (λ (v : TaskId). cond (is_left T (Some v)) (Some v) (nearest_opener T (Some u.parent))) e)
          ∙ (sym u.nearest ∙ way.1)),
    )

-- what is noted at a step of the walk
pub record StepAt (T : Tree) (under s : ScopeId) (opener : TaskId) (parent : ScopeId) : Type 0 where
  pub way : IsOnWay T under s
  pub up : GoesUp T s
  pub opener_is : up.opener ≡ opener
  pub parent_is : up.parent ≡ parent

pub step_at : {L : Type 0} {shape : Shape} {code : Block} {U : Given} {m : Machine L} {G : Game} → CanTurn shape code U m G → GamesCome → WalkGoesUp → NotesTell → (under s : ScopeId) (opener : TaskId) (parent : ScopeId) → IsOnWay (tree_in U G) under s → s.0 ≢ 0 → opener ≡ opener_told m.chronicle.entries s → parent ≡ parent_told m.chronicle.entries s → StepAt (tree_in U G) under s opener parent
step_at {code = code} {U = U} {m = m} {G = G} can come law notes under s opener parent way off by in_scope =
    let h = can.holds.shares in
    let T : Tree = tree_in U G in
    let came : CameTo code U G = come code U G h.on.proper h.comes can.unreleased in
    let u : GoesUp T s = law T s can.reached way.0 off in
    let noted : IsNoted G.entries u.scope = each_found (IsNoted G.entries) (is_scope s) T.scopes u.scope (notes U G.entries came.ok.folds) u.stands in
    let number : u.scope.number ≡ s = scope-is u.scope.number s (eqb-true u.scope.number.0 s.0 (find-passes (is_scope s) T.scopes u.scope u.stands)) in
    let told = noted (λ e. off (sym (ap (λ (v : ScopeId). v.0) number) ∙ e)) in
    let opener_so : u.opener ≡ opener_told G.entries u.scope.number = (let e : Some u.opener ≡ Some (opener_told G.entries u.scope.number) = sym u.is_opener ∙ told.0 in cc) in
    let parent_so : u.parent ≡ parent_told G.entries u.scope.number = (let e : Some u.parent ≡ Some (parent_told G.entries u.scope.number) = sym u.is_parent ∙ told.1 in cc) in
    record {
      way = way;
      up = u;
      opener_is = opener_so ∙ (ap (λ (v : ScopeId). opener_told G.entries v) number ∙ (ap (λ (es : List Entry). opener_told es s) (sym h.entries) ∙ sym by));
      parent_is = parent_so ∙ (ap (λ (v : ScopeId). parent_told G.entries v) number ∙ (ap (λ (es : List Entry). parent_told es s) (sym h.entries) ∙ sym in_scope));
    }

-- whether the opener is left is seen from its slot
pub left_seen : (shape : Shape) (es : List Entry) (T : Tree) (ps : List Player) (items : List (Option Seat)) (n : ℕ) (now : Option Seat) → ((k : ℕ) → SlotIs shape es T ps k (seat_at items k)) → n < length items → now ≡ get_or items n now → is_left T (Some (record { 0 = n })) ≡ is_some now
left_seen shape es T ps items n now slots inside at =
    left_slot shape es T ps n (seat_at items n) (slots n)
    ∙ ap is_some (ap seat_in (slice_get-get_or items n now inside ∙ ap (λ (o : Option Seat). Some o) (sym at)))

-- where the walk ends at the root there is none
pub none_above_root : (T : Tree) (under s : ScopeId) → Reached T → WalkEnds → IsOnWay T under s → s.0 ≡ 0 → None ≡ nearest_opener T (Some under)
none_above_root T under s reached law way e =
    let same : s ≡ the_root = ap (λ (n : ℕ). let v : ScopeId = record { 0 = n } in v) e in
    sym (law T reached) ∙ (ap (λ (v : ScopeId). nearest_opener T (Some v)) (sym same) ∙ way.1)

-- The task that moves.

-- after an act its task stands unstruck, or else it has ended
pub acts_on : (T : Tree) (t : TaskId) (act : Act) → Sound T → AllowedAct T t act → ((thrown : List Fault) × (act ≡ End thrown)) ⊎ ((y : Task) × (live_task (made_act T t act) t.0 ≡ Some y))
acts_on T t (Open s r path) h may = inr (may.task, stands_live T t.0 may.task may.stands may.unstruck)
acts_on T t (Calls from to s r callee path) h may =
    let x : Task = born T callee s from to in
    let low : t.0 < T.next_task = task_below T.next_task T.tasks t may.task h.tasks_fall may.stands in
    let next : callee.0 ≡ T.next_task = may.asks.3 in
    let stands : live_task (opened T t Call s r) t.0 ≡ Some may.task = stands_live (opened T t Call s r) t.0 may.task may.stands may.unstruck in
    inr (waiting may.task, change-same (add_task x (opened T t Call s r)) waiting t may.task (λ x. refl) (add-other (opened T t Call s r) x t.0 (λ e. absurd (omega (arith, e, low, next))) ∙ stands) may.unstruck)
acts_on T t (Spawn child s from to path) h may =
    let x : Task = born T child s from to in
    let low : t.0 < T.next_task = task_below T.next_task T.tasks t may.task h.tasks_fall may.stands in
    let next : child.0 ≡ T.next_task = may.asks.1 in
    inr (may.task, add-other T x t.0 (λ e. absurd (omega (arith, e, low, next))) ∙ stands_live T t.0 may.task may.stands may.unstruck)
acts_on T t (Arrive p) h may =
    inr (record (may.task) { place = At p }, change-same T (λ x. record x { place = At p }) t may.task (λ x. refl) (stands_live T t.0 may.task may.stands may.unstruck) may.unstruck)
acts_on T t (Wait s thrown) h may =
    inr (waiting may.task, change-same (record T { scopes = change_first (is_scope s) (λ g. record g { body = thrown }) T.scopes }) waiting t may.task (λ x. refl) (stands_live T t.0 may.task may.stands may.unstruck) may.unstruck)
acts_on T t (Release s lost masked thrown) h may =
    inr (resumed may.task, change-same (without T s) resumed t may.task (λ x. refl) (release-live T s t.0 h.tasks_fall ∙ stands_live T t.0 may.task may.stands may.unstruck) may.unstruck)
acts_on T t (End thrown) h may = inl (thrown, refl)
acts_on T t (Print value path) h may = inr (may.task, stands_live T t.0 may.task may.stands may.unstruck)
acts_on T t (Census places path) h may = inr (may.task, stands_live T t.0 may.task may.stands may.unstruck)
