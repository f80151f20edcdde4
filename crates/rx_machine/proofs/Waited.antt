-- The turn that waits for a finish.
use Rattle.std.proofs.Common.{◌≡◌, ℕ, Bool, true, false, cond, map, filter, reverse, List, [], ◌∷◌, ◌++◌, Some, slice_set, refl, ap, ◌∙◌, sym, subst}
use Rattle.std.specs.List.{find}
use Rattle.std.proofs.lemmas.List.{reverse-append, reverse-reverse}
use Rattle.rx_rules.proofs.Common.{PlaceId, TaskId, ScopeId, Fault, Block, does, granted, Waits, Does, Tree, own_scope, inner, opened_by, AllowedAct, made_act, change_scope, waiting, Given, Game, Player, Turn, tree_in}
use Rattle.rx_rules.specs.declared.tasks.Task.{Task}
use Rattle.rx_rules.specs.declared.tasks.Scope.{Scope}
use Rattle.rx_rules.specs.declared.tasks.Kind.{Kind}
use Rattle.rx_rules.specs.declared.tasks.Kind.TheVariants.{Finish as OfFinish}
use Rattle.rx_rules.specs.declared.entries.Act.{Act}
use Rattle.rx_rules.specs.declared.entries.Act.TheVariants.{Wait}
use Rattle.rx_rules.specs.Plays.{Fits}
use Rattle.rx_finish.specs.Callers.{HasFinish, MayAskWait}
use Rattle.rx_chronicle.specs.Requests.{tree_told, Granted}
use Rattle.rx_syntax.specs.Shape.{Shape}
use Rattle.rx_control.specs.Stands.{StandsFor}
use Rattle.rx_machine.specs.declared.machine.Machine.{Machine}
use Rattle.rx_machine.specs.declared.seat.Mover.{Mover}
use Rattle.rx_machine.specs.Slots.{row_of, live_task, own_kinds, seat_of}
use Rattle.rx_tree_laws.specs.Spine.{Spine}
use Rattle.rx_machine.specs.Holds.{Seated, Acting, LeadsTo}
use Rattle.rx_machine.proofs.Live.{live_stands, change-other, change-same}
use Rattle.rx_machine.proofs.Own.{scope-change, inner-same}
use Rattle.rx_machine.proofs.Acted.{told-nothing, went, of-told, of-game, acted}
use Rattle.rx_machine.proofs.Asking.{seat-id, seat_asks, moving, asks-free}
use Rattle.rx_tree_laws.proofs.Granting.{AfterGrant, after-grant}
use Rattle.rx_tree_laws.proofs.SpineGrants.{GrantsSpine, spine-grant}

-- the first scope that passes is that of the first kind
kind-found : (p : Scope → Bool) (gs : List Scope) (k : Kind) (ks : List Kind) → map (λ g. g.kind) (filter p gs) ≡ k ∷ ks → (g : Scope) × (find p gs ≡ Some g) × (g.kind ≡ k)
kind-found p [] k ks h = absurd (let f : ⊥ = cc in f)
kind-found p (g ∷ gs) k ks h =
    elim (p g) as (λ b. map (λ g. g.kind) (cond b (g ∷ filter p gs) (filter p gs)) ≡ k ∷ ks → (x : Scope) × (cond b (Some g) (find p gs) ≡ Some x) × (x.kind ≡ k)) [
      | true ↦ λ e. (g, refl, let same : g.kind ≡ k = cc in same)
      | false ↦ λ e. kind-found p gs k ks e
    ] h

-- the innermost of the open scopes is the last of their kinds
pub innermost : (T : Tree) (n : ℕ) (front : List Kind) (k : Kind) → reverse (own_kinds T n) ≡ front ++ k ∷ [] → (g : Scope) × (own_scope T (record { 0 = n }) ≡ Some g) × (g.kind ≡ k)
innermost T n front k h =
    kind-found (opened_by (record { 0 = n })) T.scopes k (reverse front)
    (sym (reverse-reverse (own_kinds T n)) ∙ (ap (λ (ks : List Kind). reverse ks) h ∙ reverse-append front (k ∷ [])))

module _ {L : Type 0} {shape : Shape} {code : Block} {U : Given} {m : Machine L} {k i : ℕ} {here : PlaceId} {q : Player} {mover : Mover} {G : Game} (a : Acting shape code U m k i here q mover G) (fs : List Fault) (asks : does q.vars here.0 q.term ≡ Waits fs) where
  spine-wait : GrantsSpine (reverse (own_kinds (tree_in U G) i)) (Waits fs) (granted [] q.term)
  spine-wait =
      let ks = reverse (own_kinds (tree_in U G) i) in
      subst (λ (d : Does). GrantsSpine ks d (granted [] q.term)) asks (spine-grant ks q.vars here.0 [] q.term a.gone.seat_is.spine)

  -- the chronicle may be asked
  pub wait-may : MayAskWait (tree_told m.chronicle) mover.who
  wait-may =
      let T : Tree = tree_in U G in
      let s = a.gone.seat_is in
      let found = innermost T i spine-wait.1.0 OfFinish spine-wait.1.1 in
      of-told (λ (V : Tree). MayAskWait V mover.who) a.but.shares
      (seat_asks s (HasFinish T mover.who) a.numbers
      (record {
        moving = moving s here a.gone.is_at (asks-free q here.0 (Waits fs) asks (λ f. let g : ⊥ = cc f in g));
        scope = found.0;
        own = subst (λ (t : TaskId). own_scope T t ≡ Some found.0) (sym (seat-id s)) found.1;
        finish = found.2;
      }))

  pub waited : (m' : Machine L) (mover' : Mover) → m' ≡ record m { chronicle = m'.chronicle; seats = m'.seats; idle = m'.idle } → Granted m.chronicle mover.who (Wait mover.who.inner fs) mover.batch m'.chronicle → StandsFor shape mover'.control.value (granted [] q.term) → mover'.control.value.vars ≡ mover.control.value.vars → row_of (seat_of mover') ≡ waiting (row_of (seat_of mover)) → mover'.who.inner ≡ mover.who.inner → m'.seats.items ≡ slice_set m.seats.items i (Some (seat_of mover')) → LeadsTo (Turn U k G true) (Seated shape code U m')
  waited m' mover' on did term vars row inside back =
      let T : Tree = tree_in U G in
      let at = a.gone.seat_is in
      let t : TaskId = mover.who.task in
      let s : ScopeId = mover.who.inner in
      let act : Act = Wait s fs in
      let may : AllowedAct T t act = of-game (λ (V : Tree). AllowedAct V t act) a.but.shares did.allowed in
      let grant : AfterGrant (Waits fs) (granted [] q.term) = subst (λ (d : Does). AfterGrant d (granted [] q.term)) asks (after-grant q.vars here.0 [] q.term at.held) in
      let told : Scope → Scope = λ g. record g { body = fs } in
      let changed : Tree = change_scope told s T in
      let own = λ (n : ℕ). scope-change T told s n (λ g. (refl, refl, refl)) in
      let stands_at : live_task changed t.0 ≡ Some (row_of (seat_of mover)) = subst (λ (n : ℕ). live_task T n ≡ Some (row_of (seat_of mover))) (sym a.pick.number) at.row in
      let now : live_task (made_act T t act) i ≡ Some (waiting (row_of (seat_of mover))) =
      subst (λ (n : ℕ). live_task (made_act T t act) n ≡ Some (waiting (row_of (seat_of mover)))) a.pick.number
      (change-same changed waiting t (row_of (seat_of mover)) (λ x. refl) stands_at (live_stands T i (row_of (seat_of mover)) at.row).1) in
      acted a act (subst (λ (d : Does). Fits here q.term d act) (sym asks) refl) may m' (seat_of mover') refl
      (λ n apart. change-other changed waiting t n (λ x. refl) (λ e. apart (sym e ∙ a.pick.number)))
      (λ n apart y h. own n) refl
      (record {
        row = now ∙ ap (λ (x : Task). Some x) (sym row);
        inner = ap (λ (x : Task). inner changed x) row ∙ (inner-same T changed i (row_of (seat_of mover)) a.pick.number (own i).0 ∙ (at.inner ∙ sym inside));
        work = (term, vars ∙ (at.work.1 ∙ sym (told-nothing (does q.vars here.0 q.term) act q.vars refl)));
        waits = ap (λ (x : Task). x.waits) row ∙ sym grant.1;
        held = grant.0;
        spine = subst (λ (ks : List Kind). Spine (granted [] q.term) (reverse ks)) (sym (own i).1) spine-wait.0;
      })
      (went m m' on did) back
