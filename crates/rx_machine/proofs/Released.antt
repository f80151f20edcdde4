-- The turn that releases a scope.
use Rattle.std.proofs.Common.{◌≡◌, ℕ, zero, suc, Bool, true, false, cond, not, ◌&&◌, ◌||◌, map, filter, reverse, List, [], ◌∷◌, ◌++◌, Some, is_none, slice_get, slice_set, refl, ap, ◌∙◌, sym, subst}
use Rattle.std.proofs.lemmas.List.{reverse-append, reverse-reverse}
use Rattle.rx_rules.proofs.Common.{PlaceId, TaskId, ScopeId, PlaceSet, Fault, Block, does, granted, Releases, Does, Tree, task_of, own_scope, opened_by, inner, quiet, AllowedAct, made_act, without, resumed, raised_by, Given, Game, Player, Turn, tree_in, is_enabled}
use Rattle.rx_rules.specs.declared.entries.Act.{Act}
use Rattle.rx_rules.specs.declared.entries.Act.TheVariants.{Release}
use Rattle.rx_rules.specs.declared.entries.Entry.{Entry}
use Rattle.rx_rules.specs.declared.tasks.Task.{Task}
use Rattle.rx_rules.specs.declared.tasks.Kind.{Kind}
use Rattle.rx_rules.specs.Plays.{Fits}
use Rattle.rx_tree_laws.specs.Sound.{ReachedSound, TasksFall}
use Rattle.rx_tree_laws.specs.Owning.{ReleaseKeeps, ReleasePops}
use Rattle.rx_runs.specs.Coming.{CameTo, GamesCome}
use Rattle.rx_finish.specs.declared.ledger.LedgerFault.{LedgerFault}
use Rattle.rx_finish.specs.declared.ledger.LedgerFault.TheVariants.{NoMemory}
use Rattle.rx_finish.specs.Callers.{WaitsInside, MayAskRelease}
use Rattle.rx_finish.specs.Calls.{IsHindered}
use Rattle.rx_chronicle.specs.Told.{parent_told}
use Rattle.rx_chronicle.specs.Requests.{tree_told, IsRefused, Granted}
use Rattle.rx_chronicle.specs.Uncovering.{UncoversParent}
use Rattle.rx_chronicle.proofs.Granting.{memory_alone, unhindered}
use Rattle.rx_syntax.specs.Shape.{Shape}
use Rattle.rx_control.specs.Stands.{StandsFor}
use Rattle.rx_machine.specs.declared.machine.Machine.{Machine}
use Rattle.rx_machine.specs.declared.seat.Seat.{Seat}
use Rattle.rx_machine.specs.declared.seat.Mover.{Mover}
use Rattle.rx_machine.specs.Slots.{row_of, live_task, own_kinds, seat_of}
use Rattle.rx_tree_laws.specs.Spine.{Spine}
use Rattle.rx_machine.specs.Holds.{Seated, Acting, IsPick, LeadsTo}
use Rattle.rx_machine.specs.Refusals.{HasMade}
use Rattle.rx_machine.proofs.Live.{live_number, live_stands, change-other, change-same, release-live}
use Rattle.rx_machine.proofs.Own.{release-own}
use Rattle.rx_machine.proofs.Acted.{told-nothing, went, of-told, of-game, told-so, acted}
use Rattle.rx_machine.proofs.Asking.{id_of, seat-id, seat_asks, seat_unstruck}
use Rattle.rx_tree_laws.proofs.Granting.{AfterGrant, after-grant, release_held}
use Rattle.rx_tree_laws.proofs.SpineGrants.{GrantsSpine, spine-grant}
use Rattle.rx_machine.proofs.Waited.{innermost}

-- Each element passes the test.

abbrev Passes : (Task → Bool) → List Task → Type 0
Passes p [] = Unit {0}
Passes p (x ∷ xs) = (p x ≡ true) × Passes p xs

filter-passes : (p : Task → Bool) (xs : List Task) → Passes p (filter p xs)
filter-passes p [] = tt
filter-passes p (x ∷ xs) =
    (elim (p x) as (λ b. p x ≡ b → Passes p (cond b (x ∷ filter p xs) (filter p xs))) [
      | true ↦ λ e. (e, filter-passes p xs)
      | false ↦ λ e. filter-passes p xs
    ]) refl

append-passes : (p : Task → Bool) (xs ys : List Task) → Passes p xs → Passes p ys → Passes p (xs ++ ys)
append-passes p [] ys h k = k
append-passes p (x ∷ xs) ys h k = (h.0, append-passes p xs ys h.1 k)

reverse-passes : (p : Task → Bool) (xs : List Task) → Passes p xs → Passes p (reverse xs)
reverse-passes p [] h = tt
reverse-passes p (x ∷ xs) h =
    subst (λ (ys : List Task). Passes p ys) (sym (reverse-append (x ∷ []) xs)) (append-passes p (reverse xs) (x ∷ []) (reverse-passes p xs h.1) (h.0, tt))

get-passes : (p : Task → Bool) (xs : List Task) (n : ℕ) (x : Task) → Passes p xs → slice_get xs n ≡ Some x → p x ≡ true
get-passes p [] n x h e = absurd (let f : ⊥ = cc in f)
get-passes p (y ∷ ys) zero x h e = let same : y ≡ x = cc in subst (λ v. p v ≡ true) same h.0
get-passes p (y ∷ ys) (suc n) x h e = get-passes p ys n x h.1 e

-- an enabled task that waits does so at a quiet scope
quiet-there : (a w b : Bool) → (a && (not w || b)) ≡ true → w ≡ true → b ≡ true
quiet-there true true b h e = h
quiet-there true false b h e = absurd (let f : ⊥ = cc in f)
quiet-there false w b h e = absurd (let f : ⊥ = cc in f)

pub pick-quiet : (U : Given) (k i : ℕ) (seat : Seat) (G : Game) → IsPick U k i seat G → seat.waits ≡ true → quiet (tree_in U G) (inner (tree_in U G) (row_of seat)) ≡ true
pick-quiet U k i seat G pick waits =
    let T : Tree = tree_in U G in
    let enabled_so = get-passes (is_enabled T) (reverse (filter (is_enabled T) T.tasks)) _ (row_of seat) (reverse-passes (is_enabled T) (filter (is_enabled T) T.tasks) (filter-passes (is_enabled T) T.tasks)) pick.picked in
    quiet-there (is_none (row_of seat).struck) seat.waits (quiet T (inner T (row_of seat))) enabled_so waits

kinds-left : (ks ls front : List Kind) (j k : Kind) → ks ≡ j ∷ ls → reverse ks ≡ front ++ k ∷ [] → front ≡ reverse ls
kinds-left ks ls front j k h e =
    let turned : ks ≡ k ∷ reverse front = sym (reverse-reverse ks) ∙ (ap (λ (v : List Kind). reverse v) e ∙ reverse-append front (k ∷ [])) in
    let both : j ∷ ls ≡ k ∷ reverse front = sym h ∙ turned in
    let rest : ls ≡ reverse front = cc in
    sym (reverse-reverse front) ∙ ap (λ (v : List Kind). reverse v) (sym rest)

module _ {L : Type 0} {shape : Shape} {code : Block} {U : Given} {m : Machine L} {k i : ℕ} {here : PlaceId} {q : Player} {mover : Mover} {G : Game} (a : Acting shape code U m k i here q mover G) (asks : does q.vars here.0 q.term ≡ Releases) where
  spine-release : (faults : List Fault) → GrantsSpine (reverse (own_kinds (tree_in U G) i)) Releases (granted faults q.term)
  spine-release faults =
      let ks = reverse (own_kinds (tree_in U G) i) in
      subst (λ (d : Does). GrantsSpine ks d (granted faults q.term)) asks (spine-grant ks q.vars here.0 faults q.term a.gone.seat_is.spine)

  -- the chronicle may be asked
  pub release-may : MayAskRelease (tree_told m.chronicle) mover.who
  release-may =
      let T : Tree = tree_in U G in
      let s = a.gone.seat_is in
      let spine = spine-release [] in
      let found = innermost T i spine.0 spine.1 spine.2 in
      of-told (λ (V : Tree). MayAskRelease V mover.who) a.but.shares
      (seat_asks s (WaitsInside T mover.who) a.numbers
      (record {
        waits = s.waits ∙ release_held q.vars here.0 q.term asks;
        scope = found.0;
        own = subst (λ (t : TaskId). own_scope T t ≡ Some found.0) (sym (seat-id s)) found.1;
      }))

  -- the scope is quiet
  release-quiet : quiet (tree_in U G) mover.who.inner ≡ true
  release-quiet =
      let s = a.gone.seat_is in
      subst (λ (v : ScopeId). quiet (tree_in U G) v ≡ true) s.inner (pick-quiet U k i (seat_of mover) G a.pick (s.waits ∙ release_held q.vars here.0 q.term asks))

  -- so it is refused for want of memory alone
  pub release-out : (f : LedgerFault) → IsRefused (tree_told m.chronicle) mover.who (IsHindered (tree_told m.chronicle) mover.who.inner) f → f ≡ NoMemory
  release-out f h =
      let T : Tree = tree_in U G in
      memory_alone T mover.who (IsHindered T mover.who.inner) f (seat_unstruck a.gone.seat_is) (λ place w. unhindered T mover.who.inner place release-quiet w)
      (of-game (λ (V : Tree). IsRefused V mover.who (IsHindered V mover.who.inner) f) a.but.shares h)

  module _ (lost : PlaceSet) (masked : ℕ) (thrown : List Fault) where
    fits-release : Fits here q.term (does q.vars here.0 q.term) (Release mover.who.inner lost masked thrown)
    fits-release = subst (λ (d : Does). Fits here q.term d (Release mover.who.inner lost masked thrown)) (sym asks) tt

    allowed-release : (m' : Machine L) → Granted m.chronicle mover.who (Release mover.who.inner lost masked thrown) mover.batch m'.chronicle → AllowedAct (tree_in U G) mover.who.task (Release mover.who.inner lost masked thrown)
    allowed-release m' did = of-game (λ (V : Tree). AllowedAct V mover.who.task (Release mover.who.inner lost masked thrown)) a.but.shares did.allowed

    -- the entry stands, whatever the control does then
    pub release-told : (m' : Machine L) → m' ≡ record m { chronicle = m'.chronicle; seats = m'.seats; idle = m'.idle } → Granted m.chronicle mover.who (Release mover.who.inner lost masked thrown) mover.batch m'.chronicle → HasMade U k G m'
    release-told m' on did = told-so a (Release mover.who.inner lost masked thrown) fits-release (allowed-release m' did) m' (went m m' on did)

    pub released : (come : GamesCome) (sound : ReachedSound) (keeps : ReleaseKeeps) (pops : ReleasePops) (uncovers : UncoversParent) (m' : Machine L) (mover' : Mover) → m' ≡ record m { chronicle = m'.chronicle; seats = m'.seats; idle = m'.idle } → Granted m.chronicle mover.who (Release mover.who.inner lost masked thrown) mover.batch m'.chronicle → StandsFor shape mover'.control.value (granted (raised_by lost thrown) q.term) → mover'.control.value.vars ≡ mover.control.value.vars → row_of (seat_of mover') ≡ resumed (row_of (seat_of mover)) → mover'.who.inner ≡ parent_told m.chronicle.entries mover.who.inner → m'.seats.items ≡ slice_set m.seats.items i (Some (seat_of mover')) → LeadsTo (Turn U k G true) (Seated shape code U m')
    released come sound keeps pops uncovers m' mover' on did term vars row inside back =
        let T : Tree = tree_in U G in
        let t : TaskId = mover.who.task in
        let s : ScopeId = mover.who.inner in
        let act : Act = Release s lost masked thrown in
        let T' : Tree = made_act T t act in
        let x : Task = row_of (seat_of mover) in
        let faults : List Fault = raised_by lost thrown in
        let at = a.gone.seat_is in
        let h = a.but.shares in
        let came : CameTo code U G = come code U G h.on.proper h.comes a.pick.stands in
        let may : AllowedAct T t act = allowed-release m' did in
        let falls : TasksFall T.next_task T.tasks = (sound T a.reached).tasks_fall in
        let id : t ≡ record { 0 = i } = id_of t i a.pick.number in
        let grant : AfterGrant Releases (granted faults q.term) = subst (λ (d : Does). AfterGrant d (granted faults q.term)) asks (after-grant q.vars here.0 faults q.term at.held) in
        let spine = spine-release faults in
        let pop = pops T t s lost masked thrown a.reached may in
        let first : filter (opened_by (record { 0 = i })) T.scopes ≡ pop.0 ∷ filter (opened_by (record { 0 = i })) T'.scopes =
        subst (λ (v : TaskId). filter (opened_by v) T.scopes ≡ pop.0 ∷ filter (opened_by v) T'.scopes) id pop.2 in
        let kinds_were : own_kinds T i ≡ pop.0.kind ∷ own_kinds T' i = ap (λ gs. map (λ g. g.kind) gs) first in
        let stood : live_task (without T s) t.0 ≡ Some x = release-live T s t.0 falls ∙ subst (λ (n : ℕ). live_task T n ≡ Some x) (sym a.pick.number) at.row in
        let now : live_task T' i ≡ Some (resumed x) =
        subst (λ (n : ℕ). live_task T' n ≡ Some (resumed x)) a.pick.number
        (change-same (without T s) resumed t x (λ y. refl) stood (live_stands T i x at.row).1) in
        let found : task_of T' t ≡ Some (resumed x) = subst (λ (v : TaskId). task_of T' v ≡ Some (resumed x)) (sym id) (live_stands T' i (resumed x) now).0 in
        let parent : inner T' (resumed x) ≡ parent_told G.entries s = uncovers U G.entries t s lost masked thrown (resumed x) came.ok.folds may found in
        let noted : mover'.who.inner ≡ parent_told G.entries s = inside ∙ ap (λ (es : List Entry). parent_told es s) h.entries in
        acted a act fits-release may m' (seat_of mover') refl
        (λ n apart. change-other (without T s) resumed t n (λ y. refl) (λ e. apart (sym e ∙ a.pick.number)) ∙ release-live T s n falls)
        (λ n apart y live.
        let number : y.number.0 ≡ n = live_number T n y live in
        let own_id : y.number ≡ record { 0 = n } = id_of y.number n number in
        let both = live_stands T n y live in
        let there : task_of T y.number ≡ Some y = subst (λ (v : TaskId). task_of T v ≡ Some y) (sym own_id) both.0 in
        release-own T T' n
        (subst (λ (v : TaskId). filter (opened_by v) T'.scopes ≡ filter (opened_by v) T.scopes) own_id
        (keeps T t s lost masked thrown y a.reached may there both.1 (λ e. apart (sym number ∙ (e ∙ a.pick.number))))))
        refl
        (record {
          row = now ∙ ap (λ (y : Task). Some y) (sym row);
          inner = ap (λ (y : Task). inner T' y) row ∙ (parent ∙ sym noted);
          work = (term, vars ∙ (at.work.1 ∙ sym (told-nothing (does q.vars here.0 q.term) act q.vars refl)));
          waits = ap (λ (y : Task). y.waits) row ∙ sym grant.1;
          held = grant.0;
          spine = subst (λ (ks : List Kind). Spine (granted faults q.term) ks) (kinds-left (own_kinds T i) (own_kinds T' i) spine.0 pop.0.kind spine.1 kinds_were spine.2) spine.3;
        })
        (went m m' on did) back
