-- The turns that start a task.
use Rattle.std.proofs.Common.{slice_get, length, ◌≡◌, ◌≢◌, ℕ, ◌<◌, false, is_none, is_some, IfSome, reverse, List, [], ◌∷◌, ◌++◌, Option, Some, None, slice_set, refl, true, ap, ◌∙◌, sym, subst, arith}
use Rattle.std.proofs.lemmas.List.{reverse-append}
use Rattle.rx_rules.proofs.Common.{PlaceId, TaskId, ScopeId, Block, does, begins, granted, child, Spawns, Calls, Releases, Does, Tree, inner, death_of, AllowedAct, born, add_task, change_task, opened, waiting, place_number, Given, Game, Player, Turn, tree_in}
use Rattle.rx_rules.specs.declared.tasks.Task.{Task}
use Rattle.rx_rules.specs.declared.tasks.Kind.{Kind}
use Rattle.rx_rules.specs.declared.tasks.Kind.TheVariants.{Call}
use Rattle.rx_rules.specs.declared.entries.Act.{Act}
use Rattle.rx_rules.specs.declared.entries.Act.TheVariants.{Spawn, At as CallsAt}
use Rattle.rx_rules.specs.declared.tasks.Where.{Where}
use Rattle.rx_rules.specs.Plays.{Fits}
use Rattle.rx_tree_laws.specs.Sound.{Sound}
use Rattle.rx_runs.specs.Knowing.{ComesKnowing, GoesKnowing}
use Rattle.rx_syntax.specs.Shape.{Shape}
use Rattle.rx_control.specs.Stands.{StandsFor}
use Rattle.rx_finish.specs.Callers.{MayAskTo, IsMoving}
use Rattle.rx_chronicle.specs.Requests.{tree_told, Granted}
use Rattle.rx_machine.specs.declared.machine.Machine.{Machine}
use Rattle.rx_machine.specs.declared.seat.Seat.{Seat}
use Rattle.rx_machine.specs.declared.seat.Mover.{Mover}
use Rattle.rx_machine.specs.Slots.{row_of, live_task, if_unstruck, own_kinds, IsWork, seat_of, entry_starts}
use Rattle.rx_tree_laws.specs.Spine.{Spine}
use Rattle.rx_tree_laws.specs.Held.{is_held}
use Rattle.rx_machine.specs.Holds.{Seated, Acting, LeadsTo}
use Rattle.rx_machine.proofs.Acted.{told-nothing, went, of-told, of-game}
use Rattle.rx_machine.proofs.Asking.{seat_asks, moving, asks-free}
use Rattle.rx_machine.proofs.Knowing.{known-there}
use Rattle.rx_tree_laws.proofs.Beginning.{begins-so}
use Rattle.rx_tree_laws.specs.TermSteps.{BeginsStatement, Targets}
use Rattle.rx_machine.proofs.Born.{NewSeat, none-own, new-slot, started, child_player}
use Rattle.rx_tree_laws.proofs.Granting.{AfterGrant, after-grant}
use Rattle.rx_machine.proofs.Live.{live_stands, add-other, add-same, change-other, change-same}
use Rattle.rx_machine.proofs.Own.{own_scopes, opened-same, opened-other, inner-opened}
use Rattle.rx_tree_laws.proofs.SpineGrants.{GrantsSpine, spine-grant}
use Rattle.rx_tree_laws.proofs.Targets.{targets-exist}
use Rattle.rx_rules.specs.declared.entries.Entry.{Entry}
use Rattle.rx_rules.specs.declared.entries.Entry.TheVariants.{Step}
use Rattle.rx_machine.specs.declared.seat.Work.{Work}
use Rattle.rx_control.specs.declared.birth.Seed.{Seed}
use Rattle.rx_control.specs.Seeds.{IsSeedOf}
use Rattle.rx_base.proofs.Elements.{get-pushed}
use Rattle.rx_machine.specs.declared.seat.Work.TheVariants.{Seed as NotBegun}

-- What starts a task begins a statement.

pub spawn-begins : (q : Player) (here to : ℕ) → does q.vars here q.term ≡ Spawns to → (x : List ℕ) × (begins q.term ≡ Some x)
spawn-begins q here to asks = subst (λ (d : Does). BeginsStatement d (begins q.term)) asks (begins-so q.vars here q.term)

pub call-begins : (q : Player) (here to : ℕ) → does q.vars here q.term ≡ Calls to → (x : List ℕ) × (begins q.term ≡ Some x)
call-begins q here to asks = subst (λ (d : Does). BeginsStatement d (begins q.term)) asks (begins-so q.vars here q.term)

-- the slot of a new task, as it was made
pub record IsBorn (T : Tree) (number : TaskId) (under : ScopeId) (from to : PlaceId) (work : Work) (slot : Option Seat) : Type 0 where
  pub lost : is_none slot ≡ is_some (death_of T to)
  pub row : IfSome slot (λ seat. (V : Tree) → death_of V to ≡ None → row_of seat ≡ born V number under from to)
  pub rest : IfSome slot (NewSeat work under)

module _ {L : Type 0} {shape : Shape} {code : Block} {U : Given} {m : Machine L} {k i : ℕ} {here : PlaceId} {q : Player} {mover : Mover} {G : Game} (a : Acting shape code U m k i here q mover G) where
  -- the chronicle may be asked for a place that is there
  may-to : (to : PlaceId) (d : Does) → ComesKnowing → GoesKnowing → does q.vars here.0 q.term ≡ d → (d ≡ Releases → ⊥) → (Targets (tree_in U G).places d → to.0 < (tree_in U G).places) → MayAskTo (tree_told m.chronicle) mover.who to
  may-to to d come goes is never aims =
      let T : Tree = tree_in U G in
      let s = a.gone.seat_is in
      of-told (λ (V : Tree). MayAskTo V mover.who to) a.but.shares
      (record {
        asks = seat_asks s IsMoving a.numbers (moving s here a.gone.is_at (asks-free q here.0 d is never));
        target = aims (subst (λ (z : Does). Targets T.places z) is (targets-exist q.vars here.0 T.places q.term a.place (known-there a come goes)));
      })

  pub spawn-may : (to : PlaceId) → ComesKnowing → GoesKnowing → does q.vars here.0 q.term ≡ Spawns to.0 → MayAskTo (tree_told m.chronicle) mover.who to
  spawn-may to come goes asks = may-to to (Spawns to.0) come goes asks (λ f. let g : ⊥ = cc f in g) (λ h. h)

  pub call-may : (to : PlaceId) → ComesKnowing → GoesKnowing → does q.vars here.0 q.term ≡ Calls to.0 → MayAskTo (tree_told m.chronicle) mover.who to
  call-may to come goes asks = may-to to (Calls to.0) come goes asks (λ f. let g : ⊥ = cc f in g) (λ h. h)

  -- the task is older than the one that it starts
  older : i ≢ (tree_in U G).next_task
  older = λ e. let low : i < (tree_in U G).next_task = subst (λ (v : ℕ). i < v) a.but.shares.slots a.inside in absurd (omega (arith, e))

  -- what the task that the next entry starts has still to run
  sown : (seed : Seed) (e : Entry) (x : List ℕ) → entry_starts e ≡ Some x → IsSeedOf shape seed x (child q.term) → seed.vars ≡ q.vars → IsWork shape (G.entries ++ e ∷ []) (child_player q) (NotBegun (length m.chronicle.entries) seed)
  sown seed e x starts grows vars =
      let number : length m.chronicle.entries ≡ length G.entries = ap length a.but.shares.entries in
      (x, (e, ap (slice_get (G.entries ++ e ∷ [])) number ∙ get-pushed G.entries e, starts), grows, vars)

  -- the turn of a start
  pub spawned : (to : PlaceId) (m' : Machine L) (mover' : Mover) (slot : Option Seat) (seed : Seed) (number : TaskId) (under : ScopeId) (x : List ℕ) → Sound (tree_in U G) → does q.vars here.0 q.term ≡ Spawns to.0 → begins q.term ≡ Some x → m' ≡ record m { chronicle = m'.chronicle; seats = m'.seats; idle = m'.idle } → Granted m.chronicle mover.who (Spawn number under (place_number mover.who.place) to x) mover.batch m'.chronicle → StandsFor shape mover'.control.value (granted [] q.term) → mover'.control.value.vars ≡ mover.control.value.vars → row_of (seat_of mover') ≡ row_of (seat_of mover) → mover'.who.inner ≡ mover.who.inner → IsSeedOf shape seed x (child q.term) → seed.vars ≡ mover.control.value.vars → IsBorn (tree_told m.chronicle) number under here to (NotBegun (length m.chronicle.entries) seed) slot → m'.seats.items ≡ slice_set m.seats.items i (Some (seat_of mover')) ++ slot ∷ [] → LeadsTo (Turn U k G true) (Seated shape code U m')
  spawned to m' mover' slot seed number under x sound asks path on granted_so term vars row inside grows child_vars born_so back =
      let T : Tree = tree_in U G in
      let b : Task = born T number under here to in
      let s = a.gone.seat_is in
      let t : TaskId = mover.who.task in
      let act : Act = Spawn number under here to x in
      let did : Granted m.chronicle mover.who act mover.batch m'.chronicle = subst (λ (w : Where). Granted m.chronicle mover.who (Spawn number under (place_number w) to x) mover.batch m'.chronicle) a.gone.is_at granted_so in
      let may : AllowedAct T t act = of-game (λ (V : Tree). AllowedAct V t act) a.but.shares did.allowed in
      let is : IsBorn T number under here to (NotBegun (length m.chronicle.entries) seed) slot = of-game (λ (V : Tree). IsBorn V number under here to (NotBegun (length m.chronicle.entries) seed) slot) a.but.shares born_so in
      let grant : AfterGrant (Spawns to.0) (granted [] q.term) = subst (λ (d : Does). AfterGrant d (granted [] q.term)) asks (after-grant q.vars here.0 [] q.term s.held) in
      let spine : GrantsSpine (reverse (own_kinds T i)) (Spawns to.0) (granted [] q.term) = subst (λ (d : Does). GrantsSpine (reverse (own_kinds T i)) d (granted [] q.term)) asks (spine-grant (reverse (own_kinds T i)) q.vars here.0 [] q.term s.spine) in
      let free : is_held q.term ≡ false = asks-free q here.0 (Spawns to.0) asks (λ f. let g : ⊥ = cc f in g) in
      let live : (n : ℕ) → n ≢ T.next_task → live_task (add_task b T) n ≡ live_task T n = λ n fresh. add-other T b n (λ e. fresh (sym e ∙ may.asks.1)) in
      started a act (subst (λ (d : Does). Fits here q.term d act) (sym asks) (refl, refl, path)) may m' (seat_of mover') slot number refl (λ n apart fresh. live n fresh) (λ n apart fresh. (refl, refl)) refl
      (record {
        row = live i older ∙ (s.row ∙ ap (λ (y : Task). Some y) (sym row));
        inner = ap (λ (y : Task). inner T y) row ∙ (s.inner ∙ sym inside);
        work = (term, vars ∙ (s.work.1 ∙ sym (told-nothing (does q.vars here.0 q.term) act q.vars refl)));
        waits = ap (λ (y : Task). y.waits) row ∙ (s.waits ∙ (free ∙ sym grant.1));
        held = grant.0;
        spine = spine;
      })
      (new-slot shape (G.entries ++ Step t act q.batch ∷ []) T (add_task b T) T.next_task q slot (NotBegun (length m.chronicle.entries) seed) number under here to (subst (λ (v : ℕ). live_task (add_task b T) v ≡ if_unstruck b) may.asks.1 (add-same T b)) (none-own T sound) (sown seed (Step t act q.batch) x refl grows (child_vars ∙ s.work.1)) is.lost is.row is.rest)
      (went m m' on did) back

  -- the turn of a call
  pub called : (to : PlaceId) (m' : Machine L) (mover' : Mover) (slot : Option Seat) (seed : Seed) (scope : ScopeId) (number : TaskId) (x : List ℕ) → Sound (tree_in U G) → does q.vars here.0 q.term ≡ Calls to.0 → begins q.term ≡ Some x → m' ≡ record m { chronicle = m'.chronicle; seats = m'.seats; idle = m'.idle } → Granted m.chronicle mover.who (CallsAt (place_number mover.who.place) to scope mover.who.inner number x) mover.batch m'.chronicle → StandsFor shape mover'.control.value (granted [] q.term) → mover'.control.value.vars ≡ mover.control.value.vars → row_of (seat_of mover') ≡ waiting (row_of (seat_of mover)) → mover'.who.inner ≡ scope → IsSeedOf shape seed x (child q.term) → seed.vars ≡ mover.control.value.vars → IsBorn (tree_told m.chronicle) number scope here to (NotBegun (length m.chronicle.entries) seed) slot → m'.seats.items ≡ slice_set m.seats.items i (Some (seat_of mover')) ++ slot ∷ [] → LeadsTo (Turn U k G true) (Seated shape code U m')
  called to m' mover' slot seed scope number x sound asks path on granted_so term vars row inside grows child_vars born_so back =
      let T : Tree = tree_in U G in
      let t : TaskId = mover.who.task in
      let parent : ScopeId = mover.who.inner in
      let act : Act = CallsAt here to scope parent number x in
      let did : Granted m.chronicle mover.who act mover.batch m'.chronicle = subst (λ (w : Where). Granted m.chronicle mover.who (CallsAt (place_number w) to scope parent number x) mover.batch m'.chronicle) a.gone.is_at granted_so in
      let may : AllowedAct T t act = of-game (λ (V : Tree). AllowedAct V t act) a.but.shares did.allowed in
      let is : IsBorn T number scope here to (NotBegun (length m.chronicle.entries) seed) slot = of-game (λ (V : Tree). IsBorn V number scope here to (NotBegun (length m.chronicle.entries) seed) slot) a.but.shares born_so in
      let b : Task = born T number scope here to in
      let T1 : Tree = opened T t Call scope parent in
      let T2 : Tree = add_task b T1 in
      let T3 : Tree = change_task waiting t T2 in
      let s = a.gone.seat_is in
      let was_row : Task = row_of (seat_of mover) in
      let grant : AfterGrant (Calls to.0) (granted [] q.term) = subst (λ (d : Does). AfterGrant d (granted [] q.term)) asks (after-grant q.vars here.0 [] q.term s.held) in
      let spine : Spine (granted [] q.term) (reverse (own_kinds T i) ++ Call ∷ []) = subst (λ (d : Does). GrantsSpine (reverse (own_kinds T i)) d (granted [] q.term)) asks (spine-grant (reverse (own_kinds T i)) q.vars here.0 [] q.term s.spine) in
      let is_it : t.0 ≡ i = a.pick.number in
      let not_t : (n : ℕ) → n ≢ i → t.0 ≢ n = λ n apart e. apart (sym e ∙ is_it) in
      let added : (n : ℕ) → n ≢ T.next_task → live_task T2 n ≡ live_task T n = λ n fresh. add-other T1 b n (λ e. fresh (sym e ∙ may.asks.3)) in
      let live : (n : ℕ) → n ≢ i → live_task T3 n ≡ live_task T2 n = λ n apart. change-other T2 waiting t n (λ y. refl) (not_t n apart) in
      let was : live_task T2 t.0 ≡ Some was_row = added t.0 (λ e. older (sym is_it ∙ e)) ∙ subst (λ (v : ℕ). live_task T v ≡ Some was_row) (sym is_it) s.row in
      let now : live_task T3 i ≡ Some (waiting was_row) =
      subst (λ (v : ℕ). live_task T3 v ≡ Some (waiting was_row)) is_it (change-same T2 waiting t was_row (λ y. refl) was (live_stands T i was_row s.row).1) in
      let own : (own_scopes T1 i ≡ scope ∷ own_scopes T i) × (own_kinds T1 i ≡ Call ∷ own_kinds T i) =
      subst (λ (v : ℕ). (own_scopes T1 v ≡ scope ∷ own_scopes T v) × (own_kinds T1 v ≡ Call ∷ own_kinds T v)) is_it (opened-same T t Call scope parent) in
      let none = none-own T sound in
      let kept = opened-other T t Call scope parent T.next_task (not_t T.next_task (λ e. older (sym e))) in
      started a act (subst (λ (d : Does). Fits here q.term d act) (sym asks) (refl, refl, path)) may m' (seat_of mover') slot number refl (λ n apart fresh. live n apart ∙ added n fresh) (λ n apart fresh. opened-other T t Call scope parent n (not_t n apart)) refl
      (record {
        row = now ∙ ap (λ (y : Task). Some y) (sym row);
        inner = inner-opened T1 i (row_of (seat_of mover')) scope (own_scopes T i) (ap (λ (y : Task). y.number.0) row ∙ is_it) own.0 ∙ sym inside;
        work = (term, vars ∙ (s.work.1 ∙ sym (told-nothing (does q.vars here.0 q.term) act q.vars refl)));
        waits = ap (λ (y : Task). y.waits) row ∙ sym grant.1;
        held = grant.0;
        spine = subst (λ (ks : List Kind). Spine (granted [] q.term) ks) (sym (reverse-append (Call ∷ []) (own_kinds T i)) ∙ ap (λ (ks : List Kind). reverse ks) (sym own.1)) spine;
      })
      (new-slot shape (G.entries ++ Step t act q.batch ∷ []) T T3 T.next_task q slot (NotBegun (length m.chronicle.entries) seed) number scope here to (live T.next_task (λ e. older (sym e)) ∙ subst (λ (v : ℕ). live_task T2 v ≡ if_unstruck b) may.asks.3 (add-same T1 b)) (kept.0 ∙ none.0, kept.1 ∙ none.1) (sown seed (Step t act q.batch) x refl grows (child_vars ∙ s.work.1)) is.lost is.row is.rest)
      (went m m' on did) back
