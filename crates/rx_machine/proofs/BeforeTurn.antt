-- A turn: what holds of the game before it, the task that the pick moves, and the root's release where none is enabled.
use Rattle.std.proofs.Common.{◌≡◌, ℕ, zero, suc, ◌+◌, ◌-◌, ◌*◌, ◌<◌, ◌≤◌, ◌%◌, List, [], ◌∷◌, length, Option, Some, slice_get, true, ap, ◌∙◌, sym, subst, arith}
use Rattle.rx_rules.specs.declared.entries.Entry.{Entry}
use Rattle.rx_base.proofs.Elements.{empty-from}
use Rattle.rx_rules.specs.declared.tasks.Task.{Task}
use Rattle.rx_rules.proofs.Common.{Block, work, Tree, quiet, the_root, without, Given, Proper, Event, plan_of, NoRoot, NoneDue, IsDue, Game, enabled, tree_in}
use Rattle.rx_tree_laws.specs.Sound.{ReachedSound}
use Rattle.rx_tree_laws.specs.Histories.{FoldReached}
use Rattle.rx_tree_laws.specs.Enabling.{IdleIsQuiet}
use Rattle.rx_runs.specs.Coming.{CameTo, GamesCome}
use Rattle.rx_runs.specs.Segments.{plan_left}
use Rattle.rx_runs.proofs.Endings.{root_empties}
use Rattle.rx_history.specs.Setups.{given}
use Rattle.rx_chronicle.specs.Requests.{plan_told, HasDue, Calm as NoneIs}
use Rattle.rx_store.specs.Kept.{StoreView}
use Rattle.rx_store.specs.Kepts.{StoresAre}
use Rattle.rx_syntax.specs.Shape.{Shape}
use Rattle.rx_machine.specs.declared.machine.Machine.{Machine}
use Rattle.rx_machine.specs.declared.seat.Seat.{Seat}
use Rattle.rx_machine.specs.Slots.{row_of, seat_at, SlotIs}
use Rattle.rx_machine.specs.Holds.{Seated, MachineInvariant, CanTurn}
use Rattle.rx_machine.specs.Runs.{ReadyForTurn, Falling, Taken}
use Rattle.rx_machine.specs.Picking.{AreEnabled}
use Rattle.rx_machine.proofs.Readying.{ready_slots}
use Rattle.rx_machine.proofs.EnabledTasks.{able_from, enabled_rows, able_length, able_at}

-- a machine with the same entries, setup, seats and stores stands for the same game
pub seated-on : {L : Type 0} {shape : Shape} {code : Block} {U : Given} {G : Game} (m m' : Machine L) → m'.chronicle.entries ≡ m.chronicle.entries → m'.chronicle.setup ≡ m.chronicle.setup → m'.seats ≡ m.seats → m'.stores ≡ m.stores → m'.failed ≡ m.failed → Seated shape code U m G → Seated shape code U m' G
seated-on {shape = shape} {U = U} {G = G} m m' entries setup seats stores failed h =
    record {
      shares = record {
        on = h.shares.on;
        comes = h.shares.comes;
        setup = ap given setup ∙ h.shares.setup;
        entries = entries ∙ h.shares.entries;
        slots = ap (λ v. length v.items) seats ∙ h.shares.slots;
        failed = failed ∙ h.shares.failed;
      };
      stores = subst (λ (ss : List StoreView). StoresAre U.heap 0 ss G.journals) (ap (λ v. v.items) (sym stores)) h.stores;
      seats = λ n. subst (λ (os : List (Option Seat)). SlotIs shape G.entries (tree_in U G) G.players n (seat_at os n)) (ap (λ v. v.items) (sym seats)) (h.seats n);
    }

-- a run has at most 16 places from the opening on
pub few-places : (U : Given) → Proper U → U.places ≤ 16
few-places U h = let all : U.places + length U.joins ≤ 16 = h.few in omega (arith, all)

-- a turn can be made
pub can-turn : {L : Type 0} (shape : Shape) (code : Block) (U : Given) (m : Machine L) (G : Game) → GamesCome → FoldReached → Seated shape code U m G → NoRoot G.entries → CanTurn shape code U m G
can-turn shape code U m G come fold h unreleased =
    let came : CameTo code U G = come code U G h.shares.on.proper h.shares.comes unreleased in
    let entries : length G.entries ≤ 4 * work code + U.places + 2 * length U.joins = came.entries in
    let tasks : (tree_in U G).next_task ≤ 1 + length G.entries = came.tasks in
    let scopes : (tree_in U G).next_scope ≤ 1 + length G.entries = came.scopes in
    let places : U.places + length U.joins ≤ 16 = h.shares.on.proper.few in
    let few : work code ≤ 100000 = h.shares.on.few in
    record {
      holds = h;
      unreleased = unreleased;
      numbers = record { tasks = omega (arith, entries, tasks, places, few); scopes = omega (arith, entries, scopes, places, few) };
      reached = fold U.places G.entries h.shares.on.proper.some (few-places U h.shares.on.proper) came.ok.folds.allowed;
    }

-- what is left of the plan is that of the game
plan-is : {L : Type 0} {shape : Shape} {code : Block} {U : Given} {m : Machine L} {G : Game} → GamesCome → CanTurn shape code U m G → plan_told m.chronicle ≡ G.plan
plan-is {code = code} {U = U} {m = m} {G = G} come can =
    let h = can.holds.shares in
    let came : CameTo code U G = come code U G h.on.proper h.comes can.unreleased in
    ap (λ (V : Given). plan_left (plan_of V) m.chronicle.entries) h.setup ∙ (ap (λ (es : List Entry). plan_left (plan_of U) es) h.entries ∙ sym came.ok.left)

-- what is due is that of the game
pub falling : {L : Type 0} {shape : Shape} {code : Block} {U : Given} {m : Machine L} {G : Game} (e : Entry) → GamesCome → CanTurn shape code U m G → HasDue m.chronicle e → Falling shape code U m e G
falling {m = m} {G = G} e come can h =
    record {
      can = can;
      due = subst (λ (xs : List Event). IsDue (length G.entries) e xs) (plan-is come can) (subst (λ (v : ℕ). IsDue v e (plan_told m.chronicle)) (ap length can.holds.shares.entries) h.due);
    }

-- and where none is, none is due in the game
pub calm : {L : Type 0} {shape : Shape} {code : Block} {U : Given} {m : Machine L} {G : Game} → GamesCome → CanTurn shape code U m G → NoneIs m.chronicle → AreEnabled (tree_in U G) m.ready.members → ReadyForTurn shape code U m G
calm {m = m} {G = G} come can none ready =
    let open_still : NoRoot m.chronicle.entries = subst (λ (es : List Entry). NoRoot es) (sym can.holds.shares.entries) can.unreleased in
    record {
      can = can;
      none_due = subst (λ (xs : List Event). NoneDue (length G.entries) xs) (plan-is come can) (subst (λ (v : ℕ). NoneDue v (plan_told m.chronicle)) (ap length can.holds.shares.entries) (none open_still));
      ready = ready;
    }

-- no task is enabled, and the root may be released, which leaves no task
pub record Releasing {L : Type 0} (shape : Shape) (code : Block) (U : Given) (m : Machine L) (G : Game) : Type 0 where
  pub holds : Seated shape code U m G
  pub unreleased : NoRoot G.entries
  pub none_due : NoneDue (length G.entries) G.plan
  pub none_enabled : enabled (tree_in U G) ≡ []
  pub is_quiet : quiet (tree_in U G) the_root ≡ true
  pub none_ready : m.ready.members ≡ []
  pub none_left : (without (tree_in U G) the_root).tasks ≡ []

-- where the numbers are none, no task is enabled, and the root may be released
pub releasing : {L : Type 0} {shape : Shape} {code : Block} {U : Given} {m : Machine L} {G : Game} → ReachedSound → IdleIsQuiet → ReadyForTurn shape code U m G → length m.ready.members ≡ 0 → Releasing shape code U m G
releasing {shape = shape} {U = U} {m = m} {G = G} sound quiets quietly none =
    let can = quietly.can in
    let T : Tree = tree_in U G in
    let able = ready_slots shape G.entries T G.players m.seats.items m.ready.members can.holds.seats quietly.ready in
    let rows = enabled_rows shape G.entries T G.players m.seats.items (sound T can.reached).tasks_fall can.holds.shares.slots can.holds.seats in
    let size : length m.ready.members ≡ length (enabled T) = ap length able ∙ (able_length T 0 m.seats.items ∙ ap length rows) in
    let no_task : enabled T ≡ [] = empty-from (enabled T) (sym size ∙ none) in
    record {
      holds = can.holds;
      unreleased = can.unreleased;
      none_due = quietly.none_due;
      none_enabled = no_task;
      is_quiet = quiets T can.reached no_task;
      none_ready = empty-from m.ready.members none;
      none_left = root_empties T (sound T can.reached) (quiets T can.reached no_task);
    }

seat-inside : (items : List (Option Seat)) (i : ℕ) (seat : Seat) → seat_at items i ≡ Some seat → i < length items
seat-inside [] i seat h = absurd (let f : ⊥ = cc in f)
seat-inside (o ∷ items) zero seat h = omega arith
seat-inside (o ∷ items) (suc i) seat h = let inside : i < length items = seat-inside items i seat h in omega arith

same-pick : (rows en : List Task) (k n : ℕ) (x : Task) → rows ≡ en → n ≡ length rows → slice_get rows (k % n) ≡ Some x → slice_get en (k % length en) ≡ Some x
same-pick rows en k n x same size at =
    sym (ap (λ v. slice_get en (k % v)) (size ∙ ap length same)) ∙ (sym (ap (λ v. slice_get v (k % n)) same) ∙ at)

-- the number at the pick is the slot of the task that the pick moves
pub taken : {L : Type 0} (shape : Shape) (code : Block) (U : Given) (m : Machine L) (G : Game) (ns : List ℕ) (k i : ℕ) → ReachedSound → ReadyForTurn shape code U m G → ns ≡ able_from (tree_in U G) 0 m.seats.items → slice_get ns (k % length ns) ≡ Some i → Taken shape code U m k i G
taken shape code U m G ns k i sound quietly able at =
    let can = quietly.can in
    let T : Tree = tree_in U G in
    let rows = enabled_rows shape G.entries T G.players m.seats.items (sound T can.reached).tasks_fall can.holds.shares.slots can.holds.seats in
    let here = able_at T 0 m.seats.items (k % length ns) i (sym (ap (λ v. slice_get v (k % length ns)) able) ∙ at) in
    let none : i - 0 ≡ i = omega arith in
    let found : seat_at m.seats.items i ≡ Some here.0 = ap (seat_at m.seats.items) (sym none) ∙ here.2 in
    record {
      can = can;
      none_due = quietly.none_due;
      inside = seat-inside m.seats.items i here.0 found;
      seat = here.0;
      at = found;
      picked = same-pick _ (enabled T) k (length ns) (row_of here.0) rows (ap length able ∙ able_length T 0 m.seats.items) here.3;
    }

-- how many numbers are told is how many tasks are enabled
pub counted : {L : Type 0} (shape : Shape) (code : Block) (U : Given) (m : Machine L) (G : Game) → GamesCome → FoldReached → ReachedSound → MachineInvariant shape code U m G → length m.ready.members ≡ length (enabled (tree_in U G))
counted shape code U m G come fold sound h =
    let T : Tree = tree_in U G in
    let can = can-turn shape code U m G come fold h.seated h.unreleased in
    let rows = enabled_rows shape G.entries T G.players m.seats.items (sound T can.reached).tasks_fall h.seated.shares.slots h.seated.seats in
    let able = ready_slots shape G.entries T G.players m.seats.items m.ready.members h.seated.seats h.ready in
    ap length able ∙ (able_length T 0 m.seats.items ∙ ap length rows)
