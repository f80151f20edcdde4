-- What a machine holds before the first turn.
use Rattle.std.proofs.Common.{◌≡◌, ◌≢◌, ◌==◌, ℕ, zero, suc, ◌≤◌, ◌||◌, Bool, true, false, cond, List, [], ◌∷◌, length, replicate, Option, Some, None, refl, ap, ◌∙◌, sym, subst, arith}
use Rattle.std.proofs.lemmas.Bool.{ne_eqb}
use Rattle.rx_rules.proofs.Common.{Block, Empty, items, no_vars, inner, the_root, opening, Given, in_all, Player, MadeByTurns, start_game, tree_in}
use Rattle.rx_rules.specs.declared.tasks.Task.{Task}
use Rattle.rx_history.specs.Setups.{given}
use Rattle.rx_syntax.specs.Shape.{Shape}
use Rattle.rx_machine.specs.declared.machine.Machine.{Machine}
use Rattle.rx_machine.specs.declared.seat.Seat.{Seat}
use Rattle.rx_tree_laws.specs.Held.{is_held, HeldInFront}
use Rattle.rx_machine.specs.Slots.{row_of, seat_at, SlotIs, live_in, root_row, IsWork}
use Rattle.rx_tree_laws.specs.Enabling.{able_in}
use Rattle.rx_machine.specs.Picking.{AreEnabled}
use Rattle.rx_store.specs.Kepts.{StoresAre}
use Rattle.rx_machine.specs.Holds.{RunsOn, Seated}
use Rattle.rx_tree_laws.proofs.Holding.{unheld-front, unheld-items}
use Rattle.rx_tree_laws.proofs.Spines.{flat-spine, flat-items}

-- the main activity before its first step
abbrev pub first : Block → ℕ → Player
first code places = record { term = items code [] Empty; vars = no_vars places; batch = [] }

-- its seat stands in slot 0, and no other slot has one
pub opens-seats : (shape : Shape) (code : Block) (U : Given) (seat : Seat) (n : ℕ) → row_of seat ≡ root_row → seat.who.inner ≡ the_root → IsWork shape [] (first code U.places) seat.work → SlotIs shape [] (opening U.places) (start_game code U).players n (seat_at (Some seat ∷ []) n)
opens-seats shape code U seat zero row inside work =
    let front : HeldInFront (items code [] Empty) × (is_held (items code [] Empty) ≡ false) = unheld-front (items code [] Empty) (unheld-items code [] 0 Empty tt) in (
      first code U.places,
      refl,
      refl,
      record {
        row = ap (λ (x : Task). Some x) (sym row);
        inner = ap (λ (x : Task). inner (opening U.places) x) row ∙ sym inside;
        work = work;
        waits = ap (λ (x : Task). x.waits) row ∙ sym front.1;
        held = front.0;
        spine = flat-spine (items code [] Empty) (flat-items code [] 0 Empty tt);
      },
    )
opens-seats shape code U seat (suc n) row inside work =
    let apart : 0 ≢ suc n = λ e. absurd (omega (arith, e)) in
    let other : (0 == suc n) ≡ false = ne_eqb 0 (suc n) apart in
    ap (λ (b : Bool). live_in (cond b (Some root_row) None)) other

-- the machine stands for the game before the first turn
pub opens-so : {L : Type 0} (shape : Shape) (code : Block) (U : Given) (m : Machine L) (seat : Seat) → RunsOn code U → given m.chronicle.setup ≡ U → m.chronicle.entries ≡ [] → m.failed ≡ false → StoresAre U.heap 0 m.stores.items (replicate (in_all U) []) → m.seats.items ≡ Some seat ∷ [] → row_of seat ≡ root_row → seat.who.inner ≡ the_root → IsWork shape [] (first code U.places) seat.work → Seated shape code U m (start_game code U)
opens-so shape code U m seat on setup entries failed stores seats row inside work =
    record {
      shares = record {
        on = on;
        comes = MadeByTurns.opens;
        setup = setup;
        entries = entries;
        slots = ap (λ v. length v) seats;
        failed = failed;
      };
      stores = stores;
      seats = λ n. subst (λ (v : List (Option Seat)). SlotIs shape [] (opening U.places) (start_game code U).players n (seat_at v n)) (sym seats) (opens-seats shape code U seat n row inside work);
    }

-- the main activity alone is enabled
pub opens-ready : (code : Block) (U : Given) (ns : List ℕ) → ns ≡ 0 ∷ [] → AreEnabled (tree_in U (start_game code U)) ns
opens-ready code U ns e =
    subst (AreEnabled (tree_in U (start_game code U))) (sym e) (
      ((let r : 0 ≤ 0 = omega arith in r), tt),
      λ n. elim (0 == n) as (λ b. (b || false) ≡ able_in (opening U.places) (cond b (Some root_row) None)) [ true ↦ refl | false ↦ refl ],
    )
