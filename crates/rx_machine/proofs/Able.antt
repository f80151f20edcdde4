-- Whether a task is enabled, as the chronicle tells.
use Rattle.std.proofs.Common.{◌≡◌, ℕ, ◌<◌, get_or, length, true, false, not, ◌&&◌, ◌||◌, List, Option, Some, None, is_none, refl, ap, ◌∙◌, sym, subst}
use Rattle.std.proofs.lemmas.Option.{slice_get-get_or}
use Rattle.rx_rules.proofs.Common.{Tree, inner, quiet, Reached, is_enabled, Player}
use Rattle.rx_rules.specs.declared.entries.Entry.{Entry}
use Rattle.rx_tree_laws.specs.Owning.{WaiterOwns}
use Rattle.rx_finish.specs.Callers.{MayAskRelease, WaitsInside, HasNumbers}
use Rattle.rx_finish.specs.Calls.{is_ready, blow_of}
use Rattle.rx_syntax.specs.Shape.{Shape}
use Rattle.rx_machine.specs.declared.seat.Seat.{Seat}
use Rattle.rx_machine.specs.Slots.{row_of, seat_at, seat_in, IsSeat, SlotIs}
use Rattle.rx_machine.proofs.Asking.{seat-found, seat_asks, seat_unstruck}
use Rattle.rx_rules.specs.declared.entries.Entry.{Entry}

module _ {shape : Shape} {es : List Entry} {T : Tree} {n : ℕ} {q : Player} {seat : Seat} (s : IsSeat shape es T n q seat) where
  -- a task that waits may ask
  pub waiter_asks : WaiterOwns → Reached T → HasNumbers T → seat.waits ≡ true → MayAskRelease T seat.who
  waiter_asks law reached numbers waits =
      let own = law T seat.who.task (row_of seat) reached (seat-found s) refl waits in
      seat_asks s (WaitsInside T seat.who) numbers (record { waits = waits; scope = own.0; own = own.1 })

  -- what the chronicle tells of it
  pub ready_enabled : seat.waits ≡ true → is_ready T seat.who ≡ is_enabled T (row_of seat)
  ready_enabled waits =
      let free : blow_of T seat.who.task ≡ None = seat_unstruck s in
      ap (λ o. is_none o && quiet T seat.who.inner) free
      ∙ (ap (λ v. quiet T v) (sym s.inner) ∙ sym (ap (λ b. not b || quiet T (inner T (row_of seat))) waits))

  -- a task that does not wait is enabled
  pub moving_enabled : seat.waits ≡ false → is_enabled T (row_of seat) ≡ true
  moving_enabled waits = ap (λ b. not b || quiet T (inner T (row_of seat))) waits

-- the seat that stands at a position
pub seat_here : (items : List (Option Seat)) (i : ℕ) (now : Option Seat) (seat : Seat) → i < length items → now ≡ get_or items i now → now ≡ Some seat → seat_at items i ≡ Some seat
seat_here items i now seat inside at is = ap seat_in (slice_get-get_or items i now inside ∙ ap (λ o. Some o) (sym at)) ∙ is

-- or none
pub none_at : (items : List (Option Seat)) (i : ℕ) (now : Option Seat) → i < length items → now ≡ get_or items i now → now ≡ None → seat_at items i ≡ None
none_at items i now inside at is = ap seat_in (slice_get-get_or items i now inside ∙ ap (λ o. Some o) (sym at)) ∙ is

-- what a slot with a seat is
pub slot_here : (shape : Shape) (es : List Entry) (T : Tree) (ps : List Player) (n : ℕ) (o : Option Seat) (seat : Seat) → o ≡ Some seat → SlotIs shape es T ps n o → SlotIs shape es T ps n (Some seat)
slot_here shape es T ps n o seat e h = subst (λ (v : Option Seat). SlotIs shape es T ps n v) e h
