-- The marks after all entries.
use Rattle.std.proofs.Common.{◌≡◌, ◌≢◌, ◌↔◌, ℕ, suc, ◌<◌, true, false, List, [], length, take, drop, Option, Some, None, slice_get, refl, ap, sym, subst, ◌∙◌, arith, inl, inr}
use Rattle.std.specs.Global.{Box}
use Rattle.std.proofs.lemmas.Bool.{cases_eq, true≢false}
use Rattle.std.proofs.lemmas.List.{take_all}
use Rattle.std.proofs.lemmas.Option.{slice_get_within}
use Rattle.rx_rules.proofs.Common.{PlaceId, TaskId, Block, Player, Cells, moves_from, journal_at, Given, Term, Vars, Does, Local, Makes, Gets, Puts, Forgets, Done}
use Rattle.rx_base.proofs.Elements.{get-within}
use Rattle.rx_rules.specs.declared.entries.Entry.{Entry}
use Rattle.rx_rules.specs.declared.events.Cell.{Cell}
use Rattle.rx_rules.specs.declared.events.PlaceEvent.{PlaceEvent}
use Rattle.rx_runs.specs.AnyAnswers.{AsksStore}
use Rattle.rx_syntax.specs.Shape.{Shape}
use Rattle.rx_history.specs.declared.step.CellOp.{CellOp}
use Rattle.rx_history.specs.declared.step.Want.{Want}
use Rattle.rx_history.specs.declared.step.Next.TheVariants.{Cell as CellStep, Book}
use Rattle.rx_history.specs.Next.{next_of}
use Rattle.rx_verdict.specs.Makes.{Between}
use Rattle.rx_verdict.specs.Marks.{home_of, StandsAt, WholePass, AwayEvent}
use Rattle.rx_verdict.specs.Seats as pass
use Rattle.rx_verdict.specs.Seats.{Seated, SeatsTell}
use Rattle.rx_verdict.specs.Verdicts.{HasCause, CauseOf, IsMade, events_before}
use Rattle.rx_verdict.specs.Walks.{next_does, AsksLedger, Halts}
use Rattle.rx_verdict.specs.Judged.{MarksMade}
use Rattle.rx_verdict.proofs.Marking.{IsStuck}
use Rattle.rx_verdict.specs.Marked.{marked}
use Rattle.rx_verify.specs.declared.seat.Seat.{Seat}
use Rattle.rx_verify.specs.declared.seat.Stop.{Stop}
use Rattle.rx_verify.specs.declared.seat.Stop.TheVariants.{Asks, Ends, Halts as Halted}
use Rattle.rx_verify.specs.declared.players.Slot.{Slot}
use Rattle.rx_verify.specs.declared.players.Slot.TheVariants.{Away, Here, Over}
use Rattle.rx_verify.specs.declared.players.Players.{Players}
use Rattle.rx_verify.specs.Players.{IsSeat, SlotIs, PlayersStand, StopsAt}
use Rattle.rx_verify.specs.Stood.{Stops}
use Rattle.rx_verify.proofs.MarksOn.{IsEvent, Of, of_task, all_used}
use Rattle.rx_verify.proofs.MarksWalk.{sits, seats-many}
use Rattle.rx_plan.proofs.Requests.{asks_end}

-- Where a walk stops.

pub asks_ledger : (d : Does) (asked : Want) → next_of d ≡ Book asked → AsksLedger d
asks_ledger (Local left vars) asked e = absurd (let f : ⊥ = cc in f)
asks_ledger (Makes name words) asked e = absurd (let f : ⊥ = cc in f)
asks_ledger (Gets name target index) asked e = absurd (let f : ⊥ = cc in f)
asks_ledger (Puts target index value) asked e = absurd (let f : ⊥ = cc in f)
asks_ledger (Forgets target) asked e = absurd (let f : ⊥ = cc in f)
asks_ledger (Done faults) asked e = absurd (let f : ⊥ = cc in f)
asks_ledger _ asked e = tt

pub asks_store : (d : Does) (op : CellOp) → next_of d ≡ CellStep op → AsksStore d
asks_store (Makes name words) op e = tt
asks_store (Gets name target index) op e = tt
asks_store (Puts target index value) op e = tt
asks_store (Forgets target) op e = tt
asks_store _ op e = absurd (let f : ⊥ = cc in f)

-- with no entry to come the task goes on no more
stuck_at : (stop : Stop) (seat : Seat) (es : List Entry) (i t : ℕ) (y : Player) (rest : Cells) → seat.home ≡ home_of (take i es) t → moves_from i (drop i es) t ≡ [] → Stops stop seat y rest → IsStuck es i t y rest
stuck_at (Asks asked) seat es i t y rest home none s = inr (inr (subst (λ (p : PlaceId). AsksLedger (next_does p y)) home (asks_ledger (next_does seat.home y) asked s), none))
stuck_at Ends seat es i t y rest home none s = inl (let d = asks_end (next_does seat.home y) s in (d.0, subst (λ (p : PlaceId). next_does p y ≡ Done d.0) home d.1))
stuck_at Halted seat es i t y rest home none s =
    inr (inl (subst (λ (p : PlaceId). AsksStore (next_does p y)) home (asks_store (next_does seat.home y) s.0.0 s.0.1), subst (λ (p : PlaceId). Halts p y rest) home s.1))

-- the pass's seat of a task that travels
away_seat : (shape : Shape) (places : ℕ) (es : List Entry) (js : List (List PlaceEvent)) (t : ℕ) (seat : Box Seat) (x : pass.Seat) → SlotIs shape places es js t (Away seat) x → (start : Term × Vars) × (x ≡ pass.Away start)
away_seat shape places es js t seat (pass.Away r) is = (r, refl)
away_seat shape places es js t seat (pass.Stands z left) is = absurd is
away_seat shape places es js t seat pass.Over is = absurd is

-- the players below a number go on no more
abbrev pub StuckBelow : List Entry → ℕ → List pass.Seat → ℕ → Type 0
StuckBelow es i seats n = (u : ℕ) (z : Player) (left : Cells) → u < n → slice_get seats u ≡ Some (pass.Stands z left) → IsStuck es i u z left

module _ {resting : ℕ → Type 0} (shape : Shape) (code : Block) (U : Given) (es : List Entry) (js : List (List PlaceEvent)) (i : ℕ) (old ps : Players) (P : PlayersStand resting shape code U es js i old) (t : ℕ) (stuck : StuckBelow es i P.seats t) where
  -- one more after its walk
  pub one_stuck : (stop : Stop) (after : PlayersStand resting shape code U es js i ps) → StopsAt shape U es js i t ps stop after.seats → ((u : ℕ) → u ≢ t → slice_get after.seats u ≡ slice_get P.seats u) → moves_from i (drop i es) t ≡ [] → StuckBelow es i after.seats (suc t)
  one_stuck stop after s others none u z left lt at =
      elim (cases_eq u t) as (λ _. IsStuck es i u z left) [
        | inr ne ↦ stuck u z left (omega (arith, lt, ne)) (sym (others u ne) ∙ at)
        | inl same ↦
            let both : Some (pass.Stands z left) ≡ Some (pass.Stands s.player s.left) = sym at ∙ (ap (λ (n : ℕ). slice_get after.seats n) same ∙ s.stands) in
            let player : s.player ≡ z = cc in
            let cells : s.left ≡ left = cc in
            let is : IsSeat shape U.places (take i es) js t s.seat.value s.player s.left = after.each t (Here s.seat) (pass.Stands s.player s.left) s.slot s.stands in
            subst (λ (n : ℕ). IsStuck es i n z left) (sym same)
            (subst (λ (y : Player). IsStuck es i t y left) player (subst (λ (l : Cells). IsStuck es i t s.player l) cells (stuck_at stop s.seat.value es i t s.player s.left is.home none s.stops)))
      ]

  -- one more that is not at its place
  pub none_stuck : (slot : Slot) → slice_get old.slots.items t ≡ Some slot → ((seat : Box Seat) → slot ≡ Here seat → ⊥) → StuckBelow es i P.seats (suc t)
  none_stuck slot here other u z left lt at =
      elim (cases_eq u t) as (λ _. IsStuck es i u z left) [
        | inr ne ↦ stuck u z left (omega (arith, lt, ne)) at
        | inl same ↦ absurd (no_stand slot other (P.each t slot (pass.Stands z left) here (ap (λ (n : ℕ). slice_get P.seats n) (sym same) ∙ at)))
      ]
    where
      no_stand : (x : Slot) → ((seat : Box Seat) → x ≡ Here seat → ⊥) → SlotIs shape U.places (take i es) js t x (pass.Stands z left) → ⊥
      no_stand (Away seat) o is = is
      no_stand (Here seat) o is = o seat refl
      no_stand Over o is = is

-- All entries are told, and no player goes on.
module _ {resting : ℕ → Type 0} (shape : Shape) (code : Block) (U : Given) (es : List Entry) (js : List (List PlaceEvent)) (ps : Players) (P : PlayersStand resting shape code U es js (length es) ps) (stuck : StuckBelow es (length es) P.seats (length ps.slots.items)) (tell : SeatsTell) (away : AwayEvent) where
  whole : Seated code U es js P.seats
  whole = subst (λ (l : List Entry). Seated code U l js P.seats) (take_all (length es) es (omega arith)) P.seated

  pub pass_is : WholePass code U es js
  pass_is = (tell code U es js).3 P.seats whole

  module _ (p e stamp : ℕ) (task : TaskId) (cell : Cell) (path : List ℕ) (told : IsEvent js p e task stamp cell path) where
    -- it is not marked, and has no cause
    neither : marked ps.marks p e ≡ false → (HasCause Between code U es js p e → ⊥) → HasCause Between code U es js p e ↔ (marked ps.marks p e ≡ true)
    neither unmarked none = (λ h. absurd (none h), λ k. absurd (true≢false (sym k ∙ unmarked)))

    by_slot : (o : Option Slot) → slice_get ps.slots.items task.0 ≡ o → Of code U es js ps.marks task.0 o → HasCause Between code U es js p e ↔ (marked ps.marks p e ≡ true)
    by_slot None at of = neither (of.left p e stamp cell path told tt) unborn where
      unborn : HasCause Between code U es js p e → ⊥
      unborn h =
          let m : IsMade Between code U es js p task.0 (events_before task.0 (journal_at js p) e) = subst (λ (o : Option PlaceEvent). CauseOf Between code U es js p e o) told h in
          let born = m.born in
          let many = seats-many code U es js P.seats whole in
          let size = P.size in
          let x = get-within ps.slots.items task.0 (omega (arith, born, many, size)) in
          let both : Some x.0 ≡ None = sym x.1 ∙ at in
          cc
    by_slot (Some (Away seat)) at of = neither (of.left p e stamp cell path told tt) (λ h. travels h) where
      travels : HasCause Between code U es js p e → ⊥
      travels h =
          let inside = slice_get_within ps.slots.items task.0 (Away seat) at in
          let size = P.size in
          let x = get-within P.seats task.0 (omega (arith, inside, size)) in
          let r = away_seat shape U.places (take (length es) es) js task.0 seat x.0 (P.each task.0 (Away seat) x.0 at x.1) in
          let there : slice_get P.seats task.0 ≡ Some (pass.Away r.0) = x.1 ∙ ap (λ (y : pass.Seat). Some y) r.1 in
          away Between code U es js task.0 p e stamp cell path ((tell code U es js).4 P.seats task.0 r.0 whole there) told h
    by_slot (Some (Here seat)) at of =
        let s = sits shape code U es js (length es) ps P task.0 seat at in
        let g : StandsAt code U.places es js (length es) task.0 s.player s.left = (tell code U es js).2 (length es) P.seats task.0 s.player s.left P.seated s.stands in
        let stops : IsStuck es (length es) task.0 s.player s.left = stuck task.0 s.player s.left (slice_get_within ps.slots.items task.0 (Here seat) at) s.stands in
        all_used shape code U es js (length es) task.0 seat s.player s.left s.is g stops ps.marks of p e stamp cell path told pass_is
    by_slot (Some Over) at of = of.used p e stamp cell path told (λ f. f) pass_is

  pub marks_made : MarksMade code U es js ps.marks
  marks_made p e task stamp cell path told = by_slot p e stamp task cell path told (slice_get ps.slots.items task.0) refl (of_task code U es js ps.marks ps.slots.items task.0 P.marks)
