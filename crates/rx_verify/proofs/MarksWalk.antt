-- The marks and the players after a walk of one task.
use Rattle.std.proofs.Common.{◌≡◌, ◌≢◌, ◌↔◌, ℕ, suc, ◌+◌, ◌<◌, ◌≤◌, Bool, true, false, List, [], length, take, drop, Option, Some, None, slice_get, slice_set, ap, sym, subst, ◌∙◌, arith, inl, inr}
use Rattle.std.specs.Global.{Box}
use Rattle.std.proofs.lemmas.Bool.{cases_eq}
use Rattle.std.proofs.lemmas.Bool.Decides.{leb_tells}
use Rattle.std.proofs.lemmas.List.{length-take, length-set}
use Rattle.std.proofs.lemmas.Option.{slice_get_within}
use Rattle.rx_rules.proofs.Common.{PlaceId, TaskId, Block, births, Player, Cells, Moves, journal_at, moves_from, Given}
use Rattle.rx_base.proofs.Elements.{get-within, get-set}
use Rattle.rx_rules.specs.declared.entries.Entry.{Entry}
use Rattle.rx_rules.specs.declared.events.Cell.{Cell}
use Rattle.rx_rules.specs.declared.events.PlaceEvent.{PlaceEvent}
use Rattle.rx_runs.proofs.Pairs.{pairs-length}
use Rattle.rx_finish.specs.declared.ledger.Caller.{Caller}
use Rattle.rx_syntax.specs.Shape.{Shape}
use Rattle.rx_verdict.specs.Makes.{Between, KeepsRule}
use Rattle.rx_verdict.specs.Marks.{home_of, low_of, StandsAt, WholePass}
use Rattle.rx_verdict.specs.Seats as pass
use Rattle.rx_verdict.specs.Seats.{Seated, SeatIs, SeatsTell, SeatsWalk}
use Rattle.rx_verdict.specs.Verdicts.{HasCause}
use Rattle.rx_verdict.specs.Walks.{Walks}
use Rattle.rx_verdict.proofs.Marking.{later}
use Rattle.rx_verdict.proofs.Telling.{event_from_player}
use Rattle.rx_verdict.specs.Marked.{marked}
use Rattle.rx_verify.specs.declared.along.Along.{Along}
use Rattle.rx_verify.specs.declared.seat.Seat.{Seat}
use Rattle.rx_verify.specs.declared.seat.Stop.{Stop}
use Rattle.rx_verify.specs.declared.players.Slot.{Slot}
use Rattle.rx_verify.specs.declared.players.Slot.TheVariants.{Here}
use Rattle.rx_verify.specs.declared.players.Players.{Players}
use Rattle.rx_verify.specs.declared.table.EventTable.{EventTable}
use Rattle.rx_verify.specs.Events.{IsFirst}
use Rattle.rx_verify.specs.Marked.{IsLeft, MarksAre, IsNextOf, InReach, MarksUsed}
use Rattle.rx_verify.specs.Along.{KeepsAlong}
use Rattle.rx_verify.specs.Callers.{CallerIs}
use Rattle.rx_verify.specs.Players.{IsSeat, SlotIs, PlayersStand, StopsAt, none_rests}
use Rattle.rx_verify.specs.Stood.{Stops, Walked}
use Rattle.rx_verify.specs.Table.{TableIs}
use Rattle.rx_verify.specs.Inside.Admitted.{WalksAlong}
use Rattle.rx_verify.proofs.AdmitSlots.{Each, each_set}
use Rattle.rx_verify.proofs.Callers.{caller_walks}
use Rattle.rx_verify.proofs.Positions.{at_most_length}
use Rattle.rx_verify.proofs.MarksOn.{IsEvent, Of, of_task, of_all, get_other, left_events}
use Rattle.rx_verify.proofs.Using.{IsExact, from_here, used_exactly}
use Rattle.rx_runs.proofs.Comings.{births-few}

-- How many tasks there are.

pub seats-many : (code : Block) (U : Given) (es : List Entry) (js : List (List PlaceEvent)) (seats : List pass.Seat) → Seated code U es js seats → length seats ≡ 1 + births es
seats-many code U es js seats s = sym (pairs-length (SeatIs s.starts es js) 0 s.starts seats s.each) ∙ s.made.all

-- there are as many slots after as many entries
pub same_size : {some all : ℕ → Type 0} (shape : Shape) (code : Block) (U : Given) (es : List Entry) (js : List (List PlaceEvent)) (i : ℕ) (old ps : Players) → PlayersStand some shape code U es js i old → PlayersStand all shape code U es js i ps → length ps.slots.items ≡ length old.slots.items
same_size shape code U es js i old ps P Q = Q.size ∙ (seats-many code U (take i es) js Q.seats Q.seated ∙ (sym (seats-many code U (take i es) js P.seats P.seated) ∙ sym P.size))

-- the players as they stand, whoever rests
abbrev pub standing : {resting : ℕ → Type 0} (shape : Shape) (code : Block) (U : Given) (es : List Entry) (js : List (List PlaceEvent)) (i : ℕ) (ps : Players) → PlayersStand resting shape code U es js i ps → PlayersStand none_rests shape code U es js i ps
standing shape code U es js i ps P =
    record { seats = P.seats; seated = P.seated; size = P.size; each = P.each; table = P.table; marks = P.marks; callers = P.callers; parents = P.parents; rest = λ t none. absurd none }

-- The seat of a task at its place.

pub record Sits (shape : Shape) (places : ℕ) (es : List Entry) (js : List (List PlaceEvent)) (seats : List pass.Seat) (t : ℕ) (seat : Box Seat) : Type 0 where
  pub player : Player
  pub left : Cells
  pub stands : slice_get seats t ≡ Some (pass.Stands player left)
  pub is : IsSeat shape places es js t seat.value player left

here_sits : (shape : Shape) (places : ℕ) (es : List Entry) (js : List (List PlaceEvent)) (seats : List pass.Seat) (t : ℕ) (seat : Box Seat) (x : pass.Seat) → slice_get seats t ≡ Some x → SlotIs shape places es js t (Here seat) x → Sits shape places es js seats t seat
here_sits shape places es js seats t seat (pass.Away r) at is = absurd is
here_sits shape places es js seats t seat (pass.Stands z left) at is = record { player = z; left = left; stands = at; is = is }
here_sits shape places es js seats t seat pass.Over at is = absurd is

module _ {resting : ℕ → Type 0} (shape : Shape) (code : Block) (U : Given) (es : List Entry) (js : List (List PlaceEvent)) (i : ℕ) (old : Players) (P : PlayersStand resting shape code U es js i old) (t : ℕ) (seat : Box Seat) (at : slice_get old.slots.items t ≡ Some (Here seat)) where
  inside : t < length P.seats
  inside =
      let l = slice_get_within old.slots.items t (Here seat) at in
      let size = P.size in
      omega (arith, l, size)

  pub sits : Sits shape U.places (take i es) js P.seats t seat
  sits =
      let x = get-within P.seats t inside in
      here_sits shape U.places (take i es) js P.seats t seat x.0 x.1 (P.each t (Here seat) x.0 at x.1)

  pub numbered : seat.value.who.task.0 < suc (length es)
  numbered =
      let l = inside in
      let number = sits.is.number in
      let many = seats-many code U (take i es) js P.seats P.seated in
      let few = births-few (take i es) in
      let shorter = length-take i es in
      omega (arith, l, number, many, few, shorter)

-- A walk of that task.

-- between two numbers is in reach of the entries to come
in_reach : (low stamp : ℕ) (last : Option ℕ) (moves : Moves) → IsNextOf last moves → KeepsRule Between low stamp moves ↔ InReach low last stamp
in_reach low stamp None moves none = subst (λ (m : Moves). KeepsRule Between low stamp m ↔ InReach low None stamp) (sym none) (λ k. k.0, λ k. (k, tt))
in_reach low stamp (Some n) moves next = subst (λ (m : Moves). KeepsRule Between low stamp m ↔ InReach low (Some n) stamp) (sym next.3) (λ k. k, λ k. k)

module _ (shape : Shape) (code : Block) (U : Given) (es : List Entry) (js : List (List PlaceEvent)) (i t : ℕ) (seat new : Box Seat) (z y : Player) (left rest : Cells) (s : IsSeat shape U.places (take i es) js t seat.value z left) (w : Walked shape js seat.value new.value z left y rest) where
  abbrev home : PlaceId
  home = home_of (take i es) t

  abbrev journal : List PlaceEvent
  journal = journal_at js home.0

  pub new_seat : IsSeat shape U.places (take i es) js t new.value y rest
  new_seat =
      record {
        number = ap (λ (v : Caller). v.task.0) w.who ∙ s.number;
        home = w.home ∙ s.home;
        low = w.low ∙ s.low;
        known = (let few = s.known in let same = w.known in omega (arith, few, same));
        stood = w.stood;
      }

  pub walk_at : Walks [] home z left [] y rest
  walk_at = subst (λ (q : PlaceId). Walks [] q z left [] y rest) s.home w.walks

  -- the first event from its own position on
  first_at : (x : Seat) (v : Player) (cells : Cells) → IsSeat shape U.places (take i es) js t x v cells → IsFirst t journal x.position x.position
  first_at x v cells is =
      subst (λ (n : ℕ). IsFirst n journal x.position x.position) is.number (subst (λ (q : PlaceId). IsFirst x.who.task.0 (journal_at js q.0) x.position x.position) is.home is.stood.first)

  -- the walk goes on in the journal
  pub onward : seat.value.position ≤ new.value.position
  onward =
      elim (first_at new.value y rest new_seat).here [
        | inl end ↦ (let all = at_most_length t journal seat.value.position seat.value.position (first_at seat.value z left s) in omega (arith, end, all))
        | inr own ↦
            elim (leb_tells seat.value.position new.value.position) [
              | inl le ↦ le.1
              | inr lt ↦
                  let back = lt.1 in
                  let fewer = (event_from_player Between [] home 0 z y left rest [] walk_at).1 in
                  let from_old = ap (λ (k : Cells). length k) (left_events shape U.places (take i es) js t seat.value z left s) in
                  let from_new = ap (λ (k : Cells). length k) (left_events shape U.places (take i es) js t new.value y rest new_seat) in
                  let one = ap (λ (k : Cells). length k) (from_here t journal new.value.position own.0 own.1 own.2 own.3) in
                  let more = later t journal (suc new.value.position) seat.value.position (omega (arith, back)) in
                  absurd (omega (arith, fewer, from_old, from_new, one, more))
            ]
      ]

  -- the marks after the walk
  module _ (slots : List Slot) (ms after : List (List Bool)) (last : Option ℕ) (at : slice_get slots t ≡ Some (Here seat)) (g : StandsAt code U.places es js i t z left) (m : MarksAre code U es js slots ms) (used : MarksUsed js ms after new.value.home.0 new.value.who.task.0 seat.value.position new.value.position new.value.low last) (next : IsNextOf last (moves_from i (drop i es) t)) where
    was : Of code U es js ms t (Some (Here seat))
    was = subst (λ (x : Option Slot). Of code U es js ms t x) at (of_task code U es js ms slots t m)

    -- where nothing was marked
    same_mark : (p e : ℕ) (task : TaskId) (stamp : ℕ) (cell : Cell) (path : List ℕ) → IsEvent js p e task stamp cell path → (p ≡ new.value.home.0 → task.0 ≡ new.value.who.task.0 → seat.value.position ≤ e → e < new.value.position → ⊥) → marked after p e ≡ marked ms p e
    same_mark = used.others

    left_is : (p e stamp : ℕ) (cell : Cell) (path : List ℕ) → IsEvent js p e (record { 0 = t }) stamp cell path → IsLeft (Some (Here new)) p e → marked after p e ≡ false
    left_is p e stamp cell path told l =
        same_mark p e (record { 0 = t }) stamp cell path told (λ here x le lt. let on = l here in absurd (omega (arith, on, lt)))
        ∙ was.left p e stamp cell path told (λ here. let on = l (here ∙ ap (λ (q : PlaceId). q.0) (sym w.home)) in let go = onward in omega (arith, on, go))

    exact : (e stamp : ℕ) (cell : Cell) (path : List ℕ) → IsEvent js new.value.home.0 e (record { 0 = t }) stamp cell path → seat.value.position ≤ e → e < new.value.position → WholePass code U es js → HasCause Between code U es js new.value.home.0 e ↔ (marked after new.value.home.0 e ≡ true)
    exact e stamp cell path told le lt all =
        let here : new.value.home ≡ home = new_seat.home in
        let there : IsEvent js home.0 e (record { 0 = t }) stamp cell path = subst (λ (q : PlaceId). IsEvent js q.0 e (record { 0 = t }) stamp cell path) here told in
        let is : IsExact code U es js i t all e stamp = used_exactly code U es js i t all z y left rest seat.value.position new.value.position e stamp cell path walk_at g
        (left_events shape U.places (take i es) js t seat.value z left s) (left_events shape U.places (take i es) js t new.value y rest new_seat) le lt there in
        let so : (KeepsRule Between new.value.low stamp (moves_from i (drop i es) t) → HasCause Between code U es js new.value.home.0 e) × (HasCause Between code U es js new.value.home.0 e → KeepsRule Between new.value.low stamp (moves_from i (drop i es) t)) =
        subst (λ (n : ℕ). (KeepsRule Between n stamp (moves_from i (drop i es) t) → HasCause Between code U es js new.value.home.0 e) × (HasCause Between code U es js new.value.home.0 e → KeepsRule Between n stamp (moves_from i (drop i es) t))) (sym new_seat.low)
        (subst (λ (q : PlaceId). (KeepsRule Between (low_of (take i es) t) stamp (moves_from i (drop i es) t) → HasCause Between code U es js q.0 e) × (HasCause Between code U es js q.0 e → KeepsRule Between (low_of (take i es) t) stamp (moves_from i (drop i es) t))) (sym here) is) in
        let reach = in_reach new.value.low stamp last (moves_from i (drop i es) t) next in
        let unmarked : marked ms new.value.home.0 e ≡ false = was.left new.value.home.0 e stamp cell path told (λ _. le) in
        let mark = used.mine e stamp cell path le lt (subst (λ (n : ℕ). IsEvent js new.value.home.0 e (record { 0 = n }) stamp cell path) (sym new_seat.number) told) unmarked in
        (λ h. mark.0 (reach.0 (so.1 h)), λ k. so.0 (reach.1 (mark.1 k)))

    used_is : (p e stamp : ℕ) (cell : Cell) (path : List ℕ) → IsEvent js p e (record { 0 = t }) stamp cell path → (IsLeft (Some (Here new)) p e → ⊥) → WholePass code U es js → HasCause Between code U es js p e ↔ (marked after p e ≡ true)
    used_is p e stamp cell path told n all =
        elim (cases_eq p new.value.home.0) [
          | inr ne ↦ absurd (n (λ here. absurd (ne here)))
          | inl here ↦
              elim (leb_tells new.value.position e) [
                | inl on ↦ absurd (n (λ _. on.1))
                | inr lt ↦
                    elim (leb_tells seat.value.position e) [
                      | inl le ↦
                          subst (λ (q : ℕ). HasCause Between code U es js q e ↔ (marked after q e ≡ true)) (sym here)
                          (exact e stamp cell path (subst (λ (q : ℕ). IsEvent js q e (record { 0 = t }) stamp cell path) here told) le.1 lt.1 all)
                      | inr before ↦
                          let early = before.1 in
                          let same : marked after p e ≡ marked ms p e = same_mark p e (record { 0 = t }) stamp cell path told (λ x v le gt. absurd (omega (arith, early, le))) in
                          subst (λ (b : Bool). HasCause Between code U es js p e ↔ (b ≡ true)) (sym same)
                          (was.used p e stamp cell path told (λ l. let le = l (here ∙ ap (λ (q : PlaceId). q.0) w.home) in absurd (omega (arith, early, le))) all)
                    ]
              ]
        ]

    pub marks_walked : MarksAre code U es js (slice_set slots t (Here new)) after
    marks_walked = of_all code U es js after (slice_set slots t (Here new)) used.shape each where
      other : (u : ℕ) → (u ≡ t → ⊥) → Of code U es js after u (slice_get slots u)
      other u ne =
          let o = of_task code U es js ms slots u m in
          record {
            left = λ p e stamp cell path told l. same_mark p e (record { 0 = u }) stamp cell path told (λ x same le lt. ne (same ∙ new_seat.number)) ∙ o.left p e stamp cell path told l;
            used = λ p e stamp cell path told n all. subst (λ (b : Bool). HasCause Between code U es js p e ↔ (b ≡ true))
                (sym (same_mark p e (record { 0 = u }) stamp cell path told (λ x same le lt. ne (same ∙ new_seat.number)))) (o.used p e stamp cell path told n all);
          }

      each : (u : ℕ) → Of code U es js after u (slice_get (slice_set slots t (Here new)) u)
      each u =
          elim (cases_eq u t) as (λ _. Of code U es js after u (slice_get (slice_set slots t (Here new)) u)) [
            | inl same ↦
                subst (λ (n : ℕ). Of code U es js after n (slice_get (slice_set slots t (Here new)) n)) (sym same)
                (subst (λ (x : Option Slot). Of code U es js after t x) (sym (get-set slots t (Here new) (slice_get_within slots t (Here seat) at)))
                (record { left = left_is; used = used_is }))
            | inr ne ↦ subst (λ (x : Option Slot). Of code U es js after u x) (sym (get_other slots t u (Here new) ne)) (other u ne)
          ]

-- The players after it.
module _ {resting : ℕ → Type 0} (shape : Shape) (code : Block) (U : Given) (es : List Entry) (js : List (List PlaceEvent)) (i : ℕ) (old ps : Players) (P : PlayersStand resting shape code U es js i old) (t : ℕ) (seat new : Box Seat) (last : Option ℕ) (at : slice_get old.slots.items t ≡ Some (Here seat)) (tell : SeatsTell) (walk : SeatsWalk) where
  abbrev at_seat : Sits shape U.places (take i es) js P.seats t seat
  at_seat = sits shape code U es js i old P t seat at

  module _ (y : Player) (rest : Cells) (w : Walked shape js seat.value new.value at_seat.player at_seat.left y rest) (slots : ps.slots.items ≡ slice_set old.slots.items t (Here new)) (table : ps.table ≡ old.table) (parents : ps.parents.items ≡ old.parents.items) (used : MarksUsed js old.marks ps.marks new.value.home.0 new.value.who.task.0 seat.value.position new.value.position new.value.low last) (next : IsNextOf last (moves_from i (drop i es) t)) where
    abbrev seats : List pass.Seat
    seats = slice_set P.seats t (pass.Stands y rest)

    is_new : IsSeat shape U.places (take i es) js t new.value y rest
    is_new = new_seat shape code U es js i t seat new at_seat.player y at_seat.left rest at_seat.is w

    changed : (Q : ℕ → Slot → pass.Seat → Type 0) → Q t (Here new) (pass.Stands y rest) → Each Q old.slots.items P.seats → Each Q ps.slots.items seats
    changed Q own all =
        subst (λ (l : List Slot). Each Q l seats) (sym slots)
        (each_set Q Q old.slots.items P.seats t (Here new) (pass.Stands y rest) (slice_get_within old.slots.items t (Here seat) at) (inside shape code U es js i old P t seat at) (λ u s x ne low h. h) own all)

    each : Each (SlotIs shape U.places (take i es) js) ps.slots.items seats
    each = changed (SlotIs shape U.places (take i es) js) is_new P.each

    callers : Each (CallerIs U (take i es)) ps.slots.items seats
    callers =
        changed (CallerIs U (take i es))
        (caller_walks U (take i es) t seat new seat.value.home at_seat.player y at_seat.left rest w.walks w.who w.home (P.callers t (Here seat) (pass.Stands at_seat.player at_seat.left) at at_seat.stands)) P.callers

    players_walked : PlayersStand none_rests shape code U es js i ps
    players_walked =
        record {
          seats = seats;
          seated = walk code U (take i es) js P.seats t at_seat.player y at_seat.left rest P.seated at_seat.stands (walk_at shape code U es js i t seat new at_seat.player y at_seat.left rest at_seat.is w);
          size = ap (λ (l : List Slot). length l) slots ∙ (length-set old.slots.items t (Here new) ∙ (P.size ∙ sym (length-set P.seats t (pass.Stands y rest))));
          each = each;
          table = subst (λ (k : EventTable). TableIs js (suc (length es)) k) (sym table) P.table;
          marks = subst (λ (l : List Slot). MarksAre code U es js l ps.marks) (sym slots)
              (marks_walked shape code U es js i t seat new at_seat.player y at_seat.left rest at_seat.is w old.slots.items old.marks ps.marks last at
              ((tell code U es js).2 i P.seats t at_seat.player at_seat.left P.seated at_seat.stands) P.marks used next);
          callers = callers;
          parents = parents ∙ P.parents;
          rest = λ u none. absurd none;
        }

    -- it was the player that the seats had of the task
    same_player : (z : Player) (some : Cells) → slice_get P.seats t ≡ Some (pass.Stands z some) → at_seat.player ≡ z
    same_player z some at =
        let both : Some (pass.Stands at_seat.player at_seat.left) ≡ Some (pass.Stands z some) = sym at_seat.stands ∙ at in cc

    pub walked : (stop : Stop) (was along : Along) → Stops stop new.value y rest → KeepsAlong was along at_seat.player y → (after : PlayersStand none_rests shape code U es js i ps) × (stops : StopsAt shape U es js i t ps stop after.seats) × ((u : ℕ) → u ≢ t → slice_get after.seats u ≡ slice_get P.seats u) × WalksAlong P.seats t stops.player was along
    unfolding players_walked
    walked stop was along stops goes = (
      players_walked,
      record {
        seat = new;
        slot = ap (λ (l : List Slot). slice_get l t) slots ∙ get-set old.slots.items t (Here new) (slice_get_within old.slots.items t (Here seat) at);
        player = y;
        left = rest;
        stands = get-set P.seats t (pass.Stands y rest) (inside shape code U es js i old P t seat at);
        stops = stops;
      },
      λ u ne. get_other P.seats t u (pass.Stands y rest) ne,
      λ z some at. subst (λ (v : Player). KeepsAlong was along v y) (same_player z some at) goes,
    )
