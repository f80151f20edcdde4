-- The marks where a slot changes and no event is used.
use Rattle.std.proofs.Common.{◌≡◌, ◌↔◌, ℕ, zero, suc, ◌+◌, ◌<◌, ◌≤◌, Bool, true, false, List, [], ◌∷◌, ◌++◌, length, take, drop, Option, Some, None, slice_get, slice_set, refl, ap, sym, subst, ◌∙◌, arith, inl, inr}
use Rattle.std.specs.Global.{Box}
use Rattle.std.specs.List.{filter_map}
use Rattle.std.proofs.lemmas.Bool.{cases_eq, true≢false}
use Rattle.std.proofs.lemmas.Bool.Decides.{leb_tells}
use Rattle.std.proofs.lemmas.Option.{slice_get_within, slice_get_past}
use Rattle.rx_rules.proofs.Common.{PlaceId, TaskId, Block, opening, births, Player, Birth, Cells, cell_of, journal_at, birth_of, Given}
use Rattle.rx_base.proofs.Elements.{get-set, get-last, length-push}
use Rattle.rx_rules.specs.declared.entries.Entry.{Entry}
use Rattle.rx_rules.specs.declared.events.Cell.{Cell}
use Rattle.rx_rules.specs.declared.events.PlaceEvent.{PlaceEvent}
use Rattle.rx_rules.specs.declared.events.PlaceEvent.TheVariants.{Done}
use Rattle.rx_syntax.specs.Shape.{Shape}
use Rattle.rx_verdict.specs.Makes.{Between}
use Rattle.rx_verdict.specs.Marks.{home_of, StandsAt, WholePass}
use Rattle.rx_verdict.specs.Verdicts.{HasCause, CauseOf, IsMade, events_before}
use Rattle.rx_verdict.proofs.Marking.{IsStuck, left_event}
use Rattle.rx_verdict.proofs.Shown.{birth_take}
use Rattle.rx_verdict.specs.Marked.{marked, HasShape}
use Rattle.rx_verify.specs.declared.seat.Seat.{Seat}
use Rattle.rx_verify.specs.declared.players.Slot.{Slot}
use Rattle.rx_verify.specs.declared.players.Slot.TheVariants.{Away, Here, Over}
use Rattle.rx_verify.specs.Events.{IsFirst}
use Rattle.rx_verify.specs.Marked.{IsLeft, MarksAre}
use Rattle.rx_verify.specs.Players.{IsSeat}
use Rattle.rx_verify.proofs.Using.{none_between}
use Rattle.rx_runs.proofs.Fitting.{get_left}

-- Lists of slots.

pub get_other : {X : Type 0} (xs : List X) (k i : ℕ) (x : X) → (i ≡ k → ⊥) → slice_get (slice_set xs k x) i ≡ slice_get xs i
get_other [] k i x ne = refl
get_other (y ∷ ys) zero zero x ne = absurd (ne refl)
get_other (y ∷ ys) zero (suc i) x ne = refl
get_other (y ∷ ys) (suc k) zero x ne = refl
get_other (y ∷ ys) (suc k) (suc i) x ne = get_other ys k i x (λ e. ne (ap suc e))

-- what stands at a position is an event of a task
abbrev pub IsEvent : List (List PlaceEvent) → ℕ → ℕ → TaskId → ℕ → Cell → List ℕ → Type 0
IsEvent js p e task stamp cell path = slice_get (journal_at js p) e ≡ Some (Done task stamp cell path)

-- What the marks of other slots say stays. What is left of task t's events and what is used are premises.
abbrev MoreLeft : List (List PlaceEvent) → ℕ → Option Slot → Option Slot → Type 0
MoreLeft js t x y =
    (p e : ℕ) (stamp : ℕ) (cell : Cell) (path : List ℕ) → IsEvent js p e (record { 0 = t }) stamp cell path → IsLeft x p e → IsLeft y p e

module _ (code : Block) (U : Given) (es : List Entry) (js : List (List PlaceEvent)) (ms : List (List Bool)) where
  -- what the marks say of the events of task t, with such a slot
  pub record Of (t : ℕ) (slot : Option Slot) : Type 0 where
    pub left : (p e stamp : ℕ) (cell : Cell) (path : List ℕ) → IsEvent js p e (record { 0 = t }) stamp cell path → IsLeft slot p e → marked ms p e ≡ false
    pub used : (p e stamp : ℕ) (cell : Cell) (path : List ℕ) → IsEvent js p e (record { 0 = t }) stamp cell path → (IsLeft slot p e → ⊥) → WholePass code U es js → HasCause Between code U es js p e ↔ (marked ms p e ≡ true)

  pub of_task : (slots : List Slot) (t : ℕ) → MarksAre code U es js slots ms → Of t (slice_get slots t)
  of_task slots t m =
      record { left = λ p e stamp cell path at l. m.left p e (record { 0 = t }) stamp cell path at l; used = λ p e stamp cell path at n w. m.used p e (record { 0 = t }) stamp cell path at n w }

  pub of_all : (slots : List Slot) → HasShape js ms → ((t : ℕ) → Of t (slice_get slots t)) → MarksAre code U es js slots ms
  of_all slots shape each =
      record {
        shape = shape;
        left = λ p e task stamp cell path at l. (each task.0).left p e stamp cell path at l;
        used = λ p e task stamp cell path at n w. (each task.0).used p e stamp cell path at n w;
      }

  -- the same events are left
  as_left : (t : ℕ) (x y : Option Slot) → MoreLeft js t x y → MoreLeft js t y x → Of t x → Of t y
  as_left t x y up down o =
      record {
        left = λ p e stamp cell path at l. o.left p e stamp cell path at (down p e stamp cell path at l);
        used = λ p e stamp cell path at n w. o.used p e stamp cell path at (λ l. n (up p e stamp cell path at l)) w;
      }

  pub one_set : (slots : List Slot) (t : ℕ) (x y : Slot) → slice_get slots t ≡ Some x → MarksAre code U es js slots ms → Of t (Some y) → MarksAre code U es js (slice_set slots t y) ms
  one_set slots t x y at m o = of_all (slice_set slots t y) m.shape each where
    each : (u : ℕ) → Of u (slice_get (slice_set slots t y) u)
    each u =
        elim (cases_eq u t) as (λ _. Of u (slice_get (slice_set slots t y) u)) [
          | inl same ↦
              subst (λ (n : ℕ). Of n (slice_get (slice_set slots t y) n)) (sym same) (subst (λ (s : Option Slot). Of t s) (sym (get-set slots t y (slice_get_within slots t x at))) o)
          | inr ne ↦ subst (λ (s : Option Slot). Of u s) (sym (get_other slots t u y ne)) (of_task slots u m)
        ]

  pub one_more : (slots : List Slot) (y : Slot) → MarksAre code U es js slots ms → Of (length slots) (Some y) → MarksAre code U es js (slots ++ y ∷ []) ms
  one_more slots y m o = of_all (slots ++ y ∷ []) m.shape each where
    past : (u : ℕ) → (u ≡ length slots → ⊥) → length slots ≤ u → slice_get (slots ++ y ∷ []) u ≡ slice_get slots u
    past u ne le =
        slice_get_past (slots ++ y ∷ []) u (let size = length-push slots y in omega (arith, size, le, ne)) ∙ sym (slice_get_past slots u le)

    each : (u : ℕ) → Of u (slice_get (slots ++ y ∷ []) u)
    each u =
        elim (cases_eq u (length slots)) as (λ _. Of u (slice_get (slots ++ y ∷ []) u)) [
          | inl same ↦ subst (λ (s : Option Slot). Of u s) (sym (get-last slots y u same)) (subst (λ (n : ℕ). Of n (Some y)) (sym same) o)
          | inr ne ↦
              elim (leb_tells (length slots) u) as (λ _. Of u (slice_get (slots ++ y ∷ []) u)) [
                | inl le ↦ subst (λ (s : Option Slot). Of u s) (sym (past u ne le.1)) (of_task slots u m)
                | inr lt ↦ subst (λ (s : Option Slot). Of u s) (sym (get_left slots (y ∷ []) u lt.1)) (of_task slots u m)
              ]
        ]

  -- a task whose seat changes and stays where it is in its journal
  pub marks_stay : (slots : List Slot) (t : ℕ) (seat new : Box Seat) → slice_get slots t ≡ Some (Here seat) → new.value.home ≡ seat.value.home → new.value.position ≡ seat.value.position → MarksAre code U es js slots ms → MarksAre code U es js (slice_set slots t (Here new)) ms
  marks_stay slots t seat new at home position m =
      one_set slots t (Here seat) (Here new) at m
      (as_left t (Some (Here seat)) (Some (Here new))
      (λ p e stamp cell path told l here. subst (λ (q : ℕ). q ≤ e) (sym position) (l (here ∙ ap (λ (q : PlaceId). q.0) home)))
      (λ p e stamp cell path told l here. subst (λ (q : ℕ). q ≤ e) position (l (here ∙ sym (ap (λ (q : PlaceId). q.0) home))))
      (subst (λ (s : Option Slot). Of t s) at (of_task slots t m)))

  -- from the position of its first event on, all events of a task are left
  from_first : (t q p e stamp : ℕ) (cell : Cell) (path : List ℕ) → IsFirst t (journal_at js p) 0 q → IsEvent js p e (record { 0 = t }) stamp cell path → q ≤ e
  from_first t q p e stamp cell path first told =
      elim (leb_tells q e) [
        | inl le ↦ le.1
        | inr lt ↦ absurd (none_between t (journal_at js p) 0 q e stamp cell path (filter_map (cell_of t) (journal_at js p)) refl first.same (omega arith) lt.1 told)
      ]

  -- a task that arrives where its events begin
  pub marks_arrive : (slots : List Slot) (t : ℕ) (seat new : Box Seat) → slice_get slots t ≡ Some (Away seat) → IsFirst t (journal_at js new.value.home.0) 0 new.value.position → MarksAre code U es js slots ms → MarksAre code U es js (slice_set slots t (Here new)) ms
  marks_arrive slots t seat new at first m =
      one_set slots t (Away seat) (Here new) at m
      (as_left t (Some (Away seat)) (Some (Here new))
      (λ p e stamp cell path told l here. from_first t new.value.position new.value.home.0 e stamp cell path first (subst (λ (q : ℕ). IsEvent js q e (record { 0 = t }) stamp cell path) here told))
      (λ p e stamp cell path told l. tt)
      (subst (λ (s : Option Slot). Of t s) at (of_task slots t m)))

  -- a newborn task that travels
  pub marks_born_away : (slots : List Slot) (seat : Box Seat) → MarksAre code U es js slots ms → MarksAre code U es js (slots ++ Away seat ∷ []) ms
  marks_born_away slots seat m =
      one_more slots (Away seat) m
      (as_left (length slots) None (Some (Away seat)) (λ p e stamp cell path told l. tt) (λ p e stamp cell path told l. tt)
      (subst (λ (s : Option Slot). Of (length slots) s) (slice_get_past slots (length slots) (omega arith)) (of_task slots (length slots) m)))

  -- and one at its place, where its events begin
  pub marks_born_here : (slots : List Slot) (seat : Box Seat) → IsFirst (length slots) (journal_at js seat.value.home.0) 0 seat.value.position → MarksAre code U es js slots ms → MarksAre code U es js (slots ++ Here seat ∷ []) ms
  marks_born_here slots seat first m =
      one_more slots (Here seat) m
      (as_left (length slots) None (Some (Here seat))
      (λ p e stamp cell path told l here. from_first (length slots) seat.value.position seat.value.home.0 e stamp cell path first (subst (λ (q : ℕ). IsEvent js q e (record { 0 = length slots }) stamp cell path) here told))
      (λ p e stamp cell path told l. tt)
      (subst (λ (s : Option Slot). Of (length slots) s) (slice_get_past slots (length slots) (omega arith)) (of_task slots (length slots) m)))

-- the events that are left to the player of a seat
pub left_events : (shape : Shape) (places : ℕ) (es : List Entry) (js : List (List PlaceEvent)) (t : ℕ) (seat : Seat) (z : Player) (left : Cells) → IsSeat shape places es js t seat z left → filter_map (cell_of t) (drop seat.position (journal_at js (home_of es t).0)) ≡ left
left_events shape places es js t seat z left s =
    ap (λ (q : PlaceId). filter_map (cell_of t) (drop seat.position (journal_at js q.0))) (sym s.home)
    ∙ (ap (λ (n : ℕ). filter_map (cell_of n) (drop seat.position (journal_at js seat.home.0))) (sym s.number) ∙ s.stood.events)

-- Where a task goes on no more, no event that is left has its cause.
module _ (shape : Shape) (code : Block) (U : Given) (es : List Entry) (js : List (List PlaceEvent)) (i t : ℕ) (seat : Box Seat) (z : Player) (left : Cells) (s : IsSeat shape U.places (take i es) js t seat.value z left) (g : StandsAt code U.places es js i t z left) (stuck : IsStuck es i t z left) where
  born : t < 1 + births (take i es)
  born =
      let low = slice_get_within g.starts t g.start g.begins in
      let all = g.made.all in
      omega (arith, low, all)

  pub no_cause : (p e stamp : ℕ) (cell : Cell) (path : List ℕ) → WholePass code U es js → IsEvent js p e (record { 0 = t }) stamp cell path → IsLeft (Some (Here seat)) p e → HasCause Between code U es js p e → ⊥
  no_cause p e stamp cell path w told l h =
      let m : IsMade Between code U es js p t (events_before t (journal_at js p) e) = subst (λ (o : Option PlaceEvent). CauseOf Between code U es js p e o) told h in
      let birth : birth_of (take i es) t ≡ birth_of es t = birth_take 0 (opening U.places) es i w.allowed t born in
      let here : p ≡ seat.value.home.0 = sym m.home ∙ (ap (λ (b : Birth). b.to.0) (sym birth) ∙ ap (λ (q : PlaceId). q.0) (sym s.home)) in
      left_event Between code U es js i t p seat.value.position e stamp z cell path left w g stuck (left_events shape U.places (take i es) js t seat.value z left s) (l here) told h

  -- so each of its events is marked exactly where it has its cause
  pub all_used : (ms : List (List Bool)) → Of code U es js ms t (Some (Here seat)) → (p e stamp : ℕ) (cell : Cell) (path : List ℕ) → IsEvent js p e (record { 0 = t }) stamp cell path → WholePass code U es js → HasCause Between code U es js p e ↔ (marked ms p e ≡ true)
  all_used ms was p e stamp cell path told w =
      elim (cases_eq p seat.value.home.0) [
        | inr ne ↦ unused (λ here. absurd (ne here))
        | inl here ↦
            elim (leb_tells seat.value.position e) [
              | inl le ↦ unused (λ _. le.1)
              | inr lt ↦ was.used p e stamp cell path told (λ l. let le = l here in let gt = lt.1 in absurd (omega (arith, le, gt))) w
            ]
      ]
    where
      unused : IsLeft (Some (Here seat)) p e → HasCause Between code U es js p e ↔ (marked ms p e ≡ true)
      unused l = (
        λ h. absurd (no_cause p e stamp cell path w told l h),
        λ k. absurd (true≢false (sym k ∙ was.left p e stamp cell path told l)),
      )

  -- the task has ended
  pub marks_end : (slots : List Slot) (ms : List (List Bool)) → slice_get slots t ≡ Some (Here seat) → MarksAre code U es js slots ms → MarksAre code U es js (slice_set slots t Over) ms
  marks_end slots ms at m =
      let was : Of code U es js ms t (Some (Here seat)) = subst (λ (x : Option Slot). Of code U es js ms t x) at (of_task code U es js ms slots t m) in
      one_set code U es js ms slots t (Here seat) Over at m
      (record { left = λ p e stamp cell path told l. absurd l; used = λ p e stamp cell path told n w. all_used ms was p e stamp cell path told w })
