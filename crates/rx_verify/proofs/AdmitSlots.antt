-- Slots and the seats of the pass, where one changes or one is added.
use Rattle.std.proofs.Common.{◌≡◌, ◌≢◌, ℕ, zero, suc, ◌<◌, ◌≤◌, List, [], ◌∷◌, ◌++◌, length, Some, get_or, slice_get, slice_set, refl, ap, sym, subst, ◌∙◌, arith, ⊎_elim}
use Rattle.std.specs.Global.{Box}
use Rattle.std.specs.List.{filter_map}
use Rattle.std.proofs.lemmas.Bool.{cases_eq, cases_lt}
use Rattle.std.proofs.lemmas.Option.{slice_get_within, slice_get_read}
use Rattle.rx_rules.proofs.Common.{PlaceId, Player, Cells, cell_of, journal_at, Term, Vars}
use Rattle.rx_base.proofs.Elements.{get-last, get-set, length-push}
use Rattle.rx_rules.specs.declared.entries.Entry.{Entry}
use Rattle.rx_rules.specs.declared.events.PlaceEvent.{PlaceEvent}
use Rattle.rx_runs.specs.Games.{fresh}
use Rattle.rx_syntax.specs.Shape.{Shape}
use Rattle.rx_verdict.specs.Makes.{cells_of}
use Rattle.rx_verdict.specs.Seats as pass
use Rattle.rx_verify.specs.declared.seat.Seat.{Seat}
use Rattle.rx_verify.specs.declared.players.Slot.{Slot}
use Rattle.rx_verify.specs.declared.players.Slot.TheVariants.{Away, Here, Over}
use Rattle.rx_verify.specs.Players.{IsSeat, SlotIs, Rests}
use Rattle.rx_verify.proofs.AdmitEntries.{Keeps}
use Rattle.rx_verify.proofs.MarksOn.{get_other}
use Rattle.rx_runs.proofs.Fitting.{get_left}

-- each slot with its seat of the pass
abbrev pub Each : (ℕ → Slot → pass.Seat → Type 0) → List Slot → List pass.Seat → Type 0
Each P slots seats = (u : ℕ) (s : Slot) (y : pass.Seat) → slice_get slots u ≡ Some s → slice_get seats u ≡ Some y → P u s y

pub each_set : (P Q : ℕ → Slot → pass.Seat → Type 0) (slots : List Slot) (seats : List pass.Seat) (t : ℕ) (slot : Slot) (x : pass.Seat) → t < length slots → t < length seats → ((u : ℕ) (s : Slot) (y : pass.Seat) → t ≢ u → u < length slots → P u s y → Q u s y) → Q t slot x → Each P slots seats → Each Q (slice_set slots t slot) (slice_set seats t x)
each_set P Q slots seats t slot x low inside others own each u s y a b = ⊎_elim here away (cases_eq u t) where
  here : u ≡ t → Q u s y
  here e =
      let at : slice_get (slice_set slots t slot) t ≡ Some s = ap (λ (n : ℕ). slice_get (slice_set slots t slot) n) (sym e) ∙ a in
      let on : slice_get (slice_set seats t x) t ≡ Some y = ap (λ (n : ℕ). slice_get (slice_set seats t x) n) (sym e) ∙ b in
      let first : slot ≡ s = (let g = get-set slots t slot low in cc (g, at)) in
      let second : x ≡ y = (let g = get-set seats t x inside in cc (g, on)) in
      subst (λ (v : ℕ × Slot × pass.Seat). Q v.0 v.1 v.2) {x = (t, slot, x)} {y = (u, s, y)} (λ i. (sym e i, first i, second i)) own

  away : (u ≡ t → ⊥) → Q u s y
  away ne =
      let at : slice_get slots u ≡ Some s = sym (get_other slots t u slot ne) ∙ a in
      let on : slice_get seats u ≡ Some y = sym (get_other seats t u x ne) ∙ b in
      others u s y (λ e. ne (sym e)) (slice_get_within slots u s at) (each u s y at on)

pub each_push : (Q : ℕ → Slot → pass.Seat → Type 0) (slots : List Slot) (seats : List pass.Seat) (slot : Slot) (x : pass.Seat) → length slots ≡ length seats → Q (length slots) slot x → Each Q slots seats → Each Q (slots ++ slot ∷ []) (seats ++ x ∷ [])
each_push Q slots seats slot x size own each u s y a b = ⊎_elim old new (cases_lt u (length slots)) where
  old : u < length slots → Q u s y
  old low = each u s y (sym (get_left slots (slot ∷ []) u low) ∙ a) (sym (get_left seats (x ∷ []) u (omega (arith, low, size))) ∙ b)

  new : length slots ≤ u → Q u s y
  new past =
      let l = slice_get_within (slots ++ slot ∷ []) u s a in
      let k = length-push slots slot in
      let e : u ≡ length slots = omega (arith, past, l, k) in
      let first : slot ≡ s = (let g = get-last slots slot u e in cc (g, a)) in
      let second : x ≡ y = (let g = get-last seats x u (e ∙ size) in cc (g, b)) in
      subst (λ (v : ℕ × Slot × pass.Seat). Q v.0 v.1 v.2) {x = (length slots, slot, x)} {y = (u, s, y)} (λ i. (sym e i, first i, second i)) own

-- Which seats rest.

-- a task with such a seat has begun no statement since its last entry
abbrev pub SeatRests : pass.Seat → Type 0
SeatRests x = (z : Player) (left : Cells) → x ≡ pass.Stands z left → z.batch ≡ []

pub rest_set : (seats : List pass.Seat) (t : ℕ) (x : pass.Seat) → t < length seats → ((u : ℕ) → u ≢ t → Rests seats u) → SeatRests x → (u : ℕ) → Rests (slice_set seats t x) u
rest_set seats t x low others own u z left at = ⊎_elim here away (cases_eq u t) where
  here : u ≡ t → z.batch ≡ []
  here e =
      let on : slice_get (slice_set seats t x) t ≡ Some (pass.Stands z left) = ap (λ (n : ℕ). slice_get (slice_set seats t x) n) (sym e) ∙ at in
      own z left (let g = get-set seats t x low in cc (g, on))

  away : (u ≡ t → ⊥) → z.batch ≡ []
  away ne = others u ne z left (sym (get_other seats t u x ne) ∙ at)

pub rest_push : (seats : List pass.Seat) (x : pass.Seat) → ((u : ℕ) → Rests seats u) → SeatRests x → (u : ℕ) → Rests (seats ++ x ∷ []) u
rest_push seats x all own u z left at = ⊎_elim old new (cases_lt u (length seats)) where
  old : u < length seats → z.batch ≡ []
  old low = all u z left (sym (get_left seats (x ∷ []) u low) ∙ at)

  new : length seats ≤ u → z.batch ≡ []
  new past =
      let l = slice_get_within (seats ++ x ∷ []) u (pass.Stands z left) at in
      let k = length-push seats x in
      let e : u ≡ length seats = omega (arith, past, l, k) in
      own z left (let g = get-last seats x u e in cc (g, at))

-- a player without a batch rests
pub stands_rest : (y : Player) (left : Cells) → y.batch ≡ [] → SeatRests (pass.Stands y left)
stands_rest y left none z more e = let same : y ≡ z = cc in ap (λ (v : Player). v.batch) (sym same) ∙ none

pub over_rests : SeatRests pass.Over
over_rests z left e = absurd (let f : ⊥ = cc in f)

pub away_rests : (r : Term × Vars) → SeatRests (pass.Away r)
away_rests r z left e = absurd (let f : ⊥ = cc in f)

pub set_twice : {X : Type 0} (xs : List X) (k : ℕ) (x y : X) → slice_set (slice_set xs k x) k y ≡ slice_set xs k y
set_twice [] k x y = refl
set_twice (z ∷ xs) zero x y = refl
set_twice (z ∷ xs) (suc k) x y = ap (λ (l : List _). z ∷ l) (set_twice xs k x y)

-- The seat that was found in a slot.

pub same_seat : (slots : List Slot) (t : ℕ) (x : Slot) (seat was : Box Seat) → x ≡ get_or slots t x → x ≡ Here seat → slice_get slots t ≡ Some (Here was) → seat ≡ was
same_seat slots t x seat was value is at =
    let g = slice_get_read slots (length slots) t x refl (slice_get_within slots t (Here was) at) value in
    let e : Some (Here seat) ≡ Some (Here was) = ap (λ (s : Slot). Some s) (sym is) ∙ (sym g ∙ at) in cc e

-- A seat after entries that are not its task's.

pub seat_keeps : (shape : Shape) (places : ℕ) (es later : List Entry) (js : List (List PlaceEvent)) (u : ℕ) (seat : Seat) (z : Player) (left : Cells) → Keeps places es later u → IsSeat shape places es js u seat z left → IsSeat shape places later js u seat z left
seat_keeps shape places es later js u seat z left k s =
    let known = s.known in
    let more = k.wider in
    record { number = s.number; home = s.home ∙ sym k.home; low = s.low ∙ sym k.low; known = omega (arith, known, more); stood = s.stood }

pub slot_keeps : (shape : Shape) (places : ℕ) (es later : List Entry) (js : List (List PlaceEvent)) (u : ℕ) → Keeps places es later u → (slot : Slot) (x : pass.Seat) → SlotIs shape places es js u slot x → SlotIs shape places later js u slot x
slot_keeps shape places es later js u k (Away seat) (pass.Away r) h =
    subst (λ (left : Cells). IsSeat shape places later js u seat.value (fresh r) left) (ap (λ (p : PlaceId). filter_map (cell_of u) (journal_at js p.0)) (sym k.home))
    (seat_keeps shape places es later js u seat.value (fresh r) (cells_of es js u) k h)
slot_keeps shape places es later js u k (Here seat) (pass.Stands z left) h = seat_keeps shape places es later js u seat.value z left k h
slot_keeps shape places es later js u k Over pass.Over h = tt
slot_keeps shape places es later js u k (Away seat) (pass.Stands z left) h = absurd h
slot_keeps shape places es later js u k (Away seat) pass.Over h = absurd h
slot_keeps shape places es later js u k (Here seat) (pass.Away r) h = absurd h
slot_keeps shape places es later js u k (Here seat) pass.Over h = absurd h
slot_keeps shape places es later js u k Over (pass.Away r) h = absurd h
slot_keeps shape places es later js u k Over (pass.Stands z left) h = absurd h
