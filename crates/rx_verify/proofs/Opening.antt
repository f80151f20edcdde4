-- The players before the first entry.
use Rattle.std.proofs.Common.{◌≡◌, ℕ, zero, suc, ◌*◌, ◌<◌, ◌≤◌, Bool, List, [], ◌∷◌, ◌++◌, length, drop, Some, slice_get, ap, sym, subst, ◌∙◌, arith}
use Rattle.std.specs.Global.{Box}
use Rattle.std.specs.List.{filter_map}
use Rattle.rx_rules.proofs.Common.{PlaceId, TaskId, Block, work, Empty, items, no_vars, Player, cell_of, journal_at, Given, the_root}
use Rattle.rx_rules.specs.declared.entries.Entry.{Entry}
use Rattle.rx_rules.specs.declared.events.PlaceEvent.{PlaceEvent}
use Rattle.rx_runs.specs.Games.{fresh}
use Rattle.rx_runs.specs.Steps.{steps}
use Rattle.rx_finish.specs.declared.ledger.Caller.{Caller}
use Rattle.rx_ledger.specs.Answering.{main_caller}
use Rattle.rx_syntax.specs.Shape.{Shape}
use Rattle.rx_control.specs.Stands.{StandsFor}
use Rattle.rx_verdict.specs.Makes.{cells_of}
use Rattle.rx_verdict.specs.Seats as pass
use Rattle.rx_verdict.specs.Seats.{SeatsTell, main_start, opening_seats}
use Rattle.rx_verdict.specs.Marked.{NoMarks, no_marks}
use Rattle.rx_verify.specs.declared.seat.Seat.{Seat}
use Rattle.rx_verify.specs.declared.players.Slot.{Slot}
use Rattle.rx_verify.specs.declared.players.Slot.TheVariants.{Here}
use Rattle.rx_verify.specs.declared.players.Players.{Players}
use Rattle.rx_verify.specs.Events.{IsFirst}
use Rattle.rx_verify.specs.Table.{TableIs}
use Rattle.rx_verify.specs.Marked.{MarksAre}
use Rattle.rx_verify.specs.Callers.{CallerIs}
use Rattle.rx_verify.specs.Players.{IsSeat, Rests, SlotIs, PlayersAre}
use Rattle.rx_verify.proofs.Callers.{main_is}
use Rattle.rx_verify.proofs.Rows.{first_again}
use Rattle.rx_verify.proofs.MarksOn.{marks_born_here}

pub one_item : {A : Type 0} (some all : List A) (x : A) → all ≡ some ++ x ∷ [] → some ≡ [] → all ≡ x ∷ []
one_item some all x e h = e ∙ ap (λ (l : List _). l ++ x ∷ []) h

at_first : (shape : Shape) (code : Block) (U : Given) (js : List (List PlaceEvent)) (seat : Box Seat) → IsSeat shape U.places [] js 0 seat.value (fresh (main_start code U.places)) (cells_of [] js 0) → (t : ℕ) (slot : Slot) (x : pass.Seat) → slice_get (Here seat ∷ []) t ≡ Some slot → slice_get (opening_seats code U js) t ≡ Some x → SlotIs shape U.places [] js t slot x
at_first shape code U js seat here zero slot x at is =
    let a : Here seat ≡ slot = cc in
    let b : pass.Stands (fresh (main_start code U.places)) (cells_of [] js 0) ≡ x = cc in
    subst (λ (s : Slot). SlotIs shape U.places [] js 0 s x) a (subst (λ (y : pass.Seat). SlotIs shape U.places [] js 0 (Here seat) y) b here)
at_first shape code U js seat here (suc zero) slot x at is = absurd (let f : ⊥ = cc in f)
at_first shape code U js seat here (suc (suc t)) slot x at is = absurd (let f : ⊥ = cc in f)

caller_first : (code : Block) (U : Given) (js : List (List PlaceEvent)) (seat : Box Seat) → CallerIs U [] 0 (Here seat) (pass.Stands (fresh (main_start code U.places)) (cells_of [] js 0)) → (t : ℕ) (slot : Slot) (x : pass.Seat) → slice_get (Here seat ∷ []) t ≡ Some slot → slice_get (opening_seats code U js) t ≡ Some x → CallerIs U [] t slot x
caller_first code U js seat here zero slot x at is =
    let a : Here seat ≡ slot = cc in
    let b : pass.Stands (fresh (main_start code U.places)) (cells_of [] js 0) ≡ x = cc in
    subst (λ (s : Slot). CallerIs U [] 0 s x) a (subst (λ (y : pass.Seat). CallerIs U [] 0 (Here seat) y) b here)
caller_first code U js seat here (suc zero) slot x at is = absurd (let f : ⊥ = cc in f)
caller_first code U js seat here (suc (suc t)) slot x at is = absurd (let f : ⊥ = cc in f)

at_start_rest : (code : Block) (U : Given) (js : List (List PlaceEvent)) (t : ℕ) → Rests (opening_seats code U js) t
at_start_rest code U js zero z left at =
    let same : fresh (main_start code U.places) ≡ z = cc in ap (λ (y : Player). y.batch) (sym same)
at_start_rest code U js (suc t) z left at = absurd (let f : ⊥ = cc in f)

-- before the first entry no event is marked, and all are left
no_events_used : (code : Block) (U : Given) (es : List Entry) (js : List (List PlaceEvent)) → NoMarks → MarksAre code U es js [] (no_marks js)
no_events_used code U es js none =
    record {
      shape = (none js).0;
      left = λ p e task stamp cell path at left. (none js).1 p e;
      used = λ p e task stamp cell path at used whole. absurd (used tt);
    }

pub opened : (shape : Shape) (code : Block) (U : Given) (es : List Entry) (js : List (List PlaceEvent)) (seat : Box Seat) (own : Seat) (ps : Players) → seat.value ≡ own → SeatsTell → NoMarks → 1 ≤ U.places → U.places ≤ 16 → work code ≤ 100000 → steps (items code [] Empty) ≡ 3 * work code → StandsFor shape own.control (items code [] Empty) → own.control.vars ≡ no_vars U.places → own.who ≡ main_caller → own.home ≡ record { 0 = 0 } → IsFirst 0 (journal_at js 0) 0 own.position → own.low ≡ 0 → ps.slots.items ≡ Here seat ∷ [] → TableIs js (suc (length es)) ps.table → ps.marks ≡ no_marks js → ps.parents.items ≡ the_root ∷ [] → PlayersAre shape code U es js 0 ps
opened shape code U es js seat own ps is tell none some few small size stands vars who home position low slots table marks parents =
    let task : own.who.task ≡ record { 0 = 0 } = ap (λ (v : Caller). v.task) who in
    let known : U.places ≤ U.places = omega arith in
    let fits : steps (items code [] Empty) ≤ 300000 = omega (arith, small, size) in
    let first : IsFirst own.who.task.0 (journal_at js own.home.0) 0 own.position =
    subst (λ (t : TaskId). IsFirst t.0 (journal_at js own.home.0) 0 own.position) (sym task)
    (subst (λ (p : PlaceId). IsFirst 0 (journal_at js p.0) 0 own.position) (sym home) position) in
    let events : filter_map (cell_of own.who.task.0) (drop own.position (journal_at js own.home.0)) ≡ cells_of [] js 0 =
    first.same
    ∙ (ap (λ (t : TaskId). filter_map (cell_of t.0) (journal_at js own.home.0)) task
    ∙ ap (λ (p : PlaceId). filter_map (cell_of 0) (journal_at js p.0)) home) in
    let here : IsSeat shape U.places [] js 0 own (fresh (main_start code U.places)) (cells_of [] js 0) =
    record {
      number = ap (λ (t : TaskId). t.0) task;
      home = home;
      low = low;
      known = known;
      stood = record {
        term = stands;
        vars = vars;
        events = events;
        first = first_again own.who.task.0 (journal_at js own.home.0) 0 own.position first;
        few = fits;
      };
    } in
    let in_box : IsSeat shape U.places [] js 0 seat.value (fresh (main_start code U.places)) (cells_of [] js 0) =
    subst (λ (v : Seat). IsSeat shape U.places [] js 0 v (fresh (main_start code U.places)) (cells_of [] js 0)) (sym is) here in
    let born : IsFirst 0 (journal_at js seat.value.home.0) 0 seat.value.position =
    subst (λ (v : Seat). IsFirst 0 (journal_at js v.home.0) 0 v.position) (sym is)
    (subst (λ (p : PlaceId). IsFirst 0 (journal_at js p.0) 0 own.position) (sym home) position) in
    let used : MarksAre code U es js (Here seat ∷ []) (no_marks js) = marks_born_here code U es js (no_marks js) [] seat born (no_events_used code U es js none) in
    record {
      seats = opening_seats code U js;
      seated = (tell code U [] js).0 some few;
      size = ap length slots;
      each = λ t slot x at on. at_first shape code U js seat in_box t slot x (ap (λ (l : List Slot). slice_get l t) (sym slots) ∙ at) on;
      table = table;
      marks = subst (λ (l : List Slot). MarksAre code U es js l ps.marks) (sym slots) (subst (λ (ms : List (List Bool)). MarksAre code U es js (Here seat ∷ []) ms) (sym marks) used);
      callers = λ t slot x at on. caller_first code U js seat (main_is code U seat (no_vars U.places) (cells_of [] js 0) (let low : 0 < U.places = omega (arith, some) in low) (ap (λ (v : Seat). v.who) is ∙ who) (ap (λ (v : Seat). v.home) is ∙ home)) t slot x (ap (λ (l : List Slot). slice_get l t) (sym slots) ∙ at) on;
      parents = parents;
      rest = λ t all. at_start_rest code U js t;
    }
