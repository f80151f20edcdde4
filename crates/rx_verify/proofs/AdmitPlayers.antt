-- The players after an entry that needs no request, and after a no.
use Rattle.std.proofs.Common.{◌≡◌, ◌≢◌, ◌⊎◌, ℕ, suc, ◌+◌, ◌<◌, ◌≤◌, Bool, List, [], ◌∷◌, ◌++◌, length, take, drop, Some, slice_get, slice_set, refl, ap, sym, subst, ◌∙◌, arith, inl}
use Rattle.std.specs.Global.{Box}
use Rattle.std.specs.List.{filter_map}
use Rattle.std.proofs.lemmas.List.{append-nil, length-set, length-take-le}
use Rattle.std.proofs.lemmas.Option.{slice_get_within}
use Rattle.rx_rules.proofs.Common.{PlaceId, TaskId, ScopeId, Fault, Block, AllowedAct, births, tree_of, Reached, Player, cell_of, journal_at, Given, Term, Vars, Done, does}
use Rattle.rx_base.proofs.Elements.{get-within}
use Rattle.rx_rules.specs.declared.entries.Act.{Act}
use Rattle.rx_rules.specs.declared.entries.Act.TheVariants.{Arrive, End}
use Rattle.rx_rules.specs.declared.entries.Entry.{Entry}
use Rattle.rx_rules.specs.declared.entries.Entry.TheVariants.{Step}
use Rattle.rx_rules.specs.declared.tasks.Where.TheVariants.{At}
use Rattle.rx_rules.specs.declared.events.PlaceEvent.{PlaceEvent}
use Rattle.rx_tree_laws.specs.Histories.{FoldReached}
use Rattle.rx_runs.specs.Games.{fresh}
use Rattle.rx_chronicle.specs.Told.{parents_by, parents_in, parents_told}
use Rattle.rx_syntax.specs.Shape.{Shape}
use Rattle.rx_history.specs.Next.{carried}
use Rattle.rx_control.specs.Stands.{StandsFor}
use Rattle.rx_verdict.specs.Makes.{cells_of}
use Rattle.rx_verdict.specs.Marks.{home_of, low_of}
use Rattle.rx_verdict.specs.Parts.{IsQuiet}
use Rattle.rx_verdict.specs.Seats as pass
use Rattle.rx_verdict.specs.Seats.{Seated, MayFollow, SeatsTell, SeatArrives, SeatEnds}
use Rattle.rx_verdict.specs.Verdicts.{Part}
use Rattle.rx_verdict.specs.Walks.{next_does}
use Rattle.rx_verdict.proofs.Parting.{take_next}
use Rattle.rx_verdict.proofs.Seating.{SeatsStay}
use Rattle.rx_verify.specs.declared.seat.Seat.{Seat}
use Rattle.rx_verify.specs.declared.seat.Stop.TheVariants.{Ends}
use Rattle.rx_verify.specs.declared.players.Slot.{Slot}
use Rattle.rx_verify.specs.declared.players.Slot.TheVariants.{Away, Here, Over}
use Rattle.rx_verify.specs.declared.players.Players.{Players}
use Rattle.rx_verify.specs.declared.table.EventTable.{EventTable}
use Rattle.rx_verify.specs.Events.{IsFirst, IsOf}
use Rattle.rx_verify.specs.Marked.{MarksAre}
use Rattle.rx_verify.specs.Callers.{CallerIs}
use Rattle.rx_verify.specs.Players.{AwaitsWhere, IsSeat, SlotIs, PlayersAre, others_rest}
use Rattle.rx_verify.specs.Table.{TableIs}
use Rattle.rx_verify.specs.Inside.Admitted.{Stopped}
use Rattle.rx_verify.proofs.AdmitEntries.{Keeps, actor_born, others_keep, own_home, own_low, places_stay, quiet_keeps}
use Rattle.rx_verify.proofs.Callers.{caller_keeps, caller_lands, folds_so, not_by, parents_on}
use Rattle.rx_verify.proofs.AdmitSlots.{Each, SeatRests, each_set, over_rests, rest_set, slot_keeps, stands_rest}
use Rattle.rx_verify.proofs.MarksOn.{marks_arrive, marks_end}
use Rattle.rx_verify.proofs.MarksWalk.{seats-many}
use Rattle.rx_plan.proofs.Requests.{asks_end}

-- the entries with this one more
pub one_more : (U : Given) (es : List Entry) (i : ℕ) (e : Entry) → MayFollow U es i e → take (suc i) es ≡ take i es ++ e ∷ []
one_more U es i e f = take_next es i e f.here

pub so_many : (U : Given) (es : List Entry) (i : ℕ) (e : Entry) → MayFollow U es i e → length (take i es) ≡ i
so_many U es i e f = let l : i < length es = slice_get_within es i e f.here in length-take-le i es (omega arith)

-- an entry of no task opens no scope
none_opened : (e : Entry) → IsQuiet e → (ps : List ScopeId) → ps ≡ ps ++ parents_in (e ∷ [])
none_opened (Step t act batch) q ps = absurd q
none_opened _ q ps = sym (append-nil ps)

-- after an entry of no task
pub quiet_after : (shape : Shape) (code : Block) (U : Given) (es : List Entry) (js : List (List PlaceEvent)) (i : ℕ) (ps : Players) (e : Entry) → SeatsStay → FoldReached → IsQuiet e → MayFollow U es i e → PlayersAre shape code U es js i ps → PlayersAre shape code U es js (suc i) ps
quiet_after shape code U es js i ps e stay reached q f p =
    let next = one_more U es i e f in
    let tree : Reached (tree_of U.places (take i es)) = reached U.places (take i es) p.seated.some p.seated.few p.seated.allowed in
    let keeps : (u : ℕ) → Keeps U.places (take i es) (take (suc i) es) u =
    λ u. subst (λ (l : List Entry). Keeps U.places (take i es) l u) (sym next) (quiet_keeps U.places (take i es) e q u) in
    record {
      seats = p.seats;
      seated = stay code U es js i p.seats e p.seated f q;
      size = p.size;
      each = λ u s y at on. slot_keeps shape U.places (take i es) (take (suc i) es) js u (keeps u) s y (p.each u s y at on);
      callers = λ u s y at on. subst (λ (l : List Entry). CallerIs U l u s y) (sym next)
          (caller_keeps U (take i es) e tree f.allowed u (λ v is. not_by e q v) s y (p.callers u s y at on));
      parents = subst (λ (l : List Entry). ps.parents.items ≡ parents_told l) (sym next) (parents_on (take i es) e ps.parents.items ps.parents.items p.parents (none_opened e q ps.parents.items));
      table = p.table;
      marks = p.marks;
      rest = p.rest;
    }

-- An entry of a task.

module _ {resting : ℕ → Type 0} (shape : Shape) (code : Block) (U : Given) (es : List Entry) (js : List (List PlaceEvent)) (i : ℕ) (ps : Players) (task : TaskId) (act : Act) (batch : List (List ℕ)) (a : AwaitsWhere resting shape code U es js i ps (Step task act batch)) (f : MayFollow U es i (Step task act batch)) where
  abbrev before : List Entry
  before = take i es

  abbrev later : List Entry
  later = take (suc i) es

  pub next_is : later ≡ before ++ Step task act batch ∷ []
  next_is = one_more U es i (Step task act batch) f

  pub count_is : length before ≡ i
  count_is = so_many U es i (Step task act batch) f

  pub many : length a.players.seats ≡ 1 + births before
  many = seats-many code U before js a.players.seats a.players.seated

  pub task_born : FoldReached → task.0 < 1 + births before
  task_born reached = actor_born code U before js a.players.seats a.players.seated task act batch f.allowed reached

  -- it has a slot
  pub task_inside : FoldReached → task.0 < length ps.slots.items
  task_inside reached =
      let low = task_born reached in
      let all = many in
      let size = a.players.size in
      omega (arith, low, all, size)

  pub keep_others : (u : ℕ) → u < length ps.slots.items → task.0 ≢ u → Keeps U.places before later u
  keep_others u low ne =
      let all = many in
      let size = a.players.size in
      subst (λ (l : List Entry). Keeps U.places before l u) (sym next_is)
      (others_keep code U before js a.players.seats a.players.seated task act batch f.allowed u (omega (arith, low, all, size)) ne)

  pub home_stays : task.0 < length ps.slots.items → home_of later task.0 ≡ home_of before task.0
  home_stays low =
      let all = many in
      let size = a.players.size in
      ap (λ (l : List Entry). home_of l task.0) next_is
      ∙ own_home code U before js a.players.seats a.players.seated task act batch f.allowed (omega (arith, low, all, size))

  pub low_now : low_of later task.0 ≡ suc i
  low_now =
      ap (λ (l : List Entry). low_of l task.0) next_is
      ∙ own_low code U before js a.players.seats a.players.seated task act batch f.allowed ∙ ap suc count_is

  pub more_places : (tree_of U.places before).places ≤ (tree_of U.places later).places
  more_places = subst (λ (l : List Entry). (tree_of U.places before).places ≤ (tree_of U.places l).places) (sym next_is) (places_stay U.places before (Step task act batch))

  -- one slot changes, with its seat of the pass
  pub one_changed : (slot : Slot) (x : pass.Seat) → task.0 < length ps.slots.items → SlotIs shape U.places later js task.0 slot x → Each (SlotIs shape U.places later js) (slice_set ps.slots.items task.0 slot) (slice_set a.players.seats task.0 x)
  one_changed slot x low own =
      let size = a.players.size in
      each_set (SlotIs shape U.places before js) (SlotIs shape U.places later js) ps.slots.items a.players.seats task.0 slot x low (omega (arith, low, size))
      (λ u s y ne inside h. slot_keeps shape U.places before later js u (keep_others u inside ne) s y h) own a.players.each

  pub changed_size : (slot : Slot) (x : pass.Seat) → length (slice_set ps.slots.items task.0 slot) ≡ length (slice_set a.players.seats task.0 x)
  changed_size slot x = length-set ps.slots.items task.0 slot ∙ a.players.size ∙ sym (length-set a.players.seats task.0 x)

  -- the players with that slot
  pub callers_changed : FoldReached → (slot : Slot) (x : pass.Seat) → task.0 < length ps.slots.items → CallerIs U later task.0 slot x → Each (CallerIs U later) (slice_set ps.slots.items task.0 slot) (slice_set a.players.seats task.0 x)
  callers_changed reached slot x low own =
      let size = a.players.size in
      let tree : Reached (tree_of U.places before) = reached U.places before a.players.seated.some a.players.seated.few a.players.seated.allowed in
      each_set (CallerIs U before) (CallerIs U later) ps.slots.items a.players.seats task.0 slot x low (omega (arith, low, size))
      (λ u s y ne inside h. subst (λ (l : List Entry). CallerIs U l u s y) (sym next_is)
      (caller_keeps U before (Step task act batch) tree f.allowed u (λ v is e. ne (sym e ∙ is)) s y h)) own a.players.callers

  pub parents_changed : (new : List ScopeId) → new ≡ ps.parents.items ++ parents_by act → new ≡ parents_told later
  parents_changed new same =
      subst (λ (l : List Entry). new ≡ parents_told l) (sym next_is)
      (parents_on before (Step task act batch) ps.parents.items new a.players.parents (same ∙ ap (λ (l : List ScopeId). ps.parents.items ++ l) (sym (append-nil (parents_by act)))))

  pub players_changed : FoldReached → (new : Players) (slot : Slot) (x : pass.Seat) → task.0 < length ps.slots.items → Seated code U later js (slice_set a.players.seats task.0 x) → SlotIs shape U.places later js task.0 slot x → CallerIs U later task.0 slot x → parents_by act ≡ [] → new.parents.items ≡ ps.parents.items → new.slots.items ≡ slice_set ps.slots.items task.0 slot → new.table ≡ ps.table → new.marks ≡ ps.marks → MarksAre code U es js (slice_set ps.slots.items task.0 slot) ps.marks → ((u : ℕ) → u ≢ task.0 → resting u) → SeatRests x → PlayersAre shape code U es js (suc i) new
  players_changed reached new slot x low seated own caller opens parents slots table marks h others rests =
      record {
        seats = slice_set a.players.seats task.0 x;
        seated = seated;
        size = ap length slots ∙ changed_size slot x;
        each = subst (λ (l : List Slot). Each (SlotIs shape U.places later js) l (slice_set a.players.seats task.0 x)) (sym slots) (one_changed slot x low own);
        callers = subst (λ (l : List Slot). Each (CallerIs U later) l (slice_set a.players.seats task.0 x)) (sym slots) (callers_changed reached slot x low caller);
        parents = parents_changed new.parents.items (parents ∙ (sym (append-nil ps.parents.items) ∙ ap (λ (l : List ScopeId). ps.parents.items ++ l) (sym opens)));
        table = subst (λ (v : EventTable). TableIs js (suc (length es)) v) (sym table) a.players.table;
        marks = subst (λ (v : List Slot × List (List Bool)). MarksAre code U es js v.0 v.1) {x = (slice_set ps.slots.items task.0 slot, ps.marks)} {y = (new.slots.items, new.marks)} (λ j. (sym slots j, sym marks j)) h;
        rest = λ u all. rest_set a.players.seats task.0 x (let size = a.players.size in omega (arith, low, size)) (λ v ne. a.players.rest v (others v ne)) rests u;
      }

-- Who travels.

module _ {resting : ℕ → Type 0} (shape : Shape) (code : Block) (U : Given) (es : List Entry) (js : List (List PlaceEvent)) (i : ℕ) (ps : Players) (task : TaskId) (act : Act) (batch : List (List ℕ)) (a : AwaitsWhere resting shape code U es js i ps (Step task act batch)) where
  pub record Travels (seat : Box Seat) : Type 0 where
    pub start : Term × Vars
    pub away : slice_get a.players.seats task.0 ≡ Some (pass.Away start)
    pub is : IsSeat shape U.places (take i es) js task.0 seat.value (fresh start) (cells_of (take i es) js task.0)
    pub caller : CallerIs U (take i es) task.0 (Away seat) (pass.Away start)

  pub travels_so : (seat : Box Seat) → slice_get ps.slots.items task.0 ≡ Some (Away seat) → Travels seat
  travels_so seat at =
      let l = slice_get_within ps.slots.items task.0 (Away seat) at in
      let size = a.players.size in
      let x = get-within a.players.seats task.0 (omega (arith, l, size)) in
      by_seat x.0 x.1 (a.players.each task.0 (Away seat) x.0 at x.1)
    where
      by_seat : (x : pass.Seat) → slice_get a.players.seats task.0 ≡ Some x → SlotIs shape U.places (take i es) js task.0 (Away seat) x → Travels seat
      by_seat (pass.Away r) on is = record { start = r; away = on; is = is; caller = a.players.callers task.0 (Away seat) (pass.Away r) at on }
      by_seat (pass.Stands z left) on is = absurd is
      by_seat pass.Over on is = absurd is

  module _ (f : MayFollow U es i (Step task act batch)) where
    pub lands_only : (seat : Box Seat) → SeatArrives → slice_get ps.slots.items task.0 ≡ Some (Away seat) → Part code U es js (suc i) → (p : PlaceId) × (act ≡ Arrive p) × (batch ≡ [])
    lands_only seat law at h =
        let x = travels_so seat at in
        (law code U es js i a.players.seats task act batch x.start a.players.seated f x.away).1 h

    pub landed : FoldReached → (new : Players) (seat landing : Box Seat) (p : PlaceId) (low : ℕ) → ((u : ℕ) → u ≢ task.0 → resting u) → SeatArrives → slice_get ps.slots.items task.0 ≡ Some (Away seat) → act ≡ Arrive p → batch ≡ [] → landing.value ≡ record seat.value { low = low; who = record seat.value.who { place = At p } } → new.parents.items ≡ ps.parents.items → low ≡ suc i → new.slots.items ≡ slice_set ps.slots.items task.0 (Here landing) → new.table ≡ ps.table → new.marks ≡ ps.marks → PlayersAre shape code U es js (suc i) new
    landed reached new seat landing p low others law at arrives none is parents number slots table marks =
        let x = travels_so seat at in
        let s = x.is in
        let inside = slice_get_within ps.slots.items task.0 (Away seat) at in
        let known = s.known in
        let wider = more_places shape code U es js i ps task act batch a f in
        let all = pass.Stands (fresh x.start) (cells_of (take i es) js task.0) in
        let own : IsSeat shape U.places (take (suc i) es) js task.0 (record seat.value { low = low; who = record seat.value.who { place = At p } }) (fresh x.start) (cells_of (take i es) js task.0) =
        record {
          number = s.number;
          home = s.home ∙ sym (home_stays shape code U es js i ps task act batch a f inside);
          low = number ∙ sym (low_now shape code U es js i ps task act batch a f);
          known = omega (arith, known, wider);
          stood = record { term = s.stood.term; vars = s.stood.vars; events = s.stood.events; first = s.stood.first; few = s.stood.few };
        } in
        let j : List PlaceEvent = journal_at js seat.value.home.0 in
        let first : IsFirst task.0 j 0 seat.value.position =
        record {
          here = subst (λ (n : ℕ). (seat.value.position ≡ length j) ⊎ IsOf n j seat.value.position) s.number s.stood.first.here;
          same = ap (λ (n : ℕ). filter_map (cell_of n) (drop seat.value.position j)) (sym s.number) ∙ (s.stood.events ∙ ap (λ (q : PlaceId). filter_map (cell_of task.0) (journal_at js q.0)) (sym s.home));
        } in
        players_changed shape code U es js i ps task act batch a f reached new (Here landing) all inside
        ((law code U es js i a.players.seats task act batch x.start a.players.seated f x.away).0 p arrives none)
        (subst (λ (v : Seat). IsSeat shape U.places (take (suc i) es) js task.0 v (fresh x.start) (cells_of (take i es) js task.0)) (sym is) own)
        (subst (λ (l : List Entry). CallerIs U l task.0 (Here landing) all) (sym (next_is shape code U es js i ps task act batch a f))
        (subst (λ (v : Act). CallerIs U (take i es ++ Step task v batch ∷ []) task.0 (Here landing) all) (sym arrives)
        (caller_lands U (take i es) (folds_so code U (take i es) js a.players.seats a.players.seated) task p batch seat landing x.start (cells_of (take i es) js task.0) (subst (λ (v : Act). AllowedAct (tree_of U.places (take i es)) task v) arrives f.allowed)
        (ap (λ (v : Seat). v.who) is) (ap (λ (v : Seat). v.home) is) x.caller)))
        (ap parents_by arrives) parents slots table marks
        (marks_arrive code U es js ps.marks ps.slots.items task.0 seat landing at (subst (λ (v : Seat). IsFirst task.0 (journal_at js v.home.0) 0 v.position) (sym is) first) a.players.marks) others (stands_rest (fresh x.start) (cells_of (take i es) js task.0) refl)

-- A task that has come to its end.

module _ (shape : Shape) (code : Block) (U : Given) (es : List Entry) (js : List (List PlaceEvent)) (i : ℕ) (ps : Players) (task : TaskId) (act : Act) (batch : List (List ℕ)) (h : Stopped shape code U es js i ps task act batch Ends) where
  abbrev a : AwaitsWhere (others_rest task.0) shape code U es js i ps (Step task act batch)
  a = h.awaits

  abbrev z : Player
  z = h.stops.player

  pub stopped : IsSeat shape U.places (take i es) js task.0 h.stops.seat.value z h.stops.left
  stopped = a.players.each task.0 (Here h.stops.seat) (pass.Stands z h.stops.left) h.stops.slot h.stops.stands

  -- its faults
  pub ends_with : (faults : List Fault) × (next_does h.stops.seat.value.home z ≡ Done faults)
  ends_with = asks_end (next_does h.stops.seat.value.home z) h.stops.stops

  ends_there : next_does (home_of (take i es) task.0) z ≡ Done ends_with.0
  ends_there = ap (λ (p : PlaceId). next_does p z) (sym stopped.home) ∙ ends_with.1

  pub ends_only : SeatEnds → MayFollow U es i (Step task act batch) → Part code U es js (suc i) → act ≡ End ends_with.0
  ends_only law f k = ((law code U es js i a.players.seats task act batch z h.stops.left ends_with.0 a.players.seated f h.stops.stands ends_there).1 k).1

  pub ended : FoldReached → (new : Players) → MayFollow U es i (Step task act batch) → SeatsTell → SeatEnds → act ≡ End ends_with.0 → new.parents.items ≡ ps.parents.items → new.slots.items ≡ slice_set ps.slots.items task.0 Over → new.table ≡ ps.table → new.marks ≡ ps.marks → PlayersAre shape code U es js (suc i) new
  ended reached new f tell law is parents slots table marks =
      players_changed shape code U es js i ps task act batch a f reached new Over pass.Over (slice_get_within ps.slots.items task.0 (Here h.stops.seat) h.stops.slot)
      ((law code U es js i a.players.seats task act batch z h.stops.left ends_with.0 a.players.seated f h.stops.stands ends_there).0 (h.whole, is))
      tt tt (ap parents_by is) parents slots table marks
      (marks_end shape code U es js i task.0 h.stops.seat z h.stops.left stopped ((tell code U es js).2 i a.players.seats task.0 z h.stops.left a.players.seated h.stops.stands)
      (inl (ends_with.0, ends_there)) ps.slots.items ps.marks h.stops.slot a.players.marks) (λ u ne. ne) over_rests

  -- the control carries them
  pub carries : (seat : Seat) → seat ≡ h.stops.seat.value → StandsFor shape seat.control z.term × (carried (does seat.control.vars h.stops.seat.value.home.0 z.term) ≡ Some ends_with.0)
  carries seat e = (
    subst (λ (v : Seat). StandsFor shape v.control z.term) (sym e) stopped.stood.term,
    ap (λ (v : Seat). carried (does v.control.vars h.stops.seat.value.home.0 z.term)) e
        ∙ (ap (λ (v : Vars). carried (does v h.stops.seat.value.home.0 z.term)) stopped.stood.vars ∙ ap carried ends_with.1),
  )
