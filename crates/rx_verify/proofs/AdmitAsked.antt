-- The players after a request.
use Rattle.std.proofs.Common.{◌≡◌, ◌⊎◌, ℕ, suc, ◌+◌, ◌<◌, ◌≤◌, ◌^◌, ◌==◌, not, cond, Bool, true, false, List, [], ◌∷◌, ◌++◌, length, take, drop, Option, Some, None, option_to_list, slice_set, refl, ap, sym, subst, ◌∙◌, arith, inl, inr, ⊎_elim}
use Rattle.std.specs.Global.{Box}
use Rattle.std.specs.List.{filter_map}
use Rattle.std.proofs.lemmas.Bool.{eq-eqb}
use Rattle.std.proofs.lemmas.List.{append-nil, length-set}
use Rattle.std.proofs.lemmas.Option.{slice_get_within}
use Rattle.rx_rules.proofs.Common.{PlaceId, TaskId, ScopeId, Block, AllowedAct, made_act, births, tree_of, Player, acted, Birth, Cells, birth_in, birth_of, cell_of, journal_at, moves_from, started_by, travels, vars_told, Given, Folds, Term, Vars, Does, Counts, child, Tree}
use Rattle.rx_base.proofs.Elements.{length-push}
use Rattle.rx_rules.specs.declared.entries.Act.{Act}
use Rattle.rx_rules.specs.declared.entries.Act.TheVariants.{At as Called, Spawn, Census}
use Rattle.rx_rules.specs.declared.entries.Entry.{Entry}
use Rattle.rx_rules.specs.declared.entries.Entry.TheVariants.{Step}
use Rattle.rx_rules.specs.declared.events.PlaceEvent.{PlaceEvent}
use Rattle.rx_rules.specs.Plays.{Fits}
use Rattle.rx_rules.proofs.Append.{joins_in, tree-places, tree-push}
use Rattle.rx_rules.proofs.Numbers.{next-tree}
use Rattle.rx_rules.proofs.Widths.{limit-tree}
use Rattle.rx_tree_laws.specs.Histories.{FoldReached}
use Rattle.rx_tree_laws.specs.Sound.{ReachedSound, Sound}
use Rattle.rx_tree_laws.proofs.Reached.{sound}
use Rattle.rx_runs.specs.Games.{fresh}
use Rattle.rx_runs.proofs.Told.{IsNext}
use Rattle.rx_finish.specs.declared.ledger.Caller.{Caller}
use Rattle.rx_finish.specs.Callers.{HasNumbers}
use Rattle.rx_ledger.specs.Owned.{own_told}
use Rattle.rx_chronicle.specs.Told.{parents_by}
use Rattle.rx_ledger.proofs.CallersGoOn as on
use Rattle.rx_ledger.proofs.OwnTold.{unborn_owns}
use Rattle.rx_tree_laws.proofs.Granting.{unheld-child}
use Rattle.rx_tree_laws.proofs.SpineGrants.{flat-child}
use Rattle.rx_syntax.specs.Shape.{Shape}
use Rattle.rx_history.specs.declared.step.Want.{Want}
use Rattle.rx_history.specs.declared.step.Next.TheVariants.{Book}
use Rattle.rx_history.specs.Next.{next_of}
use Rattle.rx_verdict.specs.Makes.{cells_of}
use Rattle.rx_verdict.specs.Marks.{after, home_of, low_of}
use Rattle.rx_verdict.specs.Seats as pass
use Rattle.rx_verdict.specs.Seats.{SeatAsks, MayFollow, newborn_seat, newborn_seats}
use Rattle.rx_verdict.specs.Verdicts.{Part}
use Rattle.rx_verdict.specs.Walks.{next_does, AsksLedger}
use Rattle.rx_verify.specs.declared.seat.Seat.{Seat}
use Rattle.rx_verify.specs.declared.seat.Stop.TheVariants.{Asks}
use Rattle.rx_verify.specs.declared.players.Slot.{Slot}
use Rattle.rx_verify.specs.declared.players.Slot.TheVariants.{Away, Here}
use Rattle.rx_verify.specs.declared.players.Players.{Players}
use Rattle.rx_verify.specs.declared.table.EventTable.{EventTable}
use Rattle.rx_verify.specs.Events.{IsFirst}
use Rattle.rx_verify.specs.Marked.{MarksAre}
use Rattle.rx_verify.specs.Callers.{CallerIs}
use Rattle.rx_verify.specs.Reaching.{wanted}
use Rattle.rx_verify.specs.Players.{AwaitsWhere, IsSeat, Rests, SlotIs, PlayersAre, others_rest}
use Rattle.rx_verify.specs.Stood.{Stood}
use Rattle.rx_verify.specs.Table.{TableIs}
use Rattle.rx_verify.specs.Inside.Admitted.{Stopped}
use Rattle.rx_verify.specs.Inside.Requests.{CountsMore, GoneOn, ActIsAsked, IsChild, IsNewborn, slot_for}
use Rattle.rx_verify.proofs.AdmitEntries.{newborn_birth, newborn_moves, starts_at}
use Rattle.rx_verify.proofs.AdmitPlayers.{callers_changed, changed_size, count_is, home_stays, low_now, many, more_places, next_is, one_changed, parents_changed, task_born}
use Rattle.rx_verify.proofs.Callers.{born_away, born_here, caller_goes, folds_so, numbers, same_task}
use Rattle.rx_verify.proofs.AdmitSlots.{Each, SeatRests, away_rests, each_push, rest_push, rest_set, stands_rest}
use Rattle.rx_verify.proofs.MarksEnd.{asks_ledger}
use Rattle.rx_verify.proofs.MarksOn.{marks_born_away, marks_born_here, marks_stay}
use Rattle.rx_runs.proofs.Comings.{births-few}

-- What a census tells.

told_known : (T : Tree) (t : TaskId) (d : Does) (act : Act) (vars : Vars) → vars.places ≤ T.places → AllowedAct T t act → (vars_told d act vars).places ≤ T.places
told_known T t (Counts name) (Census n x) vars le may = let is : n ≡ T.places = may.asks.1 in omega (arith, is)
told_known T t d act vars le may = le

counts_more : (T : Tree) (t : TaskId) (act : Act) (known : ℕ) → AllowedAct T t act → 1 ≤ T.places → T.places ≤ 16 → known ≤ T.places → CountsMore known act
counts_more T t act known may some few le n x e =
    let is : n ≡ T.places = (subst (λ (v : Act). AllowedAct T t v) e may).asks.1 in
    (omega (arith, is, some), omega (arith, is, few), omega (arith, is, le))

-- Whom an act starts.

pub record Starts (T : Tree) (t : TaskId) (shape : Shape) (table : EventTable) (number : ℕ) (z : Player) (act : Act) (o : Option Slot) : Type 0 where
  pub task : TaskId
  pub scope : ScopeId
  pub from : PlaceId
  pub to : PlaceId
  pub seat : Box Seat
  pub starts : started_by act ≡ Some task
  pub birth : (n : ℕ) (u : TaskId) (batch : List (List ℕ)) → birth_in n task.0 (Step u act batch) ≡ Some (record { from = from; to = to; low = suc n })
  pub slot : o ≡ Some (slot_for from to seat)
  pub is : IsChild shape table number z task scope from to seat.value
  pub inside : to.0 < T.places
  pub comes : HasNumbers (made_act T t act) → on.MayCome (made_act T t act) task scope from to (from.0 == to.0)

whom : (T : Tree) (so : Sound T) (t : TaskId) (shape : Shape) (table : EventTable) (number : ℕ) (z : Player) (act : Act) (o : Option Slot) → AllowedAct T t act → IsNewborn shape table number z act o → Starts T t shape table number z act o ⊎ ((started_by act ≡ None) × (o ≡ None))
whom T so t shape table number z (Called from to s r c x) o may h =
    inl (record { task = c; scope = s; from = from; to = to; seat = h.0; starts = refl; birth = λ n u batch. rw (eq-eqb c.0 c.0 refl); slot = h.1; is = h.2; inside = may.asks.4; comes = on.callee_comes T so t c s from to x r may })
whom T so t shape table number z (Spawn c s from to x) o may h =
    inl (record { task = c; scope = s; from = from; to = to; seat = h.0; starts = refl; birth = λ n u batch. rw (eq-eqb c.0 c.0 refl); slot = h.1; is = h.2; inside = may.asks.3; comes = on.child_comes T so t c s from to x may })
whom T so t shape table number z act o may h = inr (refl, h)

module _ (shape : Shape) (code : Block) (U : Given) (es : List Entry) (js : List (List PlaceEvent)) (i : ℕ) (ps : Players) (task : TaskId) (act : Act) (batch : List (List ℕ)) (want : Want) (h : Stopped shape code U es js i ps task act batch (Asks want)) (f : MayFollow U es i (Step task act batch)) where
  abbrev a : AwaitsWhere (others_rest task.0) shape code U es js i ps (Step task act batch)
  a = h.awaits

  abbrev z : Player
  z = h.stops.player

  abbrev seat : Seat
  seat = h.stops.seat.value

  abbrev left : Cells
  left = h.stops.left

  abbrev before : List Entry
  before = take i es

  abbrev later : List Entry
  later = take (suc i) es

  abbrev y : Player
  y = acted seat.home z act

  pub seated : IsSeat shape U.places before js task.0 seat z left
  seated = a.players.each task.0 (Here h.stops.seat) (pass.Stands z left) h.stops.slot h.stops.stands

  caller : CallerIs U before task.0 (Here h.stops.seat) (pass.Stands z left)
  caller = a.players.callers task.0 (Here h.stops.seat) (pass.Stands z left) h.stops.slot h.stops.stands

  abbrev tree : Tree
  tree = tree_of U.places before

  folds : Folds U before
  folds = folds_so code U before js a.players.seats a.players.seated

  inside : task.0 < length ps.slots.items
  inside = slice_get_within ps.slots.items task.0 (Here h.stops.seat) h.stops.slot

  asks_there : AsksLedger (next_does (home_of before task.0) z)
  asks_there = subst (λ (p : PlaceId). AsksLedger (next_does p z)) seated.home (asks_ledger (next_does seat.home z) want h.stops.stops)

  -- only there is the entry made
  pub asks_only : SeatAsks → Part code U es js (suc i) → Fits seat.home z.term (next_does seat.home z) act
  asks_only law k =
      let r = (law code U es js i a.players.seats task act batch z left a.players.seated f h.stops.stands asks_there).1 k in
      subst (λ (p : PlaceId). Fits p z.term (next_does p z) act) (sym seated.home) r.1

  -- of the seat as it was taken out of its slot
  pub at_hand : (got : Seat) → got ≡ seat → wanted want got.home act ≡ true → Stood shape js got z left × ActIsAsked got.home (next_does got.home z) act
  at_hand got e w = (
    subst (λ (v : Seat). Stood shape js v z left) (sym e) seated.stood,
    (want, subst (λ (v : Seat). next_of (next_does v.home z) ≡ Book want) (sym e) h.stops.stops, w),
  )

  -- a census may be told
  pub tells_more : FoldReached → ReachedSound → CountsMore seat.control.vars.places act
  tells_more reached sound =
      let T : Tree = tree_of U.places before in
      let p = a.players.seated in
      let some = p.some in
      let all : T.places ≡ U.places + joins_in before = tree-places U.places before in
      let known : seat.control.vars.places ≤ T.places = subst (λ (v : Vars). v.places ≤ T.places) (sym seated.stood.vars) seated.known in
      let wide : length T.dead ≡ 16 = limit-tree U.places before in
      let within = (sound T (reached U.places before p.some p.few p.allowed)).few in
      counts_more T task act seat.control.vars.places f.allowed (omega (arith, some, all)) (omega (arith, wide, within)) known

  -- Its slot after the entry.

  own : (new : Box Seat) → GoneOn shape js ps.parents.items seat new.value i act y left → SlotIs shape U.places later js task.0 (Here new) (pass.Stands y left)
  own new g =
      let known = told_known (tree_of U.places before) task (next_does seat.home z) act z.vars seated.known f.allowed in
      let wider = more_places shape code U es js i ps task act batch a f in
      record {
        number = ap (λ (v : Caller). v.task.0) g.who ∙ (ap (λ (t : TaskId). t.0) (same_task ps.parents.items act seat.who) ∙ seated.number);
        home = g.home ∙ (seated.home ∙ sym (home_stays shape code U es js i ps task act batch a f inside));
        low = g.low ∙ sym (low_now shape code U es js i ps task act batch a f);
        known = omega (arith, known, wider);
        stood = g.stood;
      }

  own_marks : (new : Box Seat) → GoneOn shape js ps.parents.items seat new.value i act y left → MarksAre code U es js (slice_set ps.slots.items task.0 (Here new)) ps.marks
  own_marks new g = marks_stay code U es js ps.marks ps.slots.items task.0 h.stops.seat new h.stops.slot g.home g.position a.players.marks

  own_each : (new : Box Seat) → GoneOn shape js ps.parents.items seat new.value i act y left → Each (SlotIs shape U.places later js) (slice_set ps.slots.items task.0 (Here new)) (slice_set a.players.seats task.0 (pass.Stands y left))
  own_each new g = one_changed shape code U es js i ps task act batch a f (Here new) (pass.Stands y left) inside (own new g)

  own_callers : FoldReached → Fits seat.home z.term (next_does seat.home z) act → (new : Box Seat) → GoneOn shape js ps.parents.items seat new.value i act y left → Each (CallerIs U later) (slice_set ps.slots.items task.0 (Here new)) (slice_set a.players.seats task.0 (pass.Stands y left))
  own_callers reached fits new g =
      callers_changed shape code U es js i ps task act batch a f reached (Here new) (pass.Stands y left) inside
      (subst (λ (l : List Entry). CallerIs U l task.0 (Here new) (pass.Stands y left)) (sym (next_is shape code U es js i ps task act batch a f))
      (caller_goes U before folds task act batch f.allowed ps.parents.items seat new z y left a.players.parents seated.known caller.0 caller.1 fits g.who g.home refl))

  own_size : (new : Box Seat) → length (slice_set ps.slots.items task.0 (Here new)) ≡ length (slice_set a.players.seats task.0 (pass.Stands y left))
  own_size new = changed_size shape code U es js i ps task act batch a f (Here new) (pass.Stands y left)

  -- The seats of the pass after it.

  pass_seats : SeatAsks → Fits seat.home z.term (next_does seat.home z) act → pass.Seated code U later js (slice_set a.players.seats task.0 (pass.Stands y left) ++ newborn_seats later js z act)
  pass_seats law fits =
      let home = seated.home in
      let it = (law code U es js i a.players.seats task act batch z left a.players.seated f h.stops.stands asks_there).0
      (h.whole, subst (λ (p : PlaceId). Fits p z.term (next_does p z) act) home fits) in
      subst (λ (p : PlaceId). pass.Seated code U later js (slice_set a.players.seats task.0 (pass.Stands (acted p z act) left) ++ newborn_seats later js z act)) (sym home) it

  -- where it has gone on it rests, as the others do
  own_rests : (u : ℕ) → Rests (slice_set a.players.seats task.0 (pass.Stands y left)) u
  own_rests =
      let low = inside in
      let size = a.players.size in
      rest_set a.players.seats task.0 (pass.Stands y left) (omega (arith, low, size)) (λ v ne. a.players.rest v ne) (stands_rest y left refl)

  -- The slot of the task that the act starts.

  module _ (o : Option Slot) (s : Starts tree task shape ps.table i z act o) where
    abbrev c : ℕ
    c = s.task.0

    abbrev r : Term × Vars
    r = (child z.term, z.vars)

    abbrev b : Birth
    b = record { from = s.from; to = s.to; low = suc (0 + length before) }

    is_next : c ≡ 1 + births before
    is_next = subst (λ (v : Option TaskId). IsNext (1 + births before) v) s.starts (starts_at code U before js a.players.seats a.players.seated task act batch f.allowed)

    one_seat : newborn_seats later js z act ≡ newborn_seat later js c r ∷ []
    one_seat = ap (λ (v : Option TaskId). elim v as (λ _. List pass.Seat) [ Some d ↦ newborn_seat later js d.0 r ∷ [] | None ↦ [] ]) s.starts

    birth_is : birth_of later c ≡ b
    birth_is =
        ap (λ (l : List Entry). birth_of l c) (next_is shape code U es js i ps task act batch a f)
        ∙ newborn_birth code U before js a.players.seats a.players.seated task act batch f.allowed s.task b is_next (s.birth (0 + length before) task batch)

    moves_none : moves_from 0 later c ≡ []
    moves_none =
        let low = inside in
        let all = many shape code U es js i ps task act batch a f in
        let size = a.players.size in
        ap (λ (l : List Entry). moves_from 0 l c) (next_is shape code U es js i ps task act batch a f)
        ∙ newborn_moves code U before js a.players.seats a.players.seated task act batch f.allowed s.task (omega (arith, low, all, size)) is_next

    low_is : low_of later c ≡ suc i
    low_is =
        let z0 : 0 + length before ≡ i = (let k = count_is shape code U es js i ps task act batch a f in omega (arith, k)) in
        (λ j. after (birth_is j).low (moves_none j)) ∙ ap suc z0

    -- its number is one for the table
    few_tasks : c < suc (length es)
    few_tasks =
        let at = is_next in
        let few = births-few before in
        let k = count_is shape code U es js i ps task act batch a f in
        let l = slice_get_within es i (Step task act batch) f.here in
        omega (arith, at, few, k, l)

    first : IsFirst c (journal_at js s.to.0) 0 s.seat.value.position
    first = s.is.first js (suc (length es)) a.players.table few_tasks

    child_stood : Stood shape js s.seat.value (fresh r) (cells_of later js c)
    child_stood =
        let less = s.is.fewer in
        let few = seated.stood.few in
        let home : s.to ≡ home_of later c = ap (λ (v : Birth). v.to) (sym birth_is) in
        record {
          term = s.is.term;
          vars = s.is.vars;
          events = (λ j. filter_map (cell_of (s.is.who j).task.0) (drop s.seat.value.position (journal_at js (s.is.home j).0))) ∙ (first.same ∙ ap (λ (p : PlaceId). filter_map (cell_of c) (journal_at js p.0)) home);
          first = subst (λ (v : TaskId × PlaceId). IsFirst v.0.0 (journal_at js v.1.0) s.seat.value.position s.seat.value.position) {x = (s.task, s.to)} {y = (s.seat.value.who.task, s.seat.value.home)} (λ j. ((sym s.is.who j).task, sym s.is.home j))
              (record { here = first.here; same = refl });
          few = omega (arith, less, few);
        }

    child_is : IsSeat shape U.places later js c s.seat.value (fresh r) (cells_of later js c)
    child_is =
        let known = seated.known in
        let wider = more_places shape code U es js i ps task act batch a f in
        record {
          number = ap (λ (v : Caller). v.task.0) s.is.who;
          home = s.is.home ∙ ap (λ (v : Birth). v.to) (sym birth_is);
          low = s.is.low ∙ sym low_is;
          known = omega (arith, known, wider);
          stood = child_stood;
        }

    child_slot : SlotIs shape U.places later js c (slot_for s.from s.to s.seat) (newborn_seat later js c r)
    child_slot = by_place (s.from.0 == s.to.0) (travels (birth_of later c)) (ap travels birth_is) where
      by_place : (at w : Bool) → w ≡ not at → SlotIs shape U.places later js c (cond at (Here s.seat) (Away s.seat)) (cond w (pass.Away r) (pass.Stands (fresh r) (cells_of later js c)))
      by_place true w e = subst (λ (v : Bool). SlotIs shape U.places later js c (Here s.seat) (cond v (pass.Away r) (pass.Stands (fresh r) (cells_of later js c)))) (sym e) child_is
      by_place false w e = subst (λ (v : Bool). SlotIs shape U.places later js c (Away s.seat) (cond v (pass.Away r) (pass.Stands (fresh r) (cells_of later js c)))) (sym e) child_is

    child_caller : FoldReached → CallerIs U later c (slot_for s.from s.to s.seat) (newborn_seat later js c r)
    child_caller reached = by_place (s.from.0 == s.to.0) (travels (birth_of later c)) refl (ap travels birth_is) where
      next : later ≡ before ++ Step task act batch ∷ []
      next = next_is shape code U es js i ps task act batch a f

      there : s.to.0 < (tree_of U.places later).places
      there = let low = s.inside in let wider = more_places shape code U es js i ps task act batch a f in omega (arith, low, wider)

      none : own_told later s.task ≡ []
      none =
          let low = task_born shape code U es js i ps task act batch a f reached in
          let at = is_next in
          let all = next-tree U.places before in
          ap (λ (l : List Entry). own_told l s.task) next
          ∙ (on.own_others before (Step task act batch) s.task (λ e. absurd (omega (arith, low, at, e))) ∙ unborn_owns U before s.task folds (omega (arith, at, all)))

      comes : length later + 1 < 2 ^ 31 → on.MayCome (tree_of U.places later) s.task s.scope s.from s.to (s.from.0 == s.to.0)
      comes few =
          subst (λ (l : List Entry). on.MayCome (tree_of U.places l) s.task s.scope s.from s.to (s.from.0 == s.to.0)) (sym next)
          (subst (λ (V : Tree). on.MayCome V s.task s.scope s.from s.to (s.from.0 == s.to.0)) (sym (tree-push U.places before (Step task act batch)))
          (s.comes (numbers U before (Step task act batch) (subst (λ (l : List Entry). length l + 1 < 2 ^ 31) next few))))

      by_place : (at w : Bool) → (s.from.0 == s.to.0) ≡ at → w ≡ not at → CallerIs U later c (cond at (Here s.seat) (Away s.seat)) (cond w (pass.Away r) (pass.Stands (fresh r) (cells_of later js c)))
      by_place true w k e =
          subst (λ (v : Bool). CallerIs U later c (Here s.seat) (cond v (pass.Away r) (pass.Stands (fresh r) (cells_of later js c)))) (sym e)
          (born_here U later s.task s.scope s.from s.to s.seat (child z.term) s.is.who s.is.home there none (unheld-child z.term) (flat-child z.term) comes k)
      by_place false w k e =
          subst (λ (v : Bool). CallerIs U later c (Away s.seat) (cond v (pass.Away r) (pass.Stands (fresh r) (cells_of later js c)))) (sym e)
          (born_away U later s.task s.scope s.from s.to s.seat (child z.term) s.is.who s.is.home there none (unheld-child z.term) (flat-child z.term) comes k)

    -- it has begun nothing
    child_rests : SeatRests (newborn_seat later js c r)
    child_rests = by_place (travels (birth_of later c)) where
      by_place : (w : Bool) → SeatRests (cond w (pass.Away r) (pass.Stands (fresh r) (cells_of later js c)))
      by_place true = away_rests r
      by_place false = stands_rest (fresh r) (cells_of later js c) refl

    -- it comes after the others
    is_last : (new : Box Seat) → length (slice_set ps.slots.items task.0 (Here new)) ≡ c
    is_last new =
        let all = many shape code U es js i ps task act batch a f in
        let size = a.players.size in
        let at = is_next in
        let k = length-set ps.slots.items task.0 (Here new) in
        omega (arith, all, size, at, k)

    child_marks : (new : Box Seat) → GoneOn shape js ps.parents.items seat new.value i act y left → MarksAre code U es js (slice_set ps.slots.items task.0 (Here new) ++ slot_for s.from s.to s.seat ∷ []) ps.marks
    child_marks new g = by_place (s.from.0 == s.to.0) where
      by_place : (at : Bool) → MarksAre code U es js (slice_set ps.slots.items task.0 (Here new) ++ cond at (Here s.seat) (Away s.seat) ∷ []) ps.marks
      by_place true =
          marks_born_here code U es js ps.marks (slice_set ps.slots.items task.0 (Here new)) s.seat
          (subst (λ (v : ℕ × PlaceId). IsFirst v.0 (journal_at js v.1.0) 0 s.seat.value.position) {x = (c, s.to)} {y = (length (slice_set ps.slots.items task.0 (Here new)), s.seat.value.home)} (λ j. (sym (is_last new) j, sym s.is.home j)) first)
          (own_marks new g)
      by_place false = marks_born_away code U es js ps.marks (slice_set ps.slots.items task.0 (Here new)) s.seat (own_marks new g)

    child_each : (new : Box Seat) → GoneOn shape js ps.parents.items seat new.value i act y left → Each (SlotIs shape U.places later js) (slice_set ps.slots.items task.0 (Here new) ++ slot_for s.from s.to s.seat ∷ []) (slice_set a.players.seats task.0 (pass.Stands y left) ++ newborn_seat later js c r ∷ [])
    child_each new g =
        each_push (SlotIs shape U.places later js) (slice_set ps.slots.items task.0 (Here new)) (slice_set a.players.seats task.0 (pass.Stands y left)) (slot_for s.from s.to s.seat) (newborn_seat later js c r) (own_size new)
        (subst (λ (n : ℕ). SlotIs shape U.places later js n (slot_for s.from s.to s.seat) (newborn_seat later js c r)) (sym (is_last new)) child_slot)
        (own_each new g)

    child_callers : FoldReached → Fits seat.home z.term (next_does seat.home z) act → (new : Box Seat) → GoneOn shape js ps.parents.items seat new.value i act y left → Each (CallerIs U later) (slice_set ps.slots.items task.0 (Here new) ++ slot_for s.from s.to s.seat ∷ []) (slice_set a.players.seats task.0 (pass.Stands y left) ++ newborn_seat later js c r ∷ [])
    child_callers reached fits new g =
        each_push (CallerIs U later) (slice_set ps.slots.items task.0 (Here new)) (slice_set a.players.seats task.0 (pass.Stands y left)) (slot_for s.from s.to s.seat) (newborn_seat later js c r) (own_size new)
        (subst (λ (n : ℕ). CallerIs U later n (slot_for s.from s.to s.seat) (newborn_seat later js c r)) (sym (is_last new)) (child_caller reached))
        (own_callers reached fits new g)

  -- The players after the request.

  pub asked : (new : Players) (gone : Box Seat) (o : Option Slot) → FoldReached → SeatAsks → Fits seat.home z.term (next_does seat.home z) act → GoneOn shape js ps.parents.items seat gone.value i act y left → IsNewborn shape ps.table i z act o → new.parents.items ≡ ps.parents.items ++ parents_by act → new.slots.items ≡ slice_set ps.slots.items task.0 (Here gone) ++ option_to_list o → new.table ≡ ps.table → new.marks ≡ ps.marks → PlayersAre shape code U es js (suc i) new
  asked new gone o reached law fits g born parents slots table marks = ⊎_elim one none (whom tree (sound (reached U.places before a.players.seated.some a.players.seated.few a.players.seated.allowed)) task shape ps.table i z act o f.allowed born) where
    -- with these slots and seats
    over : (all : List Slot) (seats : List pass.Seat) → pass.Seated code U later js seats → length all ≡ length seats → Each (SlotIs shape U.places later js) all seats → Each (CallerIs U later) all seats → MarksAre code U es js all ps.marks → ((u : ℕ) → Rests seats u) → new.slots.items ≡ all → PlayersAre shape code U es js (suc i) new
    over all seats sits size each callers h rests is =
        record {
          seats = seats;
          seated = sits;
          size = ap length is ∙ size;
          each = subst (λ (l : List Slot). Each (SlotIs shape U.places later js) l seats) (sym is) each;
          callers = subst (λ (l : List Slot). Each (CallerIs U later) l seats) (sym is) callers;
          parents = parents_changed shape code U es js i ps task act batch a f new.parents.items parents;
          table = subst (λ (v : EventTable). TableIs js (suc (length es)) v) (sym table) a.players.table;
          marks = subst (λ (v : List Slot × List (List Bool)). MarksAre code U es js v.0 v.1) {x = (all, ps.marks)} {y = (new.slots.items, new.marks)} (λ j. (sym is j, sym marks j)) h;
          rest = λ u all. rests u;
        }

    one : Starts tree task shape ps.table i z act o → PlayersAre shape code U es js (suc i) new
    one s =
        let slot : Slot = slot_for s.from s.to s.seat in
        let x : pass.Seat = newborn_seat later js s.task.0 (child z.term, z.vars) in
        over (slice_set ps.slots.items task.0 (Here gone) ++ slot ∷ []) (slice_set a.players.seats task.0 (pass.Stands y left) ++ x ∷ [])
        (subst (λ (l : List pass.Seat). pass.Seated code U later js (slice_set a.players.seats task.0 (pass.Stands y left) ++ l)) (one_seat o s) (pass_seats law fits))
        (length-push (slice_set ps.slots.items task.0 (Here gone)) slot ∙ (ap suc (own_size gone) ∙ sym (length-push (slice_set a.players.seats task.0 (pass.Stands y left)) x)))
        (child_each o s gone g) (child_callers o s reached fits gone g) (child_marks o s gone g) (rest_push (slice_set a.players.seats task.0 (pass.Stands y left)) x own_rests (child_rests o s))
        (slots ∙ ap (λ (v : Option Slot). slice_set ps.slots.items task.0 (Here gone) ++ option_to_list v) s.slot)

    none : (started_by act ≡ None) × (o ≡ None) → PlayersAre shape code U es js (suc i) new
    none n =
        let no_seat : newborn_seats later js z act ≡ [] = ap (λ (v : Option TaskId). elim v as (λ _. List pass.Seat) [ Some d ↦ newborn_seat later js d.0 (child z.term, z.vars) ∷ [] | None ↦ [] ]) n.0 in
        let seats : List pass.Seat = slice_set a.players.seats task.0 (pass.Stands y left) in
        over (slice_set ps.slots.items task.0 (Here gone)) seats
        (subst (λ (l : List pass.Seat). pass.Seated code U later js l) (ap (λ (l : List pass.Seat). seats ++ l) no_seat ∙ append-nil seats) (pass_seats law fits))
        (own_size gone) (own_each gone g) (own_callers reached fits gone g) (own_marks gone g) own_rests
        (slots ∙ (ap (λ (v : Option Slot). slice_set ps.slots.items task.0 (Here gone) ++ option_to_list v) n.1 ∙ append-nil (slice_set ps.slots.items task.0 (Here gone))))
