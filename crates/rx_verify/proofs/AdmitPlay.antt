-- The walk before an entry of a task, and the players after it where the task makes no entry.
use Rattle.std.proofs.Common.{◌≡◌, ◌≢◌, ℕ, suc, ◌+◌, ◌<◌, ◌≤◌, ◌^◌, Bool, cond, Some, None, List, [], ◌∷◌, length, take, drop, slice_get, refl, ap, sym, subst, ◌∙◌, arith}
use Rattle.std.specs.Global.{Box}
use Rattle.std.specs.List.{cons_option}
use Rattle.std.proofs.lemmas.Bool.{eq-eqb}
use Rattle.std.proofs.lemmas.List.{length-take-le}
use Rattle.std.proofs.lemmas.Option.{slice_get_within}
use Rattle.rx_rules.proofs.Common.{PlaceId, TaskId, Block, tree_of, Player, Moves, moves_from, Given, Done}
use Rattle.rx_base.proofs.Elements.{get-within}
use Rattle.rx_base.proofs.SameIds.{task-is}
use Rattle.rx_rules.specs.declared.entries.Act.{Act}
use Rattle.rx_rules.specs.declared.entries.Act.TheVariants.{Arrive}
use Rattle.rx_rules.specs.declared.entries.Entry.{Entry}
use Rattle.rx_rules.specs.declared.entries.Entry.TheVariants.{Step}
use Rattle.rx_rules.specs.declared.events.PlaceEvent.{PlaceEvent}
use Rattle.rx_runs.specs.AnyAnswers.{AsksStore}
use Rattle.rx_tree_laws.specs.Histories.{FoldReached}
use Rattle.rx_ledger.specs.TermAsks.{MayAskAct}
use Rattle.rx_syntax.specs.Shape.{Shape}
use Rattle.rx_verdict.specs.Marks.{EntriesToCome, home_of}
use Rattle.rx_verdict.specs.Seats as pass
use Rattle.rx_verdict.specs.Seats.{PartFollows, SeatArrives, SeatAsks, SeatEnds, SeatRefuses}
use Rattle.rx_verdict.specs.Verdicts.{Part}
use Rattle.rx_verdict.specs.Walks.{next_does, AsksLedger, Halts}
use Rattle.rx_verify.specs.declared.along.Along.{Along}
use Rattle.rx_verify.specs.declared.seat.Seat.{Seat}
use Rattle.rx_verify.specs.declared.seat.Stop.{Stop}
use Rattle.rx_verify.specs.declared.seat.Stop.TheVariants.{Asks, Ends, Halts as Halted}
use Rattle.rx_verify.specs.declared.players.Slot.TheVariants.{Away, Here, Over}
use Rattle.rx_verify.specs.declared.players.Players.{Players}
use Rattle.rx_verify.specs.Along.{GoesAlong}
use Rattle.rx_verify.specs.Marked.{IsNextOf}
use Rattle.rx_verify.specs.Players.{Awaits, IsSeat, SlotIs, PlayersStand, StopsAt, none_rests}
use Rattle.rx_verify.specs.Reaching.{TaskMakesAct, Ready}
use Rattle.rx_verify.specs.Inside.Admitted.{Stopped, WalksAlong}
use Rattle.rx_verify.proofs.AdmitPlayers.{lands_only, task_inside, travels_so}
use Rattle.rx_verify.proofs.MarksEnd.{asks_ledger, asks_store}
use Rattle.rx_verify.proofs.MarksWalk.{sits}
use Rattle.rx_plan.proofs.Requests.{asks_end}

-- the entry is the next of its task
pub next_of_task : (es : List Entry) (i : ℕ) (U : Given) (task : TaskId) (act : Act) (batch : List (List ℕ)) → EntriesToCome → slice_get es i ≡ Some (Step task act batch) → IsNextOf (Some i) (moves_from i (drop i es) task.0)
next_of_task es i U task act batch come f =
    let more : Moves = moves_from (suc i) (drop (suc i) es) task.0 in
    let all : moves_from i (drop i es) task.0 ≡ (i, act, batch) ∷ more =
    (come es i task.0).0 (Step task act batch) f
    ∙ ap (λ (b : Bool). cons_option (cond b (Some (i, act, batch)) None) more) (eq-eqb task.0 task.0 refl) in
    (act, batch, more, all)

module _ (shape : Shape) (code : Block) (U : Given) (es : List Entry) (js : List (List PlaceEvent)) (i : ℕ) (old : Players) (task : TaskId) (act : Act) (batch : List (List ℕ)) (a : Awaits shape code U es js i old (Step task act batch)) where
  -- what the walk leaves: the seats of the other tasks stay
  abbrev pub Walked : Players → Stop → Type 0
  Walked new stop =
      (after : PlayersStand none_rests shape code U es js i new) × (stops : StopsAt shape U es js i task.0 new stop after.seats)
      × ((u : ℕ) → u ≢ task.0 → slice_get after.seats u ≡ slice_get a.players.seats u)

  -- what it tells of the batch, where it began at the front
  pub goes_along : (was along : Along) (y : Player) → WalksAlong a.players.seats task.0 y was along → GoesAlong batch was [] → (seat : Box Seat) → slice_get old.slots.items task.0 ≡ Some (Here seat) → GoesAlong batch along y.batch
  goes_along was along y goes front seat at =
      let s = sits shape code U es js i old a.players task.0 seat at in
      goes s.player s.left s.stands batch (subst (λ (l : List (List ℕ)). GoesAlong batch was l) (sym (a.players.rest task.0 tt s.player s.left s.stands)) front)

  pub stopped : (new : Players) (stop : Stop) → (w : Walked new stop) → batch ≡ w.1.player.batch → Stopped shape code U es js i new task act batch stop
  stopped new stop w whole =
      record {
        awaits = record {
          script = a.script;
          players = record {
            seats = w.0.seats;
            seated = w.0.seated;
            size = w.0.size;
            each = w.0.each;
            table = w.0.table;
            callers = w.0.callers;
            parents = w.0.parents;
            marks = w.0.marks;
            rest = λ u ne z left at. a.players.rest u tt z left (sym (w.2 u ne) ∙ at);
          };
          here = a.here;
        };
        stops = w.1;
        whole = whole;
      }

  -- where the statements that were begun are the batch, the task has stopped with it
  pub stops_whole : (new : Players) (stop at : Stop) (was along : Along) (w : Walked new stop) → WalksAlong a.players.seats task.0 w.1.player was along → GoesAlong batch was [] → (seat : Box Seat) → slice_get old.slots.items task.0 ≡ Some (Here seat) → ((so_far : List (List ℕ)) → GoesAlong batch along so_far → batch ≡ so_far) → stop ≡ at → Stopped shape code U es js i new task act batch at
  stops_whole new stop at was along w goes front seat here whole is =
      subst (λ (v : Stop). Stopped shape code U es js i new task act batch v) is
      (stopped new stop w (whole w.1.player.batch (goes_along was along w.1.player goes front seat here)))

  -- a task that halts makes no entry
  pub halted : (new : Players) → PartFollows → SeatRefuses → Walked new Halted → Part code U es js (suc i) → ⊥
  halted new follow law w k =
      let f = follow code U es js i (Step task act batch) a.here k in
      let s = w.1 in
      let p = w.0 in
      let is : IsSeat shape U.places (take i es) js task.0 s.seat.value s.player s.left = p.each task.0 (Here s.seat) (pass.Stands s.player s.left) s.slot s.stands in
      let store = asks_store (next_does s.seat.value.home s.player) s.stops.0.0 s.stops.0.1 in
      (law code U es js i p.seats task act batch p.seated f).0 s.player s.left s.stands
      (subst (λ (q : PlaceId). AsksStore (next_does q s.player)) is.home store)
      (subst (λ (q : PlaceId). Halts q s.player s.left) is.home s.stops.1) k

  -- nor does one that has not begun the entry's batch
  pub missed : (new : Players) (stop : Stop) → PartFollows → SeatAsks → SeatEnds → SeatRefuses → (w : Walked new stop) → (batch ≡ w.1.player.batch → ⊥) → Part code U es js (suc i) → ⊥
  missed new (Asks want) follow asks ends refuses w other k =
      let f = follow code U es js i (Step task act batch) a.here k in
      let s = w.1 in
      let p = w.0 in
      let is : IsSeat shape U.places (take i es) js task.0 s.seat.value s.player s.left = p.each task.0 (Here s.seat) (pass.Stands s.player s.left) s.slot s.stands in
      let there = subst (λ (q : PlaceId). AsksLedger (next_does q s.player)) is.home (asks_ledger (next_does s.seat.value.home s.player) want s.stops) in
      other ((asks code U es js i p.seats task act batch s.player s.left p.seated f s.stands there).1 k).0
  missed new Ends follow asks ends refuses w other k =
      let f = follow code U es js i (Step task act batch) a.here k in
      let s = w.1 in
      let p = w.0 in
      let is : IsSeat shape U.places (take i es) js task.0 s.seat.value s.player s.left = p.each task.0 (Here s.seat) (pass.Stands s.player s.left) s.slot s.stands in
      let d = asks_end (next_does s.seat.value.home s.player) s.stops in
      let there : next_does (home_of (take i es) task.0) s.player ≡ Done d.0 = ap (λ (q : PlaceId). next_does q s.player) (sym is.home) ∙ d.1 in
      other ((ends code U es js i p.seats task act batch s.player s.left d.0 p.seated f s.stands there).1 k).0
  missed new Halted follow asks ends refuses w other k = halted new follow refuses w k

  -- nor does one that has ended
  pub over : PartFollows → SeatRefuses → slice_get old.slots.items task.0 ≡ Some Over → Part code U es js (suc i) → ⊥
  over follow law at k =
      let f = follow code U es js i (Step task act batch) a.here k in
      let p = a.players in
      let l = slice_get_within old.slots.items task.0 Over at in
      let size = p.size in
      let x = get-within p.seats task.0 (omega (arith, l, size)) in
      (law code U es js i p.seats task act batch p.seated f).1 (by_seat x.0 x.1 (p.each task.0 Over x.0 at x.1)) k
    where
      by_seat : (x : pass.Seat) → slice_get a.players.seats task.0 ≡ Some x → SlotIs shape U.places (take i es) js task.0 Over x → slice_get a.players.seats task.0 ≡ Some pass.Over
      by_seat (pass.Away r) on is = absurd is
      by_seat (pass.Stands z left) on is = absurd is
      by_seat pass.Over on is = on

  -- nor does one that has no slot
  pub unborn : PartFollows → FoldReached → length old.slots.items ≤ task.0 → Part code U es js (suc i) → ⊥
  unborn follow reached past k =
      let f = follow code U es js i (Step task act batch) a.here k in
      let low = task_inside shape code U es js i old task act batch a f reached in
      absurd (omega (arith, low, past))

  -- nor does one that travels and does not arrive
  pub stays_away : PartFollows → SeatArrives → (seat : Box Seat) → slice_get old.slots.items task.0 ≡ Some (Away seat) → ((p : PlaceId) → act ≡ Arrive p → batch ≡ [] → ⊥) → Part code U es js (suc i) → ⊥
  stays_away follow law seat at other k =
      let f = follow code U es js i (Step task act batch) a.here k in
      let only = lands_only shape code U es js i old task act batch a f seat law at k in
      other only.0 only.1 only.2

  -- the task travels, and arrives
  pub arrives : (seat : Box Seat) (p : PlaceId) → slice_get old.slots.items task.0 ≡ Some (Away seat) → act ≡ Arrive p → batch ≡ [] → i + 1 < 2 ^ 31 → (seat.value.who.task ≡ task) × MayAskAct (tree_of U.places (take i es)) seat.value.who act × Ready shape code U es js i old task act batch
  arrives seat p at is none few =
      let x = travels_so shape code U es js i old task act batch a seat at in
      let long : length (take i es) ≡ i = length-take-le i es (let l = slice_get_within es i (Step task act batch) a.here in omega (arith, l)) in (
        task-is seat.value.who.task task x.caller.0.number,
        subst (λ (v : Act). MayAskAct (tree_of U.places (take i es)) seat.value.who v) (sym is) (x.caller.2 (omega (arith, few, long))),
        record {
          awaits = record {
            script = a.script;
            players = record {
              seats = a.players.seats;
              seated = a.players.seated;
              size = a.players.size;
              each = a.players.each;
              callers = a.players.callers;
              parents = a.players.parents;
              table = a.players.table;
              marks = a.players.marks;
              rest = λ u ne. a.players.rest u tt;
            };
            here = a.here;
          };
          makes = subst (λ (v : Act). TaskMakesAct shape U es js i old a.players.seats task batch v) (sym is) (seat, at, none);
        },
      )
