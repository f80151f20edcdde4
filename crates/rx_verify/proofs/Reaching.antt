-- A task that has stopped: whether it makes such an act, and that the ledger may be asked for it then.
use Rattle.std.proofs.Common.{◌≡◌, ℕ, suc, ◌+◌, ◌<◌, ◌^◌, Bool, true, false, List, length, take, Option, Some, None, MatchOption, ℤ, refl, ap, sym, subst, ◌∙◌, arith}
use Rattle.std.proofs.lemmas.Bool.{true≢false}
use Rattle.std.proofs.lemmas.List.{length-take-le}
use Rattle.std.proofs.lemmas.Option.{slice_get_within}
use Rattle.rx_rules.proofs.Common.{PlaceId, TaskId, Fault, Block, tree_of, Given, Does, Opens, Calls, Spawns, Waits, Releases, Prints, Counts, Tree}
use Rattle.rx_base.proofs.SameIds.{task-is}
use Rattle.rx_rules.specs.declared.entries.Act.{Act}
use Rattle.rx_rules.specs.declared.entries.Act.TheVariants.{Open, At as Called, Spawn, Arrive, Wait, Release, End, Print, Census}
use Rattle.rx_rules.specs.declared.entries.Entry.{Entry}
use Rattle.rx_rules.specs.declared.entries.Entry.TheVariants.{Step}
use Rattle.rx_rules.specs.declared.events.PlaceEvent.{PlaceEvent}
use Rattle.rx_finish.specs.declared.ledger.Caller.{Caller}
use Rattle.rx_finish.specs.Callers.{MayAskEnd}
use Rattle.rx_ledger.specs.TermAsks.{MayAskAct, MayAskNext}
use Rattle.rx_syntax.specs.Shape.{Shape}
use Rattle.rx_history.specs.declared.step.Want.{Want}
use Rattle.rx_history.specs.declared.step.Want.TheVariants as want
use Rattle.rx_history.specs.declared.step.Next.TheVariants.{Book}
use Rattle.rx_history.specs.Next.{next_of}
use Rattle.rx_verdict.specs.Seats as pass
use Rattle.rx_verdict.specs.Seats.{PartFollows, SeatAsks, SeatEnds}
use Rattle.rx_verdict.specs.Verdicts.{Part}
use Rattle.rx_verdict.specs.Walks.{next_does}
use Rattle.rx_verify.specs.declared.seat.Stop.{Stop}
use Rattle.rx_verify.specs.declared.seat.Stop.TheVariants.{Asks, Ends, Halts}
use Rattle.rx_verify.specs.declared.players.Slot.TheVariants.{Here}
use Rattle.rx_verify.specs.declared.players.Players.{Players}
use Rattle.rx_verify.specs.Callers.{CallerIs}
use Rattle.rx_verify.specs.Players.{Awaits, IsSeat}
use Rattle.rx_verify.specs.Reaching.{wanted, right, TaskMakesAct, Ready, Reached}
use Rattle.rx_verify.specs.Inside.Admitted.{GoesAfter, NoneMakes, OneMakes, Stopped}
use Rattle.rx_verify.proofs.AdmitAsked.{asks_only}
use Rattle.rx_verify.proofs.AdmitPlayers.{ends_only}
use Rattle.rx_verify.proofs.AdmitRequests.{fits_cut, sent}
use Rattle.rx_verify.proofs.Callers.{folds_so, may_ask}
use Rattle.rx_plan.proofs.Requests.{asks_end}

-- The act for which the ledger may be asked, where the next step may be.

module _ (T : Tree) (who : Caller) (here : PlaceId) where
  -- an act of another kind is none that is wanted
  wrong : {P : Type 0} (b : Bool) → b ≡ true → b ≡ false → P
  wrong b one other = absurd (true≢false (sym one ∙ other))

  of_open : (act : Act) → wanted want.Open here act ≡ true → MayAskNext T who Opens → MayAskAct T who act
  of_open (Open s r x) e m = m
  of_open act e m = wrong false e refl

  of_call : (place : ℕ) (act : Act) → wanted (want.At (record { 0 = place })) here act ≡ true → MayAskNext T who (Calls place) → MayAskAct T who act
  of_call place (Called from to s r c x) e m = record { asks = m.asks; target = subst (λ (n : ℕ). n < T.places) (sym (sent to from here place e).0) m.target }
  of_call place act e m = wrong false e refl

  of_spawn : (place : ℕ) (act : Act) → wanted (want.Spawn (record { 0 = place })) here act ≡ true → MayAskNext T who (Spawns place) → MayAskAct T who act
  of_spawn place (Spawn c s from to x) e m = record { asks = m.asks; target = subst (λ (n : ℕ). n < T.places) (sym (sent to from here place e).0) m.target }
  of_spawn place act e m = wrong false e refl

  of_wait : (faults : List Fault) (act : Act) → wanted want.Wait here act ≡ true → MayAskNext T who (Waits faults) → MayAskAct T who act
  of_wait faults (Wait s thrown) e m = m
  of_wait faults act e m = wrong false e refl

  of_release : (act : Act) → wanted want.Release here act ≡ true → MayAskNext T who Releases → MayAskAct T who act
  of_release (Release s lost masked thrown) e m = m
  of_release act e m = wrong false e refl

  of_print : (value : ℤ) (act : Act) → wanted (want.Print value) here act ≡ true → MayAskNext T who (Prints value) → MayAskAct T who act
  of_print value (Print z x) e m = m
  of_print value act e m = wrong false e refl

  of_census : (name : ℕ) (act : Act) → wanted want.Census here act ≡ true → MayAskNext T who (Counts name) → MayAskAct T who act
  of_census name (Census n x) e m = m
  of_census name act e m = wrong false e refl

  of_end : (act : Act) → right Ends here act ≡ true → MayAskEnd T who → MayAskAct T who act
  of_end (End thrown) e m = m
  of_end act e m = wrong false e refl

  of_want : (d : Does) (act : Act) (w : Want) → next_of d ≡ Book w → wanted w here act ≡ true → MayAskNext T who d → MayAskAct T who act
  of_want Opens act w is e m = let same : w ≡ want.Open = cc in of_open act (subst (λ (v : Want). wanted v here act ≡ true) same e) m
  of_want (Calls place) act w is e m = let same : w ≡ want.At (record { 0 = place }) = cc in of_call place act (subst (λ (v : Want). wanted v here act ≡ true) same e) m
  of_want (Spawns place) act w is e m = let same : w ≡ want.Spawn (record { 0 = place }) = cc in of_spawn place act (subst (λ (v : Want). wanted v here act ≡ true) same e) m
  of_want (Waits faults) act w is e m = let same : w ≡ want.Wait = cc in of_wait faults act (subst (λ (v : Want). wanted v here act ≡ true) same e) m
  of_want Releases act w is e m = let same : w ≡ want.Release = cc in of_release act (subst (λ (v : Want). wanted v here act ≡ true) same e) m
  of_want (Prints value) act w is e m = let same : w ≡ want.Print value = cc in of_print value act (subst (λ (v : Want). wanted v here act ≡ true) same e) m
  of_want (Counts name) act w is e m = let same : w ≡ want.Census = cc in of_census name act (subst (λ (v : Want). wanted v here act ≡ true) same e) m
  of_want _ act w is e m = absurd (let g : ⊥ = cc in g)

-- What is made where a task has stopped.

unwanted : (w : Want) (here p : PlaceId) → wanted w here (Arrive p) ≡ true → ⊥
unwanted want.Open here p e = true≢false (sym e)
unwanted (want.At place) here p e = true≢false (sym e)
unwanted (want.Spawn place) here p e = true≢false (sym e)
unwanted want.Wait here p e = true≢false (sym e)
unwanted want.Release here p e = true≢false (sym e)
unwanted (want.Print value) here p e = true≢false (sym e)
unwanted want.Census here p e = true≢false (sym e)

unended : (w : Want) (here : PlaceId) (thrown : List Fault) → wanted w here (End thrown) ≡ true → ⊥
unended want.Open here thrown e = true≢false (sym e)
unended (want.At place) here thrown e = true≢false (sym e)
unended (want.Spawn place) here thrown e = true≢false (sym e)
unended want.Wait here thrown e = true≢false (sym e)
unended want.Release here thrown e = true≢false (sym e)
unended (want.Print value) here thrown e = true≢false (sym e)
unended want.Census here thrown e = true≢false (sym e)

-- no arrival
unarrived : (stop : Stop) (here p : PlaceId) → right stop here (Arrive p) ≡ true → ⊥
unarrived (Asks w) here p e = unwanted w here p e
unarrived Ends here p e = true≢false (sym e)
unarrived Halts here p e = true≢false (sym e)

-- an end where the task ends
pub right_end : (stop : Stop) (here : PlaceId) (thrown : List Fault) → right stop here (End thrown) ≡ true → stop ≡ Ends
right_end (Asks w) here thrown e = absurd (unended w here thrown e)
right_end Ends here thrown e = refl
right_end Halts here thrown e = absurd (true≢false (sym e))

-- any other act where it asks for it
unmade : (here : PlaceId) (act : Act) → GoesAfter act → right Ends here act ≡ true → ⊥
unmade here (End thrown) g e = g
unmade here act g e = true≢false (sym e)

pub right_ask : (stop : Stop) (here : PlaceId) (act : Act) → GoesAfter act → right stop here act ≡ true → (w : Want) × (stop ≡ Asks w) × (wanted w here act ≡ true)
right_ask (Asks w) here act g e = (w, refl, e)
right_ask Ends here act g e = absurd (unmade here act g e)
right_ask Halts here act g e = absurd (true≢false (sym e))

-- what is neither an arrival nor an end goes on
pub goes_after : (act : Act) → ((p : PlaceId) → act ≡ Arrive p → ⊥) → ((thrown : List Fault) → act ≡ End thrown → ⊥) → GoesAfter act
goes_after (Arrive p) a b = a p refl
goes_after (End thrown) a b = b thrown refl
goes_after act a b = tt

-- A task that has stopped before entry i.

module _ (shape : Shape) (code : Block) (U : Given) (es : List Entry) (js : List (List PlaceEvent)) (i : ℕ) (ps : Players) (task : TaskId) (act : Act) (batch : List (List ℕ)) where
  -- where it makes no such act the entry is none of a run
  pub unright : (stop : Stop) (h : Stopped shape code U es js i ps task act batch stop) → PartFollows → SeatAsks → SeatEnds → (stop ≡ Halts → Part code U es js (suc i) → ⊥) → right stop h.stops.seat.value.home act ≡ false → Part code U es js (suc i) → ⊥
  unright (Asks w) h follow asks ends halts e k =
      let f = follow code U es js i (Step task act batch) h.awaits.here k in
      let fits = asks_only shape code U es js i ps task act batch w h f asks k in
      true≢false (sym ((fits_cut h.stops.seat.value.home h.stops.player.term (next_does h.stops.seat.value.home h.stops.player) act w h.stops.stops).0 fits).0 ∙ e)
  unright Ends h follow asks ends halts e k =
      let f = follow code U es js i (Step task act batch) h.awaits.here k in
      true≢false (sym (ap (right Ends h.stops.seat.value.home) (ends_only shape code U es js i ps task act batch h ends f k)) ∙ e)
  unright Halts h follow asks ends halts e k = halts refl k

  -- and where it does the ledger may be asked
  may_next : (stop : Stop) (h : Stopped shape code U es js i ps task act batch stop) → i + 1 < 2 ^ 31 → (h.stops.seat.value.who.task ≡ task) × MayAskNext (tree_of U.places (take i es)) h.stops.seat.value.who (next_does h.stops.seat.value.home h.stops.player)
  may_next stop h few =
      let s = h.stops in
      let p = h.awaits.players in
      let is : IsSeat shape U.places (take i es) js task.0 s.seat.value s.player s.left = p.each task.0 (Here s.seat) (pass.Stands s.player s.left) s.slot s.stands in
      let c : CallerIs U (take i es) task.0 (Here s.seat) (pass.Stands s.player s.left) = p.callers task.0 (Here s.seat) (pass.Stands s.player s.left) s.slot s.stands in
      let long : length (take i es) ≡ i = length-take-le i es (let l = slice_get_within es i (Step task act batch) h.awaits.here in omega (arith, l)) in (
        task-is s.seat.value.who.task task c.0.number,
        may_ask U (take i es) (folds_so code U (take i es) js p.seats p.seated) task s.seat.value s.player is.known c.0 c.1 (omega (arith, few, long)),
      )

  may_act : (T : Tree) (who : Caller) (stop : Stop) (h : Stopped shape code U es js i ps task act batch stop) → right stop h.stops.seat.value.home act ≡ true → MayAskNext T who (next_does h.stops.seat.value.home h.stops.player) → MayAskAct T who act
  may_act T who (Asks w) h e m = of_want T who h.stops.seat.value.home (next_does h.stops.seat.value.home h.stops.player) act w h.stops.stops e m
  may_act T who Ends h e m =
      let d = asks_end (next_does h.stops.seat.value.home h.stops.player) h.stops.stops in
      of_end T who h.stops.seat.value.home act e (subst (λ (z : Does). MayAskNext T who z) d.1 m)
  may_act T who Halts h e m = absurd (true≢false (sym e))

  makes_so : (stop : Stop) (h : Stopped shape code U es js i ps task act batch stop) (v : Act) → right stop h.stops.seat.value.home v ≡ true → TaskMakesAct shape U es js i ps h.awaits.players.seats task batch v
  makes_so stop h (Arrive p) e = absurd (unarrived stop h.stops.seat.value.home p e)
  makes_so stop h v e = (stop, h.stops, h.whole, e)

  pub reaches : (stop : Stop) (h : Stopped shape code U es js i ps task act batch stop) → right stop h.stops.seat.value.home act ≡ true → i + 1 < 2 ^ 31 → (h.stops.seat.value.who.task ≡ task) × MayAskAct (tree_of U.places (take i es)) h.stops.seat.value.who act × Ready shape code U es js i ps task act batch
  reaches stop h e few =
      let m = may_next stop h few in
      (m.0, may_act (tree_of U.places (take i es)) h.stops.seat.value.who stop h e m.1, record { awaits = h.awaits; makes = makes_so stop h act e })

  -- Back again.

  stops_so : (v : Act) (a : Ready shape code U es js i ps task act batch) → GoesAfter v → TaskMakesAct shape U es js i ps a.awaits.players.seats task batch v → (stop : Stop) × (h : Stopped shape code U es js i ps task act batch stop) × (right stop h.stops.seat.value.home v ≡ true)
  stops_so (Arrive p) a g m = absurd g
  stops_so (End thrown) a g m = absurd g
  stops_so v a g m = (m.0, record { awaits = a.awaits; stops = m.1; whole = m.2 }, m.3)

  -- a task that asks for it
  pub asks_so : Ready shape code U es js i ps task act batch → GoesAfter act → (w : Want) × (h : Stopped shape code U es js i ps task act batch (Asks w)) × (wanted w h.stops.seat.value.home act ≡ true)
  asks_so a g =
      let s = stops_so act a g a.makes in
      let r = right_ask s.0 s.1.stops.seat.value.home act g s.2 in
      let both : (h : Stopped shape code U es js i ps task act batch (Asks r.0)) × (right (Asks r.0) h.stops.seat.value.home act ≡ true) = subst (λ (stop : Stop). (h : Stopped shape code U es js i ps task act batch stop) × (right stop h.stops.seat.value.home act ≡ true)) r.1 (s.1, s.2) in
      (r.0, both.0, both.1)

-- a task that ends
pub ends_so : (shape : Shape) (code : Block) (U : Given) (es : List Entry) (js : List (List PlaceEvent)) (i : ℕ) (ps : Players) (task : TaskId) (thrown : List Fault) (batch : List (List ℕ)) → Ready shape code U es js i ps task (End thrown) batch → Stopped shape code U es js i ps task (End thrown) batch Ends
ends_so shape code U es js i ps task thrown batch a =
    let m = a.makes in
    subst (λ (stop : Stop). Stopped shape code U es js i ps task (End thrown) batch stop) (right_end m.0 m.1.seat.value.home thrown m.3) (record { awaits = a.awaits; stops = m.1; whole = m.2 })

-- the call that walks: a task that has stopped, and who asks there
pub reached_by : (shape : Shape) (js : List (List PlaceEvent)) (i : ℕ) (old new : Players) (task : TaskId) (act : Act) (batch : List (List ℕ)) (stop : Stop) (o : Option Caller) → i + 1 < 2 ^ 31 → PartFollows → SeatAsks → SeatEnds → MatchOption o (NoneMakes new.slots.items task stop act) (OneMakes new.slots.items task stop act)
    → ((code : Block) (U : Given) (es : List Entry) → Awaits shape code U es js i old (Step task act batch) → (h : Stopped shape code U es js i new task act batch stop) × (stop ≡ Halts → Part code U es js (suc i) → ⊥)) → Reached shape js i old new task act batch o
reached_by shape js i old new task act batch stop None few follow asks ends none h = λ code U es a k.
    let s = h code U es a in
    unright shape code U es js i new task act batch stop s.0 follow asks ends s.1 (none s.0.stops.seat s.0.stops.slot) k
reached_by shape js i old new task act batch stop (Some who) few follow asks ends one h = λ code U es a.
    let s = h code U es a in
    let o = one s.0.stops.seat s.0.stops.slot in
    let r = reaches shape code U es js i new task act batch stop s.0 o.0 few in
    (ap (λ (w : Caller). w.task) o.1 ∙ r.0, subst (λ (w : Caller). MayAskAct (tree_of U.places (take i es)) w act) (sym o.1) r.1, r.2)
