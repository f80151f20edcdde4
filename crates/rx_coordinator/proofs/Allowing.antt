-- Requests that may be made: an entry for each.
use Rattle.std.proofs.Common.{◌≡◌, ◌≢◌, ℕ, ◌-◌, ◌<◌, ◌≤◌, ◌^◌, true, List, [], length, is_some, refl, arith, inl}
use Rattle.rx_rules.proofs.Common.{TaskId, ScopeId, PlaceId, Fault, Tree, scope_of, inner, governs, death_of, Allowed, tree_of, Reached}
use Rattle.rx_rules.specs.declared.tasks.Where.{Where}
use Rattle.rx_rules.specs.declared.tasks.Where.TheVariants.{At, Travel}
use Rattle.rx_rules.specs.declared.entries.Act.TheVariants.{Open as OpenAct, At as CallAct, Spawn as SpawnAct, Arrive as ArriveAct, Wait as WaitAct, End as EndAct}
use Rattle.rx_rules.specs.declared.entries.Entry.{Entry}
use Rattle.rx_rules.specs.declared.entries.Entry.TheVariants.{Step, Death as DeathEntry, Join as JoinEntry}
use Rattle.rx_finish.specs.declared.ledger.Born.{Born}
use Rattle.rx_finish.specs.Callers.{does_travel}
use Rattle.rx_coordinator.specs.declared.seats.Seat.{Seat}
use Rattle.rx_coordinator.specs.declared.coordinator.Coordinator.{Coordinator}
use Rattle.rx_coordinator.specs.declared.requests.Request.{Request}
use Rattle.rx_coordinator.specs.declared.requests.Request.TheVariants.{Open, At as CallIt, Spawn, Arrive, Wait, End, Death, Join}
use Rattle.rx_coordinator.specs.declared.requests.Answer.TheVariants.{Opened, Called, Spawned, Landed, Waits, Ended, Died, Joined}
use Rattle.rx_coordinator.specs.Stands.{StandsAfter, HasEntry, Awaits, IsUsedUp, turns}
use Rattle.rx_coordinator.specs.Inside.Rows.{finish_in}
use Rattle.rx_coordinator.proofs.Asking.{LiveSeat}
use Rattle.rx_coordinator.proofs.Acting.{AwaySeat, HeldSeat, own_of, finish_of, bare_of}

module _ (T : Tree) (t : TaskId) (w : Seat) (live : LiveSeat T t w) where
  pub may_open : HasEntry T (Open t)
  may_open =
      let s : ScopeId = record { 0 = T.next_scope } in
      let x = live.seat.task in
      let m = live.moving in
      (Opened s, Step t (OpenAct s (inner T x) []) [], (inner T x, refl), record { task = x; stands = live.seat.stands; unstruck = live.seat.unstruck; asks = ((m.place, (m.is_at, m.moves)), refl, refl) })

  pub may_call : (to : PlaceId) → to.0 < T.places → HasEntry T (CallIt t to)
  may_call to low =
      let b : Born = record { child = record { 0 = T.next_task }; scope = record { 0 = T.next_scope }; lost = is_some (death_of T to) } in
      let x = live.seat.task in
      let m = live.moving in
      (Called b, Step t (CallAct m.place to b.scope (inner T x) b.child []) [], (m.place, inner T x, refl, refl), record { task = x; stands = live.seat.stands; unstruck = live.seat.unstruck; asks = ((m.is_at, m.moves), refl, refl, refl, low) })

  pub may_spawn : (to : PlaceId) → to.0 < T.places → HasEntry T (Spawn t to)
  may_spawn to low =
      let x = live.seat.task in
      let m = live.moving in
      let b : Born = record { child = record { 0 = T.next_task }; scope = governs T x; lost = is_some (death_of T to) } in
      (Spawned b, Step t (SpawnAct b.child b.scope m.place to []) [], (m.place, refl, refl), record { task = x; stands = live.seat.stands; unstruck = live.seat.unstruck; asks = ((m.is_at, m.moves), refl, refl, low) })

  pub may_end : (thrown : List Fault) → Reached T → w.who.inner ≡ w.who.scope → HasEntry T (End t thrown)
  may_end thrown r e =
      let m = live.moving in
      (Ended, Step t (EndAct thrown) [], refl, record { task = live.seat.task; stands = live.seat.stands; unstruck = live.seat.unstruck; asks = ((m.place, (m.is_at, m.moves)), bare_of T t w r live.seat e) })

  pub may_wait : (thrown : List Fault) → Reached T → w.who.inner ≢ w.who.scope → finish_in (scope_of T w.who.inner) ≡ true → HasEntry T (Wait t thrown)
  may_wait thrown r ne seen =
      let m = live.moving in
      let own = own_of T t w live.seat ne in
      let g = own.0 in
      (Waits, Step t (WaitAct g.number thrown) [], (g.number, refl), record { task = live.seat.task; stands = live.seat.stands; unstruck = live.seat.unstruck; asks = ((m.place, (m.is_at, m.moves)), g, (own.1, refl), finish_of T t w live.seat g r own.1 seen) })

travels : (v : Where) → does_travel v ≡ true → (from : PlaceId) × (p : PlaceId) × (v ≡ Travel from p)
travels (At p) e = (let v : ⊥ = cc in absurd v)
travels (Travel from p) e = (from, p, refl)

pub may_arrive : (T : Tree) (t : TaskId) (w : Seat) → AwaySeat T t w → HasEntry T (Arrive t)
may_arrive T t w a =
    let x = a.seat.task in
    let way = travels x.place a.goes in
    (Landed, Step t (ArriveAct way.1) [], (way.1, refl), record { task = x; stands = a.seat.stands; unstruck = a.seat.unstruck; asks = (way.0, way.2) })

pub may_death : (T : Tree) (d : PlaceId) → Allowed T (DeathEntry d) → HasEntry T (Death d)
may_death T d may = (Died, DeathEntry d, refl, may)

pub may_join : (T : Tree) → T.places < length T.dead → HasEntry T Join
may_join T low = (let q : PlaceId = record { 0 = T.places } in (Joined q, JoinEntry q, refl, (refl, low)))

-- a task that holds waits
pub may_release : (T : Tree) (t : TaskId) (w : Seat) → HeldSeat T t w → Awaits T t
may_release T t w h = record { task = h.seat.task; stands = h.seat.stands; unstruck = h.seat.unstruck; waits = h.waits }

-- no entry more may be added
pub used_up : (c : Coordinator) (p : ℕ) (es : List Entry) → StandsAfter c p es → 2 ^ 32 - 1 ≤ c.entries → (q : Request) → 1 ≤ turns q → IsUsedUp (tree_of p es) (length es) q
used_up c p es st full q one =
    let same : c.entries ≡ length es = st.count in
    inl (omega (arith, full, one, same))
