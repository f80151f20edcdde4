use Rattle.std.proofs.Common.{◌≡◌, ◌-◌, ◌==◌, Bool, true, cond, [], arith, refl, sym, ◌∙◌, ap, subst, Some, None, Err, Option, inr}
use Rattle.std.proofs.lemmas.Bool.{eq-eqb, true≢false}
use Rattle.rx_rules.proofs.Common.{PlaceId, tree_of, place_number, made_act}
use Rattle.rx_rules.specs.declared.entries.Entry.TheVariants.{Step}
use Rattle.rx_rules.specs.declared.entries.Act.TheVariants.{Spawn as SpawnAct}
use Rattle.rx_finish.specs.Calls.{SpawnReply}
use Rattle.rx_finish.specs.declared.ledger.LedgerFault.{LedgerFault}
use Rattle.rx_counts.specs.Stands.{StandsFor}
use Rattle.rx_coordinator.specs.declared.requests.Request.TheVariants.{Spawn}
use Rattle.rx_coordinator.specs.declared.seats.Seat.{Seat}
use Rattle.rx_coordinator.proofs.Asking.{live_seat, not_lost, act_of, made_of, act_after, row_changed}
use Rattle.rx_coordinator.proofs.Allowing.{may_spawn, used_up}
use Rattle.rx_coordinator.proofs.Acting.{no_spawn, some_is, over_put, spawn_others}
use Rattle.rx_coordinator.proofs.Newcomers.{child_spawn}
use Rattle.rx_coordinator.proofs.coordinator.Coordinator.spawn.Goals as goal
use Rattle.rx_coordinator.specs.Seats.{seat_at, row_of, new_seat}
use Rattle.rx_coordinator.specs.declared.seats.Seat.{Seat}

pub returns-then-not-has_place : goal.returns-then-not-has_place
returns-then-not-has_place c = λ p es st. (no_spawn (tree_of p es) c.args.task c.args.to (λ low. true≢false (sym ((c.has_place.ensures p es st).1 low) ∙ c.if-not-has_place.true)), st)

pub spawn-requires : goal.spawn-requires
spawn-requires c =
    let r = c.requires in
    let T = tree_of r.0 r.1 in
    let live = live_seat c.args.self.now (r.0) (r.1) (r.2) c.args.task c.in-Some.seat (sym c.live.ensures ∙ c.in-Some.is) in
    (16 - T.places, T, r.2.tree, record { asks = live.may; target = (c.has_place.ensures (r.0) (r.1) (r.2)).0 c.if-not-has_place.false })

pub settle-requires : goal.settle-requires
settle-requires c =
    let r = c.requires in
    let T = tree_of r.0 r.1 in
    let live = live_seat c.args.self.now (r.0) (r.1) (r.2) c.args.task c.in-Some.seat (sym c.live.ensures ∙ c.in-Some.is) in
    let did = c.in-Ok-spawn.ensures.replies (16 - T.places) T r.2.tree (record { asks = live.may; target = (c.has_place.ensures (r.0) (r.1) (r.2)).0 c.if-not-has_place.false }) in
    let next : c.in-Ok-spawn.born.child.0 ≡ T.next_task = did.0.allowed.asks.1 in
    let is : c.next_task.result ≡ T.next_task = c.next_task.ensures (16 - T.places) T r.2.tree in
    let same : (c.in-Ok-spawn.born.child.0 == c.next_task.result) ≡ true = eq-eqb c.in-Ok-spawn.born.child.0 c.next_task.result (next ∙ sym is) in
    some_is _ c.in-Some.seat (c.in-Ok.ensures.put c.in-Ok-spawn.born.child.0 ∙ ap (λ (b : Bool). cond b (Some c.in-Some.seat) (seat_at c.args.self.now.seats c.in-Ok-spawn.born.child.0)) same)

pub unreachable-requires : goal.unreachable-requires
unreachable-requires c =
    let r = c.requires in
    let T = tree_of r.0 r.1 in
    let live = live_seat c.args.self.now (r.0) (r.1) (r.2) c.args.task c.in-Some.seat (sym c.live.ensures ∙ c.in-Some.is) in
    let no = c.in-Err-NotYet.ensures.replies (16 - T.places) T r.2.tree (record { asks = live.may; target = (c.has_place.ensures (r.0) (r.1) (r.2)).0 c.if-not-has_place.false }) in
    let so = subst (λ (f : LedgerFault). SpawnReply T c.in-Some.seat.who c.args.to (Err f) (StandsFor c.spawn.new.self (16 - T.places))) c.in-Err-NotYet.field-0-is no in
    so

pub unreachable-requires-in-Err-Lost : goal.unreachable-requires-in-Err-Lost
unreachable-requires-in-Err-Lost c =
    let r = c.requires in
    let T = tree_of r.0 r.1 in
    let live = live_seat c.args.self.now (r.0) (r.1) (r.2) c.args.task c.in-Some.seat (sym c.live.ensures ∙ c.in-Some.is) in
    let no = c.in-Err-Lost.ensures.replies (16 - T.places) T r.2.tree (record { asks = live.may; target = (c.has_place.ensures (r.0) (r.1) (r.2)).0 c.if-not-has_place.false }) in
    let so = subst (λ (f : LedgerFault). SpawnReply T c.in-Some.seat.who c.args.to (Err f) (StandsFor c.spawn.new.self (16 - T.places))) c.in-Err-Lost.field-0-is no in
    not_lost T c.args.task c.in-Some.seat live.seat _ _ so.0

pub returns-in-Ok-spawn : goal.returns-in-Ok-spawn
returns-in-Ok-spawn c = λ p es st.
    let T = tree_of p es in
    let t = c.args.task in
    let w = c.in-Some.seat in
    let b = c.in-Ok-spawn.born in
    let from = place_number w.who.place in
    let live = live_seat c.args.self.now p es st c.args.task c.in-Some.seat (sym c.live.ensures ∙ c.in-Some.is) in
    let act = SpawnAct b.child b.scope from c.args.to [] in
    let did = c.in-Ok-spawn.ensures.replies (16 - T.places) T st.tree (record { asks = live.may; target = (c.has_place.ensures (p) (es) (st)).0 c.if-not-has_place.false }) in
    let may = act_of T t w live.seat act did.0.allowed in
    let stood = made_of c.spawn.new.self (16 - T.places) T t w live.seat act did.0.made in
    let more = c.wants_numbers.ensures.more p es st c.if-wants_numbers.false in
    let tasks = more.tasks in
    let scopes = more.scopes in
    let next : b.child.0 ≡ T.next_task = may.asks.1 in
    let is : c.next_task.result ≡ b.child.0 = c.next_task.ensures (16 - T.places) T st.tree ∙ sym next in
    let row = row_of b c.place_of.result c.args.to in (
      Step t act [],
      (from, refl, did.1),
      may,
      act_after c.args.self.now _ p es t act st may stood (record { tasks = omega (arith, tasks); scopes = omega (arith, scopes) }) refl
          (row_changed c.args.self.now.seats c.settle.new.self T (made_act T t act) b.child row
          (λ q. c.settle.ensures q ∙ (ap (λ (o : Option Seat). cond (q == b.child.0) row o) (c.in-Ok.ensures.put q) ∙ over_put q c.next_task.result b.child.0 row (Some w) (seat_at c.args.self.now.seats q) is))
          st.seats
          (child_spawn T st.tree.reached t b.child b.scope from c.args.to [] may
          ∙ (ap (λ (l : Bool). cond l None (Some (new_seat b.child b.scope from c.args.to))) (sym did.1)
          ∙ ap (λ (f : PlaceId). row_of b f c.args.to) (sym c.place_of.ensures)))
          (λ u apart. spawn_others T st.tree.reached t w live.told b.child b.scope from c.args.to may u apart)),
    )

pub returns-then-is_full : goal.returns-then-is_full
returns-then-is_full c = λ p es st.
    let live = live_seat c.args.self.now p es st c.args.task c.in-Some.seat (sym c.live.ensures ∙ c.in-Some.is) in
    (may_spawn (tree_of p es) c.args.task c.in-Some.seat live c.args.to ((c.has_place.ensures p es st).0 c.if-not-has_place.false), used_up c.args.self.now p es st (c.is_full.ensures.0 c.if-is_full.true) (Spawn c.args.task c.args.to) (omega arith), st)

pub returns-then-wants_numbers : goal.returns-then-wants_numbers
returns-then-wants_numbers c = λ p es st.
    let live = live_seat c.args.self.now p es st c.args.task c.in-Some.seat (sym c.live.ensures ∙ c.in-Some.is) in
    (may_spawn (tree_of p es) c.args.task c.in-Some.seat live c.args.to ((c.has_place.ensures p es st).0 c.if-not-has_place.false), inr (refl, c.wants_numbers.ensures.none p es st c.if-wants_numbers.true), st)

pub returns-in_default-put : goal.returns-in_default-put
returns-in_default-put c = λ p es st.
    let live = live_seat c.args.self.now p es st c.args.task c.in-Some.seat (sym c.live.ensures ∙ c.in-Some.is) in (
      may_spawn (tree_of p es) c.args.task c.in-Some.seat live c.args.to ((c.has_place.ensures p es st).0 c.if-not-has_place.false),
      record { some = st.some; few = st.few; allowed = st.allowed; tree = st.tree; numbers = st.numbers; count = st.count; seats = λ t. c.in_default-put.ensures.refused t.0 ∙ st.seats t },
    )
