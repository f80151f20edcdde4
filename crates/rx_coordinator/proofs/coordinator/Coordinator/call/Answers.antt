use Rattle.std.proofs.Common.{ℕ, ◌≡◌, ◌-◌, ◌==◌, Bool, true, false, cond, [], arith, refl, sym, ◌∙◌, ap, subst, Some, None, Err, Option, inr}
use Rattle.std.proofs.lemmas.Bool.{eq-eqb, ne_eqb, true≢false}
use Rattle.rx_rules.proofs.Common.{TaskId, PlaceId, tree_of, place_number, made_act}
use Rattle.rx_rules.specs.declared.entries.Entry.TheVariants.{Step}
use Rattle.rx_rules.specs.declared.entries.Act.TheVariants.{At as CallAct}
use Rattle.rx_finish.specs.Calls.{CallReply}
use Rattle.rx_finish.specs.declared.ledger.LedgerFault.{LedgerFault}
use Rattle.rx_counts.specs.Stands.{StandsFor}
use Rattle.rx_coordinator.specs.declared.requests.Request.TheVariants.{At}
use Rattle.rx_coordinator.specs.declared.seats.Seat.{Seat}
use Rattle.rx_coordinator.proofs.Asking.{live_seat, not_lost, act_of, made_of, act_after}
use Rattle.rx_coordinator.proofs.Allowing.{may_call, used_up}
use Rattle.rx_coordinator.proofs.Acting.{no_call, none_yet_told, some_is, rows_changed, over_put, back_out}
use Rattle.rx_coordinator.proofs.Telling.{own_call, others_told}
use Rattle.rx_coordinator.proofs.Newcomers.{child_call}
use Rattle.rx_coordinator.proofs.coordinator.Coordinator.call.Goals as goal
use Rattle.rx_coordinator.specs.Seats.{seat_at, row_of, new_seat}
use Rattle.rx_coordinator.specs.declared.seats.Seat.{Seat}
use Rattle.rx_tree_laws.proofs.Reached.{sound}
use Rattle.rx_tree_laws.proofs.Reach.{task_below}

pub returns-then-not-has_place : goal.returns-then-not-has_place
returns-then-not-has_place c = λ p es st. (no_call (tree_of p es) c.args.task c.args.to (λ low. true≢false (sym ((c.has_place.ensures p es st).1 low) ∙ c.if-not-has_place.true)), st)

pub open_at-requires : goal.open_at-requires
open_at-requires c =
    let r = c.requires in
    let T = tree_of r.0 r.1 in
    let live = live_seat c.args.self.now (r.0) (r.1) (r.2) c.args.task c.in-Some.seat (sym c.live.ensures ∙ c.in-Some.is) in
    (16 - T.places, T, r.2.tree, record { asks = live.may; target = (c.has_place.ensures (r.0) (r.1) (r.2)).0 c.if-not-has_place.false })

pub settle-requires : goal.settle-requires
settle-requires c =
    let r = c.requires in
    let T = tree_of r.0 r.1 in
    let live = live_seat c.args.self.now (r.0) (r.1) (r.2) c.args.task c.in-Some.seat (sym c.live.ensures ∙ c.in-Some.is) in
    let did = c.in-Ok-open_at.ensures (16 - T.places) T r.2.tree (record { asks = live.may; target = (c.has_place.ensures (r.0) (r.1) (r.2)).0 c.if-not-has_place.false }) in
    let next : c.in-Ok-open_at.born.child.0 ≡ T.next_task = did.0.allowed.asks.3 in
    let is : c.next_task.result ≡ T.next_task = c.next_task.ensures (16 - T.places) T r.2.tree in
    let same : (c.in-Ok-open_at.born.child.0 == c.next_task.result) ≡ true = eq-eqb c.in-Ok-open_at.born.child.0 c.next_task.result (next ∙ sym is) in
    some_is _ c.in-Some.seat (c.in-Ok.ensures.put c.in-Ok-open_at.born.child.0 ∙ ap (λ (b : Bool). cond b (Some c.in-Some.seat) (seat_at c.args.self.now.seats c.in-Ok-open_at.born.child.0)) same)

pub unreachable-requires : goal.unreachable-requires
unreachable-requires c =
    let r = c.requires in
    let T = tree_of r.0 r.1 in
    let live = live_seat c.args.self.now (r.0) (r.1) (r.2) c.args.task c.in-Some.seat (sym c.live.ensures ∙ c.in-Some.is) in
    let no = c.in-Err-NotYet.ensures (16 - T.places) T r.2.tree (record { asks = live.may; target = (c.has_place.ensures (r.0) (r.1) (r.2)).0 c.if-not-has_place.false }) in
    let so = subst (λ (f : LedgerFault). CallReply T c.in-Some.seat.who c.args.to (Err f) (StandsFor c.open_at.new.self (16 - T.places))) c.in-Err-NotYet.field-0-is no in
    so

pub unreachable-requires-in-Err-Lost : goal.unreachable-requires-in-Err-Lost
unreachable-requires-in-Err-Lost c =
    let r = c.requires in
    let T = tree_of r.0 r.1 in
    let live = live_seat c.args.self.now (r.0) (r.1) (r.2) c.args.task c.in-Some.seat (sym c.live.ensures ∙ c.in-Some.is) in
    let no = c.in-Err-Lost.ensures (16 - T.places) T r.2.tree (record { asks = live.may; target = (c.has_place.ensures (r.0) (r.1) (r.2)).0 c.if-not-has_place.false }) in
    let so = subst (λ (f : LedgerFault). CallReply T c.in-Some.seat.who c.args.to (Err f) (StandsFor c.open_at.new.self (16 - T.places))) c.in-Err-Lost.field-0-is no in
    not_lost T c.args.task c.in-Some.seat live.seat _ _ so.0

pub change-requires : goal.change-requires
change-requires c =
    let r = c.requires in
    let T = tree_of r.0 r.1 in
    let t = c.args.task in
    let w = c.in-Some.seat in
    let b = c.in-Ok-open_at.born in
    let live = live_seat c.args.self.now (r.0) (r.1) (r.2) c.args.task c.in-Some.seat (sym c.live.ensures ∙ c.in-Some.is) in
    let did = c.in-Ok-open_at.ensures (16 - T.places) T r.2.tree (record { asks = live.may; target = (c.has_place.ensures (r.0) (r.1) (r.2)).0 c.if-not-has_place.false }) in
    let next : b.child.0 ≡ T.next_task = did.0.allowed.asks.3 in
    let is : c.next_task.result ≡ T.next_task = c.next_task.ensures (16 - T.places) T r.2.tree in
    let low = task_below T.next_task T.tasks t live.seat.task (sound r.2.tree.reached).tasks_fall live.seat.stands in
    let off : (t.0 == b.child.0) ≡ false = ne_eqb t.0 b.child.0 (λ e. absurd (omega (arith, low, next, e))) in
    let off2 : (t.0 == c.next_task.result) ≡ false = ne_eqb t.0 c.next_task.result (λ e. absurd (omega (arith, low, is, e))) in
    some_is _ w (c.settle.ensures t.0 ∙ (ap (λ (k : Bool). cond k (row_of b c.place_of.result c.args.to) (seat_at c.put.new.self t.0)) off
    ∙ (c.in-Ok.ensures.put t.0 ∙ (ap (λ (k : Bool). cond k (Some w) (seat_at c.args.self.now.seats t.0)) off2 ∙ (r.2.seats t ∙ live.told)))))

pub returns-in-Ok-open_at : goal.returns-in-Ok-open_at
returns-in-Ok-open_at c = λ p es st.
    let T = tree_of p es in
    let t = c.args.task in
    let w = c.in-Some.seat in
    let b = c.in-Ok-open_at.born in
    let from = place_number w.who.place in
    let live = live_seat c.args.self.now p es st c.args.task c.in-Some.seat (sym c.live.ensures ∙ c.in-Some.is) in
    let act = CallAct from c.args.to b.scope w.who.inner b.child [] in
    let did = c.in-Ok-open_at.ensures (16 - T.places) T st.tree (record { asks = live.may; target = (c.has_place.ensures (p) (es) (st)).0 c.if-not-has_place.false }) in
    let may = act_of T t w live.seat act did.0.allowed in
    let stood = made_of c.open_at.new.self (16 - T.places) T t w live.seat act did.0.made in
    let more = c.wants_numbers.ensures.more p es st c.if-wants_numbers.false in
    let tasks = more.tasks in
    let scopes = more.scopes in
    let next : b.child.0 ≡ T.next_task = may.asks.3 in
    let is : c.next_task.result ≡ b.child.0 = c.next_task.ensures (16 - T.places) T st.tree ∙ sym next in
    let row = row_of b c.place_of.result c.args.to in (
      Step t act [],
      (from, w.who.inner, refl, did.1),
      may,
      act_after c.args.self.now _ p es t act st may stood (record { tasks = omega (arith, tasks); scopes = omega (arith, scopes) }) refl
          (rows_changed c.args.self.now.seats c.settle.new.self c.change.new.self T (made_act T t act) t b.child row _
          (λ q. c.settle.ensures q ∙ (ap (λ (o : Option Seat). cond (q == b.child.0) row o) (c.in-Ok.ensures.put q) ∙ over_put q c.next_task.result b.child.0 row (Some w) (seat_at c.args.self.now.seats q) is))
          c.change.ensures
          st.seats
          (child_call T st.tree.reached t from c.args.to b.scope w.who.inner b.child [] may
          ∙ (ap (λ (l : Bool). cond l None (Some (new_seat b.child b.scope from c.args.to))) (sym did.1)
          ∙ ap (λ (f : PlaceId). row_of b f c.args.to) (sym c.place_of.ensures)))
          (own_call T st.tree.reached t w live.told from c.args.to b.scope w.who.inner b.child [] may)
          (λ u apart new. others_told T st.tree.reached t u apart act may (λ e. new (sym e)))),
    )

pub returns-in-Err-NoMemory : goal.returns-in-Err-NoMemory
returns-in-Err-NoMemory c = λ p es st.
    let T = tree_of p es in
    let live = live_seat c.args.self.now p es st c.args.task c.in-Some.seat (sym c.live.ensures ∙ c.in-Some.is) in
    let no = c.in-Err-NoMemory.ensures (16 - T.places) T st.tree (record { asks = live.may; target = (c.has_place.ensures (p) (es) (st)).0 c.if-not-has_place.false }) in
    let same = subst (λ (f : LedgerFault). CallReply T c.in-Some.seat.who c.args.to (Err f) (StandsFor c.open_at.new.self (16 - T.places))) c.in-Err-NoMemory.field-0-is no in
    let is : c.next_task.result ≡ T.next_task = c.next_task.ensures (16 - T.places) T st.tree in
    let child : TaskId = record { 0 = c.next_task.result } in
    let none : seat_at c.args.self.now.seats c.next_task.result ≡ None = st.seats child ∙ none_yet_told T child st.tree.reached (omega (arith, is)) in (
      may_call T c.args.task c.in-Some.seat live c.args.to ((c.has_place.ensures p es st).0 c.if-not-has_place.false),
      record {
        some = st.some;
        few = st.few;
        allowed = st.allowed;
        tree = same.1;
        numbers = st.numbers;
        count = st.count;
        seats = λ t. c.leave.ensures t.0 ∙ (ap (λ (o : Option Seat). cond (t.0 == c.next_task.result) None o) (c.in-Ok.ensures.put t.0)
            ∙ (back_out t.0 c.next_task.result (Some c.in-Some.seat) (seat_at c.args.self.now.seats t.0) None (λ e. ap (λ (n : ℕ). seat_at c.args.self.now.seats n) e ∙ none) ∙ st.seats t));
      },
    )

pub returns-then-is_full : goal.returns-then-is_full
returns-then-is_full c = λ p es st.
    let live = live_seat c.args.self.now p es st c.args.task c.in-Some.seat (sym c.live.ensures ∙ c.in-Some.is) in
    (may_call (tree_of p es) c.args.task c.in-Some.seat live c.args.to ((c.has_place.ensures p es st).0 c.if-not-has_place.false), used_up c.args.self.now p es st (c.is_full.ensures.0 c.if-is_full.true) (At c.args.task c.args.to) (omega arith), st)

pub returns-then-wants_numbers : goal.returns-then-wants_numbers
returns-then-wants_numbers c = λ p es st.
    let live = live_seat c.args.self.now p es st c.args.task c.in-Some.seat (sym c.live.ensures ∙ c.in-Some.is) in
    (may_call (tree_of p es) c.args.task c.in-Some.seat live c.args.to ((c.has_place.ensures p es st).0 c.if-not-has_place.false), inr (refl, c.wants_numbers.ensures.none p es st c.if-wants_numbers.true), st)

pub returns-in_default-put : goal.returns-in_default-put
returns-in_default-put c = λ p es st.
    let live = live_seat c.args.self.now p es st c.args.task c.in-Some.seat (sym c.live.ensures ∙ c.in-Some.is) in (
      may_call (tree_of p es) c.args.task c.in-Some.seat live c.args.to ((c.has_place.ensures p es st).0 c.if-not-has_place.false),
      record { some = st.some; few = st.few; allowed = st.allowed; tree = st.tree; numbers = st.numbers; count = st.count; seats = λ t. c.in_default-put.ensures.refused t.0 ∙ st.seats t },
    )
