use Rattle.std.proofs.Common.{◌+◌, ◌-◌, [], arith, refl, sym, ◌∙◌, subst, Err}
use Rattle.rx_rules.specs.declared.entries.Entry.TheVariants.{Step}
use Rattle.rx_rules.specs.declared.entries.Act.TheVariants.{Wait as WaitAct}
use Rattle.rx_rules.proofs.Common.{tree_of, made_act}
use Rattle.rx_finish.specs.Calls.{WaitReply}
use Rattle.rx_finish.specs.declared.ledger.LedgerFault.{LedgerFault}
use Rattle.rx_counts.specs.Stands.{StandsFor}
use Rattle.rx_coordinator.specs.declared.requests.Request.TheVariants.{Wait}
use Rattle.rx_coordinator.specs.declared.requests.Answer.TheVariants.{NoMemory, Waits}
use Rattle.rx_coordinator.specs.declared.coordinator.Coordinator.{Coordinator}
use Rattle.rx_coordinator.proofs.Asking.{live_seat, not_lost, act_of, made_of, act_after, row_changed}
use Rattle.rx_coordinator.proofs.Allowing.{may_wait, used_up}
use Rattle.rx_coordinator.proofs.Acting.{wait_may, no_wait, no_finish, asked_as, same_of, other_of}
use Rattle.rx_coordinator.proofs.Telling.{own_wait, others_told}
use Rattle.rx_coordinator.proofs.coordinator.Coordinator.wait.Goals as goal
use Rattle.rx_coordinator.proofs.coordinator.Coordinator.wait.Goals.{in-Ok, in-Err-NoMemory-default}

pub returns-then-eq : goal.returns-then-eq
returns-then-eq c = λ p es st.
    let live = live_seat c.args.self.now (p) (es) (st) c.args.task c.in-Some.seat (sym c.live.ensures ∙ c.in-Some.is) in
    (no_wait (tree_of p es) c.args.task c.in-Some.seat c.args.thrown st.tree.reached live.seat (same_of c.in-Some.seat.who.inner c.in-Some.seat.who.scope c.if-eq.ensures), st)

pub returns-then-not-is_finish : goal.returns-then-not-is_finish
returns-then-not-is_finish c = λ p es st.
    let live = live_seat c.args.self.now (p) (es) (st) c.args.task c.in-Some.seat (sym c.live.ensures ∙ c.in-Some.is) in
    (no_finish (tree_of p es) c.args.task c.in-Some.seat c.args.thrown st.tree.reached live.seat (sym (c.is_finish.ensures p es st) ∙ c.if-not-is_finish.true), st)

pub wait-requires : goal.wait-requires
wait-requires c =
    let r = c.requires in
    let T = tree_of r.0 r.1 in
    let live = live_seat c.args.self.now (r.0) (r.1) (r.2) c.args.task c.in-Some.seat (sym c.live.ensures ∙ c.in-Some.is) in
    (16 - T.places, T, r.2.tree, wait_may T c.args.task c.in-Some.seat r.2.tree.reached r.2.numbers live (other_of c.in-Some.seat.who.inner c.in-Some.seat.who.scope c.if-eq.ensures) (sym (c.is_finish.ensures r.0 r.1 r.2) ∙ c.if-not-is_finish.false))

pub unreachable-requires : goal.unreachable-requires
unreachable-requires c =
    let r = c.requires in
    let T = tree_of r.0 r.1 in
    let live = live_seat c.args.self.now (r.0) (r.1) (r.2) c.args.task c.in-Some.seat (sym c.live.ensures ∙ c.in-Some.is) in
    let no = c.in-Err-NotYet-default.ensures (16 - T.places) T r.2.tree (wait_may T c.args.task c.in-Some.seat r.2.tree.reached r.2.numbers live (other_of c.in-Some.seat.who.inner c.in-Some.seat.who.scope c.if-eq.ensures) (sym (c.is_finish.ensures (r.0) (r.1) (r.2)) ∙ c.if-not-is_finish.false)) in
    let so = subst (λ (f : LedgerFault). WaitReply T c.in-Some.seat.who c.args.thrown (Err (f, c.in-Err-NotYet-default.field-0-1)) (StandsFor c.wait.new.self (16 - T.places))) c.in-Err-NotYet-default.field-0-0-is no in
    so

pub unreachable-requires-in-Err-Lost-default : goal.unreachable-requires-in-Err-Lost-default
unreachable-requires-in-Err-Lost-default c =
    let r = c.requires in
    let T = tree_of r.0 r.1 in
    let live = live_seat c.args.self.now (r.0) (r.1) (r.2) c.args.task c.in-Some.seat (sym c.live.ensures ∙ c.in-Some.is) in
    let no = c.in-Err-Lost-default.ensures (16 - T.places) T r.2.tree (wait_may T c.args.task c.in-Some.seat r.2.tree.reached r.2.numbers live (other_of c.in-Some.seat.who.inner c.in-Some.seat.who.scope c.if-eq.ensures) (sym (c.is_finish.ensures (r.0) (r.1) (r.2)) ∙ c.if-not-is_finish.false)) in
    let so = subst (λ (f : LedgerFault). WaitReply T c.in-Some.seat.who c.args.thrown (Err (f, c.in-Err-Lost-default.field-0-1)) (StandsFor c.wait.new.self (16 - T.places))) c.in-Err-Lost-default.field-0-0-is no in
    not_lost T c.args.task c.in-Some.seat live.seat _ _ so.0

pub returns : goal.returns
returns c = λ p es st.
    let T = tree_of p es in
    let t = c.args.task in
    let w = c.in-Some.seat in
    let live = live_seat c.args.self.now p es st c.args.task c.in-Some.seat (sym c.live.ensures ∙ c.in-Some.is) in
    elim c.match-wait.branch [
      | in-Ok b ↦
          let act = WaitAct w.who.inner c.args.thrown in
          let did = b.in-Ok.ensures (16 - T.places) T st.tree (wait_may T c.args.task c.in-Some.seat st.tree.reached st.numbers live (other_of c.in-Some.seat.who.inner c.in-Some.seat.who.scope c.if-eq.ensures) (sym (c.is_finish.ensures (p) (es) (st)) ∙ c.if-not-is_finish.false)) in
          let may = act_of T t w live.seat act did.allowed in
          let stood = made_of c.wait.new.self (16 - T.places) T t w live.seat act did.made in
          asked_as p es (Wait t c.args.thrown) _ Waits _ (let d : Coordinator = record { ledger = c.wait.new.self; seats = b.change.new.self; entries = c.args.self.now.entries + 1 } in d) b.result-is b.self-is (
            Step t act [],
            (w.who.inner, refl),
            may,
            act_after c.args.self.now _ p es t act st may stood (record { tasks = st.numbers.tasks; scopes = st.numbers.scopes }) refl
                (row_changed c.args.self.now.seats b.change.new.self T (made_act T t act) t _ b.change.ensures st.seats (own_wait T st.tree.reached t w live.told w.who.inner c.args.thrown may)
                (λ u apart. others_told T st.tree.reached t u apart act may tt)),
          )
      | in-Err-NoMemory-default b ↦
          let no = b.in-Err-NoMemory-default.ensures (16 - T.places) T st.tree (wait_may T c.args.task c.in-Some.seat st.tree.reached st.numbers live (other_of c.in-Some.seat.who.inner c.in-Some.seat.who.scope c.if-eq.ensures) (sym (c.is_finish.ensures (p) (es) (st)) ∙ c.if-not-is_finish.false)) in
          let so = subst (λ (f : LedgerFault). WaitReply T c.in-Some.seat.who c.args.thrown (Err (f, b.in-Err-NoMemory-default.field-0-1)) (StandsFor c.wait.new.self (16 - T.places))) b.in-Err-NoMemory-default.field-0-0-is no in
          asked_as p es (Wait t c.args.thrown) _ NoMemory _ (let d : Coordinator = record { ledger = c.wait.new.self; seats = c.args.self.now.seats; entries = c.args.self.now.entries } in d) b.result-is b.self-is (may_wait (tree_of p es) c.args.task c.in-Some.seat live c.args.thrown st.tree.reached (other_of c.in-Some.seat.who.inner c.in-Some.seat.who.scope c.if-eq.ensures) (sym (c.is_finish.ensures p es st) ∙ c.if-not-is_finish.false), record { some = st.some; few = st.few; allowed = st.allowed; tree = so.2; numbers = st.numbers; count = st.count; seats = st.seats })
    ]

pub returns-then-is_full : goal.returns-then-is_full
returns-then-is_full c = λ p es st.
    let live = live_seat c.args.self.now p es st c.args.task c.in-Some.seat (sym c.live.ensures ∙ c.in-Some.is) in
    (may_wait (tree_of p es) c.args.task c.in-Some.seat live c.args.thrown st.tree.reached (other_of c.in-Some.seat.who.inner c.in-Some.seat.who.scope c.if-eq.ensures) (sym (c.is_finish.ensures p es st) ∙ c.if-not-is_finish.false), used_up c.args.self.now p es st (c.is_full.ensures.0 c.if-is_full.true) (Wait c.args.task c.args.thrown) (omega arith), st)
