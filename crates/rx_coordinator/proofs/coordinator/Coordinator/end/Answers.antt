use Rattle.std.proofs.Common.{◌+◌, ◌-◌, [], arith, refl, sym, ◌∙◌, subst, None, Err}
use Rattle.rx_rules.specs.declared.entries.Entry.TheVariants.{Step}
use Rattle.rx_rules.specs.declared.entries.Act.TheVariants.{End as EndAct}
use Rattle.rx_rules.proofs.Common.{tree_of, made_act}
use Rattle.rx_finish.specs.Calls.{EndReply}
use Rattle.rx_finish.specs.declared.ledger.LedgerFault.{LedgerFault}
use Rattle.rx_finish.specs.Callers.{HasNumbers}
use Rattle.rx_ledger.proofs.Others.{ended}
use Rattle.rx_counts.specs.Stands.{StandsFor}
use Rattle.rx_coordinator.specs.declared.requests.Request.TheVariants.{End}
use Rattle.rx_coordinator.specs.declared.requests.Answer.TheVariants.{NoMemory, Ended}
use Rattle.rx_coordinator.specs.declared.coordinator.Coordinator.{Coordinator}
use Rattle.rx_coordinator.proofs.Asking.{live_seat, not_lost, act_of, made_of, act_after, row_changed}
use Rattle.rx_coordinator.proofs.Allowing.{may_end, used_up}
use Rattle.rx_coordinator.proofs.Acting.{end_may, no_end, asked_as, ne_of, eq_of}
use Rattle.rx_coordinator.proofs.Telling.{own_end, others_told}
use Rattle.rx_coordinator.proofs.coordinator.Coordinator.end.Goals as goal
use Rattle.rx_coordinator.proofs.coordinator.Coordinator.end.Goals.{in-Ok, in-Err-NoMemory-default}

pub returns-then-ne : goal.returns-then-ne
returns-then-ne c = λ p es st.
    let live = live_seat c.args.self.now (p) (es) (st) c.args.task c.in-Some.seat (sym c.live.ensures ∙ c.in-Some.is) in
    (no_end (tree_of p es) c.args.task c.in-Some.seat c.args.thrown live.seat (ne_of c.in-Some.seat.who.inner c.in-Some.seat.who.scope c.if-ne.ensures), st)

pub end-requires : goal.end-requires
end-requires c =
    let r = c.requires in
    let T = tree_of r.0 r.1 in
    let live = live_seat c.args.self.now (r.0) (r.1) (r.2) c.args.task c.in-Some.seat (sym c.live.ensures ∙ c.in-Some.is) in
    (16 - T.places, T, r.2.tree, end_may T c.args.task c.in-Some.seat r.2.tree.reached r.2.numbers live (eq_of c.in-Some.seat.who.inner c.in-Some.seat.who.scope c.if-ne.ensures))

pub unreachable-requires : goal.unreachable-requires
unreachable-requires c =
    let r = c.requires in
    let T = tree_of r.0 r.1 in
    let live = live_seat c.args.self.now (r.0) (r.1) (r.2) c.args.task c.in-Some.seat (sym c.live.ensures ∙ c.in-Some.is) in
    let no = c.in-Err-NotYet-default.ensures (16 - T.places) T r.2.tree (end_may T c.args.task c.in-Some.seat r.2.tree.reached r.2.numbers live (eq_of c.in-Some.seat.who.inner c.in-Some.seat.who.scope c.if-ne.ensures)) in
    let so = subst (λ (f : LedgerFault). EndReply T c.in-Some.seat.who c.args.thrown (Err (f, c.in-Err-NotYet-default.field-0-1)) (StandsFor c.end.new.self (16 - T.places))) c.in-Err-NotYet-default.field-0-0-is no in
    so

pub unreachable-requires-in-Err-Lost-default : goal.unreachable-requires-in-Err-Lost-default
unreachable-requires-in-Err-Lost-default c =
    let r = c.requires in
    let T = tree_of r.0 r.1 in
    let live = live_seat c.args.self.now (r.0) (r.1) (r.2) c.args.task c.in-Some.seat (sym c.live.ensures ∙ c.in-Some.is) in
    let no = c.in-Err-Lost-default.ensures (16 - T.places) T r.2.tree (end_may T c.args.task c.in-Some.seat r.2.tree.reached r.2.numbers live (eq_of c.in-Some.seat.who.inner c.in-Some.seat.who.scope c.if-ne.ensures)) in
    let so = subst (λ (f : LedgerFault). EndReply T c.in-Some.seat.who c.args.thrown (Err (f, c.in-Err-Lost-default.field-0-1)) (StandsFor c.end.new.self (16 - T.places))) c.in-Err-Lost-default.field-0-0-is no in
    not_lost T c.args.task c.in-Some.seat live.seat _ _ so.0

pub returns : goal.returns
returns c = λ p es st.
    let T = tree_of p es in
    let t = c.args.task in
    let w = c.in-Some.seat in
    let live = live_seat c.args.self.now p es st c.args.task c.in-Some.seat (sym c.live.ensures ∙ c.in-Some.is) in
    elim c.match-end.branch [
      | in-Ok b ↦
          let act = EndAct c.args.thrown in
          let did = b.in-Ok.ensures (16 - T.places) T st.tree (end_may T c.args.task c.in-Some.seat st.tree.reached st.numbers live (eq_of c.in-Some.seat.who.inner c.in-Some.seat.who.scope c.if-ne.ensures)) in
          let may = act_of T t w live.seat act did.allowed in
          let stood = made_of c.end.new.self (16 - T.places) T t w live.seat act did.made in
          asked_as p es (End t c.args.thrown) _ Ended _ (let d : Coordinator = record { ledger = c.end.new.self; seats = b.leave.new.self; entries = c.args.self.now.entries + 1 } in d) b.result-is b.self-is (
            Step t act [],
            refl,
            may,
            act_after c.args.self.now _ p es t act st may stood (subst HasNumbers (sym (ended T t c.args.thrown may.task may.stands)) (record { tasks = st.numbers.tasks; scopes = st.numbers.scopes })) refl
                (row_changed c.args.self.now.seats b.leave.new.self T (made_act T t act) t None b.leave.ensures st.seats (own_end T st.tree.reached t w live.told c.args.thrown may)
                (λ u apart. others_told T st.tree.reached t u apart act may tt)),
          )
      | in-Err-NoMemory-default b ↦
          let no = b.in-Err-NoMemory-default.ensures (16 - T.places) T st.tree (end_may T c.args.task c.in-Some.seat st.tree.reached st.numbers live (eq_of c.in-Some.seat.who.inner c.in-Some.seat.who.scope c.if-ne.ensures)) in
          let so = subst (λ (f : LedgerFault). EndReply T c.in-Some.seat.who c.args.thrown (Err (f, b.in-Err-NoMemory-default.field-0-1)) (StandsFor c.end.new.self (16 - T.places))) b.in-Err-NoMemory-default.field-0-0-is no in
          asked_as p es (End t c.args.thrown) _ NoMemory _ (let d : Coordinator = record { ledger = c.end.new.self; seats = c.args.self.now.seats; entries = c.args.self.now.entries } in d) b.result-is b.self-is (may_end (tree_of p es) c.args.task c.in-Some.seat live c.args.thrown st.tree.reached (eq_of c.in-Some.seat.who.inner c.in-Some.seat.who.scope c.if-ne.ensures), record { some = st.some; few = st.few; allowed = st.allowed; tree = so.2; numbers = st.numbers; count = st.count; seats = st.seats })
    ]

pub returns-then-is_full : goal.returns-then-is_full
returns-then-is_full c = λ p es st.
    let live = live_seat c.args.self.now p es st c.args.task c.in-Some.seat (sym c.live.ensures ∙ c.in-Some.is) in
    (may_end (tree_of p es) c.args.task c.in-Some.seat live c.args.thrown st.tree.reached (eq_of c.in-Some.seat.who.inner c.in-Some.seat.who.scope c.if-ne.ensures), used_up c.args.self.now p es st (c.is_full.ensures.0 c.if-is_full.true) (End c.args.task c.args.thrown) (omega arith), st)
