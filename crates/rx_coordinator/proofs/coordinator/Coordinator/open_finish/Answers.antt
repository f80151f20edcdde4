use Rattle.std.proofs.Common.{◌-◌, [], arith, refl, sym, ◌∙◌, subst, Err, inr}
use Rattle.rx_rules.specs.declared.entries.Entry.TheVariants.{Step}
use Rattle.rx_rules.specs.declared.entries.Act.TheVariants.{Open as OpenAct}
use Rattle.rx_rules.proofs.Common.{tree_of, made_act}
use Rattle.rx_coordinator.specs.declared.requests.Request.TheVariants.{Open}
use Rattle.rx_finish.specs.Calls.{OpenReply}
use Rattle.rx_finish.specs.declared.ledger.LedgerFault.{LedgerFault}
use Rattle.rx_counts.specs.Stands.{StandsFor}
use Rattle.rx_coordinator.proofs.Asking.{live_seat, not_lost, act_of, made_of, act_after, row_changed}
use Rattle.rx_coordinator.proofs.Telling.{own_open, others_told}
use Rattle.rx_coordinator.proofs.Allowing.{may_open, used_up}
use Rattle.rx_coordinator.proofs.coordinator.Coordinator.open_finish.Goals as goal

pub open_finish-requires : goal.open_finish-requires
open_finish-requires c =
    let r = c.requires in
    let T = tree_of r.0 r.1 in
    let live = live_seat c.args.self.now r.0 r.1 r.2 c.args.task c.in-Some.seat (sym c.live.ensures ∙ c.in-Some.is) in
    (16 - T.places, T, r.2.tree, live.may)

pub unreachable-requires : goal.unreachable-requires
unreachable-requires c =
    let r = c.requires in
    let T = tree_of r.0 r.1 in
    let live = live_seat c.args.self.now r.0 r.1 r.2 c.args.task c.in-Some.seat (sym c.live.ensures ∙ c.in-Some.is) in
    let no = c.in-Err-NotYet.ensures (16 - T.places) T r.2.tree live.may in
    subst (λ (f : LedgerFault). OpenReply T c.in-Some.seat.who (Err f) (StandsFor c.open_finish.new.self (16 - T.places))) c.in-Err-NotYet.field-0-is no

pub unreachable-requires-in-Err-Lost : goal.unreachable-requires-in-Err-Lost
unreachable-requires-in-Err-Lost c =
    let r = c.requires in
    let T = tree_of r.0 r.1 in
    let live = live_seat c.args.self.now r.0 r.1 r.2 c.args.task c.in-Some.seat (sym c.live.ensures ∙ c.in-Some.is) in
    let no = c.in-Err-Lost.ensures (16 - T.places) T r.2.tree live.may in
    let lost = subst (λ (f : LedgerFault). OpenReply T c.in-Some.seat.who (Err f) (StandsFor c.open_finish.new.self (16 - T.places))) c.in-Err-Lost.field-0-is no in
    not_lost T c.args.task c.in-Some.seat live.seat _ _ lost.0

pub returns-in-Ok : goal.returns-in-Ok
returns-in-Ok c = λ p es st.
    let T = tree_of p es in
    let t = c.args.task in
    let w = c.in-Some.seat in
    let s = c.in-Ok.scope in
    let live = live_seat c.args.self.now p es st t w (sym c.live.ensures ∙ c.in-Some.is) in
    let act = OpenAct s w.who.inner [] in
    let did = c.in-Ok.ensures (16 - T.places) T st.tree live.may in
    let may = act_of T t w live.seat act did.allowed in
    let stood = made_of c.open_finish.new.self (16 - T.places) T t w live.seat act did.made in
    let more = c.wants_numbers.ensures.more p es st c.if-wants_numbers.false in
    let tasks = more.tasks in
    let scopes = more.scopes in (
      Step t act [],
      (w.who.inner, refl),
      may,
      act_after c.args.self.now _ p es t act st may stood (record { tasks = omega (arith, tasks); scopes = omega (arith, scopes) }) refl
          (row_changed c.args.self.now.seats c.change.new.self T (made_act T t act) t _ c.change.ensures st.seats (own_open T st.tree.reached t w live.told s w.who.inner [] may) (λ u apart. others_told T st.tree.reached t u apart act may tt)),
    )

pub returns-in-Err-NoMemory : goal.returns-in-Err-NoMemory
returns-in-Err-NoMemory c = λ p es st.
    let T = tree_of p es in
    let live = live_seat c.args.self.now p es st c.args.task c.in-Some.seat (sym c.live.ensures ∙ c.in-Some.is) in
    let no = c.in-Err-NoMemory.ensures (16 - T.places) T st.tree live.may in
    let same = subst (λ (f : LedgerFault). OpenReply T c.in-Some.seat.who (Err f) (StandsFor c.open_finish.new.self (16 - T.places))) c.in-Err-NoMemory.field-0-is no in
    (may_open T c.args.task c.in-Some.seat live, record { some = st.some; few = st.few; allowed = st.allowed; tree = same.1; numbers = st.numbers; count = st.count; seats = st.seats })

pub returns-then-is_full : goal.returns-then-is_full
returns-then-is_full c = λ p es st.
    let live = live_seat c.args.self.now p es st c.args.task c.in-Some.seat (sym c.live.ensures ∙ c.in-Some.is) in
    (may_open (tree_of p es) c.args.task c.in-Some.seat live, used_up c.args.self.now p es st (c.is_full.ensures.0 c.if-is_full.true) (Open c.args.task) (omega arith), st)

pub returns-then-wants_numbers : goal.returns-then-wants_numbers
returns-then-wants_numbers c = λ p es st.
    let live = live_seat c.args.self.now p es st c.args.task c.in-Some.seat (sym c.live.ensures ∙ c.in-Some.is) in
    (may_open (tree_of p es) c.args.task c.in-Some.seat live, inr (refl, c.wants_numbers.ensures.none p es st c.if-wants_numbers.true), st)
