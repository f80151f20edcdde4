use Rattle.std.proofs.Common.{◌≡◌, ◌-◌, [], arith, refl, sym, ◌∙◌, ap, subst, Some, Err}
use Rattle.rx_rules.proofs.Common.{ScopeId, PlaceId, tree_of, inner, made_act}
use Rattle.rx_rules.specs.declared.entries.Entry.TheVariants.{Step}
use Rattle.rx_rules.specs.declared.entries.Act.TheVariants.{Release as ReleaseAct}
use Rattle.rx_finish.specs.Calls.{ReleaseReply}
use Rattle.rx_finish.specs.declared.ledger.LedgerFault.{LedgerFault}
use Rattle.rx_counts.specs.Stands.{StandsFor}
use Rattle.rx_coordinator.specs.declared.requests.Request.TheVariants.{Release}
use Rattle.rx_finish.specs.Calls.{IsHindered}
use Rattle.rx_coordinator.specs.declared.seats.Seat.{Seat}
use Rattle.rx_coordinator.specs.Inside.Rows.{parent_in, parent_or_root}
use Rattle.rx_coordinator.proofs.Asking.{not_lost, act_of, made_of, act_after, row_changed}
use Rattle.rx_coordinator.proofs.Allowing.{may_release, used_up}
use Rattle.rx_coordinator.proofs.Acting.{held_seat}
use Rattle.rx_coordinator.proofs.Telling.{others_told}
use Rattle.rx_coordinator.proofs.Newcomers.{own_release}
use Rattle.rx_coordinator.proofs.coordinator.Coordinator.release.Goals as goal

pub release-requires : goal.release-requires
release-requires c =
    let r = c.requires in
    let T = tree_of r.0 r.1 in
    let live = held_seat c.args.self.now (r.0) (r.1) (r.2) c.args.task c.in-Some.seat (sym c.held.ensures ∙ c.in-Some.is) in
    (16 - T.places, T, r.2.tree, live.may)

pub unreachable-requires : goal.unreachable-requires
unreachable-requires c =
    let r = c.requires in
    let T = tree_of r.0 r.1 in
    let live = held_seat c.args.self.now (r.0) (r.1) (r.2) c.args.task c.in-Some.seat (sym c.held.ensures ∙ c.in-Some.is) in
    let no = c.in-Err-Lost.ensures (16 - T.places) T r.2.tree (live.may) in
    let so = subst (λ (f : LedgerFault). ReleaseReply T c.in-Some.seat.who (Err f) (StandsFor c.release.new.self (16 - T.places))) c.in-Err-Lost.field-0-is no in
    not_lost T c.args.task c.in-Some.seat live.seat _ _ so.0

pub returns-in-Ok : goal.returns-in-Ok
returns-in-Ok c = λ p es st.
    let T = tree_of p es in
    let t = c.args.task in
    let w = c.in-Some.seat in
    let o = c.in-Ok.outcome in
    let live = held_seat c.args.self.now (p) (es) (st) c.args.task c.in-Some.seat (sym c.held.ensures ∙ c.in-Some.is) in
    let act = ReleaseAct w.who.inner o.lost o.masked o.thrown in
    let did = c.in-Ok.ensures (16 - T.places) T st.tree live.may in
    let may = act_of T t w live.seat act did.allowed in
    let stood = made_of c.release.new.self (16 - T.places) T t w live.seat act did.made in (
      Step t act [],
      (w.who.inner, refl),
      may,
      act_after c.args.self.now _ p es t act st may stood (record { tasks = st.numbers.tasks; scopes = st.numbers.scopes }) refl
          (row_changed c.args.self.now.seats c.change.new.self T (made_act T t act) t _ c.change.ensures st.seats
          (own_release p es st.some st.few st.allowed st.tree.reached t w live.told w.who.inner c.parent_of-parent.result o.lost o.masked o.thrown live.scope may live.stands (live.up ∙ ap (λ (q : ScopeId). Some q) (sym (c.parent_of-parent.ensures p es st ∙ (ap parent_in live.stands ∙ ap parent_or_root live.up)))))
          (λ u apart. others_told T st.tree.reached t u apart act may tt)),
    )

pub returns-in-Err-NoMemory : goal.returns-in-Err-NoMemory
returns-in-Err-NoMemory c = λ p es st.
    let T = tree_of p es in
    let live = held_seat c.args.self.now (p) (es) (st) c.args.task c.in-Some.seat (sym c.held.ensures ∙ c.in-Some.is) in
    let no = c.in-Err-NoMemory.ensures (16 - T.places) T st.tree live.may in
    let same = subst (λ (f : LedgerFault). ReleaseReply T c.in-Some.seat.who (Err f) (StandsFor c.release.new.self (16 - T.places))) c.in-Err-NoMemory.field-0-is no in
    (may_release T c.args.task c.in-Some.seat live, record { some = st.some; few = st.few; allowed = st.allowed; tree = same.2; numbers = st.numbers; count = st.count; seats = st.seats })

pub returns-in-Err-NotYet : goal.returns-in-Err-NotYet
returns-in-Err-NotYet c = λ p es st.
    let T = tree_of p es in
    let live = held_seat c.args.self.now (p) (es) (st) c.args.task c.in-Some.seat (sym c.held.ensures ∙ c.in-Some.is) in
    let no = c.in-Err-NotYet.ensures (16 - T.places) T st.tree live.may in
    let same = subst (λ (f : LedgerFault). ReleaseReply T c.in-Some.seat.who (Err f) (StandsFor c.release.new.self (16 - T.places))) c.in-Err-NotYet.field-0-is no in
    let inside : inner T live.seat.task ≡ c.in-Some.seat.who.inner = ap (λ (y : Seat). y.who.inner) live.seat.is in (
      may_release T c.args.task c.in-Some.seat live,
      (live.seat.task, live.seat.stands, subst (λ (q : PlaceId). IsHindered T (inner T live.seat.task) q) (sym c.in-Err-NotYet.place-is) (subst (λ (v : ScopeId). IsHindered T v c.in-Err-NotYet.place) (sym inside) same.1)),
      record { some = st.some; few = st.few; allowed = st.allowed; tree = same.2; numbers = st.numbers; count = st.count; seats = st.seats },
    )

pub returns-then-is_full : goal.returns-then-is_full
returns-then-is_full c = λ p es st.
    let live = held_seat c.args.self.now p es st c.args.task c.in-Some.seat (sym c.held.ensures ∙ c.in-Some.is) in
    (may_release (tree_of p es) c.args.task c.in-Some.seat live, used_up c.args.self.now p es st (c.is_full.ensures.0 c.if-is_full.true) (Release c.args.task) (omega arith), st)
