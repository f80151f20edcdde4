use Rattle.std.proofs.Common.{◌-◌, [], refl, sym, ◌∙◌, ap, subst, Some, Err}
use Rattle.rx_rules.proofs.Common.{PlaceId, tree_of, made_act}
use Rattle.rx_rules.specs.declared.entries.Entry.TheVariants.{Step}
use Rattle.rx_rules.specs.declared.entries.Act.TheVariants.{Arrive as ArriveAct}
use Rattle.rx_finish.specs.Calls.{landing, ArriveReply}
use Rattle.rx_finish.specs.declared.ledger.LedgerFault.{LedgerFault}
use Rattle.rx_counts.specs.Stands.{StandsFor}
use Rattle.rx_rules.specs.declared.tasks.Where.TheVariants.{At as AtPlace}
use Rattle.rx_coordinator.specs.declared.seats.Seat.{Seat}
use Rattle.rx_coordinator.proofs.Asking.{not_lost, act_of, made_of, act_after, row_changed}
use Rattle.rx_coordinator.proofs.Acting.{away_seat}
use Rattle.rx_coordinator.proofs.Telling.{own_arrive, others_told}
use Rattle.rx_coordinator.proofs.coordinator.Coordinator.land.Goals as goal

pub arrive-requires : goal.arrive-requires
arrive-requires c =
    let r = c.requires.stands in
    let T = tree_of r.0 r.1 in
    let live = away_seat c.args.self.now (r.0) (r.1) (r.2) c.args.task c.args.seat c.requires.away in
    (16 - T.places, T, r.2.tree, live.may)

pub unreachable-requires : goal.unreachable-requires
unreachable-requires c =
    let r = c.requires.stands in
    let T = tree_of r.0 r.1 in
    let live = away_seat c.args.self.now (r.0) (r.1) (r.2) c.args.task c.args.seat c.requires.away in
    let no = c.in-Err-NoMemory.ensures (16 - T.places) T r.2.tree (live.may) in
    let so = subst (λ (f : LedgerFault). ArriveReply T c.args.seat.who (Err f) (StandsFor c.arrive.new.self (16 - T.places))) c.in-Err-NoMemory.field-0-is no in
    so

pub unreachable-requires-in-Err-NotYet : goal.unreachable-requires-in-Err-NotYet
unreachable-requires-in-Err-NotYet c =
    let r = c.requires.stands in
    let T = tree_of r.0 r.1 in
    let live = away_seat c.args.self.now (r.0) (r.1) (r.2) c.args.task c.args.seat c.requires.away in
    let no = c.in-Err-NotYet.ensures (16 - T.places) T r.2.tree (live.may) in
    let so = subst (λ (f : LedgerFault). ArriveReply T c.args.seat.who (Err f) (StandsFor c.arrive.new.self (16 - T.places))) c.in-Err-NotYet.field-0-is no in
    so

pub unreachable-requires-in-Err-Lost : goal.unreachable-requires-in-Err-Lost
unreachable-requires-in-Err-Lost c =
    let r = c.requires.stands in
    let T = tree_of r.0 r.1 in
    let live = away_seat c.args.self.now (r.0) (r.1) (r.2) c.args.task c.args.seat c.requires.away in
    let no = c.in-Err-Lost.ensures (16 - T.places) T r.2.tree (live.may) in
    let so = subst (λ (f : LedgerFault). ArriveReply T c.args.seat.who (Err f) (StandsFor c.arrive.new.self (16 - T.places))) c.in-Err-Lost.field-0-is no in
    not_lost T c.args.task c.args.seat live.seat _ _ so.0

pub returns : goal.returns
returns c = λ p es st.
    let T = tree_of p es in
    let t = c.args.task in
    let w = c.args.seat in
    let live = away_seat c.args.self.now (p) (es) (st) c.args.task c.args.seat c.requires.away in
    let act = ArriveAct (landing w.who.place) in
    let did = c.in-Ok.ensures (16 - T.places) T st.tree live.may in
    let may = act_of T t w live.seat act did.allowed in
    let stood = made_of c.arrive.new.self (16 - T.places) T t w live.seat act did.made in (
      Step t act [],
      (landing w.who.place, refl),
      may,
      act_after c.args.self.now _ p es t act st may stood (record { tasks = st.numbers.tasks; scopes = st.numbers.scopes }) refl
          (row_changed c.args.self.now.seats c.change.new.self T (made_act T t act) t _ c.change.ensures st.seats (own_arrive T st.tree.reached t w live.told (landing w.who.place) may ∙ ap (λ (q : PlaceId). (let y : Seat = record w { who = record w.who { place = AtPlace q } } in Some y)) (sym c.landing_of.ensures))
          (λ u apart. others_told T st.tree.reached t u apart act may tt)),
    )
