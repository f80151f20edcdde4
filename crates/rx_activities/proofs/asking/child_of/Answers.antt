use Rattle.std.proofs.Common.{ap, ◌+◌, Bool, true, Option, Some, sym, ◌∙◌, subst, refl}
use Rattle.rx_rules.proofs.Common.{PlaceId, child}
use Rattle.rx_control.specs.declared.control.Control.{Control}
use Rattle.rx_control.specs.Stands.{StandsFor}
use Rattle.rx_book.specs.declared.passes.Pass.{Pass}
use Rattle.rx_book.specs.Passes.{view_of}
use Rattle.rx_parts.specs.declared.items.EventItem.{EventItem}
use Rattle.rx_activities.specs.Inside.Sending.{SeatIsLeft, SeatIsNew, ChildFor}
use Rattle.rx_activities.proofs.AskedSteps.{started_path}
use Rattle.rx_activities.proofs.asking.child_of.Goals.{then-eq+in_ok-split, else-eq}
use Rattle.rx_activities.proofs.asking.child_of.Goals as goal

pub returns-in_default-clause-pass : goal.returns-in_default-clause-pass
returns-in_default-clause-pass g c = record { word = refl; splits = (view_of c.args.pass.now).splits; view = refl }

pub returns-in_default-clause-seat : goal.returns-in_default-clause-seat
returns-in_default-clause-seat g c = record { word = refl; splits = (view_of c.args.seat.now).splits; view = refl }

pub child-requires : goal.child-requires
child-requires g c =
    let st = c.requires.stands in
    let p = started_path c.args.next c.in-Some.to c.args.control.now.vars c.args.here.0 st.0 (c.requires.next st.0 st.1) (sym c.in-Some.ensures) in
    (st.0, p.0, st.1, p.1)

pub returns-in_err-control-clause-pass : goal.returns-in_err-control-clause-pass
returns-in_err-control-clause-pass g c = record { word = refl; splits = (view_of c.args.pass.now).splits; view = refl }

pub returns-in_err-control-clause-seat : goal.returns-in_err-control-clause-seat
returns-in_err-control-clause-seat g c = record { word = refl; splits = (view_of c.args.seat.now).splits; view = refl }

pub returns-in_err-began-clause-pass : goal.returns-in_err-began-clause-pass
returns-in_err-began-clause-pass g c = record { word = refl; splits = (view_of c.args.pass.now).splits; view = refl }

pub returns-in_err-began-clause-seat : goal.returns-in_err-began-clause-seat
returns-in_err-began-clause-seat g c = record { word = refl; splits = (view_of c.args.seat.now).splits; view = refl }

pub returns-clause-seat : goal.returns-clause-seat
returns-clause-seat g c =
    elim c.if-eq.branch [
      | then-eq+in_ok-split w ↦
          subst (λ (p : Pass EventItem). SeatIsLeft c.args.seat.now p) (sym w.seat-is)
          (record { word = w.split-then-eq.ensures.same.0; splits = (view_of c.args.seat.now).splits + 1; view = w.split-then-eq.ensures.same.1 })
      | else-eq w ↦
          subst (λ (p : Pass EventItem). SeatIsLeft c.args.seat.now p) (sym w.seat-is)
          (record { word = refl; splits = (view_of c.args.seat.now).splits; view = refl })
    ]

pub returns-clause-child : goal.returns-clause-child
returns-clause-child g c =
    let st = c.requires.stands in
    subst
    (λ (o : Option PlaceId).
    ChildFor c.args.p.now.script c.args.control.now c.args.here o c.args.pass.now c.args.seat.now (Some (record { control = c.in_ok-control.control; pass = c.in_ok-child_pass.child_pass; seat = c.if-eq.child_seat })))
    c.in-Some.ensures
    (record {
      term = λ t s. subst (λ (x : Control). StandsFor c.args.p.now.script x (child t)) (sym c.in_ok-control.ensures.ok) (let p = started_path c.args.next c.in-Some.to c.args.control.now.vars c.args.here.0 t (c.requires.next t s) (sym c.in-Some.ensures) in (c.in_ok-began.ensures.stands t s p.0 p.1).0);
      vars = ap (λ (x : Control). x.vars) c.in_ok-control.ensures.ok ∙ (let p = started_path c.args.next c.in-Some.to c.args.control.now.vars c.args.here.0 st.0 (c.requires.next st.0 st.1) (sym c.in-Some.ensures) in (c.in_ok-began.ensures.stands st.0 st.1 p.0 p.1).1);
      word = c.in_ok-child_pass.ensures.own;
      view = c.in_ok-child_pass.ensures.new;
      seat_is = elim c.if-eq.branch [
        | then-eq+in_ok-split w ↦
            subst (λ (b : Bool). SeatIsNew b c.args.seat.now c.if-eq.child_seat) (sym w.if-eq.true ∙ c.eq.ensures)
            (subst (λ (o : Option (Pass EventItem)). SeatIsNew true c.args.seat.now o) (sym w.child_seat-is) (w.in_ok-split.ensures.own, w.in_ok-split.ensures.new))
        | else-eq w ↦ subst (λ (b : Bool). SeatIsNew b c.args.seat.now c.if-eq.child_seat) (sym w.if-eq.false ∙ c.eq.ensures) w.child_seat-is
      ];
    })
