use Rattle.std.proofs.Common.{◌≡◌, IfOk, sym, subst}
use Rattle.rx_rules.proofs.Common.{PlaceId}
use Rattle.rx_check.specs.Checked.{Checked}
use Rattle.rx_syntax.specs.Shape.{Stands}
use Rattle.rx_activities.proofs.BeganMain.{main_knows}
use Rattle.rx_activities.proofs.activity.Activity.main.Goals as goal

pub activity_with-requires : goal.activity_with-requires
activity_with-requires g c =
    let b = c.checked.ensures in
    main_knows g.N.Naming.ledger c.args.control.value c.args.ticket c.args.pass c.args.seat c.requires.opening b.0
    (subst (λ (q : Checked). Stands q.script b.0) (sym c.requires.program) b.1) b.2 c.fresh-hand.result c.fresh-hand.ensures

pub returns : goal.returns
returns g c = subst (λ (q : PlaceId). IfOk c.activity_with.result (λ (a : PlaceId). a ≡ q)) c.fresh-hand.ensures.place_is c.activity_with.ensures
