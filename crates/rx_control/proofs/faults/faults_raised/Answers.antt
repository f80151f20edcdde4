use Rattle.std.specs.Result.{IfOk}
use Rattle.std.proofs.Common.{◌≡◌, ◌<◌, ◌≤◌, ◌+◌, List, ◌++◌, arith, ap, sym, ◌∙◌, subst}
use Rattle.std.proofs.lemmas.Bool.{eqb-true}
use Rattle.rx_rules.proofs.Common.{Fault}
use Rattle.rx_control.proofs.Raising.{raised_from, raised_all, raises-one, raises-none, raises-all, raises-nothing, same-set}
use Rattle.rx_control.proofs.faults.faults_raised.Goals.{then-contains+in_ok-push, else-contains}
use Rattle.rx_control.proofs.faults.faults_raised.Goals as goal

pub returns-then-len-eq0 : goal.returns-then-len-eq0
returns-then-len-eq0 c =
    c.open-faults.ensures ∙ raises-nothing c.args.lost c.empty.result c.args.thrown.now (same-set c.args.lost c.empty.result (eqb-true c.args.lost.0 c.empty.result.0 (sym c.if-eq.ensures))) c.empty.ensures (sym c.len.ensures ∙ c.if-len-eq0.true)

pub loop-place-init : goal.loop-place-init
loop-place-init c = ap (λ fs. fs ++ raised_all c.args.lost) c.open-faults.ensures

pub loop-place-preserved : goal.loop-place-preserved
loop-place-preserved c =
    let inside : c.loop-place.place < 16 = c.loop-place-test.true in
    elim c.if-contains.branch [
      | then-contains+in_ok-push w ↦
          ap (λ fs. fs ++ raised_from c.args.lost (c.loop-place.place + 1)) (w.faults-is ∙ w.in_ok-push.ensures.ok)
          ∙ raises-one c.args.lost c.loop-place.faults c.loop-place.place inside (sym c.contains.ensures.bit ∙ w.if-contains.true) c.loop-place.invariant
      | else-contains w ↦
          ap (λ fs. fs ++ raised_from c.args.lost (c.loop-place.place + 1)) w.faults-is
          ∙ raises-none c.args.lost c.loop-place.faults c.loop-place.place inside (sym c.contains.ensures.bit ∙ w.if-contains.false) c.loop-place.invariant
    ]

pub returns : goal.returns
returns c =
    let upto : c.loop-place.place ≤ 16 = c.loop-place.auto.place-end in
    let from : 16 ≤ c.loop-place.place = c.loop-place-test.false in
    let over : c.loop-place.place ≡ 16 = omega arith in
    subst (λ (fs : List Fault). IfOk c.joined.result (λ both. both ≡ fs ++ c.args.thrown.now)) (raises-all c.args.lost c.loop-place.faults c.loop-place.place over c.loop-place.invariant) c.joined.ensures
