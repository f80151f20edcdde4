use Rattle.std.proofs.Common.{rules, ◌≡◌, ◌<◌, Some, ap, sym, ◌∙◌, w64, to_z, pos, arith}
use Rattle.std.proofs.lemmas.Int.{ints, to_z-of_z}
use mir.Val.{SFits}
use Rattle.rx_rules.proofs.Common.{eval}
use Rattle.rx_rules.specs.Terms.{both, number_in}
use Rattle.rx_syntax.specs.Shape.{op_of}
use Rattle.rx_syntax.proofs.Within.{stands-within}
use Rattle.rx_check.proofs.Exprs.{part-is}
use Rattle.rx_plan.proofs.eval.+evaluate.Goals as goal

pub expr-requires : goal.expr-requires
expr-requires t c = stands-within _ _ _ c.requires.1

pub evaluate-a-requires : goal.evaluate-a-requires
evaluate-a-requires t c = let p = part-is _ c.args.id _ c.requires.0 c.in-Bin.ensures c.requires.1 in
    let f : c.in-Bin.left.0 < t = omega (arith, p.3, c.decreases) in (f, (p.0, p.5))

pub evaluate-b-requires : goal.evaluate-b-requires
evaluate-b-requires t c = let p = part-is _ c.args.id _ c.requires.0 c.in-Bin.ensures c.requires.1 in
    let f : c.in-Bin.right.0 < t = omega (arith, p.4, c.decreases) in (f, (p.1, p.6))

pub returns-in-Num : goal.returns-in-Num
returns-in-Num t c e h =
    let fits : SFits w64 c.in-Num.z = search (rules, ints) in
    let p = part-is _ c.args.id _ e c.in-Num.ensures h in
    ap (λ z. Some z) (to_z-of_z w64 c.in-Num.z fits) ∙ sym (ap (eval c.args.vars.now c.args.here.0) p)

pub returns-in-Name : goal.returns-in-Name
returns-in-Name t c e h =
    let p = part-is _ c.args.id _ e c.in-Name.ensures h in
    c.number.ensures ∙ ap number_in c.get.ensures ∙ sym (ap (eval c.args.vars.now c.args.here.0) p)

pub returns-in-Here : goal.returns-in-Here
returns-in-Here t c e h =
    let p = part-is _ c.args.id _ e c.in-Here.ensures h in
    let w : to_z w64 c.args.here.0 ≡ pos c.args.here.0 = search (rules, ints) in
    ap (λ z. Some z) w ∙ sym (ap (eval c.args.vars.now c.args.here.0) p)

pub returns-in-Bin : goal.returns-in-Bin
returns-in-Bin t c e h =
    let p = part-is _ c.args.id _ e c.in-Bin.ensures h in
    c.combine.ensures
    ∙ ap (λ a. both (op_of c.in-Bin.op) a c.evaluate-b.result) (c.evaluate-a.ensures p.0 p.5)
    ∙ ap (both (op_of c.in-Bin.op) (eval c.args.vars.now c.args.here.0 p.0)) (c.evaluate-b.ensures p.1 p.6)
    ∙ sym (ap (eval c.args.vars.now c.args.here.0) p.2)
