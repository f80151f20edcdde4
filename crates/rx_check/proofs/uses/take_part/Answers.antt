use Rattle.std.proofs.Common.{◌≡◌, List, [], ◌∷◌, ◌++◌, ap, sym, ◌∙◌, subst, arith}
use Rattle.rx_syntax.specs.Shape.{op_of}
use Rattle.rx_syntax.proofs.Within.{stands-within}
use Rattle.rx_check.specs.Inside.Walk.{join, name_uses, uses_in, weights, Yields}
use Rattle.rx_check.specs.declared.uses.Part.{Part as Waiting}
use Rattle.rx_check.proofs.Exprs.{part-is}
use Rattle.rx_check.proofs.Waiting.{num-uses, here-uses, one-name-uses, took, took-none, took-pair, weights-less, weights-pair}
use Rattle.rx_check.proofs.uses.take_part.Goals as goal

pub expr-requires : goal.expr-requires
expr-requires c = stands-within _ _ _ c.requires.1

pub returns-in-Num-clause-uses : goal.returns-in-Num-clause-uses
returns-in-Num-clause-uses c v h = took-none c.args.walk.now _ _ c.args.part c.args.so_far v (λ e s. ap (uses_in c.args.walk.now c.args.part.pairs) (part-is _ c.args.part.id _ e c.in-Num.ensures s) ∙ num-uses c.args.walk.now c.args.part.pairs c.in-Num.field-0) h

pub returns-in-Num-clause-less : goal.returns-in-Num-clause-less
returns-in-Num-clause-less c = weights-less _ c.args.part

pub returns-in-Name-clause-uses : goal.returns-in-Name-clause-uses
returns-in-Name-clause-uses c v h =
    let w = c.args.walk.now in
    let t = took w _ _ c.args.part c.args.so_far (name_uses w c.in-Name.name.0) v (λ e s. ap (uses_in w c.args.part.pairs) (part-is _ c.args.part.id _ e c.in-Name.ensures s) ∙ one-name-uses w c.args.part.pairs c.in-Name.name.0) h in
    (t.0, t.1, t.2 ∙ sym (ap (λ u. join u t.0) (c.join.ensures ∙ ap (join c.args.so_far) c.name_use.ensures)))

pub returns-in-Name-clause-less : goal.returns-in-Name-clause-less
returns-in-Name-clause-less c = weights-less _ c.args.part

pub returns-in-Here-clause-uses : goal.returns-in-Here-clause-uses
returns-in-Here-clause-uses c v h = took-none c.args.walk.now _ _ c.args.part c.args.so_far v (λ e s. ap (uses_in c.args.walk.now c.args.part.pairs) (part-is _ c.args.part.id _ e c.in-Here.ensures s) ∙ here-uses c.args.walk.now c.args.part.pairs) h

pub returns-in-Here-clause-less : goal.returns-in-Here-clause-less
returns-in-Here-clause-less c = weights-less _ c.args.part

pub returns-in_ok-push-in-Bin-2-clause-uses : goal.returns-in_ok-push-in-Bin-2-clause-uses
returns-in_ok-push-in-Bin-2-clause-uses c v h =
    let w = c.args.walk.now in
    let es = c.args.script.now.exprs in
    let t = took-pair w es c.args.waiting.now.items c.args.part (record { id = c.in-Bin.left; pairs = c.saturating_sub-pairs.result }) (record { id = c.in-Bin.right; pairs = c.saturating_sub-pairs.result }) c.args.so_far v c.saturating_sub-pairs.ensures c.saturating_sub-pairs.ensures (λ e s. let q = part-is es c.args.part.id _ e c.in-Bin.ensures s in (op_of c.in-Bin.op, q.0, q.1, q.2, q.5, q.6)) h in
    let P : List Waiting → Type 0 = λ ps. Yields w es ps t.0 in (
      t.0,
      subst P (sym (c.in_ok-push-in-Bin-2.ensures.items ∙ ap (λ ps. ps ++ record { id = c.in-Bin.right; pairs = c.saturating_sub-pairs.result } ∷ []) c.in_ok-push-in-Bin.ensures.items)) t.1,
      t.2 ∙ sym (ap (λ u. join u t.0) (c.join-in-Bin.ensures ∙ ap (join c.args.so_far) c.pair_use.ensures)),
    )

pub returns-in_ok-push-in-Bin-2-clause-less : goal.returns-in_ok-push-in-Bin-2-clause-less
returns-in_ok-push-in-Bin-2-clause-less c =
    let q = part-is _ c.args.part.id _ c.requires.0 c.in-Bin.ensures c.requires.1 in
    let e : weights c.push-in-Bin.new.self.items ≡ weights ((c.args.waiting.now.items ++ record { id = c.in-Bin.left; pairs = c.saturating_sub-pairs.result } ∷ []) ++ record { id = c.in-Bin.right; pairs = c.saturating_sub-pairs.result } ∷ []) = ap weights (c.in_ok-push-in-Bin-2.ensures.items ∙ ap (λ ps. ps ++ record { id = c.in-Bin.right; pairs = c.saturating_sub-pairs.result } ∷ []) c.in_ok-push-in-Bin.ensures.items) in
    let l = weights-pair c.args.waiting.now.items c.args.part (record { id = c.in-Bin.left; pairs = c.saturating_sub-pairs.result }) (record { id = c.in-Bin.right; pairs = c.saturating_sub-pairs.result }) q.3 q.4 in
    omega (arith, e, l)
