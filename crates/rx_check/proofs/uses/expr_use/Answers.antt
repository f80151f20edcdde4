use Rattle.std.proofs.Common.{◌≡◌, List, [], ◌∷◌, ◌++◌, ap, sym, ◌∙◌, subst, refl, arith}
use Rattle.std.proofs.lemmas.List.{nil_from_length}
use Rattle.rx_check.specs.Inside.Walk.{join, no_uses, uses_in, Yields}
use Rattle.rx_check.specs.declared.uses.Part.{Part as Waiting}
use Rattle.rx_check.proofs.Waiting.{join-none, yields-last}
use Rattle.rx_check.proofs.uses.expr_use.Goals as goal

pub parts-init : goal.parts-init
parts-init c e s =
    let w = c.args.walk.now in
    let es = c.args.script.now.exprs in
    let P : List Waiting → Type 0 = λ ps. Yields w es ps (uses_in w 32 e) in
    let i : c.push.new.self.items ≡ record { id = c.args.id; pairs = 32 } ∷ [] = c.in_ok-push.ensures.items ∙ ap (λ ps. ps ++ record { id = c.args.id; pairs = 32 } ∷ []) c.new-waiting.ensures.items in
    (uses_in w 32 e, subst P (sym i) (e, no_uses, s, sym (join-none (uses_in w 32 e)), refl), refl)

pub take_part-requires : goal.take_part-requires
take_part-requires c =
    let w = c.args.walk.now in
    let es = c.args.script.now.exprs in
    let i = c.parts.invariant c.requires.0 c.requires.1 in
    let P : List Waiting → Type 0 = λ ps. Yields w es ps i.0 in
    let l = yields-last w es c.pop.new.self.items c.in-Some.part i.0 (subst P c.in-Some.ensures.items i.1) in
    (l.0, l.2)

pub parts-preserved : goal.parts-preserved
parts-preserved c e s =
    let w = c.args.walk.now in
    let es = c.args.script.now.exprs in
    let i = c.parts.invariant e s in
    let P : List Waiting → Type 0 = λ ps. Yields w es ps i.0 in
    let n = c.in_ok-uses.ensures.uses i.0 (subst P c.in-Some.ensures.items i.1) in
    (n.0, n.1, i.2 ∙ n.2)

pub returns-clause-uses : goal.returns-clause-uses
returns-clause-uses c e s =
    let w = c.args.walk.now in
    let es = c.args.script.now.exprs in
    let i = c.parts.invariant e s in
    let P : List Waiting → Type 0 = λ ps. Yields w es ps i.0 in
    let n : i.0 ≡ no_uses = subst P (nil_from_length _ (omega (arith, c.in_default.ensures.cases.0, c.parts.waiting.ok.0))) i.1 in
    sym (i.2 ∙ (ap (join c.parts.uses) n ∙ join-none c.parts.uses))
