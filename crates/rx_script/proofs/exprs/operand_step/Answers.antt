use Rattle.std.proofs.Common.{◌∷◌, subst, rules, w64}
use Rattle.std.proofs.lemmas.Int.{ints, to_z-of_z}
use mir.Val.{SFits}
use Rattle.rx_script.specs.Inside.Turns.{ExprReads}
use Rattle.rx_syntax.specs.declared.token.Token.{Token}
use Rattle.rx_syntax.specs.declared.token.Token.TheVariants.{Key}
use Rattle.rx_syntax.specs.declared.token.Keyword.{Keyword}
use Rattle.rx_script.specs.declared.exprs.Turn.TheVariants as turns
use Rattle.rx_script.proofs.OneToken.{reads-number, reads-name, reads-here}
use Rattle.rx_script.proofs.exprs.operand_step.Goals as goal

pub returns-in_ok-add-in-Number-clause-step : goal.returns-in_ok-add-in-Number-clause-step
returns-in_ok-add-in-Number-clause-step c ts o h =
    let es = c.args.exprs.now.items in
    let ps = c.args.pairs.now.items in
    let fits : SFits w64 c.in-Number.value = search (rules, ints) in
    let e = simp to_z-of_z at c.in_ok-add-in-Number.ensures in
    rw (e.0, e.1) (reads-number es ps c.in-Number.value ts o (subst (λ (t : Token). ExprReads es ps turns.Operand (t ∷ ts) o) c.in-Number.is h))

pub returns-in_ok-add-in-Called-clause-step : goal.returns-in_ok-add-in-Called-clause-step
returns-in_ok-add-in-Called-clause-step c ts o h =
    let es = c.args.exprs.now.items in
    let ps = c.args.pairs.now.items in
    let e = c.in_ok-add-in-Called.ensures in
    rw (e.0, e.1) (reads-name es ps (record { 0 = c.in-Called.name }) ts o (subst (λ (t : Token). ExprReads es ps turns.Operand (t ∷ ts) o) c.in-Called.is h))

pub returns-in_ok-add-in-Key-Here-clause-step : goal.returns-in_ok-add-in-Key-Here-clause-step
returns-in_ok-add-in-Key-Here-clause-step c ts o h =
    let es = c.args.exprs.now.items in
    let ps = c.args.pairs.now.items in
    let e = c.in_ok-add-in-Key-Here.ensures in
    let one = subst (λ (t : Token). ExprReads es ps turns.Operand (t ∷ ts) o) c.in-Key-Here.is h in
    rw (e.0, e.1) (reads-here es ps ts o (subst (λ (k : Keyword). ExprReads es ps turns.Operand (Key k ∷ ts) o) (rw c.in-Key-Here.is at c.in-Key-Here.field-0-is) one))
