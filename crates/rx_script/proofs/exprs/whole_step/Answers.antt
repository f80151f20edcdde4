use Rattle.std.proofs.Common.{[], ◌∷◌, ◌++◌, subst}
use Rattle.rx_script.specs.Inside.Turns.{ExprReads}
use Rattle.rx_syntax.specs.declared.token.Token.{Token}
use Rattle.rx_syntax.specs.declared.token.Token.TheVariants.{Mark}
use Rattle.rx_syntax.specs.declared.token.Sign.{Sign}
use Rattle.rx_syntax.specs.declared.token.Sign.TheVariants.{CloseParen as RParen}
use Rattle.rx_script.specs.declared.exprs.OpenPair.{OpenPair}
use Rattle.rx_script.specs.declared.exprs.Turn.TheVariants as turns
use Rattle.rx_script.proofs.OneToken.{reads-close}
use Rattle.rx_script.proofs.exprs.whole_step.Goals as goal

pub returns-in_ok-add-in-Mark-CloseParen-clause-step : goal.returns-in_ok-add-in-Mark-CloseParen-clause-step
returns-in_ok-add-in-Mark-CloseParen-clause-step c ts o h =
    let es = c.args.exprs.now.items in
    let ps = c.args.pairs.now.items in
    let e = c.in_ok-add-in-Mark-CloseParen.ensures in
    let one = subst (λ (t : Token). ExprReads es (ps ++ c.args.pair ∷ []) (turns.After c.args.id) (t ∷ ts) o) c.in-Mark-CloseParen.is h in
    let two = subst (λ (k : Sign). ExprReads es (ps ++ c.args.pair ∷ []) (turns.After c.args.id) (Mark k ∷ ts) o) (rw c.in-Mark-CloseParen.is at c.in-Mark-CloseParen.field-0-is) one in
    let three = subst (λ (p : OpenPair). ExprReads es (ps ++ p ∷ []) (turns.After c.args.id) (Mark RParen ∷ ts) o) c.in-Second.is two in
    rw (e.0, e.1) (reads-close es ps c.in-Second.left c.in-Second.op c.args.id ts o three)
