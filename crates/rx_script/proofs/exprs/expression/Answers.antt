use Rattle.std.proofs.Common.{◌≡◌, List, ◌∷◌, subst, sym, ◌∙◌, ap, refl, arith, length, Option, Some, None, Result, Err}
use Rattle.rx_rules.proofs.Common.{Expr}
use Rattle.rx_script.specs.Inside.Exprs.{expr}
use Rattle.rx_script.specs.Inside.Turns.{ExprReads, Steps}
use Rattle.rx_syntax.specs.declared.nodes.Expr.{Expr as Part}
use Rattle.rx_syntax.specs.declared.token.Token.{Token}
use Rattle.rx_script.specs.declared.exprs.OpenPair.{OpenPair}
use Rattle.rx_script.specs.declared.exprs.Turn.{Turn}
use Rattle.rx_script.specs.declared.exprs.Turn.TheVariants as turns
use Rattle.rx_script.proofs.Growing.{grows-on}
use Rattle.rx_script.proofs.exprs.expression.Goals as goal

-- what is left begins with this token
taken : (es : List Part) (ps qs : List OpenPair) (t u : Turn) (ts : List Token) (a : Token) (us : List Token) (o : Result (Expr × List Token) (List Token)) → ps ≡ qs → t ≡ u → ts ≡ a ∷ us → ExprReads es ps t ts o → ExprReads es qs u (a ∷ us) o
taken es ps qs t u ts a us o e f g h =
    let one : ExprReads es qs t ts o = subst (λ (p : List OpenPair). ExprReads es p t ts o) e h in
    let two : ExprReads es qs u ts o = subst (λ (p : Turn). ExprReads es qs p ts o) f one in
    subst (λ (p : List Token). ExprReads es qs u p o) g two

went-on : (es : List Part) (ps : List OpenPair) (w : Option Turn) (v : Turn) (a : Token) (us : List Token) (o : Result (Expr × List Token) (List Token)) → w ≡ Some v → Steps es ps w a us o → ExprReads es ps v us o
went-on es ps w v a us o e h = subst (λ (x : Option Turn). Steps es ps x a us o) e h

stopped : (es : List Part) (ps : List OpenPair) (w : Option Turn) (a : Token) (us ts : List Token) (o : Result (Expr × List Token) (List Token)) → w ≡ None → ts ≡ a ∷ us → Steps es ps w a us o → o ≡ Err ts
stopped es ps w a us ts o e f h =
    let one : o ≡ Err (a ∷ us) = subst (λ (x : Option Turn). Steps es ps x a us o) e h in
    one ∙ ap (λ vs. Err vs) (sym f)

pub returns-in_default-2-clause-answer : goal.returns-in_default-2-clause-answer
returns-in_default-2-clause-answer c =
    let s = c.tokens in
    let o = expr c.args.tokens.now in
    let h = taken s.exprs.items s.pairs.items s.pairs.items s.turn turns.Operand s.rest.now c.in-Some.first.now c.in-Some.after.now o refl c.in-Operand.is c.in-Some.ensures.cases.0 s.invariant.1 in
    stopped _ _ _ c.in-Some.first.now c.in-Some.after.now s.rest.now o c.in_default-2.is c.in-Some.ensures.cases.0 (c.in_ok-next-in-Operand.ensures.step c.in-Some.after.now o h)

pub returns-in_default-3-clause-answer : goal.returns-in_default-3-clause-answer
returns-in_default-3-clause-answer c =
    let s = c.tokens in
    let o = expr c.args.tokens.now in
    let f = c.in-Some-split_first in
    let h = taken s.exprs.items s.pairs.items _ s.turn (turns.After c.in-After.id) s.rest.now f.first.now f.after.now o c.in-Some-pop.ensures.items c.in-After.is f.ensures.cases.0 s.invariant.1 in
    stopped _ _ _ f.first.now f.after.now s.rest.now o c.in_default-3.is f.ensures.cases.0 (c.in_ok-next-in-After.ensures.step f.after.now o h)

pub tokens-preserved-in-Some-2 : goal.tokens-preserved-in-Some-2
tokens-preserved-in-Some-2 c =
    let s = c.tokens in
    let o = expr c.args.tokens.now in
    let h = taken s.exprs.items s.pairs.items s.pairs.items s.turn turns.Operand s.rest.now c.in-Some.first.now c.in-Some.after.now o refl c.in-Operand.is c.in-Some.ensures.cases.0 s.invariant.1 in (
      grows-on _ _ _ s.invariant.0 c.in_ok-next-in-Operand.ensures.grows,
      went-on _ _ _ c.in-Some-2.next c.in-Some.first.now c.in-Some.after.now o c.in-Some-2.is (c.in_ok-next-in-Operand.ensures.step c.in-Some.after.now o h),
      omega (arith, c.in_ok-next-in-Operand.ensures.few, ap length c.in-Some.ensures.cases.0, s.invariant.2),
    )

pub tokens-preserved : goal.tokens-preserved
tokens-preserved c =
    let s = c.tokens in
    let o = expr c.args.tokens.now in
    let f = c.in-Some-split_first in
    let h = taken s.exprs.items s.pairs.items _ s.turn (turns.After c.in-After.id) s.rest.now f.first.now f.after.now o c.in-Some-pop.ensures.items c.in-After.is f.ensures.cases.0 s.invariant.1 in (
      grows-on _ _ _ s.invariant.0 c.in_ok-next-in-After.ensures.grows,
      went-on _ _ _ c.in-Some-3.next f.first.now f.after.now o c.in-Some-3.is (c.in_ok-next-in-After.ensures.step f.after.now o h),
      omega (arith, c.in_ok-next-in-After.ensures.few, ap length f.ensures.cases.0, s.invariant.2),
    )
