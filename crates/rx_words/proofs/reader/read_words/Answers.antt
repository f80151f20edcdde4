use Rattle.std.proofs.Common.{rules, ◌≡◌, sym, ◌∙◌, subst, IfOk}
use Rattle.rx_words.specs.Words.{Asked, asked, alone, Check, Verify, Span}
use Rattle.rx_words.specs.Commands.{IsAsked, IsProper}
use Rattle.rx_words.proofs.reader.read_words.Goals as goal

pub returns-then-eq-3-clause-ok : goal.returns-then-eq-3-clause-ok
returns-then-eq-3-clause-ok c =
    let is : asked c.args.words.now ≡ alone Check c.in-Some.more.now = search rules in
    subst (λ (a : Asked). IfOk c.alone.result (λ m. IsAsked m a × IsProper m)) (sym is) (c.alone.ensures.ok Check tt)

pub returns-then-eq-3-clause-bad : goal.returns-then-eq-3-clause-bad
returns-then-eq-3-clause-bad c = λ word e.
    let is : asked c.args.words.now ≡ alone Check c.in-Some.more.now = search rules in
    let h = c.alone.ensures.bad Check word e in
    (1, is ∙ h.0, h.1)

pub returns-then-eq-4-clause-bad : goal.returns-then-eq-4-clause-bad
returns-then-eq-4-clause-bad c = λ word e.
    let is : asked c.args.words.now ≡ alone Verify c.in-Some.more.now = search rules in
    let h = c.alone-then-eq-4.ensures.bad Verify word e in
    (1, is ∙ h.0, h.1)

pub returns-then-eq-5-clause-bad : goal.returns-then-eq-5-clause-bad
returns-then-eq-5-clause-bad c = λ word e.
    let is : asked c.args.words.now ≡ alone Span c.in-Some.more.now = search rules in
    let h = c.alone-then-eq-5.ensures.bad Span word e in
    (1, is ∙ h.0, h.1)
