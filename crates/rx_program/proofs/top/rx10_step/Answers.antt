use Rattle.std.proofs.Common.{Bool, ap, sym, ◌∙◌, subst, Err}
use Rattle.rx_words.specs.Words.{asked}
use Rattle.rx_program.specs.Refusals.{GaveBadScript, GaveTooMuch}
use Rattle.rx_program.proofs.Asking.{asked-takes}
use Rattle.rx_program.proofs.top.rx10_step.Goals as goal

pub returns-in-Err-clause-bad : goal.returns-in-Err-clause-bad
returns-in-Err-clause-bad g c rule node e =
    let t = asked-takes c.in-Ok.command (asked c.args.words.now) c.in-Ok.ensures.ok.0 in
    subst (λ (b : Bool). GaveBadScript b (g.S.Source.left c.args.input.now) (g.S.Source.left c.make_text.new.input) rule node) (sym t)
    (c.make_text.ensures.bad rule node (c.in-Err.is ∙ ap Err e))

pub returns-in-Err-clause-too_long : goal.returns-in-Err-clause-too_long
returns-in-Err-clause-too_long g c e =
    let t = asked-takes c.in-Ok.command (asked c.args.words.now) c.in-Ok.ensures.ok.0 in
    subst (λ (b : Bool). GaveTooMuch b (g.S.Source.left c.args.input.now) (g.S.Source.left c.make_text.new.input)) (sym t)
    (c.make_text.ensures.too_long (c.in-Err.is ∙ ap Err e))
