use Rattle.std.proofs.Common.{Bool, ap, sym, ◌∙◌, subst, Err, Option, IfSome}
use Rattle.rx_words.specs.Words.{asked_any}
use Rattle.rx_words.specs.Commands.{IsLiveCommand}
use Rattle.rx_words.specs.declared.command.LiveWords.{LiveWords}
use Rattle.rx_program.specs.Refusals.{GaveBadScript, GaveTooMuch}
use Rattle.rx_program.proofs.Asking.{live-takes}
use Rattle.rx_program.proofs.live.rx10.Goals as goal

-- without threads the same is asked
pub returns-in-Ok-None-clause-words : goal.returns-in-Ok-None-clause-words
returns-in-Ok-None-clause-words g c k e =
    c.rx10_step.ensures.words k (sym (c.in-Ok-None.ensures.other c.in-Ok-None.field-0-is) ∙ e)

pub returns-clause-bad : goal.returns-clause-bad
returns-clause-bad g c rule node e =
    let is = subst (λ (o : Option LiveWords). IfSome o (λ l. IsLiveCommand l (asked_any c.args.words.now))) c.in-Ok-Some.field-0-is c.in-Ok-Some.ensures.live in
    let t = live-takes c.in-Ok-Some.live (asked_any c.args.words.now) is in
    subst (λ (b : Bool). GaveBadScript b (g.S.Source.left c.args.input.now) (g.S.Source.left c.live_text.new.input) rule node) (sym t)
    (c.live_text.ensures.bad rule node (c.in-Err.is ∙ ap Err e))

pub returns-clause-too_long : goal.returns-clause-too_long
returns-clause-too_long g c e =
    let is = subst (λ (o : Option LiveWords). IfSome o (λ l. IsLiveCommand l (asked_any c.args.words.now))) c.in-Ok-Some.field-0-is c.in-Ok-Some.ensures.live in
    let t = live-takes c.in-Ok-Some.live (asked_any c.args.words.now) is in
    subst (λ (b : Bool). GaveTooMuch b (g.S.Source.left c.args.input.now) (g.S.Source.left c.live_text.new.input)) (sym t)
    (c.live_text.ensures.too_long (c.in-Err.is ∙ ap Err e))
