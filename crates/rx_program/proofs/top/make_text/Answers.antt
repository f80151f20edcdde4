use Rattle.std.proofs.Common.{subst}
use Rattle.rx_words.specs.Commands.{IsAsked}
use Rattle.rx_words.specs.declared.command.Command.{Command}
use Rattle.rx_program.specs.Top.{status_by}
use Rattle.rx_program.proofs.Told.{handed-on}
use Rattle.rx_program.proofs.Asking.{step-can, check-can, verify-can, span-can, step-done}
use Rattle.rx_program.proofs.top.make_text.Goals as goal

pub returns-in-Ok-clause-ok : goal.returns-in-Ok-clause-ok
returns-in-Ok-clause-ok g c =
    handed-on c.made.result c.make_trace.result _ _ c.made.ensures.ok c.make_trace.ensures (λ r told asked is.
    step-done c.in-Step.setup c.in-Step.picks asked _ _ c.in-Ok.program.script r.0.items (status_by r.1) (subst (λ (x : Command). IsAsked x asked) c.in-Step.is is) c.in-Ok.ensures.ok told)

pub returns-in-Err-clause-complete : goal.returns-in-Err-clause-complete
returns-in-Err-clause-complete g c asked is can calm =
    let w = step-can c.in-Step.setup c.in-Step.picks asked _ (subst (λ (x : Command). IsAsked x asked) c.in-Step.is is) can in c.in-Err.ensures.complete w.0 w.1 w.2 calm

pub returns-in-Err-read_program-clause-complete : goal.returns-in-Err-read_program-clause-complete
returns-in-Err-read_program-clause-complete g c asked is can calm =
    let w = check-can asked _ (subst (λ (x : Command). IsAsked x asked) c.in-Check.is is) can in c.in-Err-read_program.ensures.complete w.0 w.1 w.2 calm

pub returns-in-Verify-clause-complete : goal.returns-in-Verify-clause-complete
returns-in-Verify-clause-complete g c asked is can calm =
    let w = verify-can asked _ (subst (λ (x : Command). IsAsked x asked) c.in-Verify.is is) can in c.answer_text.ensures.complete w.0 w.1 w.2 calm

pub returns-in-Span-clause-complete : goal.returns-in-Span-clause-complete
returns-in-Span-clause-complete g c asked is can calm =
    let w = span-can asked _ (subst (λ (x : Command). IsAsked x asked) c.in-Span.is is) can in c.answer_text-in-Span.ensures.complete w.0 w.1 w.2 calm
