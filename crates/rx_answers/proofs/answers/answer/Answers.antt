use Rattle.std.proofs.Common.{ap, sym, ◌∙◌, subst}
use Rattle.rx_history.specs.Events.{events_of}
use Rattle.rx_history.specs.Setups.{given}
use Rattle.rx_verdict.specs.declared.verdict.Verdict.{Verdict}
use Rattle.rx_verdict.specs.Verdicts.{IsVerdict}
use Rattle.rx_verdict.specs.declared.verdict.Verdict.TheVariants.{Run}
use Rattle.rx_answers.specs.Answers.{is_run}
use Rattle.rx_answers.proofs.Counted.{few-told}
use Rattle.rx_answers.proofs.Judged.{run-alone}
use Rattle.rx_answers.proofs.answers.answer.Goals as goal

pub verify-requires-clause-proper : goal.verify-requires-clause-proper
verify-requires-clause-proper c = let k = c.in_ok-case.ensures.ok in k.2.within.setup_fits.0

pub verify-requires-clause-numbered : goal.verify-requires-clause-numbered
verify-requires-clause-numbered c = let k = c.in_ok-case.ensures.ok in k.2.within.numbered

pub verify-requires-clause-one_each : goal.verify-requires-clause-one_each
verify-requires-clause-one_each c = let k = c.in_ok-case.ensures.ok in k.2.within.one_each

pub text_of-requires-clause-run : goal.text_of-requires-clause-run
text_of-requires-clause-run c = λ e code s.
    let k = c.in_ok-case.ensures.ok in
    let U = given c.in_ok-case.case.history.setup in
    let es = c.in_ok-case.case.history.entries in
    let js = events_of c.in_ok-case.case.journals in
    c.verdict_is_run.ensures code U es js k.2.within.setup_fits.0 k.2.within.one_each
    (subst (λ (v : Verdict). IsVerdict code U es js v) e (c.in_ok-verdict.ensures code s))

pub text_of-requires-clause-few : goal.text_of-requires-clause-few
text_of-requires-clause-few c =
    let k = c.in_ok-case.ensures.ok in
    few-told c.args.bytes.now k.0 (given c.in_ok-case.case.history.setup) c.in_ok-case.case.history.entries (events_of c.in_ok-case.case.journals) k.2 c.requires

pub returns-clause-ok : goal.returns-clause-ok
returns-clause-ok c =
    let k = c.in_ok-case.ensures.ok in
    let U = given c.in_ok-case.case.history.setup in
    let es = c.in_ok-case.case.history.entries in
    let js = events_of c.in_ok-case.case.journals in
    let v = c.in_ok-verdict.verdict in
    let judged : IsVerdict k.0 U es js v = c.in_ok-verdict.ensures k.0 k.1 in
    record {
      code = k.0;
      setup = U;
      entries = es;
      journals = js;
      given = k.2;
      verdict = v;
      judged = judged;
      tells = c.in_ok-text.ensures k.0 k.1;
      comes_out = c.is_run.ensures;
      sound = λ e. c.verdict_is_run.ensures k.0 U es js k.2.within.setup_fits.0 k.2.within.one_each
          (subst (λ (w : Verdict). IsVerdict k.0 U es js w) (run-alone v (sym c.is_run.ensures ∙ e)) judged);
      complete = λ run. c.is_run.ensures ∙ ap is_run (c.verdict_is_one.ensures k.0 U es js v Run judged (c.run_has_verdict.ensures k.0 U es js run));
    }
