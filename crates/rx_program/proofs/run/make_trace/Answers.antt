use Rattle.std.proofs.Common.{ℕ, List, ◌++◌, ap, ◌∙◌}
use Rattle.rx_rules.proofs.Common.{Given, IsRun}
use Rattle.rx_history.specs.Events.{events_of}
use Rattle.rx_history.specs.Setups.{given}
use Rattle.rx_trace.specs.Text.{trace_text}
use Rattle.rx_words.specs.Commands.{source_of}
use Rattle.rx_program.specs.Top.{picks_of, HasRun, status_by}
use Rattle.rx_program.proofs.run.make_trace.Goals as goal

pub returns : goal.returns
returns c code stands =
    let U : Given = given c.args.setup in
    let p = c.in_ok-history.ensures.picked code stands in
    let es = c.in_ok-history.history.entries in
    let js = events_of c.in_ok-history.journals in
    let run : IsRun code U es js = c.picked_run_is_run.ensures code U (picks_of (source_of c.args.picks)) es js c.requires p.0 in
    let ran : HasRun code U (source_of c.args.picks) es js (status_by c.ends_clean-clean.result) = record { picked = p.0; run = run; early = c.run_is_not_early.ensures code U es js run; exact = c.run_is_exact.ensures code U es js run; ordered = c.run_is_ordered.ensures code U es js run; tells = c.ends_clean-clean.ensures } in
    let text = c.in_ok-write_trace.ensures.ok ∙ ap (λ (V : Given). c.new-text.result.items ++ trace_text V es js) p.1 ∙ ap (λ (xs : List ℕ). xs ++ trace_text U es js) c.new-text.ensures.items in
    (es, js, ran, text)
