use Rattle.std.proofs.Common.{ℕ, List, ◌++◌, ap, ◌∙◌}
use Rattle.rx_rules.proofs.Common.{Given, IsRun}
use Rattle.rx_history.specs.Events.{events_of}
use Rattle.rx_history.specs.Setups.{given}
use Rattle.rx_trace.specs.Text.{trace_text}
use Rattle.rx_program.specs.Live.{IsLawful}
use Rattle.rx_program.proofs.run.make_unwatched.Goals as goal

pub ends_clean-requires : goal.ends_clean-requires
ends_clean-requires g c =
    let w = c.checked.ensures in
    (c.in_ok-history.ensures.run w.0 w.1).ends

pub returns : goal.returns
returns g c code stands =
    let U : Given = given c.args.live.now.setup in
    let es = c.in_ok-history.history.entries in
    let js = events_of c.in_ok-history.journals in
    let run : IsRun code U es js = c.in_ok-history.ensures.run code stands in
    let ran : IsLawful code U es js = record { run = run; early = c.run_is_not_early.ensures code U es js run; exact = c.run_is_exact.ensures code U es js run; ordered = c.run_is_ordered.ensures code U es js run } in
    let text = c.in_ok-write_trace.ensures.ok ∙ ap (λ (V : Given). c.new-text.result.items ++ trace_text V es js) c.in_ok-history.ensures.setup ∙ ap (λ (xs : List ℕ). xs ++ trace_text U es js) c.new-text.ensures.items in
    (es, js, ran, c.ends_clean.ensures, text)
