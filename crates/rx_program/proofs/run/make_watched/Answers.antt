use Rattle.std.proofs.Common.{ℕ, List, ◌++◌, ap, ◌∙◌}
use Rattle.rx_rules.proofs.Common.{Given, IsRun}
use Rattle.rx_history.specs.Events.{events_of}
use Rattle.rx_history.specs.Setups.{given}
use Rattle.rx_trace.specs.Text.{trace_text}
use Rattle.rx_monitor.specs.declared.summary.Summary.{Summary}
use Rattle.rx_monitor.specs.Text.{watch_text}
use Rattle.rx_program.specs.Live.{IsLawful}
use Rattle.rx_program.proofs.run.make_watched.Goals as goal

pub ends_clean-is_clear-requires : goal.ends_clean-is_clear-requires
ends_clean-is_clear-requires g c =
    let w = c.checked.ensures in
    (c.in_ok-history.ensures.run w.0 w.1).ends

pub returns : goal.returns
returns g c code stands =
    let U : Given = given c.args.live.now.setup in
    let es = c.in_ok-history.history.entries in
    let js = events_of c.in_ok-history.journals in
    let run : IsRun code U es js = c.in_ok-history.ensures.run code stands in
    let ran : IsLawful code U es js = record { run = run; early = c.run_is_not_early.ensures code U es js run; exact = c.run_is_exact.ensures code U es js run; ordered = c.run_is_ordered.ensures code U es js run } in
    let trace = c.in_ok-write_trace.ensures.ok ∙ ap (λ (V : Given). c.new-text.result.items ++ trace_text V es js) c.in_ok-history.ensures.setup ∙ ap (λ (xs : List ℕ). xs ++ trace_text U es js) c.new-text.ensures.items in
    let lines = ap (λ (ss : List Summary). c.write_trace.new.out.items ++ watch_text ss) c.as_slice.ensures in
    let text = c.in_ok-put_watch.ensures.ok ∙ lines ∙ ap (λ (xs : List ℕ). xs ++ watch_text c.in_ok-history.seen) trace in
    (es, js, c.in_ok-history.seen, ran, c.ends_clean-is_clear.ensures, c.in_ok-history.ensures.watch, text)
