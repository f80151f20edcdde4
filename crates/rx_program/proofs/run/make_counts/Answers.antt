use Rattle.std.proofs.Common.{ℕ, List, ◌++◌, ap, ◌∙◌, arith}
use Rattle.rx_rules.proofs.Common.{Given, IsRun}
use Rattle.rx_history.specs.Events.{events_of}
use Rattle.rx_history.specs.Setups.{given}
use Rattle.rx_words.specs.Commands.{source_of}
use Rattle.rx_gen.specs.Lines.{lines}
use Rattle.rx_gen.specs.Numbers.{counts_text}
use Rattle.rx_program.specs.Top.{picks_of, HasRun, status_by}
use Rattle.rx_program.proofs.run.make_counts.Goals as goal

pub counts-requires : goal.counts-requires
counts-requires c = let few = c.in_ok-history.ensures.few in omega (arith, few)

pub returns : goal.returns
returns c =
    let U : Given = given c.args.setup in
    let code = lines c.args.setup.places c.args.size in
    let p = c.in_ok-history.ensures.picked code c.in_ok-program.ensures.script in
    let es = c.in_ok-history.history.entries in
    let js = events_of c.in_ok-history.field-0-1 in
    let run : IsRun code U es js = c.picked_run_is_run.ensures code U (picks_of (source_of c.args.picks)) es js c.requires.proper p.0 in
    let ran : HasRun code U (source_of c.args.picks) es js (status_by c.ends_clean-clean.result) = record { picked = p.0; run = run; early = c.run_is_not_early.ensures code U es js run; exact = c.run_is_exact.ensures code U es js run; ordered = c.run_is_ordered.ensures code U es js run; tells = c.ends_clean-clean.ensures } in
    (es, js, ran, c.in_ok-put_counts.ensures.ok ∙ ap (λ (xs : List ℕ). xs ++ counts_text c.counts.result) c.new-text.ensures.items ∙ ap counts_text c.counts.ensures)
