use Rattle.std.proofs.Common.{◌++◌, ap, ◌∙◌}
use Rattle.rx_history.specs.Events.{events_of}
use Rattle.rx_history.specs.Setups.{given}
use Rattle.rx_answers.specs.Lines.{span_text}
use Rattle.rx_answers.proofs.answers.chain_text.Goals as goal

pub span-requires-clause-paths : goal.span-requires-clause-paths
span-requires-clause-paths c = λ code s.
    c.run_tells_paths.ensures code (given c.args.case.now.history.setup) c.args.case.now.history.entries (events_of c.args.case.now.journals) (c.requires.run code s)

pub span-requires-clause-once : goal.span-requires-clause-once
span-requires-clause-once c =
    let k = c.checked.ensures in
    c.each_is_told_once.ensures k.0 (given c.args.case.now.history.setup) c.args.case.now.history.entries (events_of c.args.case.now.journals) (c.requires.run k.0 k.1)

pub returns : goal.returns
returns c = λ code s. (
  c.in_ok-longest.longest.statements,
  c.in_ok-longest.longest.chain,
  c.in_ok-longest.ensures code s,
  c.in_ok-put_span.ensures ∙ ap (λ o. o ++ span_text c.in_ok-longest.longest.statements c.in_ok-longest.longest.chain) c.new-text.ensures.items,
)
