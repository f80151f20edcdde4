use Rattle.std.proofs.Common.{sym, subst, IfOk}
use Rattle.rx_rules.proofs.Common.{Block, told}
use Rattle.rx_syntax.specs.Shape.{Stands}
use Rattle.rx_verdict.specs.declared.verdict.Verdict.{Verdict}
use Rattle.rx_answers.specs.declared.answers.Question.TheVariants.{Span}
use Rattle.rx_answers.specs.Answers.{IsTextOf}
use Rattle.rx_answers.proofs.answers.span_text.Goals as goal

pub chain_text-requires-clause-run : goal.chain_text-requires-clause-run
chain_text-requires-clause-run c = c.requires.run c.in-Run.is

pub returns-in-Run : goal.returns-in-Run
returns-in-Run c =
    subst (λ (v : Verdict). IfOk c.chain_text.result (λ text. (code : Block) → Stands c.args.case.now.program.script code → IsTextOf Span v code (told c.args.case.now.history.entries) text.items)) (sym c.in-Run.is) c.chain_text.ensures
